-- One more port in the list of those that pass a test.
use Rattle.std.proofs.Common.{◌≡◌, ℕ, zero, suc, ◌+◌, ◌-◌, ◌<◌, ◌≤◌, Bool, true, false, List, [], ◌∷◌, ◌++◌, length, take, drop, set, replicate, refl, sym, ap, ◌∙◌, append-nil, add-zero, add-one, zero-add, arith}
use Rattle.std.specs.List.{filter, range_with_len}
use Rattle.std.proofs.lemmas.List.{take_more_set, drop-set-lt, drop-drop, drop-replicate, length-take-le}
use Rattle.std.proofs.lemmas.List.Elements.{filter-append}

-- the numbers from a on, with one more at their end
numbers_more : (a n : ℕ) → range_with_len a (suc n) ≡ range_with_len a n ++ (a + n) ∷ []
numbers_more a zero = rw (add-zero a) refl
numbers_more a (suc n) =
    let end : a + 1 + n ≡ a + suc n = omega arith in
    ap (λ (xs : List ℕ). a ∷ xs) (numbers_more (a + 1) n ∙ ap (λ (m : ℕ). range_with_len (a + 1) n ++ m ∷ []) end)

-- the ports below the next one
ports_more : (port : ℕ) → range_with_len 0 (port + 1) ≡ range_with_len 0 port ++ port ∷ []
ports_more port =
    ap (range_with_len 0) (add-one port) ∙ numbers_more 0 port
    ∙ ap (λ (m : ℕ). range_with_len 0 port ++ m ∷ []) (zero-add port)

-- a port that passes is written behind those found
pub passed_more : (p : ℕ → Bool) (ports : List ℕ) (count port : ℕ) → count < length ports → take count ports ≡ filter p (range_with_len 0 port) → p port ≡ true
    → take (count + 1) (set ports count port) ≡ filter p (range_with_len 0 (port + 1))
passed_more p ports count port room found passes =
    take_more_set ports count port room
    ∙ sym (ap (filter p) (ports_more port) ∙ filter-append p (range_with_len 0 port) (port ∷ []) ∙ rw (passes, found) refl)

-- one that does not leaves them
pub missed_more : (p : ℕ → Bool) (port : ℕ) → p port ≡ false → filter p (range_with_len 0 (port + 1)) ≡ filter p (range_with_len 0 port)
missed_more p port misses =
    ap (filter p) (ports_more port) ∙ filter-append p (range_with_len 0 port) (port ∷ [])
    ∙ rw misses (append-nil (filter p (range_with_len 0 port)))

-- the entries behind stay 0
pub rest_more : (ports : List ℕ) (count port n : ℕ) → drop count ports ≡ replicate (n - count) 0 → drop (count + 1) (set ports count port) ≡ replicate (n - (count + 1)) 0
rest_more ports count port n rest =
    let left : n - count - 1 ≡ n - (count + 1) = omega arith in
    drop-set-lt (count + 1) ports count port (omega arith)
    ∙ sym (drop-drop 1 count ports) ∙ ap (drop 1) rest ∙ drop-replicate 1 (n - count) 0
    ∙ ap (λ (m : ℕ). replicate m 0) left

-- the list found is as long as the count says
pub found_len : (ports xs : List ℕ) (count : ℕ) → count ≤ length ports → take count ports ≡ xs → count ≡ length xs
found_len ports xs count room found = sym (length-take-le count ports room) ∙ ap length found
