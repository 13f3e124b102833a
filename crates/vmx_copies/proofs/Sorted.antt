-- What was given to the switch in the order of places: before a place, of it, and behind it.
use Rattle.std.proofs.Common.{◌≡◌, ◌≢◌, ℕ, zero, suc, ◌+◌, ◌<◌, ◌≤◌, Bool, true, false, nat_eq, List, [], ◌∷◌, ◌++◌, length, length-append, get_or, take, refl, ap, sym, ◌∙◌, subst, arith}
use Rattle.std.specs.Prelude.{nat_lt}
use Rattle.std.specs.List.{filter, AllByRecursion}
use Rattle.std.proofs.lemmas.Bool.Decides.{nat_tests}
use Rattle.std.proofs.lemmas.List.{get_or-append-add, take_more}
use Rattle.vmx_model.proofs.Lists.{all_weaker}
use Rattle.vmx_buckets.specs.declared.sends.Switched.{Switched}
use Rattle.vmx_copies.specs.Join.{IsInOrder, here, before}

-- of the places past k
abbrev behind : ℕ → List Switched → List Switched
behind k sends = filter (λ (s : Switched). nat_lt k s.place) sends

none_before : (k : ℕ) (xs : List Switched) → AllByRecursion (λ (s : Switched). k ≤ s.place) xs → before k xs ≡ []
none_before k [] h = refl
none_before k (x ∷ xs) h = let le : k ≤ x.place = h.0 in let e : nat_lt x.place k ≡ false = grind (arith, nat_tests, le) in rw e (none_before k xs h.1)

none_here : (k : ℕ) (xs : List Switched) → AllByRecursion (λ (s : Switched). k < s.place) xs → here k xs ≡ []
none_here k [] h = refl
none_here k (x ∷ xs) h = let lt : k < x.place = h.0 in let e : nat_eq x.place k ≡ false = grind (arith, nat_tests, lt) in rw e (none_here k xs h.1)

-- the three parts, in order
pub parts : (k : ℕ) (xs : List Switched) → IsInOrder xs → xs ≡ before k xs ++ (here k xs ++ behind k xs)
parts k [] h = refl
parts k (x ∷ xs) h = step (nat_lt x.place k) (nat_eq x.place k) refl refl (parts k xs h.1)
  where
    step : (a b : Bool) → nat_lt x.place k ≡ a → nat_eq x.place k ≡ b → xs ≡ before k xs ++ (here k xs ++ behind k xs) → x ∷ xs ≡ before k (x ∷ xs) ++ (here k (x ∷ xs) ++ behind k (x ∷ xs))
    step true b e f ih =
        let not_here : nat_eq x.place k ≡ false = grind (arith, nat_tests, e) in
        let not_behind : nat_lt k x.place ≡ false = grind (arith, nat_tests, e) in
        rw (e, not_here, not_behind) (ap (λ (ys : List Switched). x ∷ ys) ih)
    step false true e f ih =
        let not_behind : nat_lt k x.place ≡ false = grind (arith, nat_tests, f) in
        let is : x.place ≡ k = grind (arith, nat_tests, f) in
        let none : before k xs ≡ [] = none_before k xs (all_weaker (λ (s : Switched). x.place ≤ s.place) (λ (s : Switched). k ≤ s.place) (λ s le. omega (arith, le, is)) xs h.0) in
        rw (e, f, not_behind, none) (ap (λ (ys : List Switched). x ∷ ys) (rw none at ih))
    step false false e f ih =
        let lt : k < x.place = grind (arith, nat_tests, e, f) in
        let is_behind : nat_lt k x.place ≡ true = grind (arith, nat_tests, lt) in
        let none : before k xs ≡ [] = none_before k xs (all_weaker (λ (s : Switched). x.place ≤ s.place) (λ (s : Switched). k ≤ s.place) (λ s le. omega (arith, le, lt)) xs h.0) in
        let no : here k xs ≡ [] = none_here k xs (all_weaker (λ (s : Switched). x.place ≤ s.place) (λ (s : Switched). k < s.place) (λ s le. omega (arith, le, lt)) xs h.0) in
        rw (e, f, is_behind, none, no) (ap (λ (ys : List Switched). x ∷ ys) (rw (none, no) at ih))

-- one place on
pub before_next : (k : ℕ) (xs : List Switched) → length (before (k + 1) xs) ≡ length (before k xs) + length (here k xs)
before_next k [] = refl
before_next k (x ∷ xs) = step (nat_lt x.place k) (nat_eq x.place k) refl refl (before_next k xs)
  where
    step : (a b : Bool) → nat_lt x.place k ≡ a → nat_eq x.place k ≡ b → length (before (k + 1) xs) ≡ length (before k xs) + length (here k xs) → length (before (k + 1) (x ∷ xs)) ≡ length (before k (x ∷ xs)) + length (here k (x ∷ xs))
    step true b e f ih =
        let next : nat_lt x.place (k + 1) ≡ true = grind (arith, nat_tests, e) in
        let not_here : nat_eq x.place k ≡ false = grind (arith, nat_tests, e) in rw (next, e, not_here) (omega (arith, ih))
    step false true e f ih = let next : nat_lt x.place (k + 1) ≡ true = grind (arith, nat_tests, f) in rw (next, e, f) (omega (arith, ih))
    step false false e f ih = let next : nat_lt x.place (k + 1) ≡ false = grind (arith, nat_tests, e, f) in rw (next, e, f) ih

-- each item passes
kept_pass : (test : Switched → Bool) (xs : List Switched) → AllByRecursion (λ (s : Switched). test s ≡ true) (filter test xs)
kept_pass test [] = tt
kept_pass test (x ∷ xs) = step (test x) refl (kept_pass test xs)
  where
    step : (b : Bool) → test x ≡ b → AllByRecursion (λ (s : Switched). test s ≡ true) (filter test xs) → AllByRecursion (λ (s : Switched). test s ≡ true) (filter test (x ∷ xs))
    step true e ih = rw e (e, ih)
    step false e ih = rw e ih

at_index : (P : Switched → Type 0) (xs : List Switched) (n : ℕ) (d : Switched) → n < length xs → AllByRecursion P xs → P (get_or xs n d)
at_index P [] n d lt h = absurd (omega (arith, lt))
at_index P (x ∷ xs) zero d lt h = h.0
at_index P (x ∷ xs) (suc n) d lt h = at_index P xs n d (omega (arith, lt)) h.1

get_right : (xs ys : List Switched) (d : Switched) → get_or (xs ++ ys) (length xs) d ≡ get_or ys 0 d
get_right [] ys d = refl
get_right (x ∷ xs) ys d = get_right xs ys d

get_left : (xs ys : List Switched) (n : ℕ) (d : Switched) → n < length xs → get_or (xs ++ ys) n d ≡ get_or xs n d
get_left [] ys n d lt = absurd (omega (arith, lt))
get_left (x ∷ xs) ys zero d lt = refl
get_left (x ∷ xs) ys (suc n) d lt = get_left xs ys n d (omega (arith, lt))

module _ (k : ℕ) (xs : List Switched) (order : IsInOrder xs) where
  long : length xs ≡ length (before k xs) + (length (here k xs) + length (behind k xs))
  long = ap length (parts k xs order) ∙ length-append (before k xs) (here k xs ++ behind k xs) ∙ ap (λ (n : ℕ). length (before k xs) + n) (length-append (here k xs) (behind k xs))

  -- the item at a cursor within the place's part
  found : (n : ℕ) (d : Switched) → n < length (here k xs) → get_or xs (length (before k xs) + n) d ≡ get_or (here k xs) n d
  found n d lt = ap (λ (ys : List Switched). get_or ys (length (before k xs) + n) d) (parts k xs order) ∙ get_or-append-add (before k xs) (here k xs ++ behind k xs) n d ∙ get_left (here k xs) (behind k xs) n d lt

  -- and behind it
  past : (d : Switched) → length (before k xs) + length (here k xs) < length xs → k < (get_or xs (length (before k xs) + length (here k xs)) d).place
  past d lt =
      let l = long in
      let some : 0 < length (behind k xs) = omega (arith, lt, l) in
      let is : get_or xs (length (before k xs) + length (here k xs)) d ≡ get_or (behind k xs) 0 d =
      ap (λ (ys : List Switched). get_or ys (length (before k xs) + length (here k xs)) d) (parts k xs order) ∙ get_or-append-add (before k xs) (here k xs ++ behind k xs) (length (here k xs)) d ∙ get_right (here k xs) (behind k xs) d in
      let e : nat_lt k (get_or (behind k xs) 0 d).place ≡ true = at_index (λ (s : Switched). nat_lt k s.place ≡ true) (behind k xs) 0 d some (kept_pass (λ (s : Switched). nat_lt k s.place) xs) in
      let low : k < (get_or (behind k xs) 0 d).place = grind (arith, nat_tests, e) in
      subst (λ (s : Switched). k < s.place) (sym is) low

  -- a cursor's item of this place is the next of its part
  pub goes_on : (n : ℕ) (s : Switched) → n ≤ length (here k xs) → length (before k xs) + n < length xs → s ≡ get_or xs (length (before k xs) + n) s → s.place ≡ k → (n < length (here k xs)) × (take (n + 1) (here k xs) ≡ take n (here k xs) ++ s ∷ [])
  goes_on n s le lt is place =
      let low : n < length (here k xs) = below n le lt is in
      (low, take_more (here k xs) n s low ∙ ap (λ (x : Switched). take n (here k xs) ++ x ∷ []) (sym (is ∙ found n s low)))
    where
      at_end : (m : ℕ) → m ≡ length (here k xs) → length (before k xs) + m < length xs → s ≡ get_or xs (length (before k xs) + m) s → ⊥
      at_end m e lt is = let h : k < (get_or xs (length (before k xs) + length (here k xs)) s).place = past s (omega (arith, e, lt)) in
          let same : k < (get_or xs (length (before k xs) + m) s).place = subst (λ (j : ℕ). k < (get_or xs (length (before k xs) + j) s).place) (sym e) h in
          let high : k < s.place = subst (λ (x : Switched). k < x.place) (sym is) same in omega (arith, high, place)

      by_end : (b : Bool) (m : ℕ) → nat_eq m (length (here k xs)) ≡ b → m ≤ length (here k xs) → length (before k xs) + m < length xs → s ≡ get_or xs (length (before k xs) + m) s → m < length (here k xs)
      by_end true m e le lt is = absurd (at_end m (let same : m ≡ length (here k xs) = grind (arith, nat_tests, e) in same) lt is)
      by_end false m e le lt is = grind (arith, nat_tests, e, le)

      below : (m : ℕ) → m ≤ length (here k xs) → length (before k xs) + m < length xs → s ≡ get_or xs (length (before k xs) + m) s → m < length (here k xs)
      below m le lt is = by_end (nat_eq m (length (here k xs))) m refl le lt is

  -- where the list ends, or the cursor's item is of another place, the part ends
  pub ends_there : (n : ℕ) → n ≤ length (here k xs) → length xs ≤ length (before k xs) + n → n ≡ length (here k xs)
  ends_there n le last = let l = long in omega (arith, le, last, l)

  pub ends_here : (n : ℕ) (s : Switched) → n ≤ length (here k xs) → s ≡ get_or xs (length (before k xs) + n) s → s.place ≢ k → n ≡ length (here k xs)
  ends_here n s le is ne = step (nat_lt n (length (here k xs))) refl
    where
      step : (b : Bool) → nat_lt n (length (here k xs)) ≡ b → n ≡ length (here k xs)
      step true e =
          let low : n < length (here k xs) = grind (arith, nat_tests, e) in
          let test : nat_eq (get_or (here k xs) n s).place k ≡ true = at_index (λ (x : Switched). nat_eq x.place k ≡ true) (here k xs) n s low (kept_pass (λ (x : Switched). nat_eq x.place k) xs) in
          let same : (get_or (here k xs) n s).place ≡ k = grind (arith, nat_tests, test) in
          absurd (ne (ap (λ (x : Switched). x.place) (is ∙ found n s low) ∙ same))
      step false e = grind (arith, nat_tests, e, le)

  pub none_empty : length (here k xs) ≡ 0 → here k xs ≡ []
  none_empty e = none (here k xs) e
    where
      none : (ys : List Switched) → length ys ≡ 0 → ys ≡ []
      none [] z = refl
      none (y ∷ ys) z = absurd (omega (arith, z))
