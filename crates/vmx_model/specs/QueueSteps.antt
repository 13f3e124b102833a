-- The lists of a journal, a queue and a capture, one step longer: for the invariants of device and driver.
use Rattle.std.proofs.Common.{◌≡◌, ℕ, zero, suc, ◌+◌, List, [], ◌∷◌, ◌++◌, length, take, refl, ap, sym, ◌∙◌, arith, true, false, append-nil, append_assoc, add-one, Some}
use Rattle.std.proofs.lemmas.List.Elements.{filter-append, filter_map-append}
use Rattle.std.specs.List.{filter, filter_map, slice_get}
use Rattle.vmx_model.specs.Types.{GuestPlan, Entry}
use Rattle.vmx_model.specs.Lists.{upto}
use Rattle.vmx_switch.specs.Ports.{Wiring}
use Rattle.vmx_model.specs.Wire.{targets}
use Rattle.vmx_model.specs.Plan.{Captured, captured, goes_on}
use Rattle.vmx_model.specs.Account.{Send, send_of, of_queue, sends_on, frame_sends, planned}
use Rattle.vmx_model.specs.Fates.{tag_at}

-- one more number
pub upto_push : (n m : ℕ) → upto n (m + 1) ≡ upto n m ++ (n + m) ∷ []
upto_push n m = rw add-one (more n m)
  where
    more : (n m : ℕ) → upto n (suc m) ≡ upto n m ++ (n + m) ∷ []
    more n zero = let e : n ≡ n + 0 = omega arith in ap (λ (x : ℕ). x ∷ []) e
    more n (suc m) = let e : n + 1 + m ≡ n + suc m = omega arith in ap (λ (xs : List ℕ). n ∷ xs) (rw e at (more (n + 1) m))

-- one more frame taken from a queue
pub planned_push : (w : Wiring) (g a q k : ℕ) (fs : List (List ℕ)) (f : List ℕ) → planned w g a q k (fs ++ f ∷ []) ≡ planned w g a q k fs ++ frame_sends (tag_at g a q (k + length fs)) (targets w g f)
planned_push w g a q k [] f = let e : k ≡ k + 0 = omega arith in append-nil (frame_sends (tag_at g a q k) (targets w g f)) ∙ ap (λ (n : ℕ). frame_sends (tag_at g a q n) (targets w g f)) e
planned_push w g a q k (h ∷ fs) f =
    let e : k + 1 + length fs ≡ k + length (h ∷ fs) = omega arith in
    let ih : planned w g a q (k + 1) (fs ++ f ∷ []) ≡ planned w g a q (k + 1) fs ++ frame_sends (tag_at g a q (k + length (h ∷ fs))) (targets w g f) = rw e at (planned_push w g a q (k + 1) fs f) in
    ap (λ (xs : List Send). frame_sends (tag_at g a q k) (targets w g h) ++ xs) ih ∙ sym (append_assoc (frame_sends (tag_at g a q k) (targets w g h)) (planned w g a q (k + 1) fs) (frame_sends (tag_at g a q (k + length (h ∷ fs))) (targets w g f)))

-- more entries of a journal
pub sends_on_more : (a q : ℕ) (es more : List Entry) → sends_on a q (es ++ more) ≡ sends_on a q es ++ sends_on a q more
sends_on_more a q es more = ap (filter (of_queue a q)) (filter_map-append send_of es more) ∙ filter-append (of_queue a q) (filter_map send_of es) (filter_map send_of more)

-- the frames that a queue sends up to a captured number; at the end they are all of them
abbrev pub sent_before : GuestPlan → ℕ → ℕ → ℕ → List Captured
sent_before p a q i = filter (goes_on p a q) (take i (captured p))

pub take_more : {X : Type 0} (xs : List X) (i : ℕ) (x : X) → slice_get xs i ≡ Some x → take (i + 1) xs ≡ take i xs ++ x ∷ []
take_more xs i x h = rw add-one (more xs i x h)
  where
    more : {X : Type 0} (xs : List X) (i : ℕ) (x : X) → slice_get xs i ≡ Some x → take (suc i) xs ≡ take i xs ++ x ∷ []
    more [] i x h = absurd (cc h)
    more (y ∷ ys) zero x h = let same : y ≡ x = cc h in rw same refl
    more (y ∷ ys) (suc i) x h = ap (λ (zs : List _). y ∷ zs) (more ys i x h)

-- the next captured frame goes on this queue
pub sent_before_here : (p : GuestPlan) (a q i : ℕ) (c : Captured) → slice_get (captured p) i ≡ Some c → goes_on p a q c ≡ true → sent_before p a q (i + 1) ≡ sent_before p a q i ++ c ∷ []
sent_before_here p a q i c at goes = rw (take_more (captured p) i c at, filter-append (goes_on p a q) (take i (captured p)) (c ∷ []), goes) refl

-- it does not
pub sent_before_other : (p : GuestPlan) (a q i : ℕ) (c : Captured) → slice_get (captured p) i ≡ Some c → goes_on p a q c ≡ false → sent_before p a q (i + 1) ≡ sent_before p a q i
sent_before_other p a q i c at goes = rw (take_more (captured p) i c at, filter-append (goes_on p a q) (take i (captured p)) (c ∷ []), goes) (append-nil (sent_before p a q i))
