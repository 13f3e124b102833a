-- Captured frames by their numbers, and the places of a queue's frames one number on.
use Rattle.std.proofs.lemmas.Bool.Decides.{nat_tests}
use Rattle.std.proofs.Common.{◌≡◌, ℕ, zero, suc, ◌+◌, ◌<◌, ◌≤◌, Bool, true, false, List, [], ◌∷◌, ◌++◌, length, length-append, take, get_or, refl, ap, sym, ◌∙◌, arith, Option, Some, None, nat_le, if◌then◌else◌, append-nil, add-one}
use Rattle.std.specs.List.{filter, slice_get}
use Rattle.std.proofs.lemmas.List.Elements.{filter-append}
use Rattle.vmx_model.specs.Types.{Stamped, GuestPlan, Action}
use Rattle.vmx_model.specs.Lists.{count}
use Rattle.vmx_model.specs.Deeds.{quiet_after, is_quiet}
use Rattle.vmx_model.specs.Plan.{past, captured, captured_as, numbered, goes_on, place_of}
use Rattle.vmx_model.specs.QueueSteps.{take_more}

numbered_as : (g : GuestPlan) (j : ℕ) (rs : List Stamped) (i : ℕ) (r : Stamped) → slice_get rs i ≡ Some r → slice_get (numbered g j rs) i ≡ Some (captured_as g (j + i) r)
numbered_as g j [] i r h = absurd (cc h)
numbered_as g j (x ∷ rs) zero r h = let same : x ≡ r = cc h in let e : j ≡ j + zero = omega arith in rw (same, sym e) refl
numbered_as g j (x ∷ rs) (suc i) r h = let e : j + 1 + i ≡ j + suc i = omega arith in rw e at (numbered_as g (j + 1) rs i r h)

-- a record is captured with its number
pub captured_there : (g : GuestPlan) (i : ℕ) (r : Stamped) → slice_get g.capture.records i ≡ Some r → slice_get (captured g) i ≡ Some (captured_as g i r)
captured_there g i r h = let e : 0 + i ≡ i = omega arith in rw e at (numbered_as g 0 g.capture.records i r h)

pub place_none : (g : GuestPlan) (a q : ℕ) → place_of g a q 0 ≡ 0
place_none g a q = refl

-- one number on, a frame of the queue adds one
pub place_next : (g : GuestPlan) (a q i : ℕ) (r : Stamped) → slice_get g.capture.records i ≡ Some r → place_of g a q (i + 1) ≡ place_of g a q i + (if goes_on g a q (captured_as g i r) then 1 else 0)
place_next g a q i r h =
    ap (count (goes_on g a q)) (take_more (captured g) i (captured_as g i r) (captured_there g i r h))
    ∙ ap length (filter-append (goes_on g a q) (take i (captured g)) (captured_as g i r ∷ []))
    ∙ length-append (filter (goes_on g a q) (take i (captured g))) (filter (goes_on g a q) (captured_as g i r ∷ []))
    ∙ step (goes_on g a q (captured_as g i r)) refl
  where
    step : (b : Bool) → goes_on g a q (captured_as g i r) ≡ b → length (filter (goes_on g a q) (take i (captured g))) + length (filter (goes_on g a q) (captured_as g i r ∷ [])) ≡ place_of g a q i + (if goes_on g a q (captured_as g i r) then 1 else 0)
    step true e = rw e refl
    step false e = rw e refl

-- whether the frame of a number goes on a queue; past the capture none does
abbrev pub goes_if : GuestPlan → ℕ → ℕ → ℕ → Option Stamped → Bool
goes_if g a q i None = false
goes_if g a q i (Some r) = goes_on g a q (captured_as g i r)

-- the same by its number alone
abbrev pub goes_at : GuestPlan → ℕ → ℕ → ℕ → Bool
goes_at g a q i = goes_if g a q i (slice_get g.capture.records i)

take_past : {X : Type 0} (xs : List X) (i : ℕ) → slice_get xs i ≡ None → take (suc i) xs ≡ take i xs
take_past [] zero h = refl
take_past [] (suc i) h = refl
take_past (x ∷ xs) zero h = absurd (cc h)
take_past (x ∷ xs) (suc i) h = ap (λ (ys : List _). x ∷ ys) (take_past xs i h)

numbered_past : (g : GuestPlan) (j : ℕ) (rs : List Stamped) (i : ℕ) → slice_get rs i ≡ None → slice_get (numbered g j rs) i ≡ None
numbered_past g j [] i h = refl
numbered_past g j (x ∷ rs) zero h = absurd (cc h)
numbered_past g j (x ∷ rs) (suc i) h = numbered_past g (j + 1) rs i h

pub place_step : (g : GuestPlan) (a q i : ℕ) → place_of g a q (i + 1) ≡ (if goes_at g a q i then place_of g a q i + 1 else place_of g a q i)
place_step g a q i = step (slice_get g.capture.records i) refl
  where
    picked : (b : Bool) (n : ℕ) → n + (if b then 1 else 0) ≡ (if b then n + 1 else n)
    picked true n = refl
    picked false n = omega arith

    step : (o : Option Stamped) → slice_get g.capture.records i ≡ o → place_of g a q (i + 1) ≡ (if goes_at g a q i then place_of g a q i + 1 else place_of g a q i)
    step (Some r) e = place_next g a q i r e ∙ rw e (picked (goes_on g a q (captured_as g i r)) (place_of g a q i))
    step None e = rw (add-one, e) (ap (count (goes_on g a q)) (take_past (captured g) i (numbered_past g 0 g.capture.records i e)))

count_low : {X : Type 0} (test : X → Bool) (xs : List X) (i : ℕ) → count test (take i xs) ≤ i
count_low test [] zero = omega arith
count_low test [] (suc i) = omega arith
count_low test (x ∷ xs) zero = omega arith
count_low test (x ∷ xs) (suc i) = step (test x) refl (count_low test xs i)
  where
    step : (b : Bool) → test x ≡ b → count test (take i xs) ≤ i → count test (take (suc i) (x ∷ xs)) ≤ suc i
    step true e ih = rw e (omega (arith, ih))
    step false e ih = rw e (omega (arith, ih))

pub place_low : (g : GuestPlan) (a q i : ℕ) → place_of g a q i ≤ i
place_low g a q i = count_low (goes_on g a q) (captured g) i

quiet_last : (quiet : Bool) (actions : List Action) (a : Action) → is_quiet quiet (actions ++ a ∷ []) ≡ quiet_after (is_quiet quiet actions) a.deed
quiet_last quiet [] a = refl
quiet_last quiet (x ∷ xs) a = quiet_last (quiet_after quiet x.deed) xs a

-- one action more
pub quiet_next : (n i : ℕ) (script : List Action) (a : Action) → slice_get script i ≡ Some a → is_quiet false (past n (take (i + 1) script)) ≡ (if nat_le a.at n then quiet_after (is_quiet false (past n (take i script))) a.deed else is_quiet false (past n (take i script)))
quiet_next n i script a h = ap (λ (xs : List Action). is_quiet false (past n xs)) (take_more script i a h) ∙ ap (is_quiet false) (filter-append (λ (x : Action). nat_le x.at n) (take i script) (a ∷ [])) ∙ step (nat_le a.at n) refl
  where
    step : (b : Bool) → nat_le a.at n ≡ b → is_quiet false (past n (take i script) ++ past n (a ∷ [])) ≡ (if nat_le a.at n then quiet_after (is_quiet false (past n (take i script))) a.deed else is_quiet false (past n (take i script)))
    step true e = rw e (quiet_last false (past n (take i script)) a)
    step false e = rw e (ap (is_quiet false) (append-nil (past n (take i script))))

-- an item at an index is there
pub there : {X : Type 0} (xs : List X) (i : ℕ) (x : X) → i < length xs → x ≡ get_or xs i x → slice_get xs i ≡ Some x
there [] i x lt e = absurd (omega (arith, lt))
there (y ∷ ys) zero x lt e = ap Some (sym e)
there (y ∷ ys) (suc i) x lt e = there ys i x (omega (arith, lt)) e

pub quiet_done : (n i : ℕ) (script : List Action) (a : Action) → i < length script → a ≡ get_or script i a → a.at ≤ n → is_quiet false (past n (take (i + 1) script)) ≡ quiet_after (is_quiet false (past n (take i script))) a.deed
quiet_done n i script a lt at le = let e : nat_le a.at n ≡ true = grind (arith, nat_tests) in rw e at (quiet_next n i script a (there script i a lt at))

pub quiet_skipped : (n i : ℕ) (script : List Action) (a : Action) → i < length script → a ≡ get_or script i a → n < a.at → is_quiet false (past n (take (i + 1) script)) ≡ is_quiet false (past n (take i script))
quiet_skipped n i script a lt at le = let e : nat_le a.at n ≡ false = grind (arith, nat_tests) in rw e at (quiet_next n i script a (there script i a lt at))
