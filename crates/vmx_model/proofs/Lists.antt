-- Laws on filters, counts and places of lists.
use Rattle.std.specs.List.{All}
use Rattle.std.proofs.lemmas.List.Elements.{All-head, All-tail}
use Rattle.std.proofs.Common.{◌≡◌, ℕ, zero, suc, ◌+◌, ◌<◌, ◌≤◌, List, [], ◌∷◌, ◌++◌, length, take, refl, ap, ◌∙◌, arith, nat_eq, true, false, Bool, length-append, inl, inr, Some}
use Rattle.std.proofs.lemmas.Bool.Decides.{eqb_tells, nat_tests}
use Rattle.std.proofs.lemmas.List.Elements.{filter-append}
use Rattle.std.specs.List.{filter, slice_get, AllByRecursion}
use Rattle.vmx_model.specs.Lists.{count, IsOne, Rises, upto}

-- an element that passes stands in the filtered list behind those before it that pass
pub filtered_at : {X : Type 0} (test : X → Bool) (xs : List X) (i : ℕ) (x : X) → slice_get xs i ≡ Some x → test x ≡ true → slice_get (filter test xs) (count test (take i xs)) ≡ Some x
filtered_at test [] i x at passes = absurd (cc)
filtered_at {X} test (y ∷ ys) zero x at passes = here (test y) refl
  where
    here : (b : Bool) → test y ≡ b → slice_get (filter test (y ∷ ys)) 0 ≡ Some x
    here true h = rw h at
    here false h = let same : y ≡ x = cc in absurd (cc (ap test same))
filtered_at {X} test (y ∷ ys) (suc i) x at passes = step (test y) refl (filtered_at test ys i x at passes)
  where
    step : (b : Bool) → test y ≡ b → slice_get (filter test ys) (count test (take i ys)) ≡ Some x → slice_get (filter test (y ∷ ys)) (count test (take (suc i) (y ∷ ys))) ≡ Some x
    step true h ih = rw h ih
    step false h ih = rw h ih

pub count-append : {X : Type 0} (test : X → Bool) (xs ys : List X) → count test (xs ++ ys) ≡ count test xs + count test ys
count-append test xs ys = ap length (filter-append test xs ys) ∙ length-append (filter test xs) (filter test ys)

-- a narrower test after a wider one
pub filter_narrow : {X : Type 0} (test wide : X → Bool) → ((x : X) → test x ≡ true → wide x ≡ true) → (xs : List X) → filter test (filter wide xs) ≡ filter test xs
filter_narrow test wide within [] = refl
filter_narrow {X} test wide within (x ∷ xs) = step (wide x) (test x) refl refl (filter_narrow test wide within xs)
  where
    step : (b c : Bool) → wide x ≡ b → test x ≡ c → filter test (filter wide xs) ≡ filter test xs → filter test (filter wide (x ∷ xs)) ≡ filter test (x ∷ xs)
    step true c h k ih = rw (h, ih) refl
    step false true h k ih = absurd (cc (within x k))
    step false false h k ih = rw (h, k, ih) refl

pub one_from_length : {X : Type 0} (xs : List X) → length xs ≡ 1 → IsOne xs
one_from_length [] h = absurd (omega arith)
one_from_length (x ∷ []) h = (x, refl)
one_from_length (x ∷ y ∷ xs) h = absurd (omega arith)

-- none of the elements passes
pub none_count : {X : Type 0} (test : X → Bool) (xs : List X) → AllByRecursion (λ x. test x ≡ false) xs → count test xs ≡ 0
none_count test [] h = refl
none_count test (x ∷ xs) h = rw h.0 (none_count test xs h.1)

pub all_weaker : {X : Type 0} (P Q : X → Type 0) → ((x : X) → P x → Q x) → (xs : List X) → AllByRecursion P xs → AllByRecursion Q xs
all_weaker P Q k [] h = tt
all_weaker P Q k (x ∷ xs) h = (k x h.0, all_weaker P Q k xs h.1)

-- of rising numbers each stands there once
rise_once : (y x : ℕ) (xs : List ℕ) → y < x → count (λ z. nat_eq z x) xs ≡ 1 → count (λ z. nat_eq z x) (y ∷ xs) ≡ 1
rise_once y x xs lt h = let ne : nat_eq y x ≡ false = grind (arith, nat_tests) in rw ne h

rises_from : (y : ℕ) (xs : List ℕ) → (zs : List ℕ) → AllByRecursion (λ x. y < x) zs → AllByRecursion (λ x. count (λ z. nat_eq z x) xs ≡ 1) zs → AllByRecursion (λ x. count (λ z. nat_eq z x) (y ∷ xs) ≡ 1) zs
rises_from y xs [] h k = tt
rises_from y xs (z ∷ zs) h k = (rise_once y z xs h.0 k.0, rises_from y xs zs h.1 k.1)

pub rises_once : (xs : List ℕ) → Rises (λ x y. x < y) xs → AllByRecursion (λ x. count (λ z. nat_eq z x) xs ≡ 1) xs
rises_once [] h = tt
rises_once (x ∷ xs) h =
    let none : count (λ z. nat_eq z x) xs ≡ 0 = none_count _ xs (all_weaker (λ y. x < y) (λ y. nat_eq y x ≡ false) (λ y lt. grind (arith, nat_tests)) xs h.0) in
    let same : nat_eq x x ≡ true = grind (arith, nat_tests) in
    (rw (same, none) refl, rises_from x xs xs h.0 (rises_once xs h.1))

-- of counted numbers each below the end stands there once
pub upto_none : (n m at : ℕ) → at < n → count (λ z. nat_eq z at) (upto n m) ≡ 0
upto_none n zero at lt = refl
upto_none n (suc m) at lt = let ne : nat_eq n at ≡ false = grind (arith, nat_tests) in rw (ne, upto_none (n + 1) m at (omega arith)) refl

pub upto_once : (n m at : ℕ) → n ≤ at → at < n + m → count (λ z. nat_eq z at) (upto n m) ≡ 1
upto_once n zero at le lt = absurd (omega arith)
upto_once n (suc m) at le lt = elim (eqb_tells n at) [
  | inl p ↦ rw (p.0, upto_none (n + 1) m at (omega arith)) refl
  | inr p ↦ rw p.0 (upto_once (n + 1) m at (omega arith) (omega arith))
]

pub upto_below : (n m : ℕ) → AllByRecursion (λ z. z < n + m) (upto n m)
upto_below n zero = tt
upto_below n (suc m) = (omega arith, all_weaker (λ z. z < n + 1 + m) (λ z. z < n + suc m) (λ z lt. omega arith) (upto (n + 1) m) (upto_below (n + 1) m))

-- what holds of each element, element by element
pub by_recursion : {X : Type 0} (P : X → Type 0) (xs : List X) → All P xs → AllByRecursion P xs
by_recursion P [] h = tt
by_recursion P (x ∷ xs) h = (All-head P x xs h, by_recursion P xs (All-tail P x xs h))
