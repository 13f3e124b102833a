-- The first so many values of a row, and their bytes.
use Rattle.std.proofs.Common.{◌≡◌, ℕ, zero, suc, ◌*◌, ◌≤◌, List, [], ◌∷◌, ◌++◌, length, take, sym, ap, ◌∙◌, arith, length-append}
use Rattle.std.proofs.lemmas.List.{append_assoc, append-nil}
use Rattle.std.specs.List.{flat_map}
use mathlib.Core.Option.{some, some-injective, some-ne-none}
use lib.ListN.{get_elem?}

pub take_next : {A : Type 0} (xs : List A) (i : ℕ) (x : A) → get_elem? xs i ≡ some x → take (suc i) xs ≡ take i xs ++ x ∷ []
take_next [] i x at = absurd (some-ne-none x (sym at))
take_next (y ∷ ys) zero x at = ap (λ z. z ∷ []) (some-injective y x at)
take_next (y ∷ ys) (suc i) x at = ap (λ z. y ∷ z) (take_next ys i x at)

pub bytes_next : {S : Type 0} (f : S → List ℕ) (xs : List S) (i : ℕ) (x : S) → get_elem? xs i ≡ some x → flat_map f (take (suc i) xs) ≡ flat_map f (take i xs) ++ f x
bytes_next f [] i x at = absurd (some-ne-none x (sym at))
bytes_next f (y ∷ ys) zero x at = append-nil (f y) ∙ ap f (some-injective y x at)
bytes_next f (y ∷ ys) (suc i) x at = ap (λ z. f y ++ z) (bytes_next f ys i x at) ∙ sym (append_assoc (f y) (flat_map f (take i ys)) (f x))

pub bytes_few : {S : Type 0} (f : S → List ℕ) (most : ℕ) (xs : List S) → ((x : S) → length (f x) ≤ most) → length (flat_map f xs) ≤ length xs * most
bytes_few f most [] few = omega arith
bytes_few f most (x ∷ xs) few = let a = few x in let r = bytes_few f most xs few in let l = length-append (f x) (flat_map f xs) in omega arith
