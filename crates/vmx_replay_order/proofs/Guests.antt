-- One guest of all.
use Rattle.std.proofs.Common.{◌≡◌, ℕ, zero, suc, List, [], ◌∷◌, refl, ap, Some}
use Rattle.std.specs.Option.{option_map}
use Rattle.std.specs.List.{slice_get}
use Rattle.vmx_model.specs.Serial.{at_number}

-- ------------------------------------------------------------ one element

pub at_twice : {X : Type 0} (n : ℕ) (f g : X → X) (xs : List X) → at_number n f (at_number n g xs) ≡ at_number n (λ x. f (g x)) xs
at_twice n f g [] = refl
at_twice zero f g (x ∷ xs) = refl
at_twice (suc n) f g (x ∷ xs) = ap (λ (ys : List _). x ∷ ys) (at_twice n f g xs)

pub at_same : {X : Type 0} (n : ℕ) (f g : X → X) → ((x : X) → f x ≡ g x) → (xs : List X) → at_number n f xs ≡ at_number n g xs
at_same n f g h [] = refl
at_same zero f g h (x ∷ xs) = ap (λ y. y ∷ xs) (h x)
at_same (suc n) f g h (x ∷ xs) = ap (λ (ys : List _). x ∷ ys) (at_same n f g h xs)

pub at_stays : {X : Type 0} (n : ℕ) (f : X → X) (xs : List X) → ((x : X) → slice_get xs n ≡ Some x → f x ≡ x) → at_number n f xs ≡ xs
at_stays n f [] h = refl
at_stays zero f (x ∷ xs) h = ap (λ y. y ∷ xs) (h x refl)
at_stays (suc n) f (x ∷ xs) h = ap (λ (ys : List _). x ∷ ys) (at_stays n f xs h)

pub get_at : {X : Type 0} (n : ℕ) (f : X → X) (xs : List X) → slice_get (at_number n f xs) n ≡ option_map f (slice_get xs n)
get_at n f [] = refl
get_at zero f (x ∷ xs) = refl
get_at (suc n) f (x ∷ xs) = get_at n f xs
