-- Two lists pair by pair.
use Rattle.std.proofs.Common.{◌≡◌, ℕ, zero, suc, List, [], ◌∷◌, length, map, set, refl, ap, ap₂, subst, Some}
use Rattle.std.specs.List.{slice_get}
use Rattle.vmx_model.specs.Bags.{EachQueue, Pairwise}

module _ {X : Type 0} (R : X → X → Type 0) where
  pub pair_refl : ((x : X) → R x x) → (xs : List X) → Pairwise R xs xs
  pair_refl f [] = tt
  pair_refl f (x ∷ xs) = (f x, pair_refl f xs)

  pub pair_trans : ((x y z : X) → R x y → R y z → R x z) → (xs ys zs : List X) → Pairwise R xs ys → Pairwise R ys zs → Pairwise R xs zs
  pair_trans f [] [] [] h k = tt
  pair_trans f [] [] (z ∷ zs) h k = absurd k
  pair_trans f [] (y ∷ ys) zs h k = absurd h
  pair_trans f (x ∷ xs) [] zs h k = absurd h
  pair_trans f (x ∷ xs) (y ∷ ys) [] h k = absurd k
  pair_trans f (x ∷ xs) (y ∷ ys) (z ∷ zs) h k = (f x y z h.0 k.0, pair_trans f xs ys zs h.1 k.1)

  -- one of the second list is replaced
  pub pair_set : (xs ys : List X) (n : ℕ) (x y : X) → Pairwise R xs ys → slice_get xs n ≡ Some x → R x y → Pairwise R xs (set ys n y)
  pair_set [] [] n x y h e r = tt
  pair_set [] (b ∷ ys) n x y h e r = absurd h
  pair_set (a ∷ xs) [] n x y h e r = absurd h
  pair_set (a ∷ xs) (b ∷ ys) zero x y h e r = let same : x ≡ a = cc e in (subst (λ (z : X). R z y) same r, h.1)
  pair_set (a ∷ xs) (b ∷ ys) (suc n) x y h e r = (h.0, pair_set xs ys n x y h.1 e r)

  -- one of both lists is replaced
  pub pair_both : (xs ys : List X) (n : ℕ) (x y : X) → Pairwise R xs ys → R x y → Pairwise R (set xs n x) (set ys n y)
  pair_both [] [] n x y h r = tt
  pair_both [] (b ∷ ys) n x y h r = absurd h
  pair_both (a ∷ xs) [] n x y h r = absurd h
  pair_both (a ∷ xs) (b ∷ ys) zero x y h r = (r, h.1)
  pair_both (a ∷ xs) (b ∷ ys) (suc n) x y h r = (h.0, pair_both xs ys n x y h.1 r)

  -- the second of a pair
  pub pair_from : (xs ys : List X) (n : ℕ) (x : X) → Pairwise R xs ys → slice_get xs n ≡ Some x → (y : X) × (slice_get ys n ≡ Some y) × R x y
  pair_from [] [] n x h e = absurd (cc e)
  pair_from [] (b ∷ ys) n x h e = absurd h
  pair_from (a ∷ xs) [] n x h e = absurd h
  pair_from (a ∷ xs) (b ∷ ys) zero x h e = let same : a ≡ x = cc e in (b, refl, subst (λ (z : X). R z b) same h.0)
  pair_from (a ∷ xs) (b ∷ ys) (suc n) x h e = pair_from xs ys n x h.1 e

  pub pair_length : (xs ys : List X) → Pairwise R xs ys → length ys ≡ length xs
  pair_length [] [] h = refl
  pair_length [] (b ∷ ys) h = absurd h
  pair_length (a ∷ xs) [] h = absurd h
  pair_length (a ∷ xs) (b ∷ ys) h = ap suc (pair_length xs ys h.1)

  -- what is the same of each pair is the same of the lists
  pub pair_map : {Y : Type 0} (f : X → Y) → ((x y : X) → R x y → f y ≡ f x) → (xs ys : List X) → Pairwise R xs ys → map f ys ≡ map f xs
  pair_map f g [] [] h = refl
  pair_map f g [] (b ∷ ys) h = absurd h
  pair_map f g (a ∷ xs) [] h = absurd h
  pair_map f g (a ∷ xs) (b ∷ ys) h = ap₂ (λ z zs. z ∷ zs) (g a b h.0) (pair_map f g xs ys h.1)

  -- what holds of each by its number
  pub pair_each : (P : ℕ → X → Type 0) → ((n : ℕ) (x y : X) → R x y → P n x → P n y) → (n : ℕ) (xs ys : List X) → Pairwise R xs ys → EachQueue P n xs → EachQueue P n ys
  pair_each P f n [] [] h k = tt
  pair_each P f n [] (b ∷ ys) h k = absurd h
  pair_each P f n (a ∷ xs) [] h k = absurd h
  pair_each P f n (a ∷ xs) (b ∷ ys) h k = (f n a b h.0 k.0, pair_each P f (suc n) xs ys h.1 k.1)
