-- One element of a list, by its number.
use Rattle.std.proofs.Common.{◌≡◌, ℕ, zero, suc, ◌+◌, List, [], ◌∷◌, ◌++◌, length, map, set, refl, ap, ◌∙◌, Some, arith, subst}
use Rattle.std.specs.Option.{option_map}
use Rattle.std.specs.List.{slice_get}
use Rattle.vmx_model.specs.Bags.{EachQueue, Pairwise}
use Rattle.vmx_model.specs.Serial.{at_number}

module _ {X : Type 0} where
  -- two words for one change
  pub set_at : (xs : List X) (n : ℕ) (y : X) → set xs n y ≡ at_number n (λ _. y) xs
  set_at [] n y = refl
  set_at (x ∷ xs) zero y = refl
  set_at (x ∷ xs) (suc n) y = ap (λ (zs : List X). x ∷ zs) (set_at xs n y)

  pub at_twice : (n : ℕ) (f g : X → X) (xs : List X) → at_number n f (at_number n g xs) ≡ at_number n (λ x. f (g x)) xs
  at_twice n f g [] = refl
  at_twice zero f g (x ∷ xs) = refl
  at_twice (suc n) f g (x ∷ xs) = ap (λ (ys : List X). x ∷ ys) (at_twice n f g xs)

  pub at_same : (n : ℕ) (f g : X → X) → ((x : X) → f x ≡ g x) → (xs : List X) → at_number n f xs ≡ at_number n g xs
  at_same n f g h [] = refl
  at_same zero f g h (x ∷ xs) = ap (λ (y : X). y ∷ xs) (h x)
  at_same (suc n) f g h (x ∷ xs) = ap (λ (ys : List X). x ∷ ys) (at_same n f g h xs)

  pub at_stays : (n : ℕ) (f : X → X) → ((x : X) → f x ≡ x) → (xs : List X) → at_number n f xs ≡ xs
  at_stays n f h [] = refl
  at_stays zero f h (x ∷ xs) = ap (λ (y : X). y ∷ xs) (h x)
  at_stays (suc n) f h (x ∷ xs) = ap (λ (ys : List X). x ∷ ys) (at_stays n f h xs)

  -- a new element that is a function of the old one
  pub set_is : (xs : List X) (n : ℕ) (change : X → X) (x y : X) → slice_get xs n ≡ Some x → y ≡ change x → set xs n y ≡ at_number n change xs
  set_is [] n change x y h e = refl
  set_is (z ∷ xs) zero change x y h e = let s : x ≡ z = cc h in ap (λ (w : X). w ∷ xs) (e ∙ ap change s)
  set_is (z ∷ xs) (suc n) change x y h e = ap (λ (ws : List X). z ∷ ws) (set_is xs n change x y h e)

  pub get_set : (xs : List X) (n : ℕ) (x y : X) → slice_get xs n ≡ Some x → slice_get (set xs n y) n ≡ Some y
  get_set [] n x y h = absurd (cc h)
  get_set (z ∷ xs) zero x y h = refl
  get_set (z ∷ xs) (suc n) x y h = get_set xs n x y h

  pub set_set : (xs : List X) (n : ℕ) (x y : X) → set (set xs n x) n y ≡ set xs n y
  set_set [] n x y = refl
  set_set (z ∷ xs) zero x y = refl
  set_set (z ∷ xs) (suc n) x y = ap (λ (ws : List X). z ∷ ws) (set_set xs n x y)

  pub set_same : (xs : List X) (n : ℕ) (x y : X) → slice_get xs n ≡ Some x → y ≡ x → set xs n y ≡ xs
  set_same [] n x y h e = refl
  set_same (z ∷ xs) zero x y h e = let s : x ≡ z = cc h in ap (λ (w : X). w ∷ xs) (e ∙ s)
  set_same (z ∷ xs) (suc n) x y h e = ap (λ (ws : List X). z ∷ ws) (set_same xs n x y h e)

module _ {X Y : Type 0} (f : X → Y) where
  pub get_map : (xs : List X) (n : ℕ) → slice_get (map f xs) n ≡ option_map f (slice_get xs n)
  get_map [] n = refl
  get_map (x ∷ xs) zero = refl
  get_map (x ∷ xs) (suc n) = get_map xs n

  pub map_push : (xs : List X) (x : X) → map f (xs ++ x ∷ []) ≡ map f xs ++ f x ∷ []
  map_push [] x = refl
  map_push (y ∷ xs) x = ap (λ (zs : List Y). f y ∷ zs) (map_push xs x)

  -- the element behind so many others
  pub get_next : (xs rest : List X) (x : X) → slice_get (map f ((xs ++ x ∷ []) ++ rest)) (length (map f xs)) ≡ Some (f x)
  get_next [] rest x = refl
  get_next (y ∷ xs) rest x = get_next xs rest x

  -- one element was replaced
  pub map_at : (xs : List X) (n : ℕ) (change : Y → Y) (x y : X) → slice_get xs n ≡ Some x → f y ≡ change (f x) → map f (set xs n y) ≡ at_number n change (map f xs)
  map_at [] n change x y at e = refl
  map_at (z ∷ xs) zero change x y at e = let s : x ≡ z = cc at in ap (λ (w : Y). w ∷ map f xs) (e ∙ ap (λ (v : X). change (f v)) s)
  map_at (z ∷ xs) (suc n) change x y at e = ap (λ (ws : List Y). f z ∷ ws) (map_at xs n change x y at e)

  -- and the new one looks the same
  pub map_same : (xs : List X) (n : ℕ) (x y : X) → slice_get xs n ≡ Some x → f y ≡ f x → map f (set xs n y) ≡ map f xs
  map_same [] n x y at e = refl
  map_same (z ∷ xs) zero x y at e = let s : x ≡ z = cc at in ap (λ (w : Y). w ∷ map f xs) (e ∙ ap f s)
  map_same (z ∷ xs) (suc n) x y at e = ap (λ (ws : List Y). f z ∷ ws) (map_same xs n x y at e)

-- one of a list whose elements each have a property by their number
pub each_there : {X : Type 0} (P : ℕ → X → Type 0) (k g n : ℕ) (xs : List X) (x : X) → k + g ≡ n → EachQueue P k xs → slice_get xs g ≡ Some x → P n x
each_there P k g n [] x z h e = absurd (cc e)
each_there {X} P k zero n (y ∷ ys) x z h e = let s : y ≡ x = cc e in let same : k ≡ n = omega (arith, z) in subst (λ (p : ℕ × X). P p.0 p.1) (λ i. (same i, s i)) h.0
each_there P k (suc g) n (y ∷ ys) x z h e = each_there P (suc k) g n ys x (omega (arith, z)) h.1 e

-- of two lists pair by pair
pub pair_at : {X Y : Type 0} (R : X → Y → Type 0) (xs : List X) (ys : List Y) (n : ℕ) (y : Y) → Pairwise R xs ys → slice_get ys n ≡ Some y → (x : X) × (slice_get xs n ≡ Some x) × R x y
pair_at R [] [] n y h e = absurd (cc e)
pair_at R [] (z ∷ ys) n y h e = absurd h
pair_at R (x ∷ xs) [] n y h e = absurd h
pair_at R (x ∷ xs) (z ∷ ys) zero y h e = let same : z ≡ y = cc e in (x, refl, subst (R x) same h.0)
pair_at R (x ∷ xs) (z ∷ ys) (suc n) y h e = pair_at R xs ys n y h.1 e

pub map_map : {X Y Z : Type 0} (f : Y → Z) (g : X → Y) (xs : List X) → map f (map g xs) ≡ map (λ x. f (g x)) xs
map_map f g [] = refl
map_map f g (x ∷ xs) = ap (λ ys. f (g x) ∷ ys) (map_map f g xs)
