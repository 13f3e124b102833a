-- Lists of which one element after another is changed, by what contracts see of each element.
use Rattle.std.proofs.Common.{◌≡◌, ℕ, zero, suc, ◌+◌, ◌<◌, ◌≤◌, Bool, List, [], ◌∷◌, ◌++◌, length, map, take, drop, get_or, set, refl, ap, ap₂, ◌∙◌, arith, add-one, if◌then◌else◌}
use Rattle.vmx_model.specs.Serial.{where_it, at_number}

module _ {E V : Type 0} (view : E → V) (test : V → Bool) (change : V → V) where
  abbrev picked : V → V
  picked v = if test v then change v else v

  -- the first i elements were changed where they pass the test
  abbrev pub Changed : List V → ℕ → List E → Type 0
  Changed old i xs = map view xs ≡ where_it test change (take i old) ++ drop i old

  step : (old : List V) (i : ℕ) (xs : List E) (x new : E) → Changed old i xs → i < length xs → x ≡ get_or xs i x → view new ≡ picked (view x) → Changed old (suc i) (set xs i new)
  step old i [] x new h less is e = absurd (omega arith)
  step [] zero (y ∷ ys) x new h less is e = absurd (cc h)
  step [] (suc i) (y ∷ ys) x new h less is e = absurd (cc h)
  step (o ∷ os) zero (y ∷ ys) x new h less is e = let head : view y ≡ o = cc h in let tail : map view ys ≡ os = cc h in ap₂ (λ (v : V) (vs : List V). v ∷ vs) (e ∙ ap picked (ap view is ∙ head)) tail
  step (o ∷ os) (suc i) (y ∷ ys) x new h less is e = let head : view y ≡ picked o = cc h in let tail : map view ys ≡ where_it test change (take i os) ++ drop i os = cc h in ap₂ (λ (v : V) (vs : List V). v ∷ vs) head (step os i ys x new tail (omega arith) is e)

  -- one element more
  pub changed_next : (old : List V) (i : ℕ) (xs : List E) (x new : E) → Changed old i xs → i < length xs → x ≡ get_or xs i x → view new ≡ picked (view x) → Changed old (i + 1) (set xs i new)
  changed_next old i xs x new h less is e = rw add-one (step old i xs x new h less is e)

  pub changed_length : (old : List V) (i : ℕ) (xs : List E) → Changed old i xs → length xs ≡ length old
  changed_length old i [] h = sizes old i h
    where
      sizes : (old : List V) (i : ℕ) → [] ≡ where_it test change (take i old) ++ drop i old → 0 ≡ length old
      sizes [] i h = refl
      sizes (o ∷ os) zero h = absurd (cc h)
      sizes (o ∷ os) (suc i) h = absurd (cc h)
  changed_length [] zero (y ∷ ys) h = absurd (cc h)
  changed_length [] (suc i) (y ∷ ys) h = absurd (cc h)
  changed_length (o ∷ os) zero (y ∷ ys) h = let tail : map view ys ≡ os = cc h in ap suc (changed_length os zero ys tail)
  changed_length (o ∷ os) (suc i) (y ∷ ys) h = let tail : map view ys ≡ where_it test change (take i os) ++ drop i os = cc h in ap suc (changed_length os i ys tail)

  -- all of them
  pub changed_all : (old : List V) (i : ℕ) (xs : List E) → Changed old i xs → length old ≤ i → map view xs ≡ where_it test change old
  changed_all old i xs h le = h ∙ whole old i le
    where
      whole : (old : List V) (i : ℕ) → length old ≤ i → where_it test change (take i old) ++ drop i old ≡ where_it test change old
      whole [] zero le = refl
      whole [] (suc i) le = refl
      whole (o ∷ os) zero le = absurd (omega arith)
      whole (o ∷ os) (suc i) le = ap (λ (vs : List V). picked o ∷ vs) (whole os i (omega arith))

  -- the next one is as it was
  pub changed_here : (old : List V) (i : ℕ) (xs : List E) (x : E) (d : V) → Changed old i xs → i < length xs → x ≡ get_or xs i x → view x ≡ get_or old i d
  changed_here old i [] x d h less is = absurd (omega arith)
  changed_here [] zero (y ∷ ys) x d h less is = absurd (cc h)
  changed_here [] (suc i) (y ∷ ys) x d h less is = absurd (cc h)
  changed_here (o ∷ os) zero (y ∷ ys) x d h less is = let head : view y ≡ o = cc h in ap view is ∙ head
  changed_here (o ∷ os) (suc i) (y ∷ ys) x d h less is = let tail : map view ys ≡ where_it test change (take i os) ++ drop i os = cc h in changed_here os i ys x d tail (omega arith) is

module _ {E V : Type 0} (view : E → V) (change : V → V) where
  -- the element of a number is changed
  pub number_there : (xs : List E) (i : ℕ) (x new : E) → i < length xs → x ≡ get_or xs i x → view new ≡ change (view x) → map view (set xs i new) ≡ at_number i change (map view xs)
  number_there [] i x new less is e = absurd (omega arith)
  number_there (y ∷ ys) zero x new less is e = ap (λ (v : V). v ∷ map view ys) (e ∙ ap (λ (z : E). change (view z)) is)
  number_there (y ∷ ys) (suc i) x new less is e = ap (λ (vs : List V). view y ∷ vs) (number_there ys i x new (omega arith) is e)

  -- there is none of this number
  pub number_past : (xs : List E) (i : ℕ) → length xs ≤ i → map view xs ≡ at_number i change (map view xs)
  number_past [] i le = refl
  number_past (y ∷ ys) zero le = absurd (omega arith)
  number_past (y ∷ ys) (suc i) le = ap (λ (vs : List V). view y ∷ vs) (number_past ys i (omega arith))
