-- A list of lists, in one of which an item was put last.
use Rattle.std.proofs.Common.{◌≡◌, ℕ, zero, suc, ◌<◌, List, [], ◌∷◌, ◌++◌, length, map, set, get_or, refl, sym, ap, ◌∙◌, Some, inl, inr, ◌⊎◌}
use Rattle.std.specs.List.{slice_get}
use Rattle.std.proofs.lemmas.List.{length-map}
use Rattle.vmx_io.specs.Views.{viewed}
use Rattle.vmx_device_looks.specs.Queues.{get_at}

-- an item of the n-th list
pub record IsIn {X : Type 0} (xss : List (List X)) (n j : ℕ) (y : X) : Type 0 where
  pub list : List X
  pub at : slice_get xss n ≡ Some list
  pub there_ : slice_get list j ≡ Some y

module _ {X : Type 0} where
  -- an item of the longer list is one of the shorter, or the last
  pub pushed_in : (xs : List X) (x : X) (j : ℕ) (y : X) → slice_get (xs ++ x ∷ []) j ≡ Some y → (slice_get xs j ≡ Some y) ⊎ ((j ≡ length xs) × (y ≡ x))
  pushed_in [] x zero y e = let same : y ≡ x = cc e in inr (refl, same)
  pushed_in [] x (suc j) y e = absurd (cc e)
  pushed_in (z ∷ xs) x zero y e = inl e
  pushed_in (z ∷ xs) x (suc j) y e = elim (pushed_in xs x j y e) [ inl a ↦ inl a | inr a ↦ inr (ap suc a.0, a.1) ]

  pub length_pushed : (xs : List X) (x : X) → length (xs ++ x ∷ []) ≡ suc (length xs)
  length_pushed [] x = refl
  length_pushed (y ∷ ys) x = ap suc (length_pushed ys x)

  -- it was there before, or it is the one that was put there
  pub was_in : (xss : List (List X)) (at : ℕ) (xs : List X) (x : X) (n j : ℕ) (ys : List X) (y : X) → slice_get xss at ≡ Some xs → slice_get (set xss at (xs ++ x ∷ [])) n ≡ Some ys → slice_get ys j ≡ Some y
      → IsIn xss n j y ⊎ ((n ≡ at) × (j ≡ length xs) × (y ≡ x))
  was_in [] at xs x n j ys y h e g = absurd (cc h)
  was_in (zs ∷ xss) zero xs x zero j ys y h e g =
      let here : Some zs ≡ Some xs = h in
      let same : ys ≡ xs ++ x ∷ [] = cc e in
      elim (pushed_in xs x j y (ap (λ (l : List X). slice_get l j) (sym same) ∙ g)) [
        | inl a ↦ inl (record { list = xs; at = here; there_ = a })
        | inr a ↦ inr (refl, a.0, a.1)
      ]
  was_in (zs ∷ xss) zero xs x (suc n) j ys y h e g = inl (record { list = ys; at = e; there_ = g })
  was_in (zs ∷ xss) (suc at) xs x zero j ys y h e g = inl (record { list = ys; at = e; there_ = g })
  was_in (zs ∷ xss) (suc at) xs x (suc n) j ys y h e g = elim (was_in xss at xs x n j ys y h e g) [
    | inl a ↦ inl (record { list = a.list; at = a.at; there_ = a.there_ })
    | inr a ↦ inr (ap suc a.0, a.1, a.2)
  ]

-- what contracts see of an item is at its number
pub view_at : {G V : Type 0} (view : G → V) (gs : List G) (i : ℕ) (x : G) → i < length gs → x ≡ get_or gs i x → slice_get (map view gs) i ≡ Some (view x)
view_at view gs i x lt is = get_at (map view gs) i (view x) (rw length-map lt) (sym (viewed view gs i x lt is))
