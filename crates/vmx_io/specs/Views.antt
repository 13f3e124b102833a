-- Laws of a list of which one item is replaced, by what contracts see of each item.
use Rattle.std.specs.Prelude.{ℕ, ◌≡◌, ◌<◌, List, map, length}
use Rattle.std.proofs.Common.{get_or, set, ap, ◌≢◌, sym, ◌∙◌, subst, All}
use Rattle.std.proofs.lemmas.List.{map-set, get_or-map, length-map, length-set, get_or-set_same, get_or-set_other}
use Rattle.std.proofs.lemmas.List.Elements.{All-set}
use Rattle.std.proofs.Math.Seq.{map-set_same}

module _ {E V : Type 0} (view : E → V) (xs : List E) (i : ℕ) (x : E) (lt : i < length xs) (is : x ≡ get_or xs i x) where
  -- the view of the item that is there
  pub viewed : get_or (map view xs) i (view x) ≡ view x
  viewed = get_or-map view xs i x (view x) lt ∙ sym (ap view is)

  -- a part of the views that the new item keeps
  pub kept_by : {W : Type 0} (part : V → W) (new : E) → part (view new) ≡ part (view x) → map part (map view (set xs i new)) ≡ map part (map view xs)
  kept_by part new same =
      rw (map-set view xs i new) (map-set_same part (map view xs) i (view new) (view x) (same ∙ ap part (sym viewed)))

  -- what holds of each view holds of this one
  pub holds_at : (P : V → Type 0) → All P (map view xs) → P (view x)
  holds_at P all = subst P viewed (all i (view x) (rw length-map lt))

-- the view at an index after its item is replaced
pub view_after : {E V : Type 0} (view : E → V) (xs : List E) (i : ℕ) (new : E) (d : V) → i < length xs → get_or (map view (set xs i new)) i d ≡ view new
view_after view xs i new d lt = let lt' : i < length (map view xs) = rw length-map lt in rw (map-set view xs i new) (get_or-set_same (map view xs) i (view new) d lt')

-- the view at any other index
pub others_after : {E V : Type 0} (view : E → V) (xs : List E) (i k : ℕ) (new : E) (d : V) → k ≢ i → get_or (map view (set xs i new)) k d ≡ get_or (map view xs) k d
others_after view xs i k new d ne = rw (map-set view xs i new) (get_or-set_other (map view xs) i k (view new) d ne)

-- an index of the views is one of the items
pub within_views : {E V : Type 0} (view : E → V) (xs : List E) (seen : List V) (i : ℕ) → map view xs ≡ seen → i < length seen → i < length xs
within_views {E} {V} view xs seen i e lt = let h : i < length (map view xs) = subst (λ (vs : List V). i < length vs) (sym e) lt in rw length-map at h

-- what holds of each view, and of the new one, holds of all after the item is replaced
pub all_after : {E V : Type 0} (view : E → V) (xs : List E) (i : ℕ) (new : E) (P : V → Type 0) → All P (map view xs) → P (view new) → All P (map view (set xs i new))
all_after view xs i new P all here = rw (map-set view xs i new) (All-set P (map view xs) i (view new) here all)

-- the number of items stays
pub length_after : {E V : Type 0} (view : E → V) (xs : List E) (i : ℕ) (new : E) → length (map view (set xs i new)) ≡ length (map view xs)
length_after view xs i new = rw (map-set view xs i new) (length-set (map view xs) i (view new))
