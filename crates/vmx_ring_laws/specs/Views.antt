-- What a rule says of the views of all seats: a fact of each, and a weight of them all.
use Rattle.std.specs.Prelude.{◌≡◌, ◌≢◌, ℕ, suc, ◌+◌, ◌<◌, List, [], ◌∷◌, ◌++◌, length, slice_set}
use Rattle.std.proofs.Common.{zero, sym, ap, subst, ⊎_elim, arith}
use mathlib.Core.Option.{some, some-injective, some-ne-none}
use lib.ListN.{get_elem?}
use Rattle.atomic_table.proofs.Lists.{at_set}
use Rattle.vmx_ring_laws.specs.Lists.{snoc_cases}

module _ {V : Type 0} where
  -- F holds of each seat, by its number, and its view
  abbrev pub All : (ℕ → V → Type 0) → List V → Type 0
  All F views = (seat : ℕ) (v : V) → get_elem? views seat ≡ some v → F seat v

  -- after one view changed, and after a new seat came
  pub all_set : (F : ℕ → V → Type 0) (views : List V) (seat : ℕ) (w : V) → F seat w → ((j : ℕ) (u : V) → j ≢ seat → get_elem? views j ≡ some u → F j u) → All F (slice_set views seat w)
  all_set F views seat w mine others j u e = ⊎_elim (λ (x : (j ≡ seat) × (w ≡ u)). subst (λ (y : ℕ × V). F y.0 y.1) (λ i. (sym x.0 i, x.1 i)) mine)
      (λ (x : (j ≢ seat) × (get_elem? views j ≡ some u)). others j u x.0 x.1) (at_set views seat j w u e)

  pub all_snoc : (F : ℕ → V → Type 0) (views : List V) (w : V) → F (length views) w → ((j : ℕ) (u : V) → j < length views → get_elem? views j ≡ some u → F j u) → All F (views ++ w ∷ [])
  all_snoc F views w new old j u e = ⊎_elim (λ (x : (j ≡ length views) × (w ≡ u)). subst (λ (y : ℕ × V). F y.0 y.1) (λ i. (sym x.0 i, x.1 i)) new)
      (λ (x : (j < length views) × (get_elem? views j ≡ some u)). old j u x.0 x.1) (snoc_cases views w u j e)

  -- the sum of a weight of the views, as the number of notes that no one has heard
  abbrev pub total : (V → ℕ) → List V → ℕ
  total weight [] = 0
  total weight (v ∷ vs) = weight v + total weight vs

  pub total_set : (weight : V → ℕ) (views : List V) (seat : ℕ) (v w : V) → get_elem? views seat ≡ some v → total weight (slice_set views seat w) + weight v ≡ total weight views + weight w
  total_set weight [] seat v w e = absurd (some-ne-none v (sym e))
  total_set weight (x ∷ xs) zero v w e = let is : weight x ≡ weight v = ap weight (some-injective x v e) in omega arith
  total_set weight (x ∷ xs) (suc seat) v w e = let r = total_set weight xs seat v w e in omega arith

  pub total_snoc : (weight : V → ℕ) (views : List V) (w : V) → total weight (views ++ w ∷ []) ≡ total weight views + weight w
  total_snoc weight [] w = omega arith
  total_snoc weight (x ∷ xs) w = let r = total_snoc weight xs w in omega arith

  -- the new view weighs what the old one did
  pub total_same : (weight : V → ℕ) (views : List V) (seat : ℕ) (v w : V) → get_elem? views seat ≡ some v → weight w ≡ weight v → total weight (slice_set views seat w) ≡ total weight views
  total_same weight views seat v w e same = let r = total_set weight views seat v w e in omega arith
