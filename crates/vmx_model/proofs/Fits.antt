-- What a fitting indirection table is.
use Rattle.std.proofs.Common.{◌≡◌, ℕ, zero, suc, ◌+◌, ◌-◌, ◌<◌, ◌≤◌, true, List, [], ◌∷◌, length, take, drop, get_or, refl, sym, ap, subst, ◌∙◌, arith, length-take, nat_lt, nat_eq}
use Rattle.std.specs.List.{list_all}
use Rattle.std.proofs.lemmas.Bool.{and_parts, ltb-true, eqb-true, leb-true}
use Rattle.std.proofs.lemmas.List.{get_or-take, get_or-drop}
use Rattle.vmx_shared_area.specs.Tells.{EntriesBelow}
use Rattle.vmx_model.specs.declared.deeds.Deed.TheVariants as deed
use Rattle.vmx_model.specs.Ranges.{fits_deed}

below_at : (q : ℕ) (xs : List ℕ) (i : ℕ) → list_all (λ e. nat_lt e q) xs ≡ true → i < length xs → get_or xs i 0 < q
below_at q [] i h lt = absurd (omega arith)
below_at q (x ∷ xs) zero h lt = ltb-true x q (and_parts _ _ h).0
below_at q (x ∷ xs) (suc i) h lt = below_at q xs i (and_parts _ _ h).1 (omega arith)

zero_at : (xs : List ℕ) (i : ℕ) → list_all (λ e. nat_eq e 0) xs ≡ true → get_or xs i 0 ≡ 0
zero_at [] i h = refl
zero_at (x ∷ xs) zero h = eqb-true x 0 (and_parts _ _ h).0
zero_at (x ∷ xs) (suc i) h = zero_at xs i (and_parts _ _ h).1

module _ (queues size : ℕ) (table : List ℕ) (fits : fits_deed queues true (deed.Rss size table) ≡ true) where
  sizes : (1 ≤ size) × (size ≤ 128)
  sizes = let two = and_parts _ _ (and_parts _ _ fits).0 in (leb-true _ _ two.0, leb-true _ _ two.1)

  parts : (list_all (λ e. nat_lt e queues) (take size table) ≡ true) × (list_all (λ e. nat_eq e 0) (drop size table) ≡ true)
  parts = and_parts _ _ (and_parts _ _ fits).1

  pub size_low : 1 ≤ size
  size_low = sizes.0

  pub size_high : size ≤ 128
  size_high = sizes.1

  pub entries_below : length table ≡ 128 → EntriesBelow queues size table
  entries_below long i lt = let high = sizes.1 in
      let here : i < length (take size table) = omega (arith, length-take size table) in
      let e : get_or (take size table) i 0 < queues = below_at queues (take size table) i parts.0 here in subst (λ (x : ℕ). x < queues) (get_or-take size table i 0 lt) e

  pub rest_zero : (i : ℕ) → size ≤ i → get_or table i 0 ≡ 0
  rest_zero i le = let e : get_or (drop size table) (i - size) 0 ≡ 0 = zero_at (drop size table) (i - size) parts.1 in let same : size + (i - size) ≡ i = omega arith in sym (ap (λ (k : ℕ). get_or table k 0) same) ∙ sym (get_or-drop size table (i - size) 0) ∙ e
