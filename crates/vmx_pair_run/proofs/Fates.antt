-- The fates of a run by the plan of `pair`, out of its two journals.
use Rattle.std.proofs.Common.{◌≡◌, ◌≢◌, ℕ, zero, suc, ◌<◌, ◌≤◌, true, false, List, [], ◌∷◌, ◌++◌, refl, ap, ◌∙◌, arith, nat_eq, nat_lt, None, append-nil, inl, inr, ◌⊎◌}
use Rattle.std.proofs.lemmas.List.Elements.{filter_map-append}
use Rattle.std.proofs.lemmas.Bool.Decides.{eqb_tells, nat_tests}
use Rattle.std.specs.List.{filter_map, flat_map}
use Rattle.vmx_model.specs.declared.journal.Entry.{Entry}
use Rattle.vmx_model.specs.declared.journal.Entry.TheVariants as entry
use Rattle.vmx_model.specs.declared.journal.Fate.TheVariants as fate
use Rattle.vmx_model.specs.declared.journal.Way.TheVariants as way
use Rattle.vmx_model.specs.Fates.{arrivals, copy_fates, fate_of, tag_at, way_fates, way_of, ways}
use Rattle.vmx_model.specs.Plan.{quiesce_dev}
use Rattle.vmx_pair_run.proofs.Stands.{ins, opened, outs}

-- ------------------------------------------------------------ the journals of a finished run

abbrev pub journal_a : ℕ → List Entry
journal_a n = (opened ∷ outs n) ++ entry.Setting quiesce_dev 0 None ∷ []

abbrev pub journal_b : ℕ → List Entry
journal_b n = (opened ∷ ins n) ++ entry.Setting quiesce_dev 0 None ∷ []

later_ways : (k n : ℕ) → n ≤ k → filter_map (way_of (tag_at 0 0 0 k) 1) (outs n) ≡ []
later_ways k zero le = refl
later_ways k (suc n) le =
    let apart : nat_eq n k ≡ false = grind (arith, nat_tests) in
    filter_map-append (way_of (tag_at 0 0 0 k) 1) (outs n) (entry.Out (tag_at 0 0 0 n) 1 (way.Link n) ∷ []) ∙ rw (later_ways k n (omega (arith, le)), apart) refl

-- a frame's way is the place of its packet
its_way : (k n : ℕ) → k < n → filter_map (way_of (tag_at 0 0 0 k) 1) (outs n) ≡ way.Link k ∷ []
its_way k zero lt = absurd (omega (arith, lt))
its_way k (suc n) lt = filter_map-append (way_of (tag_at 0 0 0 k) 1) (outs n) (entry.Out (tag_at 0 0 0 n) 1 (way.Link n) ∷ []) ∙ step (eqb_tells n k) (its_way k n)
  where
    step : ((nat_eq n k ≡ true) × (n ≡ k)) ⊎ ((nat_eq n k ≡ false) × (n ≢ k)) → (k < n → filter_map (way_of (tag_at 0 0 0 k) 1) (outs n) ≡ way.Link k ∷ [])
        → filter_map (way_of (tag_at 0 0 0 k) 1) (outs n) ++ filter_map (way_of (tag_at 0 0 0 k) 1) (entry.Out (tag_at 0 0 0 n) 1 (way.Link n) ∷ []) ≡ way.Link k ∷ []
    step (inl w) ih = let same = w.1 in rw (later_ways k n (omega (arith, same)), w.0) (ap (λ (x : ℕ). way.Link x ∷ []) same)
    step (inr w) ih = let other = w.1 in rw (ih (omega (arith, lt, other)), w.0) refl

pub ways_here : (k n : ℕ) → k < n → ways (tag_at 0 0 0 k) 1 (journal_a n) ≡ way.Link k ∷ []
ways_here k n lt = filter_map-append (way_of (tag_at 0 0 0 k) 1) (outs n) (entry.Setting quiesce_dev 0 None ∷ []) ∙ rw (its_way k n lt) refl

later_arrivals : (k n : ℕ) → n ≤ k → filter_map (fate_of 0 k) (ins n) ≡ []
later_arrivals k zero le = refl
later_arrivals k (suc n) le =
    let apart : nat_eq n k ≡ false = grind (arith, nat_tests) in
    filter_map-append (fate_of 0 k) (ins n) (entry.In 0 n (fate.Up 0 0 n) ∷ []) ∙ rw (later_arrivals k n (omega (arith, le)), apart) refl

-- and it comes up at that place
its_arrival : (k n : ℕ) → k < n → filter_map (fate_of 0 k) (ins n) ≡ fate.Up 0 0 k ∷ []
its_arrival k zero lt = absurd (omega (arith, lt))
its_arrival k (suc n) lt = filter_map-append (fate_of 0 k) (ins n) (entry.In 0 n (fate.Up 0 0 n) ∷ []) ∙ step (eqb_tells n k) (its_arrival k n)
  where
    step : ((nat_eq n k ≡ true) × (n ≡ k)) ⊎ ((nat_eq n k ≡ false) × (n ≢ k)) → (k < n → filter_map (fate_of 0 k) (ins n) ≡ fate.Up 0 0 k ∷ [])
        → filter_map (fate_of 0 k) (ins n) ++ filter_map (fate_of 0 k) (entry.In 0 n (fate.Up 0 0 n) ∷ []) ≡ fate.Up 0 0 k ∷ []
    step (inl w) ih = let same = w.1 in rw (later_arrivals k n (omega (arith, same)), w.0) (ap (λ (x : ℕ). fate.Up 0 0 x ∷ []) same)
    step (inr w) ih = let other = w.1 in rw (ih (omega (arith, lt, other)), w.0) refl

pub arrivals_here : (k n : ℕ) → k < n → arrivals 0 k (journal_b n) ≡ fate.Up 0 0 k ∷ []
arrivals_here k n lt = filter_map-append (fate_of 0 k) (ins n) (entry.Setting quiesce_dev 0 None ∷ []) ∙ rw (its_arrival k n lt) refl

-- so the one copy of a sent frame comes up
pub copy_here : (k n : ℕ) → k < n → copy_fates n (journal_a n) (journal_b n) (tag_at 0 0 0 k) 1 ≡ fate.Up 0 0 k ∷ []
copy_here k n lt =
    let there : nat_lt k n ≡ true = grind (arith, nat_tests) in
    rw there (ap (flat_map (way_fates 0 (journal_b n))) (ways_here k n lt) ∙ append-nil (arrivals 0 k (journal_b n)) ∙ arrivals_here k n lt)
