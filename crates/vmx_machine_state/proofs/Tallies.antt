-- The statistics of a side as lists, where one queue's change.
use Rattle.std.proofs.Common.{◌≡◌, ℕ, ◌<◌, List, [], length, map, get_or, set, sym, ap, ◌∙◌, subst}
use Rattle.std.proofs.lemmas.List.{map-set, get_or-map, length-map}
use Rattle.vmx_shared_area.specs.declared.stats.Side.{Side}
use Rattle.vmx_shared_area.specs.declared.stats.Side.TheVariants.{Tx, Rx}
use Rattle.vmx_shared_area.specs.declared.stats.Stats.{Stats}
use Rattle.vmx_machine_state.specs.declared.statistics.Count.{Count}
use Rattle.vmx_machine_state.specs.Views.{MachineView}
use Rattle.vmx_machine_state.specs.Statistics.{counted, stats_on, after_count}
use Rattle.vmx_machine_state.specs.Readings.{counts_of}

module _ (xs : List Stats) (q : ℕ) (x : Stats) (lt : q < length xs) (is : x ≡ get_or xs q x) where
  -- the counts that stand at an index
  pub counts_there : get_or (map counts_of xs) q [] ≡ x.counts
  counts_there = get_or-map counts_of xs q x [] lt ∙ sym (ap counts_of is)

  counts_after : (new : Stats) (side : Side) (what : Count) → new.counts ≡ counted side what (get_or xs q x).counts → map counts_of (set xs q new) ≡ set (map counts_of xs) q (counted side what (get_or (map counts_of xs) q []))
  counts_after new side what e = map-set counts_of xs q new ∙ ap (λ (l : List ℕ). set (map counts_of xs) q l) (e ∙ ap (counted side what) (sym (ap counts_of is) ∙ sym counts_there))

  -- the machine after a count on either side
  pub tx_counted : (was now : MachineView) → was ≡ now → was.tx_stats ≡ map counts_of xs → (side : Side) → side ≡ Tx → (what : Count) (new : Stats) → new.counts ≡ counted side what (get_or xs q x).counts
      → record was { tx_stats = map counts_of (set xs q new) } ≡ after_count side q what now
  tx_counted was now same all side on what new e =
      ap (λ (l : List (List ℕ)). record was { tx_stats = l }) (counts_after new side what e ∙ ap (λ (l : List (List ℕ)). set l q (counted side what (get_or l q []))) (sym all))
      ∙ ap (λ (s : Side). record was { tx_stats = set was.tx_stats q (counted s what (get_or was.tx_stats q [])) }) on
      ∙ ap (after_count Tx q what) same ∙ ap (λ (s : Side). after_count s q what now) (sym on)

  pub rx_counted : (was now : MachineView) → was ≡ now → was.rx_stats ≡ map counts_of xs → (side : Side) → side ≡ Rx → (what : Count) (new : Stats) → new.counts ≡ counted side what (get_or xs q x).counts
      → record was { rx_stats = map counts_of (set xs q new) } ≡ after_count side q what now
  rx_counted was now same all side on what new e =
      ap (λ (l : List (List ℕ)). record was { rx_stats = l }) (counts_after new side what e ∙ ap (λ (l : List (List ℕ)). set l q (counted side what (get_or l q []))) (sym all))
      ∙ ap (λ (s : Side). record was { rx_stats = set was.rx_stats q (counted s what (get_or was.rx_stats q [])) }) on
      ∙ ap (after_count Rx q what) same ∙ ap (λ (s : Side). after_count s q what now) (sym on)

  -- what a reader of a side answers
  pub tx_told : (was now : MachineView) → was ≡ now → was.tx_stats ≡ map counts_of xs → (side : Side) → side ≡ Tx → (get_or xs q x).counts ≡ get_or (stats_on side now) q []
  tx_told was now same all side on =
      sym (ap counts_of is) ∙ sym counts_there ∙ ap (λ (l : List (List ℕ)). get_or l q []) (sym all)
      ∙ ap (λ (m : MachineView). get_or m.tx_stats q []) same ∙ ap (λ (s : Side). get_or (stats_on s now) q []) (sym on)

  pub rx_told : (was now : MachineView) → was ≡ now → was.rx_stats ≡ map counts_of xs → (side : Side) → side ≡ Rx → (get_or xs q x).counts ≡ get_or (stats_on side now) q []
  rx_told was now same all side on =
      sym (ap counts_of is) ∙ sym counts_there ∙ ap (λ (l : List (List ℕ)). get_or l q []) (sym all)
      ∙ ap (λ (m : MachineView). get_or m.rx_stats q []) same ∙ ap (λ (s : Side). get_or (stats_on s now) q []) (sym on)

-- an index of the statistics is one of their counts
pub many : (xs : List Stats) (q : ℕ) → q < length xs → (all : List (List ℕ)) → all ≡ map counts_of xs → q < length all
many xs q lt all is = subst (λ (l : List (List ℕ)). q < length l) (sym is) (rw length-map lt)
