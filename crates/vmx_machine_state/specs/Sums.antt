-- The counts are sums that stand still at their last value.
use Rattle.std.proofs.Common.{◌≡◌, ℕ, ◌+◌, ◌<◌, List, [], length, map, get_or, set, refl, sym, ap, ◌∙◌, arith}
use Rattle.std.proofs.Math.ListN.{get_or-map}
use Rattle.std.proofs.lemmas.List.{map-set, get_or-set_same}
use Rattle.vmx_shared_area.specs.declared.stats.Side.{Side}
use Rattle.vmx_shared_area.specs.declared.stats.Side.TheVariants.{Tx, Rx}
use Rattle.vmx_machine_state.specs.declared.statistics.Count.{Count}
use Rattle.vmx_machine_state.specs.declared.statistics.Count.TheVariants.{Frame, NoBuffer, Error, Discard}
use Rattle.vmx_machine_state.specs.declared.statistics.TheConstants.{TX_ERRORS, TX_DISCARDS, RX_NO_BUFFERS, RX_ERRORS}
use Rattle.vmx_machine_state.specs.Views.{MachineView}
use Rattle.vmx_machine_state.specs.Statistics.{still, raised_by, raised, frames_at, counted, summed, stats_on, after_count, AreSumsAfter}

-- a sum that stands still, and then goes up
pub still_adds : (a b : ℕ) → still (still a + b) ≡ still (a + b)
still_adds a b = omega arith

still_at : (sums : List ℕ) (place : ℕ) → get_or (map still sums) place 0 ≡ still (get_or sums place 0)
still_at sums place = get_or-map still sums place 0

raised_still : (place n : ℕ) (sums : List ℕ) → raised place n (map still sums) ≡ map still (raised_by (λ k. k) place n sums)
raised_still place n sums =
    ap (λ (k : ℕ). set (map still sums) place (still (k + n))) (still_at sums place) ∙ ap (λ (k : ℕ). set (map still sums) place k) (still_adds (get_or sums place 0) n)
    ∙ sym (map-set still sums place (get_or sums place 0 + n))

-- one thing more, counted or summed
pub counts_are_sums : (side : Side) (what : Count) (sums : List ℕ) → counted side what (map still sums) ≡ map still (summed side what sums)
counts_are_sums side (Frame class bytes) sums =
    ap (raised (frames_at class + 1) bytes) (raised_still (frames_at class) 1 sums) ∙ raised_still (frames_at class + 1) bytes (raised_by (λ k. k) (frames_at class) 1 sums)
counts_are_sums Tx Error sums = raised_still TX_ERRORS 1 sums
counts_are_sums Tx Discard sums = raised_still TX_DISCARDS 1 sums
counts_are_sums Tx NoBuffer sums = refl
counts_are_sums Rx NoBuffer sums = raised_still RX_NO_BUFFERS 1 sums
counts_are_sums Rx Error sums = raised_still RX_ERRORS 1 sums
counts_are_sums Rx Discard sums = refl

-- the counts of the queue on which a thing more was counted
pub count_after : (side : Side) (q : ℕ) (what : Count) (m : MachineView) → q < length (stats_on side m) → get_or (stats_on side (after_count side q what m)) q [] ≡ counted side what (get_or (stats_on side m) q [])
count_after Tx q what m lt = get_or-set_same m.tx_stats q (counted Tx what (get_or m.tx_stats q [])) [] lt
count_after Rx q what m lt = get_or-set_same m.rx_stats q (counted Rx what (get_or m.rx_stats q [])) [] lt

pub sums_after : (side : Side) (q : ℕ) (what : Count) (old new : MachineView) → q < length (stats_on side old) → new ≡ after_count side q what old → AreSumsAfter side q what old new
sums_after side q what old new lt e sums are =
    ap (λ (m : MachineView). get_or (stats_on side m) q []) e ∙ count_after side q what old lt ∙ ap (counted side what) are ∙ counts_are_sums side what sums
