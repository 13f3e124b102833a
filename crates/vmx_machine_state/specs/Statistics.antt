-- The statistics of a queue: ten counts, in the order of its descriptor.
use Rattle.std.specs.Prelude.{◌≡◌, ℕ, ◌+◌, ◌-◌, ◌^◌, min, map, List, [], slice_index, slice_index_or, slice_set}
use Rattle.vmx_frame.specs.declared.kinds.Class.{Class}
use Rattle.vmx_frame.specs.declared.kinds.Class.TheVariants.{Broadcast, Multicast, Unicast}
use Rattle.vmx_shared_area.specs.declared.stats.Side.{Side}
use Rattle.vmx_shared_area.specs.declared.stats.Side.TheVariants.{Tx, Rx}
use Rattle.vmx_machine_state.specs.declared.statistics.Count.{Count}
use Rattle.vmx_machine_state.specs.declared.statistics.Count.TheVariants.{Frame, NoBuffer, Error, Discard}
use Rattle.vmx_machine_state.specs.declared.statistics.TheConstants.{UNICAST_FRAMES, MULTICAST_FRAMES, BROADCAST_FRAMES, TX_ERRORS, TX_DISCARDS, RX_NO_BUFFERS, RX_ERRORS}
use Rattle.vmx_machine_state.specs.Views.{MachineView}

-- a count stands still at its last value
abbrev pub still : ℕ → ℕ
still n = min n (2 ^ 64 - 1)

-- the count at a place goes up by a number, and is kept as `keep` says
abbrev pub raised_by : (ℕ → ℕ) → ℕ → ℕ → List ℕ → List ℕ
raised_by keep place n counts = slice_set counts place (keep (slice_index counts place + n))

abbrev pub raised : ℕ → ℕ → List ℕ → List ℕ
raised = raised_by still

-- where the frames of a class are counted; their bytes stand behind them
abbrev pub frames_at : Class → ℕ
frames_at Unicast = UNICAST_FRAMES
frames_at Multicast = MULTICAST_FRAMES
frames_at Broadcast = BROADCAST_FRAMES

-- the ten counts after one thing more: a frame and its bytes by its class; transmit has errors and discards last, receive frames without buffer and errors
abbrev pub counted_by : (ℕ → ℕ) → Side → Count → List ℕ → List ℕ
counted_by keep side (Frame class bytes) counts = raised_by keep (frames_at class + 1) bytes (raised_by keep (frames_at class) 1 counts)
counted_by keep Tx Error counts = raised_by keep TX_ERRORS 1 counts
counted_by keep Tx Discard counts = raised_by keep TX_DISCARDS 1 counts
counted_by keep Tx NoBuffer counts = counts
counted_by keep Rx NoBuffer counts = raised_by keep RX_NO_BUFFERS 1 counts
counted_by keep Rx Error counts = raised_by keep RX_ERRORS 1 counts
counted_by keep Rx Discard counts = counts

abbrev pub counted : Side → Count → List ℕ → List ℕ
counted = counted_by still

-- the same as sums, which have no last value
abbrev pub summed : Side → Count → List ℕ → List ℕ
summed = counted_by (λ n. n)

-- a transmit queue lacks no buffer, and a receive queue discards nothing
abbrev pub IsCounted : Side → Count → Type 0
IsCounted side (Frame class bytes) = Unit {0}
IsCounted side Error = Unit {0}
IsCounted Tx Discard = Unit {0}
IsCounted Tx NoBuffer = ⊥
IsCounted Rx NoBuffer = Unit {0}
IsCounted Rx Discard = ⊥

-- the statistics of a side
abbrev pub stats_on : Side → MachineView → List (List ℕ)
stats_on Tx m = m.tx_stats
stats_on Rx m = m.rx_stats

-- the machine with other statistics on a side
abbrev pub with_stats_on : Side → List (List ℕ) → MachineView → MachineView
with_stats_on Tx all m = record m { tx_stats = all }
with_stats_on Rx all m = record m { rx_stats = all }

-- the machine after one thing more on one queue
abbrev pub after_count : Side → ℕ → Count → MachineView → MachineView
after_count side q what m = with_stats_on side (slice_set (stats_on side m) q (counted side what (slice_index_or (stats_on side m) q []))) m

-- where a queue's counts are sums that stand still at their last value, they are so after one thing more
abbrev pub AreSumsAfter : Side → ℕ → Count → MachineView → MachineView → Type 0
AreSumsAfter side q what old new = (sums : List ℕ) → slice_index_or (stats_on side old) q [] ≡ map still sums → slice_index_or (stats_on side new) q [] ≡ map still (summed side what sums)
