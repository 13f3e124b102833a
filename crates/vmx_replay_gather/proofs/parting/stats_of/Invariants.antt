use Rattle.std.proofs.Common.{◌≡◌, length, map, take}
use Rattle.vmx_machine_state.specs.Statistics.{stats_on}
use Rattle.vmx_replay_gather.proofs.parting.stats_of.Given as goal

abbrev pub invariant-loop-queue : goal.invariant-loop-queue
invariant-loop-queue g l = (length l.all ≡ 8) × (map (λ s. s.counts) (take l.queue l.all) ≡ take l.queue (stats_on l.side l.machine))
