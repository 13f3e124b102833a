use Rattle.std.proofs.Common.{◌≡◌, map}
use Rattle.vmx_machine_state.specs.Images.{with_stats}
use Rattle.vmx_machine_state.proofs.images.write_all_stats.Given as goal

abbrev pub invariant-loop-queue : goal.invariant-loop-queue
invariant-loop-queue l = l.image ≡ with_stats l.behind l.side (map (λ s. s.counts) l.stats) l.queue l.initial.image
