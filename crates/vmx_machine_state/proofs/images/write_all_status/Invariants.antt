use Rattle.std.proofs.Common.{◌≡◌}
use Rattle.vmx_machine_state.specs.Images.{with_status}
use Rattle.vmx_machine_state.proofs.images.write_all_status.Given as goal

abbrev pub invariant-loop-queue : goal.invariant-loop-queue
invariant-loop-queue l = l.image ≡ with_status l.behind l.side l.errors l.queue l.initial.image
