use Rattle.std.proofs.Common.{◌≡◌}
use Rattle.vmx_ends.specs.ReceiveClauses.{made_of}
use Rattle.vmx_queue_reference.specs.PlainSupplies.{buffer1, run_of}
use Rattle.vmx_queue_reference.proofs.rx.heads_and_bodies.Given as goal

abbrev pub invariant-loop-number : goal.invariant-loop-number
invariant-loop-number l = l.buffers ≡ run_of (buffer1 (made_of l.shape)) 0 l.number
