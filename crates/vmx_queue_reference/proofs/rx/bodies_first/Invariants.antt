use Rattle.std.proofs.Common.{◌≡◌, ℕ, ◌<◌, get_or, true}
use Rattle.vmx_queue_reference.specs.declared.rx.Buffer.{Buffer}
use Rattle.vmx_queue_reference.proofs.rx.bodies_first.Given as goal

abbrev pub invariant-loop-i : goal.invariant-loop-i
invariant-loop-i l = (k : ℕ) (d : Buffer) → k < l.i → (get_or l.buffers k d).body ≡ true
