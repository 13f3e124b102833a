use Rattle.std.proofs.Common.{◌≡◌, length}
use Rattle.vmx_device.proofs.growing.fill.Given as goal

abbrev pub invariant-loop-count : goal.invariant-loop-count
invariant-loop-count l = l._count ≡ length l.copies
