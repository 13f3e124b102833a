use Rattle.std.proofs.Common.{◌≤◌, ◌-◌, length}
use Rattle.vmx_driver_ends.proofs.ends.make_room.Given as goal

abbrev pub invariant-loop-alloc : goal.invariant-loop-alloc
invariant-loop-alloc l = length l.fn.pool ≤ length l.pool

abbrev pub decreases-loop-alloc : goal.decreases-loop-alloc
decreases-loop-alloc l = l.count - length l.pool
