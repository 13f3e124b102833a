use Rattle.std.proofs.Common.{◌≡◌, ◌-◌}
use Rattle.vmx_shared_area.specs.Checks.{first_fault, queue_fault}
use Rattle.vmx_shared_area.proofs.checks.check_side.Given as goal

abbrev pub invariant-loop-q : goal.invariant-loop-q
invariant-loop-q l =
    first_fault (queue_fault l.check l.side l.bytes) l.q (l.queues - l.q) ≡ first_fault (queue_fault l.check l.side l.bytes) 0 l.queues
