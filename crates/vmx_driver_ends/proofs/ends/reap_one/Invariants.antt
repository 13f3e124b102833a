use Rattle.std.proofs.Common.{◌≡◌, ◌≤◌, ◌-◌, ◌+◌, length}
use Rattle.vmx_driver_steps.specs.Queues.{IsFine}
use Rattle.vmx_driver_ends.proofs.ends.reap_one.Given as goal

abbrev pub invariant-loop-count : goal.invariant-loop-count
invariant-loop-count g l = let view = g.F.TxDriver.TxDriver.view in record {
  is : view l.end ≡ record (view l.fn.end) { reaped = (view l.end).reaped };
  fine : IsFine (view l.end);
  more : (view l.fn.end).reaped ≤ (view l.end).reaped;
  count : (view l.fn.end).reaped + l.count ≡ (view l.end).reaped;
}

abbrev pub decreases-loop-count : goal.decreases-loop-count
decreases-loop-count g l = let view = g.F.TxDriver.TxDriver.view in length (view l.end).sent - (view l.end).reaped
