use Rattle.std.proofs.Common.{◌≡◌, ◌≤◌, ◌+◌, ◌*◌, ◌^◌, length, map, All}
use Rattle.vmx_driver_steps.specs.Queues.{IsFine, IsReaped}
use Rattle.vmx_driver_steps.specs.Driving.{unreaped}
use Rattle.vmx_driver_ends.specs.UpTo.{UpTo}
use Rattle.vmx_driver_ends.proofs.ends.reap_all.Given as goal

abbrev pub invariant-loop-queue : goal.invariant-loop-queue
invariant-loop-queue g l = let view = g.F.TxDriver.TxDriver.view in record {
  many : length l.tx ≡ length l.fn.tx;
  fine : All IsFine (map view l.tx);
  reaped : UpTo IsReaped l.queue (map view l.fn.tx) (map view l.tx);
  total : unreaped (map view l.tx) + l.count ≡ unreaped (map view l.fn.tx);
  low : l.count ≤ l.queue * 2 ^ 58;
}
