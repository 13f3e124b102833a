use Rattle.std.proofs.Common.{◌≤◌, ◌*◌, length}
use Rattle.vmx_ends.specs.Transmit.{posted}
use Rattle.vmx_txq.specs.Ends.{driver_view}
use Rattle.vmx_queue_bench.proofs.tx_queue.send.Given as goal

abbrev pub invariant-loop-tries : goal.invariant-loop-tries
invariant-loop-tries l = record {
  sent : length (driver_view l.driver).sent ≤ l.tries;
  posted_most : posted (driver_view l.driver) ≤ 16 * l.tries;
  reaped : (driver_view l.driver).reaped ≤ l.tries;
  number : l.number ≤ l.count;
}
