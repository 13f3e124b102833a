use Rattle.std.proofs.Common.{◌≡◌, ◌≤◌, ◌*◌, length, true, vec_capacity}
use Rattle.vmx_io.specs.declared.buffer.TheConstants.{MAX_FRAME}
use Rattle.vmx_ends.specs.Receive.{used, pieces_of}
use Rattle.vmx_rxq.specs.Ends.{driver_view}
use Rattle.vmx_queue_bench.proofs.rx_queue.receive.Given as goal

abbrev pub invariant-loop-tries : goal.invariant-loop-tries
invariant-loop-tries l = record {
  full : (driver_view l.driver).made.full ≡ true;
  received : length (driver_view l.driver).received ≤ l.tries;
  read : used pieces_of (driver_view l.driver).received ≤ 16 * l.tries;
  number : l.number ≤ l.count;
  room : MAX_FRAME ≤ vec_capacity l.into;
}
