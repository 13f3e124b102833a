use Rattle.std.proofs.Common.{◌≡◌, ◌≤◌, ◌*◌, length, true, vec_capacity}
use Rattle.vmx_io.specs.declared.buffer.TheConstants.{MAX_FRAME}
use Rattle.vmx_ends.specs.Receive.{used, pieces_of, consumed1, consumed2}
use Rattle.vmx_rxq.specs.Ends.{driver_view, device_view}
use Rattle.vmx_queue_bench.proofs.rx_queue.one_by_one.Given as goal

abbrev pub invariant-loop-done : goal.invariant-loop-done
invariant-loop-done l = record {
  room : MAX_FRAME ≤ vec_capacity l.into;
  full : (driver_view l.driver).made.full ≡ true;
  delivered : length (device_view l.device).delivered ≤ l.done;
  refused : length (device_view l.device).refused ≤ l.done;
  one : consumed1 (device_view l.device) ≤ 16 * l.done;
  two : consumed2 (device_view l.device) ≤ 16 * l.done;
  received : length (driver_view l.driver).received ≤ l.done;
  read : used pieces_of (driver_view l.driver).received ≤ 16 * l.done;
}
