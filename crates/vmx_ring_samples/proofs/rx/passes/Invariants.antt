use Rattle.std.proofs.Common.{◌≡◌, ◌≤◌, ◌*◌, length, true, vec_capacity}
use Rattle.vmx_io.specs.declared.buffer.TheConstants.{MAX_FRAME}
use Rattle.vmx_ends.specs.Receive.{used, pieces_of, consumed1, consumed2}
use Rattle.vmx_rxq.specs.Ends.{driver_view, device_view}
use Rattle.vmx_ring_samples.proofs.rx.passes.Given as goal

abbrev pub invariant-loop-number : goal.invariant-loop-number
invariant-loop-number l = record {
  keys : ((driver_view l.driver).key ≡ (driver_view l.fn.driver).key) × ((device_view l.device).key ≡ (device_view l.fn.device).key);
  made : (driver_view l.driver).made ≡ (driver_view l.fn.driver).made;
  full : (driver_view l.driver).made.full ≡ true;
  delivered : length (device_view l.device).delivered ≤ l.number;
  refused : length (device_view l.device).refused ≤ l.number;
  one : consumed1 (device_view l.device) ≤ 16 * l.number;
  two : consumed2 (device_view l.device) ≤ 16 * l.number;
  received : length (driver_view l.driver).received ≤ l.number;
  read : used pieces_of (driver_view l.driver).received ≤ 16 * l.number;
  room : MAX_FRAME ≤ vec_capacity l.into;
}
