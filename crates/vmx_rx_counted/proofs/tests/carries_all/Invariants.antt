use Rattle.std.proofs.Common.{◌≡◌, ◌≤◌, ◌+◌, ◌*◌, length, true, vec_capacity}
use Rattle.vmx_ends.specs.Receive.{used, pieces_of, consumed1, consumed2}
use Rattle.vmx_rx_counted.specs.Ends.{device_view}
use Rattle.vmx_rx_counted.specs.Ends.{driver_view}
use Rattle.vmx_io.specs.declared.buffer.TheConstants.{MAX_FRAME}
use Rattle.vmx_rx_counted.proofs.tests.carries_all.Given as goal

abbrev pub invariant-loop-place : goal.invariant-loop-place
invariant-loop-place l = record {
  room : MAX_FRAME ≤ vec_capacity l.into;
  driver_full : (driver_view l.driver).made.full ≡ true;
  delivered : length (device_view l.device).delivered ≤ 1000 + l.place;
  refused : length (device_view l.device).refused ≤ 1000 + l.place;
  one : consumed1 (device_view l.device) ≤ 1000 + 16 * l.place;
  two : consumed2 (device_view l.device) ≤ 1000 + 16 * l.place;
  received : length (driver_view l.driver).received ≤ 1000 + l.place;
  read : used pieces_of (driver_view l.driver).received ≤ 20000 + 16 * l.place;
}
