use Rattle.std.proofs.Common.{◌≡◌, ◌≤◌, ◌*◌, length, true, vec_capacity}
use Rattle.vmx_ends.specs.Receive.{used, pieces_of, consumed1, consumed2}
use Rattle.vmx_ends.specs.ReceiveClauses.{AreEven}
use Rattle.vmx_lists.specs.RxEnds.{driver_view, device_view}
use Rattle.vmx_io.specs.declared.buffer.TheConstants.{MAX_FRAME}
use Rattle.vmx_queue_reference.proofs.tests.arrive_alike.Given as goal

abbrev pub invariant-loop-at : goal.invariant-loop-at
invariant-loop-at l = record {
  one : (driver_view l.driver).key ≡ (device_view l.device).key;
  even : AreEven (driver_view l.driver) (device_view l.device);
  received : length (driver_view l.driver).received ≤ l.at;
  read : used pieces_of (driver_view l.driver).received ≤ 16 * l.at;
  delivered : length (device_view l.device).delivered ≤ l.at;
  refused : length (device_view l.device).refused ≤ l.at;
  consumed1 : consumed1 (device_view l.device) ≤ 16 * l.at;
  consumed2 : consumed2 (device_view l.device) ≤ 16 * l.at;
  left1 : l.plain.one.left ≤ 16 * l.at;
  left2 : l.plain.two.left ≤ 16 * l.at;
  driver_full : (driver_view l.driver).made.full ≡ true;
  device_full : (device_view l.device).made.full ≡ true;
  listed : MAX_FRAME ≤ vec_capacity l.listed;
  plainly : MAX_FRAME ≤ vec_capacity l.plainly;
}
