use Rattle.std.proofs.Common.{◌≡◌, ◌≤◌, ◌*◌, length, true, false, vec_capacity}
use Rattle.vmx_ends.specs.Receive.{used, pieces_of, consumed1, consumed2}
use Rattle.vmx_ends.specs.ReceiveClauses.{AreEven}
use Rattle.vmx_io.specs.declared.buffer.TheConstants.{MAX_FRAME}
use Rattle.vmx_forms_tests.proofs.tests.arrive_alike.Given as goal

abbrev pub invariant-loop-at : goal.invariant-loop-at
invariant-loop-at g l = record {
  one : (g.F.RxDriver.RxDriver.view l.driver).key ≡ (g.F.RxDevice.RxDevice.view l.device).key;
  even : AreEven (g.F.RxDriver.RxDriver.view l.driver) (g.F.RxDevice.RxDevice.view l.device);
  received : length (g.F.RxDriver.RxDriver.view l.driver).received ≤ l.at;
  read : used pieces_of (g.F.RxDriver.RxDriver.view l.driver).received ≤ 16 * l.at;
  delivered : length (g.F.RxDevice.RxDevice.view l.device).delivered ≤ l.at;
  refused : length (g.F.RxDevice.RxDevice.view l.device).refused ≤ l.at;
  consumed1 : consumed1 (g.F.RxDevice.RxDevice.view l.device) ≤ 16 * l.at;
  consumed2 : consumed2 (g.F.RxDevice.RxDevice.view l.device) ≤ 16 * l.at;
  left1 : l.plain.one.left ≤ 16 * l.at;
  left2 : l.plain.two.left ≤ 16 * l.at;
  driver_full : (g.F.RxDriver.RxDriver.view l.driver).made.full ≡ true;
  device_full : (g.F.RxDevice.RxDevice.view l.device).made.full ≡ true;
  given : (g.F.RxDevice.RxDevice.view l.device).given ≡ false;
  listed : MAX_FRAME ≤ vec_capacity l.listed;
  plainly : MAX_FRAME ≤ vec_capacity l.plainly;
}
