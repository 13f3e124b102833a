use Rattle.std.proofs.Common.{◌≡◌, ◌≤◌, ◌*◌, length, true, vec_capacity}
use Rattle.vmx_ends.specs.Transmit.{posted, found_in}
use Rattle.vmx_ends.specs.TransmitClauses.{IsIdle, AreEven}
use Rattle.vmx_io.specs.declared.buffer.TheConstants.{MAX_FRAME}
use Rattle.vmx_forms_tests.proofs.tests.post_alike.Given as goal

abbrev pub invariant-loop-at : goal.invariant-loop-at
invariant-loop-at g l = record {
  one : (g.F.TxDriver.TxDriver.view l.driver).key ≡ (g.F.TxDevice.TxDevice.view l.device).key;
  even : AreEven (g.F.TxDriver.TxDriver.view l.driver) (g.F.TxDevice.TxDevice.view l.device);
  sent : length (g.F.TxDriver.TxDriver.view l.driver).sent ≤ l.at;
  posted : posted (g.F.TxDriver.TxDriver.view l.driver) ≤ 16 * l.at;
  reaped : (g.F.TxDriver.TxDriver.view l.driver).reaped ≤ l.at;
  taken : length (g.F.TxDevice.TxDevice.view l.device).taken ≤ l.at;
  found : found_in (g.F.TxDevice.TxDevice.view l.device).taken ≤ 16 * l.at;
  idle : IsIdle (g.F.TxDevice.TxDevice.view l.device);
  full : (g.F.TxDevice.TxDevice.view l.device).made.full ≡ true;
  listed : MAX_FRAME ≤ vec_capacity l.listed;
  plainly : MAX_FRAME ≤ vec_capacity l.plainly;
}
