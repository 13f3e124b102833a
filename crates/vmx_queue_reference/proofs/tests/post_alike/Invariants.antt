use Rattle.std.proofs.Common.{◌≡◌, ◌≤◌, ◌*◌, length, true, vec_capacity}
use Rattle.vmx_ends.specs.Transmit.{posted, found_in}
use Rattle.vmx_ends.specs.TransmitClauses.{IsIdle, AreEven}
use Rattle.vmx_lists.specs.TxEnds.{driver_view, device_view}
use Rattle.vmx_io.specs.declared.buffer.TheConstants.{MAX_FRAME}
use Rattle.vmx_queue_reference.proofs.tests.post_alike.Given as goal

abbrev pub invariant-loop-at : goal.invariant-loop-at
invariant-loop-at l = record {
  one : (driver_view l.driver).key ≡ (device_view l.device).key;
  even : AreEven (driver_view l.driver) (device_view l.device);
  sent : length (driver_view l.driver).sent ≤ l.at;
  posted : posted (driver_view l.driver) ≤ 16 * l.at;
  reaped : (driver_view l.driver).reaped ≤ l.at;
  taken : length (device_view l.device).taken ≤ l.at;
  found : found_in (device_view l.device).taken ≤ 16 * l.at;
  idle : IsIdle (device_view l.device);
  full : (device_view l.device).made.full ≡ true;
  listed : MAX_FRAME ≤ vec_capacity l.listed;
  plainly : MAX_FRAME ≤ vec_capacity l.plainly;
}
