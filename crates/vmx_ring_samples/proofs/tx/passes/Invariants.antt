use Rattle.std.proofs.Common.{◌≡◌, ◌≤◌, ◌*◌, length, vec_capacity}
use Rattle.vmx_io.specs.declared.buffer.TheConstants.{MAX_FRAME}
use Rattle.vmx_ends.specs.Transmit.{posted, found_in}
use Rattle.vmx_ends.specs.TransmitClauses.{IsIdle}
use Rattle.vmx_txq.specs.Ends.{driver_view, device_view}
use Rattle.vmx_ring_samples.proofs.tx.passes.Given as goal

abbrev pub invariant-loop-number : goal.invariant-loop-number
invariant-loop-number l = record {
  keys : ((driver_view l.driver).key ≡ (driver_view l.fn.driver).key) × ((device_view l.device).key ≡ (device_view l.fn.device).key);
  made : (driver_view l.driver).made ≡ (driver_view l.fn.driver).made;
  idle : IsIdle (device_view l.device);
  sent : length (driver_view l.driver).sent ≤ l.number;
  posted_most : posted (driver_view l.driver) ≤ 16 * l.number;
  reaped : (driver_view l.driver).reaped ≤ l.number;
  taken : length (device_view l.device).taken ≤ l.number;
  found : found_in (device_view l.device).taken ≤ 16 * l.number;
  room : MAX_FRAME ≤ vec_capacity l.into;
}
