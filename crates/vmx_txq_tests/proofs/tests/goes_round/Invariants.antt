use Rattle.std.proofs.Common.{◌≡◌, ◌≤◌, ◌*◌, length, vec_capacity}
use Rattle.vmx_ends.specs.Transmit.{posted, found_in}
use Rattle.vmx_ends.specs.TransmitClauses.{IsIdle}
use Rattle.vmx_txq.specs.Ends.{driver_view, device_view}
use Rattle.vmx_txq_tests.proofs.tests.goes_round.Given as goal

abbrev pub invariant-loop-place : goal.invariant-loop-place
invariant-loop-place l = record {
  key : (driver_view l.driver).key ≡ (driver_view l.initial.driver).key;
  made : (driver_view l.driver).made ≡ (driver_view l.initial.driver).made;
  other : (device_view l.device).key ≡ (device_view l.initial.device).key;
  idle : IsIdle (device_view l.device);
  sent : length (driver_view l.driver).sent ≤ l.place;
  posted_most : posted (driver_view l.driver) ≤ 16 * l.place;
  reaped : (driver_view l.driver).reaped ≤ l.place;
  taken : length (device_view l.device).taken ≤ l.place;
  found : found_in (device_view l.device).taken ≤ 16 * l.place;
  room : vec_capacity l.initial.into ≤ vec_capacity l.into;
}
