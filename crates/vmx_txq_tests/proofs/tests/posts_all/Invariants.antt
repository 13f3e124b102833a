use Rattle.std.proofs.Common.{◌≡◌, ◌≤◌, ◌+◌, ◌*◌, length}
use Rattle.vmx_ends.specs.Transmit.{posted}
use Rattle.vmx_txq.specs.Ends.{driver_view}
use Rattle.vmx_txq_tests.proofs.tests.posts_all.Given as goal

abbrev pub invariant-loop-place : goal.invariant-loop-place
invariant-loop-place l = record {
  sent : length (driver_view l.driver).sent ≤ 1000 + l.place;
  posted : posted (driver_view l.driver) ≤ 1000 + 16 * l.place;
  reaped : (driver_view l.driver).reaped ≡ (driver_view l.initial.driver).reaped;
}
