use Rattle.std.proofs.Common.{◌≤◌, ◌+◌, ◌*◌, length}
use Rattle.vmx_ends.specs.Transmit.{posted}
use Rattle.vmx_lists.specs.TxEnds.{driver_view}
use Rattle.vmx_lists.proofs.tests.posts_all.Given as goal

abbrev pub invariant-loop-place : goal.invariant-loop-place
invariant-loop-place l = record {
  sent : length (driver_view l.driver).sent ≤ 1000 + l.place;
  posted : posted (driver_view l.driver) ≤ 1000 + 16 * l.place;
}
