use Rattle.std.proofs.Common.{◌≤◌, ◌*◌, length, vec_capacity}
use Rattle.vmx_ends.specs.Transmit.{found_in}
use Rattle.vmx_ends.specs.TransmitClauses.{IsIdle}
use Rattle.vmx_txq.specs.Ends.{device_view}
use Rattle.vmx_txq_tests.specs.Same.{SameDevice}
use Rattle.vmx_txq_tests.proofs.tests.receive.Given as goal

abbrev pub invariant-loop-tries : goal.invariant-loop-tries
invariant-loop-tries l = record {
  kept : SameDevice (device_view l.initial.device) (device_view l.device);
  idle : IsIdle (device_view l.device);
  taken : length (device_view l.device).taken ≤ l.tries;
  found : found_in (device_view l.device).taken ≤ 16 * l.tries;
  number : l.number ≤ l.tries;
  same : l.same ≤ l.tries;
  room : 9022 ≤ vec_capacity l.into;
}
