use Rattle.std.proofs.Common.{◌≤◌, ◌*◌, length, vec_capacity}
use Rattle.vmx_io.specs.declared.buffer.TheConstants.{MAX_FRAME}
use Rattle.vmx_ends.specs.Transmit.{posted, found_in}
use Rattle.vmx_ends.specs.TransmitClauses.{IsIdle}
use Rattle.vmx_txq.specs.Ends.{driver_view, device_view}
use Rattle.vmx_queue_bench.proofs.tx_queue.one_by_one.Given as goal

abbrev pub invariant-loop-done : goal.invariant-loop-done
invariant-loop-done l = record {
  idle : IsIdle (device_view l.device);
  sent : length (driver_view l.driver).sent ≤ l.done;
  posted_most : posted (driver_view l.driver) ≤ 16 * l.done;
  reaped : (driver_view l.driver).reaped ≤ l.done;
  taken : length (device_view l.device).taken ≤ l.done;
  found : found_in (device_view l.device).taken ≤ 16 * l.done;
  room : MAX_FRAME ≤ vec_capacity l.into;
}
