use Rattle.std.proofs.Common.{◌≤◌, ◌*◌, length, vec_capacity}
use Rattle.vmx_io.specs.declared.buffer.TheConstants.{MAX_FRAME}
use Rattle.vmx_ends.specs.Transmit.{found_in}
use Rattle.vmx_ends.specs.TransmitClauses.{IsIdle}
use Rattle.vmx_txq.specs.Ends.{device_view}
use Rattle.vmx_queue_bench.proofs.tx_queue.receive.Given as goal

abbrev pub invariant-loop-tries : goal.invariant-loop-tries
invariant-loop-tries l = record {
  idle : IsIdle (device_view l.device);
  taken : length (device_view l.device).taken ≤ l.tries;
  found : found_in (device_view l.device).taken ≤ 16 * l.tries;
  number : l.number ≤ l.count;
  room : MAX_FRAME ≤ vec_capacity l.into;
}
