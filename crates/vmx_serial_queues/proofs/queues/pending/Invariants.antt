use Rattle.std.proofs.Common.{◌≡◌, ◌≤◌, ◌+◌, ◌*◌, ◌^◌, map, drop}
use Rattle.vmx_model.specs.Serial.{pending}
use Rattle.vmx_serial_queues.specs.Queues.{rx_core}
use Rattle.vmx_serial_queues.proofs.queues.pending.Given as goal

abbrev pub invariant-loop-queue : goal.invariant-loop-queue
invariant-loop-queue l = record {
  sum : l.pending + pending (map rx_core (drop l.queue-index l.queues)) ≡ pending (map rx_core l.queues);
  few : l.pending ≤ 2 ^ 64 * l.queue-index;
}
