use Rattle.std.proofs.Common.{◌≡◌, ◌++◌, map, drop, filter_map}
use Rattle.vmx_model.specs.Serial.{up_next}
use Rattle.vmx_serial_queues.specs.Queues.{rx_core}
use Rattle.vmx_serial_queues.proofs.queues.hand_up.Given as goal

abbrev pub invariant-loop-queue : goal.invariant-loop-queue
invariant-loop-queue l = l.received ++ filter_map (up_next l.activation) (map rx_core (drop l.queue-index l.queues)) ≡ l.fn.received ++ filter_map (up_next l.activation) (map rx_core l.queues)
