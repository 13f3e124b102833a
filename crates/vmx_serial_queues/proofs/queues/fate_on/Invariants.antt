use Rattle.std.proofs.Common.{◌≡◌, map, drop, find}
use Rattle.vmx_model.specs.Serial.{rx_is}
use Rattle.vmx_serial_queues.specs.Queues.{rx_core}
use Rattle.vmx_serial_queues.proofs.queues.fate_on.Given as goal

abbrev pub invariant-loop-at : goal.invariant-loop-at
invariant-loop-at l = find (rx_is l.activation l.queue) (map rx_core l.queues) ≡ find (rx_is l.activation l.queue) (map rx_core (drop l.at-index l.queues))
