use Rattle.std.proofs.Common.{map}
use Rattle.vmx_model.specs.Serial.{is_of, received_next}
use Rattle.vmx_serial_queues.specs.Queues.{rx_core}
use Rattle.vmx_serial_queues.proofs.Places.{Changed}
use Rattle.vmx_serial_queues.proofs.queues.receive_each.Given as goal

abbrev pub invariant-loop-i : goal.invariant-loop-i
invariant-loop-i l = Changed rx_core (is_of l.activation) received_next (map rx_core l.fn.queues) l.i l.queues
