use Rattle.std.proofs.Common.{map}
use Rattle.vmx_model.specs.Serial.{rx_is, tried}
use Rattle.vmx_serial_queues.specs.Queues.{rx_core}
use Rattle.vmx_serial_queues.specs.Forms.{arrival_of}
use Rattle.vmx_serial_queues.proofs.Places.{Changed}
use Rattle.vmx_serial_queues.proofs.queues.deliver.Given as goal

abbrev pub invariant-loop-i : goal.invariant-loop-i
invariant-loop-i l = Changed rx_core (rx_is l.activation l.queue) (tried (arrival_of l.arrival)) (map rx_core l.fn.queues) l.i l.queues
