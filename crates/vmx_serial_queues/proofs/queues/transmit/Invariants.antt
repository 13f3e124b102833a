use Rattle.std.proofs.Common.{map}
use Rattle.vmx_model.specs.Serial.{tx_is, through}
use Rattle.vmx_serial_queues.specs.Queues.{tx_core, marked}
use Rattle.vmx_serial_queues.proofs.Places.{Changed}
use Rattle.vmx_serial_queues.proofs.queues.transmit.Given as goal

abbrev pub invariant-loop-i : goal.invariant-loop-i
invariant-loop-i l = Changed tx_core (tx_is l.activation l.queue) (through (marked l.frame l.mark)) (map tx_core l.fn.queues) l.i l.queues
