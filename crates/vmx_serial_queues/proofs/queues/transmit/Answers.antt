use Rattle.std.proofs.Common.{map, arith}
use Rattle.std.proofs.lemmas.List.{length-map}
use Rattle.vmx_model.specs.Serial.{tx_is, through}
use Rattle.vmx_serial_queues.specs.Queues.{tx_core, marked}
use Rattle.vmx_serial_queues.proofs.Places.{changed_next, changed_length}
use Rattle.vmx_serial_queues.proofs.queues.transmit.Goals as goal

pub loop-i-preserved : goal.loop-i-preserved
loop-i-preserved c = let a = c.args in let l = c.loop-i in let len = changed_length tx_core (tx_is a.activation a.queue) (through (marked a.frame.now a.mark.now)) (map tx_core a.queues.now) l.i l.queues l.invariant in
    changed_next tx_core (tx_is a.activation a.queue) (through (marked a.frame.now a.mark.now)) (map tx_core a.queues.now) l.i l.queues c.at_mut.result.now c.through_if.new.at l.invariant (omega (arith, length-map a.queues.now tx_core)) c.at_mut.ensures.value c.in_ok-through_if.ensures.through
