use Rattle.std.proofs.Common.{map, arith}
use Rattle.std.proofs.lemmas.List.{length-map}
use Rattle.vmx_model.specs.Serial.{is_of, received_next}
use Rattle.vmx_serial_queues.specs.Queues.{rx_core}
use Rattle.vmx_serial_queues.proofs.Places.{changed_next, changed_length}
use Rattle.vmx_serial_queues.proofs.queues.receive_each.Goals as goal

pub loop-i-preserved : goal.loop-i-preserved
loop-i-preserved c = let a = c.args in let l = c.loop-i in let len = changed_length rx_core (is_of a.activation) received_next (map rx_core a.queues.now) l.i l.queues l.invariant in
    changed_next rx_core (is_of a.activation) received_next (map rx_core a.queues.now) l.i l.queues c.at_mut.result.now c.receive_if.new.at l.invariant (omega (arith, length-map a.queues.now rx_core)) c.at_mut.ensures.value c.receive_if.ensures.received
