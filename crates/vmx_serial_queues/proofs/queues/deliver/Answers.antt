use Rattle.std.proofs.Common.{map, arith, subst, sym}
use Rattle.std.proofs.lemmas.List.{length-map}
use Rattle.vmx_model.specs.Serial.{rx_is, tried}
use Rattle.vmx_serial_queues.specs.Queues.{rx_core}
use Rattle.vmx_serial_queues.specs.Forms.{arrival_of}
use Rattle.vmx_serial_queues.specs.Small.{IsShort}
use Rattle.vmx_serial_queues.proofs.Places.{changed_next, changed_length, changed_here}
use Rattle.vmx_serial_queues.proofs.queues.deliver.Goals as goal

pub deliver_if-requires-clause-short : goal.deliver_if-requires-clause-short
deliver_if-requires-clause-short c = let a = c.args in let l = c.loop-i in let x = c.at_mut.result.now in let len = changed_length rx_core (rx_is a.activation a.queue) (tried (arrival_of a.arrival.now)) (map rx_core a.queues.now) l.i l.queues l.invariant in
    subst IsShort (sym (changed_here rx_core (rx_is a.activation a.queue) (tried (arrival_of a.arrival.now)) (map rx_core a.queues.now) l.i l.queues x (rx_core x) l.invariant (omega (arith, length-map a.queues.now rx_core)) c.at_mut.ensures.value))
    (c.requires.short l.i (rx_core x) (omega (arith, length-map a.queues.now rx_core)))

pub loop-i-preserved : goal.loop-i-preserved
loop-i-preserved c = let a = c.args in let l = c.loop-i in let len = changed_length rx_core (rx_is a.activation a.queue) (tried (arrival_of a.arrival.now)) (map rx_core a.queues.now) l.i l.queues l.invariant in
    changed_next rx_core (rx_is a.activation a.queue) (tried (arrival_of a.arrival.now)) (map rx_core a.queues.now) l.i l.queues c.at_mut.result.now c.deliver_if.new.at l.invariant (omega (arith, length-map a.queues.now rx_core)) c.at_mut.ensures.value c.in_ok-deliver_if.ensures.tried
