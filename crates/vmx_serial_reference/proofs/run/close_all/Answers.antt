use Rattle.std.proofs.Common.{map, arith, true}
use Rattle.std.proofs.lemmas.List.{length-map}
use Rattle.vmx_model.specs.Serial.{closed}
use Rattle.vmx_serial_seats.specs.Seats.{seat_of}
use Rattle.vmx_serial_queues.proofs.Places.{changed_next, changed_length}
use Rattle.vmx_serial_reference.proofs.run.close_all.Goals as goal

pub loop-i-preserved : goal.loop-i-preserved
loop-i-preserved c = let a = c.args in let l = c.loop-i in let len = changed_length seat_of (λ s. true) closed (map seat_of a.seats.now) l.i l.seats l.invariant in
    changed_next seat_of (λ s. true) closed (map seat_of a.seats.now) l.i l.seats c.at_mut.result.now c.close.new.self l.invariant (omega (arith, length-map a.seats.now seat_of)) c.at_mut.ensures.value c.in_ok-close.ensures.closed
