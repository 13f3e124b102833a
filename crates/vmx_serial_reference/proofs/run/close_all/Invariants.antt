use Rattle.std.proofs.Common.{map, true}
use Rattle.vmx_model.specs.Serial.{closed}
use Rattle.vmx_serial_seats.specs.Seats.{seat_of}
use Rattle.vmx_serial_queues.proofs.Places.{Changed}
use Rattle.vmx_serial_reference.proofs.run.close_all.Given as goal

abbrev pub invariant-loop-i : goal.invariant-loop-i
invariant-loop-i l = Changed seat_of (λ s. true) closed (map seat_of l.fn.seats) l.i l.seats
