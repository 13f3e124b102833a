use Rattle.std.proofs.Common.{◌≡◌}
use Rattle.vmx_model.specs.Serial.{polls}
use Rattle.vmx_serial_seats.specs.Seats.{seat_of}
use Rattle.vmx_serial_seats.proofs.seat.Seat.polls.Given as goal

abbrev pub invariant-loop-left : goal.invariant-loop-left
invariant-loop-left l = polls l.activation l.left (seat_of l.self) ≡ polls l.activation l.times (seat_of l.fn.self)

abbrev pub decreases-loop-left : goal.decreases-loop-left
decreases-loop-left l = l.left
