use Rattle.std.proofs.Common.{◌≡◌, ◌++◌, map, drop}
use Rattle.vmx_model.specs.Serial.{seats_from}
use Rattle.vmx_serial_seats.specs.Seats.{seat_of}
use Rattle.vmx_serial_reference.proofs.run.first_seats.Given as goal

abbrev pub invariant-loop-port : goal.invariant-loop-port
invariant-loop-port l = map seat_of l.seats ++ seats_from l.port (drop l.port l.guests) ≡ seats_from 0 l.guests
