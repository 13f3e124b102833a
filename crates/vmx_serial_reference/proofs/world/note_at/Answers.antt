use Rattle.std.proofs.Common.{arith}
use Rattle.vmx_model.specs.Serial.{noted}
use Rattle.vmx_serial_seats.specs.Seats.{seat_of}
use Rattle.vmx_serial_queues.proofs.Places.{number_there, number_past}
use Rattle.vmx_serial_reference.proofs.world.note_at.Goals as goal

pub returns-in_ok-note : goal.returns-in_ok-note
returns-in_ok-note c = let a = c.args in record { noted = number_there seat_of (noted a.entry) a.seats.now a.port c.at_mut.result.now c.note.new.self (omega arith) c.at_mut.ensures.value c.in_ok-note.ensures.noted }

pub returns-else-port-len : goal.returns-else-port-len
returns-else-port-len c = let a = c.args in record { noted = number_past seat_of (noted a.entry) a.seats.now a.port (omega arith) }
