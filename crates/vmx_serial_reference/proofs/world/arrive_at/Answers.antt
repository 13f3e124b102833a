use Rattle.std.proofs.Common.{arith}
use Rattle.vmx_io.specs.Views.{holds_at}
use Rattle.vmx_model.specs.Serial.{arrived}
use Rattle.vmx_serial_seats.specs.Seats.{seat_of}
use Rattle.vmx_serial_seats.specs.Small.{IsSmall, MOST}
use Rattle.vmx_serial_queues.proofs.Places.{number_there, number_past}
use Rattle.vmx_serial_reference.proofs.world.arrive_at.Goals as goal

pub arrive-requires-clause-small : goal.arrive-requires-clause-small
arrive-requires-clause-small c = let a = c.args in holds_at seat_of a.seats.now a.port c.at_mut.result.now (omega arith) c.at_mut.ensures.value (IsSmall MOST) c.requires.small

pub returns-in_ok-arrive : goal.returns-in_ok-arrive
returns-in_ok-arrive c = let a = c.args in record { arrived = number_there seat_of (arrived a.poll_every a.mac.now a.from a.place a.frame.now) a.seats.now a.port c.at_mut.result.now c.arrive.new.self (omega arith) c.at_mut.ensures.value c.in_ok-arrive.ensures.arrived }

pub returns-else-port-len : goal.returns-else-port-len
returns-else-port-len c = let a = c.args in record { arrived = number_past seat_of (arrived a.poll_every a.mac.now a.from a.place a.frame.now) a.seats.now a.port (omega arith) }
