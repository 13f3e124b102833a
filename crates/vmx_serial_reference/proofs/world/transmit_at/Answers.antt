use Rattle.std.proofs.Common.{arith}
use Rattle.vmx_model.specs.Serial.{transmitted}
use Rattle.vmx_serial_queues.specs.Queues.{marked}
use Rattle.vmx_serial_seats.specs.Seats.{seat_of}
use Rattle.vmx_serial_queues.proofs.Places.{number_there, number_past}
use Rattle.vmx_serial_reference.proofs.world.transmit_at.Goals as goal

pub returns-in_ok-transmit : goal.returns-in_ok-transmit
returns-in_ok-transmit c = let a = c.args in record { transmitted = number_there seat_of (transmitted a.activation a.queue (marked a.frame.now a.mark.now)) a.seats.now a.port c.at_mut.result.now c.transmit.new.self (omega arith) c.at_mut.ensures.value c.in_ok-transmit.ensures.transmitted }

pub returns-else-port-len : goal.returns-else-port-len
returns-else-port-len c = let a = c.args in record { transmitted = number_past seat_of (transmitted a.activation a.queue (marked a.frame.now a.mark.now)) a.seats.now a.port (omega arith) }
