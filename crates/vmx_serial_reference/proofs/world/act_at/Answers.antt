use Rattle.std.proofs.Common.{◌<◌, ◌^◌, length, arith, ap, sym, ◌∙◌}
use Rattle.vmx_io.specs.Views.{holds_at, viewed}
use Rattle.vmx_model.specs.Serial.{acted}
use Rattle.vmx_serial_seats.specs.Seats.{seat_of}
use Rattle.vmx_serial_seats.specs.Small.{IsSmall}
use Rattle.vmx_serial_queues.proofs.Places.{number_there, number_past}
use Rattle.vmx_serial_seats.proofs.SmallLaws.{queues_in}
use Rattle.vmx_serial_reference.proofs.world.act_at.Goals as goal

pub act-requires-clause-queues : goal.act-requires-clause-queues
act-requires-clause-queues c = let a = c.args in let x = c.at_mut.result.now in let lt : a.port < length a.seats.now = omega arith in
    sym (ap queues_in (viewed seat_of a.seats.now a.port x lt c.at_mut.ensures.value)) ∙ c.requires.queues (seat_of x) lt

pub act-requires-clause-small : goal.act-requires-clause-small
act-requires-clause-small c = let a = c.args in holds_at seat_of a.seats.now a.port c.at_mut.result.now (omega arith) c.at_mut.ensures.value (IsSmall (2 ^ 31)) c.requires.small

pub returns-in_ok-act : goal.returns-in_ok-act
returns-in_ok-act c = let a = c.args in record { acted = number_there seat_of (acted a.port a.plan.now a.number) a.seats.now a.port c.at_mut.result.now c.act.new.self (omega arith) c.at_mut.ensures.value c.in_ok-act.ensures.acted }

pub returns-else-index-len : goal.returns-else-index-len
returns-else-index-len c = let a = c.args in record { acted = number_past seat_of (acted a.port a.plan.now a.number) a.seats.now a.port (omega arith) }
