use Rattle.std.proofs.Common.{◌≡◌, take, filter, fold, nat_eq}
use Rattle.vmx_model.specs.Serial.{done}
use Rattle.vmx_serial_seats.specs.Seats.{seat_of}
use Rattle.vmx_serial_seats.proofs.seat.Seat.act.Given as goal

abbrev pub invariant-loop-action : goal.invariant-loop-action
invariant-loop-action l = seat_of l.self ≡ fold (λ s a. done l.port l.plan a.deed s) (seat_of l.fn.self) (filter (λ a. nat_eq a.at l.number) (take l.action-index l.plan.script))
