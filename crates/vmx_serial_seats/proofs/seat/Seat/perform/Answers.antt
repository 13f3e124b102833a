use Rattle.std.proofs.Common.{subst, sym}
use Rattle.vmx_model.specs.Plan.{reset_dev}
use Rattle.vmx_serial_seats.specs.Seats.{seat_of}
use Rattle.vmx_serial_seats.specs.Small.{IsSmall, MOST}
use Rattle.vmx_serial_seats.proofs.SmallLaws.{small_quieted}
use Rattle.vmx_serial_seats.proofs.seat.Seat.perform.Goals as goal

pub activate-requires : goal.activate-requires
activate-requires c = record { small = subst (IsSmall MOST) (sym c.in_ok-quiet-in-Reset.ensures.quieted) (small_quieted MOST reset_dev (seat_of c.args.self.now) c.requires.small) }
