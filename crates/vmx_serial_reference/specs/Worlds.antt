-- All guests and links of the plain program as the model has them.
use Rattle.std.specs.Prelude.{◌≡◌, ℕ, ◌-◌, ◌^◌, [], map, All}
use Rattle.vmx_model.specs.declared.plan.Plan.{Plan}
use Rattle.vmx_model.specs.Serial as serial
use Rattle.vmx_serial_reference.specs.declared.world.Carried.{Carried}
use Rattle.vmx_serial_reference.specs.declared.world.Wire.{Wire}
use Rattle.vmx_serial_reference.specs.declared.world.World.{World}
use Rattle.vmx_serial_seats.specs.Seats.{seat_of}
use Rattle.vmx_serial_seats.specs.Small.{IsSmall}

-- a packet
abbrev pub carried_of : Carried → serial.Carried
carried_of p = record { tag = p.tag; frame = p.frame }

-- a link
abbrev pub wire_of : Wire → serial.Wire
wire_of l = record { from = l.from; to = l.to; pushed = map carried_of l.pushed; pulled = map carried_of l.pulled }

-- all guests and links
abbrev pub world_of : World → serial.World
world_of w = record { seats = map seat_of w.seats; wires = map wire_of w.wires }

-- a link that carried nothing
abbrev pub empty_wire : ℕ → ℕ → serial.Wire
empty_wire from to = record { from = from; to = to; pushed = []; pulled = [] }

-- each guest has its plan's number of receive queues, and no number is above k
pub record IsOnTheWay (plan : Plan) (k : ℕ) (w : serial.World) : Type 0 where
  pub queues : map (λ s. s.setup.rx_queues) w.seats ≡ map (λ g. g.setup.rx_queues) plan.guests
  pub small : All (IsSmall k) w.seats

-- where a round begins, no number is above this
abbrev pub MOST_OF_ROUND : ℕ
MOST_OF_ROUND = 2 ^ 31 - 4352
