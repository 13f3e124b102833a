-- The world of the serial run that the actors of all guests stand for.
use Rattle.std.specs.Prelude.{ℕ, Bool, List, [], map, flat_map, find, nat_eq, Option, Some, None, slice_get}
use Rattle.vmx_ends.specs.declared.packet.Packet.{Packet}
use Rattle.vmx_link.specs.Views.{LinkOutView, LinkInView}
use Rattle.vmx_model.specs.Record.{carried_of}
use Rattle.vmx_model.specs.Serial.{World, Wire, Carried}
use Rattle.vmx_replay_worlds.specs.Guests.{GuestView, seat_of}

-- ------------------------------------------------------------ links

-- a link in of this port
abbrev pub comes_from : ℕ → LinkInView → Bool
comes_from from i = nat_eq i.from from

-- a link out to this port
abbrev pub goes_to : ℕ → LinkOutView → Bool
goes_to to o = nat_eq o.to to

-- what its receiver pulled, where it has one
abbrev pub pulled_by : Option LinkInView → List Packet
pulled_by None = []
pulled_by (Some i) = i.pulled

-- the link in from a port, of those of one guest
abbrev pub input_by : ℕ → Option (List LinkInView) → Option LinkInView
input_by from None = None
input_by from (Some is) = find (comes_from from) is

-- a link by its two ends, among the links in of all guests by port
abbrev pub wire_by : List (List LinkInView) → LinkOutView → Wire
wire_by ins o = record { from = o.from; to = o.to; pushed = map carried_of o.pushed; pulled = map carried_of (pulled_by (input_by o.from (slice_get ins o.to))) }

abbrev pub wires_by : List (List LinkOutView) → List (List LinkInView) → List Wire
wires_by outs ins = flat_map (map (wire_by ins)) outs

-- ------------------------------------------------------------ all guests

-- the links out of each guest, by port, and those in
abbrev pub outs_of : List GuestView → List (List LinkOutView)
outs_of rs = map (λ (r : GuestView). r.device.out) rs

abbrev pub ins_of : List GuestView → List (List LinkInView)
ins_of rs = map (λ (r : GuestView). r.device.input) rs

-- the guests by port
abbrev pub world_of : List GuestView → World
world_of rs = record { seats = map seat_of rs; wires = wires_by (outs_of rs) (ins_of rs) }

-- the link between two ports by its two ends
abbrev pub wire_between : ℕ → ℕ → LinkOutView → LinkInView → Wire
wire_between from to o i = record { from = from; to = to; pushed = map carried_of o.pushed; pulled = map carried_of i.pulled }

-- ------------------------------------------------------------ what the world has of a link

-- of its sender's end: no key, no looks, no notes
pub record OutPart : Type 0 where
  pub from : ℕ
  pub to : ℕ
  pub pushed : List Carried

-- of its receiver's
pub record InPart : Type 0 where
  pub from : ℕ
  pub pulled : List Carried

abbrev pub out_part : LinkOutView → OutPart
out_part o = record { from = o.from; to = o.to; pushed = map carried_of o.pushed }

abbrev pub in_part : LinkInView → InPart
in_part i = record { from = i.from; pulled = map carried_of i.pulled }

abbrev pub out_parts : GuestView → List OutPart
out_parts r = map out_part r.device.out

abbrev pub in_parts : GuestView → List InPart
in_parts r = map in_part r.device.input
