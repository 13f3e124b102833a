-- A frame's copies in two turns: its sender's device gives all of them to the links, and then each target's device takes its own. And what stands between two steps of the serial run.
use Rattle.std.specs.Prelude.{◌≡◌, ◌<◌, ℕ, ◌+◌, ◌++◌, true, List, [], ◌∷◌, length, filter_map, find, Option, Some, None, slice_get, is_some}
use Rattle.std.specs.Option.{option_and_then}
use Rattle.std.specs.List.{AllByRecursion}
use Rattle.vmx_model.specs.declared.journal.Entry.TheVariants as entry
use Rattle.vmx_model.specs.declared.journal.Way.TheVariants as way
use Rattle.vmx_ends.specs.declared.frames.Sent.{Sent}
use Rattle.vmx_model.specs.Types.{Plan, GuestPlan, Stamped, Sending, Tag, Received}
use Rattle.vmx_model.specs.Totals.{wiring}
use Rattle.vmx_model.specs.Wire.{wire_form, targets}
use Rattle.vmx_model.specs.Plan.{captured_as, verdict_on}
use Rattle.vmx_model.specs.Lists.{Rises}
use Rattle.vmx_model.specs.Meta.{delivered_as}
use Rattle.vmx_model.specs.Serial.{Seat, Carried, Wire, World, where_it, is_wire, at_number, noted, arrived, fate_at, marked, mac_of, pushed_on, up_next, transmitted, spread}

-- a packet is pushed
abbrev pub pushes : Carried → Wire → Wire
pushes p l = record l { pushed = l.pushed ++ p ∷ [] }

-- a packet is pulled
abbrev pub pulls : Carried → Wire → Wire
pulls p l = record l { pulled = l.pulled ++ p ∷ [] }

-- how many packets were pulled
abbrev pub pulled_of : Option Wire → ℕ
pulled_of None = 0
pulled_of (Some l) = length l.pulled

-- the same on the link between two ports
abbrev pub pulled_on : List Wire → ℕ → ℕ → ℕ
pulled_on wires from to = pulled_of (find (is_wire from to) wires)

-- the sender's device gives a copy to the link to a target
abbrev pub put_out : Tag → List ℕ → World → ℕ → World
put_out t frame w to = record {
  seats = at_number t.guest (noted (entry.Out t to (way.Link (pushed_on w.wires t.guest to)))) w.seats;
  wires = where_it (is_wire t.guest to) (pushes (record { tag = t; frame = frame })) w.wires;
}

-- the target's device takes it
abbrev pub taken_in : Plan → Tag → List ℕ → World → ℕ → World
taken_in plan t frame w to = record {
  seats = at_number to (arrived plan.poll_every (mac_of plan to) t.guest (pulled_on w.wires t.guest to) frame) w.seats;
  wires = where_it (is_wire t.guest to) (pulls (record { tag = t; frame = frame })) w.wires;
}

-- a guest changes
abbrev pub at_guest : ℕ → (Seat → Seat) → World → World
at_guest g change w = record w { seats = at_number g change w.seats }

-- a frame goes through its queue, and its wire form to its targets
abbrev pub send_from : Plan → Tag → Sent → World → World
send_from plan t posted w = spread plan t (wire_form posted) (targets (wiring plan.guests) t.guest (wire_form posted)) (at_guest t.guest (transmitted t.activation t.queue posted) w)

-- what a verdict on the captured frame of a number says
abbrev pub IsVerdict : GuestPlan → ℕ → Sending → Type 0
IsVerdict p n s = (r : Stamped) → slice_get p.capture.records n ≡ Some r → s ≡ verdict_on p (captured_as p n r)

-- ------------------------------------------------------------ looks

-- the packet that comes next out of a link
abbrev pub next_in : Wire → Option Carried
next_in l = slice_get l.pushed (length l.pulled)

-- of the link between two ports
abbrev pub next_on : List Wire → ℕ → ℕ → Option Carried
next_on wires from to = option_and_then next_in (find (is_wire from to) wires)

-- it is taken, where there is one
abbrev pub takes_by : Plan → World → ℕ → Option Carried → World
takes_by plan w to None = w
takes_by plan w to (Some p) = taken_in plan p.tag p.frame w to

-- a target's device looks at the link from a port, and takes what comes next
abbrev pub takes_next : Plan → ℕ → World → ℕ → World
takes_next plan from w to = takes_by plan w to (next_on w.wires from to)

-- the device's part of an arrival: the polls that may follow are the driver's
abbrev pub comes_in : List ℕ → ℕ → ℕ → List ℕ → Seat → Seat
comes_in mac from place frame s = record s {
  seen = s.seen + 1;
  entries = s.entries ++ entry.In from place (fate_at s mac frame) ∷ [];
  rx = marked (delivered_as s.setup frame) (fate_at s mac frame) s.rx;
}

-- what a poll of the queues of an activation hands up
abbrev pub comes_up : ℕ → Seat → List Received
comes_up a s = filter_map (up_next a) s.rx

-- ------------------------------------------------------------ between two steps

-- what was pushed was pulled
abbrev pub IsEmptied : Wire → Type 0
IsEmptied l = l.pulled ≡ l.pushed

-- on all links
abbrev pub AreEmptied : World → Type 0
AreEmptied w = AllByRecursion IsEmptied w.wires

-- the link between two ports is there
abbrev pub HasWire : ℕ → List Wire → ℕ → Type 0
HasWire from ws to = is_some (find (is_wire from to) ws) ≡ true

-- the links between all different ports below n
abbrev pub HasAll : ℕ → List Wire → Type 0
HasAll n ws = (a b : ℕ) → a < n → b < n → (b ≡ a → ⊥) → HasWire a ws b

-- no target stands twice
abbrev pub AreApart : List ℕ → Type 0
AreApart tos = Rises (λ (a b : ℕ). b ≡ a → ⊥) tos

-- what was pushed is pulled, and every link and every guest is there
pub record IsReady (plan : Plan) (w : World) : Type 0 where
  pub emptied : AreEmptied w
  pub links : HasAll (length plan.guests) w.wires
  pub seats : length w.seats ≡ length plan.guests
