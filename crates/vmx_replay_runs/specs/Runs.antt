-- What contracts see of a run in the serial order, and what each call of the actors does to it.
use Rattle.std.specs.Prelude.{◌≢◌, ℕ, ◌+◌, ◌-◌, ◌%◌, Bool, false, List, [], ◌∷◌, length, nat_eq, fold, Option, Some, None, slice_get, is_some, if◌then◌else◌}
use Rattle.std.specs.List.{AllByRecursion}
use Rattle.vmx_ends.specs.declared.frames.Sent.{Sent}
use Rattle.vmx_model.specs.declared.plan.Plan.{Plan}
use Rattle.vmx_model.specs.declared.guest.GuestPlan.{GuestPlan}
use Rattle.vmx_model.specs.declared.deeds.Action.{Action}
use Rattle.vmx_ends.specs.declared.packet.Tag.{Tag}
use Rattle.vmx_model.specs.declared.sending.Sending.{Sending}
use Rattle.vmx_model.specs.declared.journal.Received.{Received}
use Rattle.vmx_model.specs.declared.journal.Entry.TheVariants as entry
use Rattle.vmx_model.specs.declared.sending.Sending.TheVariants as sending
use Rattle.vmx_model.specs.Plan.{Captured, captured, verdict_on}
use Rattle.vmx_model.specs.Totals.{wiring}
use Rattle.vmx_model.specs.Wire.{wire_form, targets}
use Rattle.vmx_model.specs.Serial.{Seat, World, Wire, Carried, where_it, at_number, is_wire, mac_of, noted, transmitted, poll, done, closed}
use Rattle.vmx_model.specs.Turns.{at_guest, put_out, pulls, pulled_on, next_on, comes_in, comes_up, IsEmptied}

-- a run
pub record RunView : Type 0 where
  pub plan : Plan
  -- all guests by their ports, with journals (entries), queues (frames by position) and frames handed up; and what each link carried (packets)
  pub world : World
  -- by a guest's port, how many actions of its script were begun
  pub reached : ℕ → ℕ
  -- by a guest's port, the captured number to which it has come: so many of its frames were gone through, from the first one on
  pub passed : ℕ → ℕ
  -- how many guests were closed, from the first port on
  pub closings : ℕ

-- a guest changes
abbrev pub changes : ℕ → (Seat → Seat) → RunView → RunView
changes port change r = record r { world = at_guest port change r.world }

-- one more at a port
abbrev pub one_more : ℕ → (ℕ → ℕ) → ℕ → ℕ
one_more port counts h = if nat_eq h port then counts h + 1 else counts h

-- ------------------------------------------------------------ polls

-- a poll of an active guest's driver; one that has no queues in hand finds nothing
abbrev pub live_poll : Seat → Seat
live_poll s = if s.active then poll (s.begun - 1) s else s

-- what it hands up
abbrev pub live_up : Seat → List Received
live_up s = if s.active then comes_up (s.begun - 1) s else []

-- how many frames
abbrev pub count_up : Option Seat → ℕ
count_up None = 0
count_up (Some s) = length (live_up s)

-- the same of the guest at a port
abbrev pub up_at : ℕ → RunView → ℕ
up_at port r = count_up (slice_get r.world.seats port)

-- after every so many copies a guest's driver polls
abbrev pub is_due : ℕ → Seat → Bool
is_due every s = nat_eq (s.seen % every) 0

abbrev pub due_in : ℕ → Option Seat → Bool
due_in every None = false
due_in every (Some s) = is_due every s

-- the same of the guest at a port
abbrev pub is_polled : ℕ → RunView → Bool
is_polled port r = due_in r.plan.poll_every (slice_get r.world.seats port)

-- ------------------------------------------------------------ actions

-- the action of a guest's script with this number in the script
abbrev pub action_in : Option GuestPlan → ℕ → Option Action
action_in None k = None
action_in (Some p) k = slice_get p.script k

-- the next action of the guest at a port
abbrev pub next_action : ℕ → RunView → Option Action
next_action port r = action_in (slice_get r.plan.guests port) (r.reached port)

-- it is there, and of this captured number
abbrev pub is_of : ℕ → Option Action → Bool
is_of number None = false
is_of number (Some a) = nat_eq a.at number

abbrev pub is_next : ℕ → ℕ → RunView → Bool
is_next port number r = is_of number (next_action port r)

-- an action is done
abbrev pub does : ℕ → Option GuestPlan → Option Action → World → World
does port None a w = w
does port (Some p) None w = w
does port (Some p) (Some a) w = at_guest port (done port p a.deed) w

-- the next action of the guest at a port is done
abbrev pub acts : ℕ → RunView → RunView
acts port r = record r { world = does port (slice_get r.plan.guests port) (next_action port r) r.world; reached = one_more port r.reached }

-- ------------------------------------------------------------ a frame

-- a frame that was taken is put out on the link to each target, or lost
abbrev pub put_to : Tag → List ℕ → List ℕ → World → World
put_to t frame [] w = record w { seats = at_number t.guest (noted (entry.Lost t)) w.seats }
put_to t frame (to ∷ tos) w = fold (put_out t frame) w (to ∷ tos)

-- the targets of a posted frame, as the switch has it
abbrev pub targets_of : Plan → ℕ → Sent → List ℕ
targets_of plan port posted = targets (wiring plan.guests) port (wire_form posted)

-- by its verdict: only a frame that is sent moves
abbrev pub put_by : Plan → ℕ → Sent → Sending → World → World
put_by plan port posted (sending.Sent a q k) w = put_to (record { guest = port; activation = a; queue = q; place = k }) (wire_form posted) (targets_of plan port posted) (at_guest port (transmitted a q posted) w)
put_by plan port posted sending.Down w = w
put_by plan port posted sending.Short w = w
put_by plan port posted sending.TooLong w = w

-- and only such a frame has targets
abbrev pub targets_by : Plan → ℕ → Sent → Sending → List ℕ
targets_by plan port posted (sending.Sent a q k) = targets_of plan port posted
targets_by plan port posted sending.Down = []
targets_by plan port posted sending.Short = []
targets_by plan port posted sending.TooLong = []

-- the captured frame of a number, if it is there
abbrev pub captured_in : Option GuestPlan → ℕ → Option Captured
captured_in None n = None
captured_in (Some p) n = slice_get (captured p) n

abbrev pub put_in : Plan → ℕ → Option GuestPlan → Option Captured → World → World
put_in plan port None c w = w
put_in plan port (Some p) None w = w
put_in plan port (Some p) (Some c) w = put_by plan port c.posted (verdict_on p c) w

abbrev pub targets_in : Plan → ℕ → Option GuestPlan → Option Captured → List ℕ
targets_in plan port None c = []
targets_in plan port (Some p) None = []
targets_in plan port (Some p) (Some c) = targets_by plan port c.posted (verdict_on p c)

-- the frame of a number is put out, and the guest has come to the next number
abbrev pub puts : ℕ → ℕ → RunView → RunView
puts port n r = record r { world = put_in r.plan port (slice_get r.plan.guests port) (captured_in (slice_get r.plan.guests port) n) r.world; passed = one_more port r.passed }

-- the targets of the frame of a number
abbrev pub goes_to : ℕ → ℕ → Plan → List ℕ
goes_to port n plan = targets_in plan port (slice_get plan.guests port) (captured_in (slice_get plan.guests port) n)

-- ------------------------------------------------------------ looks

-- whether a packet waits on the link between two ports
abbrev pub found : ℕ → ℕ → RunView → Bool
found from to r = is_some (next_on r.world.wires from to)

-- the packet that comes next is pulled and handled by the target's device
abbrev pub looked : Plan → ℕ → ℕ → World → Option Carried → World
looked plan from to w None = w
looked plan from to w (Some p) = record {
  seats = at_number to (comes_in (mac_of plan to) from (pulled_on w.wires from to) p.frame) w.seats;
  wires = where_it (is_wire from to) (pulls p) w.wires;
}

abbrev pub looks : ℕ → ℕ → RunView → RunView
looks from to r = record r { world = looked r.plan from to r.world (next_on r.world.wires from to) }

-- nothing waits but on links from this port
abbrev pub ComesFrom : ℕ → World → Type 0
ComesFrom from w = AllByRecursion (λ (l : Wire). l.from ≢ from → IsEmptied l) w.wires

-- ------------------------------------------------------------ the end

-- the guest at a port is closed, the next one in port order
abbrev pub closes : ℕ → RunView → RunView
closes port r = record r { world = at_guest port closed r.world; closings = r.closings + 1 }
