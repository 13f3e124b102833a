-- What the helpers of the serial order do to a run.
use Rattle.std.specs.Prelude.{ℕ, map, length, Option, Some, None, slice_get}
use Rattle.vmx_model.specs.declared.plan.Plan.{Plan}
use Rattle.vmx_model.specs.declared.guest.GuestPlan.{GuestPlan}
use Rattle.vmx_model.specs.Plan.{captured}
use Rattle.vmx_model.specs.Serial.{Seat, World, Carried, where_it, at_number, is_wire, mac_of, arrived, polled_if, acted, sends, closed}
use Rattle.vmx_model.specs.Turns.{at_guest, pulls, pulled_on, next_on}
use Rattle.vmx_replay_runs.specs.Runs.{RunView, is_due, one_more}

-- a guest's driver polls until nothing comes, where it is due
abbrev pub polled_due : ℕ → Seat → Seat
polled_due every s = polled_if (is_due every s) s

-- the packet that comes next reaches its target
abbrev pub arrives_by : Plan → ℕ → ℕ → World → Option Carried → World
arrives_by plan from to w None = w
arrives_by plan from to w (Some p) = record {
  seats = at_number to (arrived plan.poll_every (mac_of plan to) from (pulled_on w.wires from to) p.frame) w.seats;
  wires = where_it (is_wire from to) (pulls p) w.wires;
}

abbrev pub arrives : ℕ → RunView → ℕ → RunView
arrives from r to = record r { world = arrives_by r.plan from to r.world (next_on r.world.wires from to) }

-- the actions of a number
abbrev pub acted_by : ℕ → ℕ → Option GuestPlan → World → World
acted_by port n None w = w
acted_by port n (Some p) w = at_guest port (acted port p n) w

-- the frame of a number
abbrev pub sent_in : Plan → ℕ → ℕ → Option GuestPlan → World → World
sent_in plan port n None w = w
sent_in plan port n (Some p) w = sends plan port p (slice_get (captured p) n) w

abbrev pub sends_at : ℕ → ℕ → RunView → RunView
sends_at port n r = record r { world = sent_in r.plan port n (slice_get r.plan.guests port) r.world; passed = one_more port r.passed }

-- all guests are closed
abbrev pub closes_all : RunView → RunView
closes_all r = record r { world = record r.world { seats = map closed r.world.seats }; closings = length r.plan.guests }
