-- A run by its guests: what contracts see of it, and what always holds of it.
use Rattle.std.specs.Prelude.{◌≡◌, ◌≤◌, ◌<◌, ℕ, Bool, true, false, nat_lt, List, length, map, Option, Some, None, slice_get, slice_index}
use Rattle.vmx_model.specs.declared.guest.GuestPlan.{GuestPlan}
use Rattle.vmx_model.specs.declared.plan.Plan.{Plan}
use Rattle.vmx_model.specs.Serial.{Seat, World}
use Rattle.vmx_driver_steps.specs.declared.progress.Progress.{Progress}
use Rattle.vmx_driver_steps.specs.Progress.{is_over}
use Rattle.vmx_driver_steps.specs.Asking.{Waits}
use Rattle.vmx_driver_steps.specs.Driving.{new_progress}
use Rattle.vmx_replay_runs.specs.Runs.{RunView}
use Rattle.vmx_replay_due.specs.Standing.{HasGone}
use Rattle.vmx_replay_worlds.specs.Guests.{GuestView}
use Rattle.vmx_replay_worlds.specs.Worlds.{world_of}
use Rattle.vmx_replay_worlds.specs.Starts.{started}
use Rattle.vmx_replay_chains.specs.Chains.{AllPaired}
use Rattle.vmx_replay_calls.specs.Resting.{RunRests, AllKeep}
use Rattle.vmx_replay_calls.specs.Results.{progress_of}
use Rattle.vmx_replay_kept.specs.Sound.{AllSound}

-- ------------------------------------------------------------ what contracts see

-- how many actions of its script a guest's driver has begun; none where there is no guest
abbrev pub done_in : Option GuestView → ℕ
done_in None = 0
done_in (Some r) = r.driver.at.done

-- the same by a guest's port, and the captured number to which it has come
abbrev pub reached_of : List GuestView → ℕ → ℕ
reached_of rs h = done_in (slice_get rs h)

abbrev pub passed_of : List ℕ → ℕ → ℕ
passed_of passed h = slice_index passed h

-- a run as the serial order has it
abbrev pub run_of : Plan → List GuestView → List ℕ → ℕ → RunView
run_of plan rs passed closings = record { plan = plan; world = world_of rs; reached = reached_of rs; passed = passed_of passed; closings = closings }

-- what contracts see of a run: its plan, its guests by port, the captured number to which each has come, and how many were closed
pub record RunParts : Type 0 where
  pub plan : Plan
  pub guests : List GuestView
  pub passed : List ℕ
  pub closings : ℕ

abbrev pub run_view : RunParts → RunView
run_view r = run_of r.plan r.guests r.passed r.closings

-- how many copies reached each guest
abbrev pub seen_of : World → List ℕ
seen_of w = map (λ (s : Seat). s.seen) w.seats

-- ------------------------------------------------------------ what always holds

-- guests that rest, with all that is kept from call to call
pub record AreSettled (plan : Plan) (rs : List GuestView) : Type 0 where
  pub rests : RunRests plan rs
  pub keeps : AllKeep rs
  pub paired : AllPaired rs
  pub sound : AllSound rs

-- a driver that waits for nothing, and has gone through the frames below the number to which its guest has come
pub record IsOpen (number : ℕ) (p : GuestPlan) (s : Progress) : Type 0 where
  pub unclosed : s.closed ≡ false
  pub waits : Waits s.stage
  pub gone : HasGone number p s.next

-- a driver that was closed is over, and its guest has gone through its capture
pub record IsShut (number : ℕ) (p : GuestPlan) (s : Progress) : Type 0 where
  pub over : is_over s ≡ true
  pub capture : length p.capture.records ≤ number

-- by whether the guest is closed
abbrev pub StandsBy : Bool → ℕ → GuestPlan → Progress → Type 0
StandsBy true number p s = IsShut number p s
StandsBy false number p s = IsOpen number p s

-- the guest at each port; those below so many are closed
abbrev pub AllStand : Plan → List Progress → List ℕ → ℕ → Type 0
AllStand plan progress passed closings = (h : ℕ) (p : GuestPlan) (s : Progress) → slice_get plan.guests h ≡ Some p → slice_get progress h ≡ Some s → StandsBy (nat_lt h closings) (slice_index passed h) p s

-- a run between two calls
pub record IsRun (plan : Plan) (rs : List GuestView) (passed arrived : List ℕ) (closings : ℕ) : Type 0 where
  pub settled : AreSettled plan rs
  pub stand : AllStand plan (progress_of rs) passed closings
  pub passed_ : length passed ≡ length plan.guests
  pub arrived_ : arrived ≡ seen_of (world_of rs)

-- ------------------------------------------------------------ the first activations

-- a driver that was activated and has begun no action
pub record IsBegun (p : GuestPlan) (s : Progress) : Type 0 where
  pub done : s.done ≡ 0
  pub open_ : IsOpen 0 p s

-- the first so many guests were activated, and the others made no step
pub record AreBegun (k : ℕ) (plan : Plan) (rs : List GuestView) : Type 0 where
  pub settled : AreSettled plan rs
  pub world : world_of rs ≡ started k plan
  pub begun : (h : ℕ) (p : GuestPlan) (s : Progress) → h < k → slice_get plan.guests h ≡ Some p → slice_get (progress_of rs) h ≡ Some s → IsBegun p s
  pub fresh : (h : ℕ) (s : Progress) → k ≤ h → slice_get (progress_of rs) h ≡ Some s → s ≡ new_progress
