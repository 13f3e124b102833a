-- Where a driver is in its guest's plan, and what is left to be done.
use Rattle.std.specs.Prelude.{◌≡◌, ℕ, ◌+◌, ◌<◌, ◌≤◌, Bool, true, false, ◌&&◌, not, nat_le, nat_lt, if◌then◌else◌, List, [], ◌∷◌, ◌++◌, length, take, drop, Option, Some, None, slice_get}
use Rattle.std.specs.List.{AllByRecursion}
use Rattle.vmx_model.specs.declared.guest.GuestPlan.{GuestPlan}
use Rattle.vmx_model.specs.declared.deeds.Action.{Action}
use Rattle.vmx_pcap.specs.declared.records.Stamped.{Stamped}
use Rattle.vmx_model.specs.Lists.{count}
use Rattle.vmx_model.specs.Deeds.{begins, is_quiet}
use Rattle.vmx_model.specs.Plan.{Ask, activate_dev, quiesce_dev, closes, deed_asks, after_script, first_setup}
use Rattle.vmx_model.specs.Wire.{posted_form, wire_form}
use Rattle.vmx_frame.specs.declared.ethernet.TheConstants.{HEADER_LEN}
use Rattle.vmx_model.specs.declared.limits.TheConstants.{ABOVE_MTU}
use Rattle.vmx_device_state.specs.SetupView.{SetupView}
use Rattle.vmx_driver_steps.specs.declared.progress.Then.{Then}
use Rattle.vmx_driver_steps.specs.declared.progress.Then.TheVariants.{Rest, Renew, End}
use Rattle.vmx_driver_steps.specs.declared.progress.Stage.{Stage}
use Rattle.vmx_driver_steps.specs.declared.progress.Stage.TheVariants.{Fresh, Active, Stopping, Held, Quiet, Ended}
use Rattle.vmx_driver_steps.specs.declared.progress.Progress.{Progress}
use Rattle.vmx_driver_steps.specs.declared.progress.Due.{Due}
use Rattle.vmx_driver_steps.specs.declared.progress.Due.TheVariants as due

-- ------------------------------------------------------------ by the stage

-- one where the driver has ends of an activation that have not met
abbrev pub in_hand : Stage → ℕ
in_hand Fresh = 0
in_hand Active = 1
in_hand (Stopping t) = 1
in_hand (Held t) = 1
in_hand Quiet = 0
in_hand Ended = 0

-- so many queues where ends are in hand
abbrev pub count_in : Stage → ℕ → ℕ
count_in Fresh n = 0
count_in Active n = n
count_in (Stopping t) n = n
count_in (Held t) n = n
count_in Quiet n = 0
count_in Ended n = 0

-- one where an activation that the script has begun is still to come
abbrev pub to_come_then : Then → ℕ
to_come_then Rest = 0
to_come_then Renew = 1
to_come_then End = 0

abbrev pub to_come : Stage → ℕ
to_come Fresh = 1
to_come Active = 0
to_come (Stopping t) = to_come_then t
to_come (Held t) = to_come_then t
to_come Quiet = 0
to_come Ended = 0

-- whether the script has the guest quiet; none after the end
abbrev pub is_down_then : Then → Option Bool
is_down_then Rest = Some true
is_down_then Renew = Some false
is_down_then End = None

abbrev pub is_down_in : Stage → Option Bool
is_down_in Fresh = Some false
is_down_in Active = Some false
is_down_in (Stopping t) = is_down_then t
is_down_in (Held t) = is_down_then t
is_down_in Quiet = Some true
is_down_in Ended = None

-- ------------------------------------------------------------ by the plan

-- the actions that were begun
abbrev pub begun_actions : GuestPlan → Progress → List Action
begun_actions p s = take s.done p.script

abbrev pub actions_left : GuestPlan → Progress → List Action
actions_left p s = drop s.done p.script

-- the setup in force, or to be
abbrev pub setup_now : GuestPlan → Progress → SetupView
setup_now p s = after_script (first_setup p) (begun_actions p s)

abbrev pub closing : GuestPlan → List Ask
closing p = if closes p then record { number = quiesce_dev; setup = after_script (first_setup p) p.script } ∷ [] else []

-- the set commands that are to be sent, by the stage
abbrev pub left_then : Then → SetupView → List Ask → List Ask
left_then Rest s rest = rest
left_then Renew s rest = record { number = activate_dev; setup = s } ∷ rest
left_then End s rest = []

abbrev pub left_in : Stage → SetupView → List Ask → List Ask
left_in Fresh s rest = record { number = activate_dev; setup = s } ∷ rest
left_in Active s rest = rest
left_in (Stopping t) s rest = left_then t s rest
left_in (Held t) s rest = left_then t s rest
left_in Quiet s rest = rest
left_in Ended s rest = []

-- all that are left
abbrev pub asks_left : GuestPlan → Progress → List Ask
asks_left p s = left_in s.stage (setup_now p s) (deed_asks (setup_now p s) (actions_left p s) ++ closing p)

-- ------------------------------------------------------------ what is next

-- no action comes before the frame of this number
abbrev pub is_later : ℕ → Option Action → Bool
is_later n None = true
is_later n (Some a) = nat_lt n a.at

-- the frame has a length that is sent
abbrev pub is_sendable : GuestPlan → List ℕ → Bool
is_sendable p frame = nat_le HEADER_LEN (length frame) && nat_le (length (wire_form (posted_form p frame))) (p.setup.mtu + ABOVE_MTU)

-- a frame that comes before the next action is passed over in this stage
abbrev pub is_passed : GuestPlan → Stage → List ℕ → Bool
is_passed p Active frame = not (is_sendable p frame)
is_passed p Quiet frame = true
is_passed p Fresh frame = false
is_passed p (Stopping t) frame = false
is_passed p (Held t) frame = false
is_passed p Ended frame = false

-- whether the driver passes over the next frame
abbrev pub passes_by : GuestPlan → Progress → Option Action → Option Stamped → Bool
passes_by p s a None = false
passes_by p s a (Some r) = is_later s.next a && is_passed p s.stage r.frame

abbrev pub passes : GuestPlan → Progress → Bool
passes p s = passes_by p s (slice_get p.script s.done) (slice_get p.capture.records s.next)

-- of an action and a frame, the action first at equal numbers
abbrev pub next_by : ℕ → Option Action → Option Stamped → Due
next_by n None None = due.Nothing
next_by n None (Some r) = due.Frame n
next_by n (Some a) None = due.Action a.at
next_by n (Some a) (Some r) = if nat_lt n a.at then due.Frame n else due.Action a.at

abbrev pub next_of : GuestPlan → Progress → Due
next_of p s = next_by s.next (slice_get p.script s.done) (slice_get p.capture.records s.next)

abbrev pub due_in : Stage → Bool → Due → Due
due_in Fresh closed next = due.Activate
due_in Active closed next = if closed then due.Close else next
due_in (Stopping t) closed next = due.Nothing
due_in (Held t) closed next = due.Meet
due_in Quiet closed next = next
due_in Ended closed next = due.Nothing

-- what the next act is to do, where a command is outstanding or none is
abbrev pub due_of : GuestPlan → Progress → Bool → Due
due_of p s asked = if asked then due.Answer else due_in s.stage s.closed (next_of p s)

-- ------------------------------------------------------------ standing

-- how far a driver may be
pub record IsUnderway (p : GuestPlan) (s : Progress) : Type 0 where
  pub done : s.done ≤ length p.script
  pub next : s.next ≤ length p.capture.records
  -- the actions begun are due at the next frame
  pub reached : s.next < length p.capture.records → AllByRecursion (λ (a : Action). a.at ≤ s.next) (begun_actions p s)
  -- each activation is one whose ends have met, one in hand, or one to come
  pub counted : s.ended + in_hand s.stage + to_come s.stage ≡ count (λ (a : Action). begins a.deed) (begun_actions p s) + 1
  pub quiet : (b : Bool) → is_down_in s.stage ≡ Some b → is_quiet false (begun_actions p s) ≡ b
  pub whole : is_down_in s.stage ≡ None → (s.done ≡ length p.script) × (s.next ≡ length p.capture.records)
  pub closed : s.closed ≡ true → (s.done ≡ length p.script) × (s.next ≡ length p.capture.records)

-- a driver that was closed has ended in one of two stages
abbrev pub is_over_in : Stage → Bool
is_over_in Quiet = true
is_over_in Ended = true
is_over_in Fresh = false
is_over_in Active = false
is_over_in (Stopping t) = false
is_over_in (Held t) = false

abbrev pub is_over : Progress → Bool
is_over s = s.closed && is_over_in s.stage
