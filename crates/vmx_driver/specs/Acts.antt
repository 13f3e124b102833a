-- What an act and a turn do, by what was due.
use Rattle.std.specs.Prelude.{◌≡◌, ◌≢◌, ◌==◌, ℕ, ◌+◌, ◌⊎◌, Bool, true, false, ◌&&◌, not, if◌then◌else◌, Some, None, slice_get, is_some}
use Rattle.vmx_model.specs.declared.deeds.Action.{Action}
use Rattle.vmx_model.specs.declared.deeds.Deed.{Deed}
use Rattle.vmx_model.specs.declared.deeds.Deed.TheVariants as deed
use Rattle.vmx_model.specs.Plan.{quiesce_dev, reset_dev}
use Rattle.vmx_driver_steps.specs.declared.progress.Then.{Then}
use Rattle.vmx_driver_steps.specs.declared.progress.Then.TheVariants.{Rest, Renew, End}
use Rattle.vmx_driver_steps.specs.declared.progress.Stage.TheVariants.{Active, Held}
use Rattle.vmx_driver_steps.specs.declared.progress.Due.{Due}
use Rattle.vmx_driver_steps.specs.declared.progress.Due.TheVariants as due
use Rattle.vmx_driver_steps.specs.Progress.{due_of, is_over}
use Rattle.vmx_driver_steps.specs.Driver.{DriverView}
use Rattle.vmx_driver_steps.specs.Acting.{ActionDue}
use Rattle.vmx_driver_steps.specs.Updating.{update_number}
use Rattle.vmx_driver_steps.specs.Driving.{ReapsAll, AreReaped, PostsFrame, WaitsForRoom, LooksOnce, TakesAnswer, StopsBy, UpdatesBy, ActivatesWith, PollsAll, HandsUpSome, MeetsEmpty, unreaped}
use Rattle.vmx_driver.specs.declared.driver.Act.{Act}
use Rattle.vmx_driver.specs.declared.driver.Act.TheVariants.{Worked, Waiting, Done}
use Rattle.vmx_driver.specs.declared.driver.Turn.{Turn}
use Rattle.vmx_driver.specs.declared.driver.Turn.TheVariants as turn

-- all ends are reaped, and some posted frame is not
abbrev pub WaitsToReap : DriverView → DriverView → Type 0
WaitsToReap old new = ReapsAll old new × (unreaped new.tx ≢ 0)

-- a stop is sent after reaping
pub record StopsAfter (number : ℕ) (t : Then) (done : ℕ) (old new : DriverView) : Type 0 where
  pub mid : DriverView
  pub reaps : ReapsAll old mid
  pub stops : StopsBy number t done mid new

-- a quiesce besides after all was reaped
pub record QuiescesAfter (t : Then) (done : ℕ) (old new : DriverView) : Type 0 where
  pub mid : DriverView
  pub reaps : ReapsAll old mid
  pub all : AreReaped mid.tx
  pub stops : StopsBy quiesce_dev t done mid new

-- an update is sent after reaping
pub record UpdatesAfter (number done : ℕ) (old new : DriverView) : Type 0 where
  pub mid : DriverView
  pub reaps : ReapsAll old mid
  pub updates : UpdatesBy number done mid new

abbrev pub ActsAtAnswer : DriverView → Act → DriverView → Type 0
ActsAtAnswer old Worked new = TakesAnswer old new
ActsAtAnswer old Waiting new = LooksOnce old new
ActsAtAnswer old Done new = ⊥

abbrev pub ActsAtActivation : ℕ → DriverView → Act → DriverView → Type 0
ActsAtActivation done old Worked new = ActivatesWith done old new
ActsAtActivation done old Waiting new = ⊥
ActsAtActivation done old Done new = ⊥

abbrev pub ActsAtMeeting : Then → DriverView → Act → DriverView → Type 0
ActsAtMeeting t old Worked new = HandsUpSome old new ⊎ MeetsEmpty t old new
ActsAtMeeting t old Waiting new = ⊥
ActsAtMeeting t old Done new = ⊥

abbrev pub ActsAtFrame : DriverView → Act → DriverView → Type 0
ActsAtFrame old Worked new = PostsFrame old new
ActsAtFrame old Waiting new = WaitsForRoom old new
ActsAtFrame old Done new = ⊥

abbrev pub ActsAtRest : DriverView → Act → DriverView → Type 0
ActsAtRest old Done new = ReapsAll old new × AreReaped new.tx
ActsAtRest old Waiting new = WaitsToReap old new
ActsAtRest old Worked new = ⊥

abbrev pub ActsAtQuiesce : Then → ℕ → DriverView → Act → DriverView → Type 0
ActsAtQuiesce t done old Worked new = QuiescesAfter t done old new
ActsAtQuiesce t done old Waiting new = WaitsToReap old new
ActsAtQuiesce t done old Done new = ⊥

abbrev pub ActsAtReset : ℕ → DriverView → Act → DriverView → Type 0
ActsAtReset done old Worked new = StopsAfter reset_dev Renew done old new
ActsAtReset done old Waiting new = ⊥
ActsAtReset done old Done new = ⊥

abbrev pub ActsAtUpdate : Deed → DriverView → Act → DriverView → Type 0
ActsAtUpdate d old Worked new = UpdatesAfter (update_number d) (old.at.done + 1) old new
ActsAtUpdate d old Waiting new = ⊥
ActsAtUpdate d old Done new = ⊥

-- by the deed of the action that is due
abbrev pub ActsAtDeed : Deed → DriverView → Act → DriverView → Type 0
ActsAtDeed deed.Quiesce old a new = ActsAtQuiesce Rest (old.at.done + 1) old a new
ActsAtDeed deed.Activate old a new = ActsAtActivation (old.at.done + 1) old a new
ActsAtDeed deed.Reset old a new = ActsAtReset (old.at.done + 1) old a new
ActsAtDeed (deed.Mode m) old a new = ActsAtUpdate (deed.Mode m) old a new
ActsAtDeed (deed.Multicast t) old a new = ActsAtUpdate (deed.Multicast t) old a new
ActsAtDeed (deed.Vlans t) old a new = ActsAtUpdate (deed.Vlans t) old a new
ActsAtDeed (deed.Rss n t) old a new = ActsAtUpdate (deed.Rss n t) old a new

pub record ActsAtScript (old : DriverView) (a : Act) (new : DriverView) : Type 0 where
  pub action : Action
  pub there : slice_get old.plan.script old.at.done ≡ Some action
  pub does : ActsAtDeed action.deed old a new

pub record ActsAtHeld (old : DriverView) (a : Act) (new : DriverView) : Type 0 where
  pub then_ : Then
  pub held : old.at.stage ≡ Held then_
  pub does : ActsAtMeeting then_ old a new

-- by what is due
abbrev pub ActsSo : Due → DriverView → Act → DriverView → Type 0
ActsSo due.Answer old a new = ActsAtAnswer old a new
ActsSo due.Meet old a new = ActsAtHeld old a new
ActsSo due.Activate old a new = ActsAtActivation old.at.done old a new
ActsSo (due.Action at) old a new = ActsAtScript old a new
ActsSo (due.Frame i) old a new = ActsAtFrame old a new
ActsSo due.Close old a new = ActsAtQuiesce End old.at.done old a new
ActsSo due.Nothing old a new = ActsAtRest old a new

abbrev pub Acts : DriverView → Act → DriverView → Type 0
Acts old a new = ActsSo (due_of old.plan old.at (is_some old.calls.asked)) old a new

-- a quiesce is due, by the script or since the driver was closed; which frames are reaped is not said
pub record QuiesceDue (v : DriverView) (t : Then) (done : ℕ) : Type 0 where
  pub active : v.at.stage ≡ Active
  pub none : v.calls.asked ≡ None
  pub which : ((t ≡ End) × (done ≡ v.at.done) × (v.at.closed ≡ true)) ⊎ ((a : Action) × (t ≡ Rest) × (done ≡ v.at.done + 1) × ActionDue v.plan v.at a × (a.deed ≡ deed.Quiesce))

-- a reset is due by the script
pub record ResetDue (v : DriverView) (done : ℕ) : Type 0 where
  pub active : v.at.stage ≡ Active
  pub none : v.calls.asked ≡ None
  pub action : Action
  pub begun : done ≡ v.at.done + 1
  pub due : ActionDue v.plan v.at action
  pub is : action.deed ≡ deed.Reset

-- the answer of a turn: by whether the driver is over, whether it is closed, its act and the number of frames that the poll gave
abbrev pub turn_by : Bool → Bool → Act → ℕ → Turn
turn_by true closed a n = turn.Ended
turn_by false closed Worked n = turn.Worked
turn_by false closed Waiting n = if n == 0 then turn.Idle else turn.Worked
turn_by false closed Done n = if n == 0 && not closed then turn.Drained else turn.Worked

pub record Turns (old : DriverView) (t : Turn) (new : DriverView) : Type 0 where
  pub act : Act
  pub mid : DriverView
  pub acts : Acts old act mid
  pub up : ℕ
  pub polls : PollsAll mid up new
  pub is : t ≡ turn_by (is_over new.at && not (is_some new.calls.asked)) new.at.closed act up
