-- A command between notes: the driver's act that sends it, the turn of the device that answers it, and the act that takes the answer.
use Rattle.std.specs.Prelude.{◌≡◌, ℕ, Bool, false, List, [], ◌∷◌, None}
use Rattle.vmx_link.specs.Views.{LinkOutView}
use Rattle.vmx_device_state.specs.Orders.{order_of}
use Rattle.vmx_device_state.specs.declared.order.Order.TheVariants.{Stop, Update}
use Rattle.vmx_device_state.specs.declared.order.Part.{Part}
use Rattle.vmx_model.specs.Bags.{Pairwise}
use Rattle.vmx_model.specs.Serial.{Seat, quiet_setting}
use Rattle.vmx_device_laws.specs.Views.{DeviceView}
use Rattle.vmx_device_laws.specs.Keeps.{Keeps as DeviceKeeps}
use Rattle.vmx_device_laws.specs.Pairs.{tx_of}
use Rattle.vmx_device_laws.specs.Steps.{TurnsOnce}
use Rattle.vmx_driver_steps.specs.declared.progress.Then.{Then}
use Rattle.vmx_driver_steps.specs.declared.progress.Stage.TheVariants.{Active, Held}
use Rattle.vmx_driver_steps.specs.Progress.{in_hand, setup_now}
use Rattle.vmx_driver_steps.specs.Driver.{DriverView, Keeps as DriverKeeps}
use Rattle.vmx_driver_steps.specs.Driving.{ReapsAll, StopsBy, UpdatesBy, ActivatesWith, TakesAnswer, HandsUpSome, MeetsEmpty}
use Rattle.vmx_actor_laws.specs.Joint.{AreCaughtUp}
use Rattle.vmx_trusted_turns.specs.Trusted.{IsTrusted}
use Rattle.vmx_replay_worlds.specs.Guests.{GuestView, seat_of}
use Rattle.vmx_replay_worlds.specs.Moves.{KeepsLinks}
use Rattle.vmx_replay_worlds.specs.Ports.{IsBare}
use Rattle.vmx_replay_steps.specs.Between.{IsNoted, WasSent, WasPushed}
use Rattle.vmx_replay_steps.specs.Turns.{StandsTogether}

-- Before the act both actors stand together; the device had one turn while nothing waited on its links; the driver was told and took the answer, and the registers' sides know of each other again.
pub record AnswersBetween (v v1 v2 : DriverView) (links : List LinkOutView) (worked : Bool) (old new : DeviceView) : Type 0 where
  pub stands : StandsTogether v old
  pub bare : Pairwise IsBare links old.input
  pub once : TurnsOnce worked old new
  pub pushed : Pairwise WasPushed links new.input
  pub told : DriverView
  pub noted : IsNoted v1 told
  pub takes : TakesAnswer told v2
  pub plan : v2.plan ≡ told.plan
  pub caught_up : AreCaughtUp v2 new
  pub driver : DriverKeeps v2
  pub device : DeviceKeeps new

-- what a command came to in the serial run
pub record WasAnswered (change : Seat → Seat) (v v2 : DriverView) (old new : DeviceView) : Type 0 where
  pub seat : seat_of (record { driver = v2; device = new }) ≡ change (seat_of (record { driver = v; device = old }))
  pub links : KeepsLinks (record { driver = v; device = old }) (record { driver = v2; device = new })
  pub trusted : IsTrusted new.machine

-- ------------------------------------------------------------ a quiesce or a reset

-- it is sent after reaping, with the setup as it is
pub record StopsBetween (number : ℕ) (t : Then) (v v1 v2 : DriverView) (links : List LinkOutView) (worked : Bool) (old new : DeviceView) : Type 0 where
  pub answers : AnswersBetween v v1 v2 links worked old new
  pub active : v.at.stage ≡ Active
  pub mid : DriverView
  pub reaps : ReapsAll v mid
  pub done : ℕ
  pub stops : StopsBy number t done mid v1
  pub order : order_of number ≡ Stop
  pub setup : setup_now v.plan v1.at ≡ setup_now v.plan v.at

-- the device goes idle
abbrev pub stopped : ℕ → Seat → Seat
stopped number s = record (quiet_setting number s) { active = false }

-- acts of a driver that holds both ends of its queues, each of which handed something up
abbrev pub HandUp : DriverView → List DriverView → DriverView → Type 0
HandUp v [] w = w ≡ v
HandUp v (m ∷ ms) w = HandsUpSome v m × HandUp m ms w

-- and then all ends met
pub record MeetsBetween (t : Then) (r : GuestView) (w u : DriverView) : Type 0 where
  pub keeps : DriverKeeps r.driver
  pub stage : r.driver.at.stage ≡ Held t
  pub idle : r.device.machine.active ≡ None
  pub acts : List DriverView
  pub up : HandUp r.driver acts w
  pub meets : MeetsEmpty t w u

-- ------------------------------------------------------------ an update

-- it is sent after reaping, with the setup as its deed leaves it
pub record UpdatesBetween (number : ℕ) (v v1 v2 : DriverView) (links : List LinkOutView) (worked : Bool) (old new : DeviceView) : Type 0 where
  pub answers : AnswersBetween v v1 v2 links worked old new
  pub mid : DriverView
  pub reaps : ReapsAll v mid
  pub done : ℕ
  pub updates : UpdatesBy number done mid v1
  pub part : Part
  pub order : order_of number ≡ Update part
  pub sent : Pairwise WasSent v2.tx (tx_of new.machine.active)

-- ------------------------------------------------------------ an activation

-- new queues go to the device; the setup is as it is
pub record ActivatesBetween (v v1 v2 : DriverView) (links : List LinkOutView) (worked : Bool) (old new : DeviceView) : Type 0 where
  pub answers : AnswersBetween v v1 v2 links worked old new
  pub free : in_hand v.at.stage ≡ 0
  pub done : ℕ
  pub activates : ActivatesWith done v v1
  pub setup : setup_now v.plan v1.at ≡ setup_now v.plan v.at
  pub sent : Pairwise WasSent v2.tx (tx_of new.machine.active)
