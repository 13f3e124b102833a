-- What stands between two calls of the actors of a run: which guest is where, that its actors stand together and were told all of each other, and what is known of links.
use Rattle.std.specs.Prelude.{◌≡◌, ◌≤◌, ℕ, List, [], length, Some, None, slice_get}
use Rattle.std.specs.List.{AllByRecursion}
use mathlib.Core.List.{IsPrefix}
use Rattle.vmx_link.specs.Views.{LinkOutView, LinkInView}
use Rattle.vmx_model.specs.declared.guest.GuestPlan.{GuestPlan}
use Rattle.vmx_model.specs.declared.plan.Plan.{Plan}
use Rattle.vmx_model.specs.Bags.{EachQueue, Pairwise}
use Rattle.vmx_model.specs.Totals.{wiring}
use Rattle.vmx_device_laws.specs.Views.{DeviceView}
use Rattle.vmx_device_laws.specs.Pairs.{tx_of, rx_of}
use Rattle.vmx_driver_steps.specs.Driver.{DriverView}
use Rattle.vmx_actor_laws.specs.Joint.{AreCaughtUp}
use Rattle.vmx_note_laws.specs.Queues.{IsToldTx, IsToldRx}
use Rattle.vmx_trusted_turns.specs.Trusted.{IsTrusted}
use Rattle.vmx_replay_worlds.specs.Guests.{GuestView}
use Rattle.vmx_replay_worlds.specs.Ports.{IsAtPort, HasAll, Lies}
use Rattle.vmx_replay_steps.specs.Between.{IsThrough}
use Rattle.vmx_replay_settled.specs.Settled.{BothKeep}

-- a guest by its driver and its device
abbrev pub guest_of : DriverView → DeviceView → GuestView
guest_of v d = record { driver = v; device = d }

-- ------------------------------------------------------------ what no step changes

-- the guest of a plan at a port of the switch
pub record IsGuestAt (plan : Plan) (port : ℕ) (r : GuestView) : Type 0 where
  pub guest : GuestPlan
  pub there_ : slice_get plan.guests port ≡ Some guest
  pub number : r.driver.guest ≡ port
  pub planned : r.driver.plan ≡ guest
  pub key : r.device.key ≡ r.driver.key
  pub table : r.device.table ≡ wiring plan.guests
  pub mac : r.device.machine.mac ≡ guest.mac
  pub at : IsAtPort port r
  pub all : HasAll (length plan.guests) r

-- ------------------------------------------------------------ what stands between two calls

-- of a guest: no command is out, the device is trusted, what was sent is taken, and each end of its queues was told all that the other did
pub record Rests (r : GuestView) : Type 0 where
  pub caught_up : AreCaughtUp r.driver r.device
  pub trusted : IsTrusted r.device.machine
  pub through_ : Pairwise IsThrough r.driver.tx (tx_of r.device.machine.active)
  pub told_tx : Pairwise IsToldTx r.driver.tx (tx_of r.device.machine.active)
  pub told_rx : Pairwise IsToldRx r.driver.rx (rx_of r.device.machine.active)

-- a driver of an idle device has no queue in hand
abbrev pub HasNone : DriverView → DeviceView → Type 0
HasNone v d = d.machine.active ≡ None → (v.tx ≡ []) × (v.rx ≡ [])

-- of a guest whose device may have a turn: no command is out, and each receive end was told all that the other did
pub record MayTurn (r : GuestView) : Type 0 where
  pub caught_up : AreCaughtUp r.driver r.device
  pub told_rx : Pairwise IsToldRx r.driver.rx (rx_of r.device.machine.active)
  pub none : HasNone r.driver r.device

-- of a link: its sender was told of all that was pulled
pub record IsKnown (o : LinkOutView) (i : LinkInView) : Type 0 where
  pub key : o.key ≡ i.key
  pub pulled : length i.pulled ≤ length o.freed
  pub within : IsPrefix i.pulled o.pushed

abbrev pub AreKnown : List GuestView → Type 0
AreKnown rs = (from to : ℕ) (l : Lies rs from to) → IsKnown l.link l.end

-- of all guests of a run
pub record RunRests (plan : Plan) (rs : List GuestView) : Type 0 where
  pub guests : EachQueue (IsGuestAt plan) 0 rs
  pub count : length rs ≡ length plan.guests
  pub rest : AllByRecursion Rests rs
  pub links : AreKnown rs

-- what always holds of both actors of each guest
abbrev pub AllKeep : List GuestView → Type 0
AllKeep rs = AllByRecursion (λ (r : GuestView). BothKeep r.driver r.device) rs
