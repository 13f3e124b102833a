-- What contracts see of a driver with its room, and what always holds of it.
use Rattle.std.proofs.Common.{◌≡◌, ℕ, ◌+◌, ◌≤◌, Bool, true, length, ap, arith}
use Rattle.std.specs.Prelude.{is_some}
use Rattle.std.specs.List.{AllByRecursion}
use Rattle.vmx_ends.specs.Transmit.{TxDriverView}
use Rattle.vmx_ends.specs.Receive.{RxDriverView}
use Rattle.vmx_device_state.specs.SetupView.{SetupView}
use Rattle.vmx_driver_steps.specs.declared.progress.Due.TheVariants as due
use Rattle.vmx_driver_steps.specs.Progress.{due_of}
use Rattle.vmx_driver_steps.specs.Driver.{DriverView, Runs}
use Rattle.vmx_driver_steps.specs.Driving.{AreReaped, is_opening, unreaped}

-- a driver beside its room: how many frames more its list takes with no memory, and how many buffers it has for them
pub record Stocked : Type 0 where
  pub driver : DriverView
  pub room : ℕ
  pub buffers : ℕ

-- What always holds: besides, whether an activation is outstanding and how many frames are not reaped is known, and there is room for the facts of all queues in hand.
pub record Holds (v : DriverView) (s : SetupView) (opening : Bool) (left n m : ℕ) : Type 0 where
  pub runs : Runs v s
  pub opening_is : opening ≡ is_opening v.calls.asked
  pub left_is : left ≡ unreaped v.tx
  pub tx_room : length v.tx ≤ n
  pub rx_room : length v.rx ≤ m

-- no room was used or made
abbrev pub SameRoom : Stocked → Stocked → Type 0
SameRoom old new = (new.room ≡ old.room) × (new.buffers ≡ old.buffers) × (new.driver.received ≡ old.driver.received) × (new.driver.plan ≡ old.driver.plan)

-- at most a frame of each queue was handed up, and as much room was used
pub record UsesRoom (old new : Stocked) : Type 0 where
  pub room : old.room ≤ new.room + old.driver.plan.setup.rx_queues
  pub buffers : old.buffers ≤ new.buffers + old.driver.plan.setup.rx_queues
  pub received : length new.driver.received ≤ length old.driver.received + old.driver.plan.setup.rx_queues
  pub plan : new.driver.plan ≡ old.driver.plan

pub uses_none : (old new : Stocked) → SameRoom old new → UsesRoom old new
uses_none old new s = let a = s.0 in let b = s.1 in let c = ap length s.2 in record { room = omega (arith, a); buffers = omega (arith, b); received = omega (arith, c); plan = s.3 }

-- every end of the driver's heard as many notes as it gave
pub record AreEven (v : DriverView) : Type 0 where
  pub tx : AllByRecursion (λ (d : TxDriverView). d.notes_given ≡ d.notes_heard) v.tx
  pub rx : AllByRecursion (λ (d : RxDriverView). d.notes_given ≡ d.notes_heard) v.rx

-- nothing is due
abbrev pub IsClosable : DriverView → Type 0
IsClosable v = due_of v.plan v.at (is_some v.calls.asked) ≡ due.Nothing

abbrev pub closed_as : DriverView → DriverView
closed_as v = record v { at = record v.at { closed = true } }

-- room for so many frames
abbrev pub HasRoom : ℕ → Stocked → Type 0
HasRoom n v = (n ≤ v.room) × (n ≤ v.buffers)

-- all that was posted is reaped
abbrev pub AllReaped : DriverView → Type 0
AllReaped v = AreReaped v.tx
