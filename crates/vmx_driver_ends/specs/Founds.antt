-- What looks at receive queues come to.
use Rattle.std.specs.Prelude.{◌≡◌, ℕ, ◌≤◌, List, ◌++◌, length}
use Rattle.vmx_ends.specs.Receive.{RxDriverView}
use Rattle.vmx_regs.specs.declared.known.Masks.{Masks}
use Rattle.vmx_model.specs.declared.journal.Received.{Received}
use Rattle.vmx_driver_steps.specs.Progress.{in_hand}
use Rattle.vmx_driver_steps.specs.Driver.{DriverView, Keeps}
use Rattle.vmx_driver_steps.specs.Receiving.{UpNext, IsEmptied}
use Rattle.vmx_driver_steps.specs.Driving.{PolledOne, Polls}
use Rattle.vmx_driver_ends.specs.declared.ends.Found.{Found}
use Rattle.vmx_driver_ends.specs.declared.ends.Found.TheVariants.{Frame, Nothing}

-- a frame that goes up next, or a look that found none
abbrev pub FoundBy : ℕ → ℕ → RxDriverView → RxDriverView → Found → Type 0
FoundBy a q old new (Frame x) = UpNext a q old new x
FoundBy a q old new (Nothing buffer) = IsEmptied old new

-- one queue was looked at: what it handed up goes last, and n says how many frames that are
pub record PollsSo (interrupts first a q : ℕ) (d d' : RxDriverView) (received received' : List Received) (m m' : Masks) (n : ℕ) : Type 0 where
  pub one : List Received
  pub is : received' ≡ received ++ one
  pub count : n ≡ length one
  pub polled : PolledOne interrupts first a q d d' one m m'

-- each queue, in order
pub record PollsUp (interrupts first a : ℕ) (ds ds' : List RxDriverView) (received received' : List Received) (m m' : Masks) (n : ℕ) : Type 0 where
  pub up : List Received
  pub is : received' ≡ received ++ up
  pub count : n ≡ length up
  pub polls : Polls interrupts first a 0 ds ds' up m m'

-- what always holds of a driver with these ends still holds
abbrev pub KeepsOn : ℕ → List RxDriverView → List RxDriverView → List Received → List Received → Type 0
KeepsOn a ds ds' received received' = (v : DriverView) → Keeps v → in_hand v.at.stage ≡ 1 → v.at.ended ≡ a → v.rx ≡ ds → v.received ≡ received → length ds ≤ v.plan.setup.rx_queues → Keeps (record v { rx = ds'; received = received' })

-- room for a frame of each of n queues
abbrev pub IsRoomy : ℕ → ℕ → ℕ → Type 0
IsRoomy n room buffers = (n ≤ room) × (n ≤ buffers)
