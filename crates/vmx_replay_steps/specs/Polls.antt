-- A poll of a driver between notes.
use Rattle.std.specs.Prelude.{◌≡◌, ℕ}
use Rattle.vmx_model.specs.Bags.{Pairwise}
use Rattle.vmx_driver_steps.specs.Progress.{in_hand}
use Rattle.vmx_driver_steps.specs.Driver.{DriverView, Keeps}
use Rattle.vmx_driver_steps.specs.Driving.{PollsAll}
use Rattle.vmx_replay_worlds.specs.Guests.{GuestView, ends_of}
use Rattle.vmx_note_laws.specs.Queues.{IsToldRx}
use Rattle.vmx_replay_steps.specs.Between.{WasDelivered}

-- a driver with queues in hand was told of all that was delivered, and polled; what it then had received its device had delivered
pub record PollsBetween (r : GuestView) (n : ℕ) (v : DriverView) : Type 0 where
  pub keeps : Keeps r.driver
  pub hand : in_hand r.driver.at.stage ≡ 1
  pub told : Pairwise IsToldRx r.driver.rx (ends_of r).rx
  pub polls : PollsAll r.driver n v
  pub delivered : Pairwise WasDelivered v.rx (ends_of r).rx
