-- Guests that have ended a run of their plan.
use Rattle.std.specs.Prelude.{◌≡◌, true, List}
use Rattle.std.specs.List.{AllByRecursion}
use Rattle.vmx_model.specs.declared.plan.Plan.{Plan}
use Rattle.vmx_model.specs.Serial.{serial_run}
use Rattle.vmx_driver_steps.specs.Progress.{is_over}
use Rattle.vmx_replay_worlds.specs.Guests.{GuestView}
use Rattle.vmx_replay_worlds.specs.Worlds.{world_of}
use Rattle.vmx_replay_calls.specs.Resting.{RunRests, AllKeep}
use Rattle.vmx_replay_kept.specs.Sound.{AllSound}

-- each driver was closed, is quiet and has met all its ends
abbrev pub AreOver : List GuestView → Type 0
AreOver rs = AllByRecursion (λ (r : GuestView). is_over r.driver.at ≡ true) rs

-- they stand for the world of the plan's serial run, rest, and are over
pub record HaveEnded (plan : Plan) (rs : List GuestView) : Type 0 where
  pub run : world_of rs ≡ serial_run plan
  pub rests : RunRests plan rs
  pub keeps : AllKeep rs
  pub sound : AllSound rs
  pub over : AreOver rs

-- what contracts see of guests that have ended: their plan, and the guests by port
pub record EndedView : Type 0 where
  pub plan : Plan
  pub guests : List GuestView
