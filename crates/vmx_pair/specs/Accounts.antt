-- What the record of a replay tells of the frames of guest `a`.
use Rattle.std.specs.Prelude.{◌≡◌}
use Rattle.vmx_model.specs.declared.guest.GuestPlan.{GuestPlan}
use Rattle.vmx_model.specs.Plan.{frames_of}
use Rattle.vmx_pair_plan.specs.Fates.{fates_due, handed_up}
use Rattle.vmx_pair.specs.declared.«record».Record.{Record}

-- the record of a guest's frames: each captured one has its fate by the verdict on it, and the sent ones are handed up in order
pub record Accounts (g : GuestPlan) (account : Record) : Type 0 where
  pub fates : account.fates ≡ fates_due g
  pub received : account.received ≡ handed_up 0 (frames_of g 0 0)
