-- The numbers of a plan: those of its actions, and the last of a guest.
use Rattle.std.specs.Prelude.{ℕ, ◌≤◌, List, length, max, All}
use Rattle.vmx_model.specs.declared.limits.TheConstants.{MAX_NUMBER}
use Rattle.vmx_model.specs.declared.deeds.Action.{Action}
use Rattle.vmx_model.specs.declared.guest.GuestPlan.{GuestPlan}
use Rattle.vmx_model.specs.Lists.{Rises}
use Rattle.vmx_model.specs.Serial.{last_at}

-- no number of an action is above the greatest that a configuration can give
abbrev pub AreEarly : List Action → Type 0
AreEarly script = All (λ a. a.at ≤ MAX_NUMBER) script

-- actions in the order of their numbers
abbrev pub InOrder : List Action → Type 0
InOrder script = Rises (λ (a b : Action). a.at ≤ b.at) script

-- the number of a guest's captured frames, or the greatest number of an action and 1
abbrev pub last_of : GuestPlan → ℕ
last_of g = max (length g.capture.records) (last_at g.script)
