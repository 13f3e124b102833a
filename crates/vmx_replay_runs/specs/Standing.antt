-- How far the guests of a run have come.
use Rattle.std.specs.Prelude.{◌≡◌, ◌≢◌, ℕ, ◌<◌, ◌≤◌, List, length, take, drop, Some, slice_get}
use Rattle.std.specs.List.{AllByRecursion}
use Rattle.vmx_model.specs.declared.guest.GuestPlan.{GuestPlan}
use Rattle.vmx_model.specs.declared.deeds.Action.{Action}
use Rattle.vmx_replay_runs.specs.Runs.{RunView}

-- the actions are of earlier numbers
abbrev pub AreBefore : ℕ → List Action → Type 0
AreBefore n acts = AllByRecursion (λ (a : Action). a.at < n) acts

-- the actions are of this number or later ones
abbrev pub AreFrom : ℕ → List Action → Type 0
AreFrom n acts = AllByRecursion (λ (a : Action). n ≤ a.at) acts

-- of a script just the actions of numbers below n were begun, the first k
pub record IsAt (n : ℕ) (p : GuestPlan) (k : ℕ) : Type 0 where
  pub behind : AreBefore n (take k p.script)
  pub ahead : AreFrom n (drop k p.script)

-- the same of the guest at a port
abbrev pub HasBegun : ℕ → ℕ → RunView → Type 0
HasBegun port n r = (p : GuestPlan) → slice_get r.plan.guests port ≡ Some p → IsAt n p (r.reached port)

-- a guest stands before number n: its earlier actions were begun, and its earlier frames gone through
pub record Stands (n port : ℕ) (r : RunView) : Type 0 where
  pub begun : HasBegun port n r
  pub passed : r.passed port ≡ n

-- all guests from a port on
abbrev pub StandFrom : ℕ → ℕ → RunView → Type 0
StandFrom n port r = (h : ℕ) → port ≤ h → h < length r.plan.guests → Stands n h r

-- all guests below a port
abbrev pub StandBelow : ℕ → ℕ → RunView → Type 0
StandBelow n port r = (h : ℕ) → h < port → Stands n h r

-- all guests
abbrev pub StandAll : ℕ → RunView → Type 0
StandAll n r = StandBelow n (length r.plan.guests) r

-- the whole script was begun, and the whole capture gone through
pub record IsDone (p : GuestPlan) (k n : ℕ) : Type 0 where
  pub script : length p.script ≤ k
  pub capture : length p.capture.records ≤ n

abbrev pub IsOver : ℕ → RunView → Type 0
IsOver port r = (p : GuestPlan) → slice_get r.plan.guests port ≡ Some p → IsDone p (r.reached port) (r.passed port)

-- but for one guest all stand where they stood, and the plan is the same
pub record OthersStand (port : ℕ) (old new : RunView) : Type 0 where
  pub plan : new.plan ≡ old.plan
  pub reached : (h : ℕ) → h ≢ port → new.reached h ≡ old.reached h
  pub passed : (h : ℕ) → h ≢ port → new.passed h ≡ old.passed h
  pub closings : new.closings ≡ old.closings

-- the same where one guest has begun further actions
pub record OthersBegun (port : ℕ) (old new : RunView) : Type 0 where
  pub plan : new.plan ≡ old.plan
  pub reached : (h : ℕ) → h ≢ port → new.reached h ≡ old.reached h
  pub passed : new.passed ≡ old.passed
  pub closings : new.closings ≡ old.closings

-- all guests have
abbrev pub AreOver : RunView → Type 0
AreOver r = (h : ℕ) → h < length r.plan.guests → IsOver h r
