-- The table of copies: which there are, by the plan, and the fate of each, by a record.
use Rattle.std.specs.Prelude.{◌≡◌, ℕ, ◌+◌, List, [], ◌∷◌, ◌++◌, map, flat_map, Option, Some, None}
use Rattle.vmx_switch.specs.Ports.{Wiring}
use Rattle.vmx_model.specs.declared.guest.GuestPlan.{GuestPlan}
use Rattle.vmx_model.specs.declared.plan.Plan.{Plan}
use Rattle.vmx_model.specs.declared.journal.Fate.{Fate}
use Rattle.vmx_model.specs.declared.sending.Sending.{Sending}
use Rattle.vmx_model.specs.declared.sending.Sending.TheVariants as sending
use Rattle.vmx_model.specs.Plan.{Captured, captured, wire, verdict_on}
use Rattle.vmx_model.specs.Wire.{targets}
use Rattle.vmx_model.specs.Totals.{wiring}
use Rattle.vmx_model.specs.Views.{RecordView}
use Rattle.vmx_model.specs.Fates.{all_fates}
use Rattle.vmx_copies.specs.declared.copy.FrameCopy.{FrameCopy}

-- a copy by its sender, its captured number and its target
pub record CopyName : Type 0 where
  pub sender : ℕ
  pub number : ℕ
  pub target : Option ℕ

abbrev pub name_of : FrameCopy → CopyName
name_of x = record { sender = x.sender; number = x.number; target = x.target }

-- a frame that counts as one copy without target
abbrev pub lone_name : ℕ → ℕ → CopyName
lone_name g i = record { sender = g; number = i; target = None }

-- the copy for a target
abbrev pub named_for : ℕ → ℕ → ℕ → CopyName
named_for g i to = record { sender = g; number = i; target = Some to }

-- one copy a target, or one where there is none
abbrev pub target_names : ℕ → ℕ → List ℕ → List CopyName
target_names g i [] = lone_name g i ∷ []
target_names g i (t ∷ ts) = map (named_for g i) (t ∷ ts)

-- the copies of a captured frame, by the verdict on it
abbrev pub verdict_names : Wiring → ℕ → ℕ → List ℕ → Sending → List CopyName
verdict_names w g i frame sending.Down = lone_name g i ∷ []
verdict_names w g i frame sending.Short = lone_name g i ∷ []
verdict_names w g i frame sending.TooLong = lone_name g i ∷ []
verdict_names w g i frame (sending.Sent a q k) = target_names g i (targets w g frame)

abbrev pub frame_names : Wiring → ℕ → GuestPlan → Captured → List CopyName
frame_names w g p c = verdict_names w g c.number (wire c) (verdict_on p c)

-- the copies of a guest's frames
abbrev pub guest_names : Wiring → ℕ → GuestPlan → List CopyName
guest_names w g p = flat_map (frame_names w g p) (captured p)

-- the same for guests from port g on
abbrev pub names_from : Wiring → ℕ → List GuestPlan → List CopyName
names_from w g [] = []
names_from w g (p ∷ ps) = guest_names w g p ++ names_from w (g + 1) ps

-- every copy of a plan, by guest, captured number and target
abbrev pub all_names : Plan → List CopyName
all_names plan = names_from (wiring plan.guests) 0 plan.guests

-- the fates of a row's copy: one
abbrev pub fates_in_row : FrameCopy → List Fate
fates_in_row x = x.fate ∷ []

-- the rows are the copies of the plan, in order, each with the one fate that the record gives it
pub record IsTable (plan : Plan) (r : RecordView) (rows : List FrameCopy) : Type 0 where
  pub names : map name_of rows ≡ all_names plan
  pub fates : map fates_in_row rows ≡ all_fates plan r
