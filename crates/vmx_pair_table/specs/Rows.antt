-- The rows of the table of copies in a run by the plan of `pair`.
use Rattle.std.specs.Prelude.{ℕ, ◌&&◌, if◌then◌else◌, List, map, Option, Some, None, slice_get}
use Rattle.vmx_pcap.specs.declared.records.Stamped.{Stamped}
use Rattle.vmx_model.specs.declared.guest.GuestPlan.{GuestPlan}
use Rattle.vmx_model.specs.declared.sending.Sending.{Sending}
use Rattle.vmx_model.specs.declared.sending.Sending.TheVariants as sending
use Rattle.vmx_model.specs.Plan.{captured, verdict_on}
use Rattle.vmx_copies.specs.declared.copy.FrameCopy.{FrameCopy}
use Rattle.vmx_summary.specs.declared.kinds.Kind.TheVariants as kind
use Rattle.vmx_summary.specs.Summary.{has_kind, is_target}
use Rattle.vmx_pair_plan.specs.Fates.{fate_by}

-- a sent frame's copy is for guest `b`, at port 1
abbrev pub target_by : Sending → Option ℕ
target_by (sending.Sent activation queue place) = Some 1
target_by sending.Down = None
target_by sending.Short = None
target_by sending.TooLong = None

-- the one copy of a captured frame of guest `a`, at port 0, by the verdict on it
abbrev pub row_by : ℕ → Sending → FrameCopy
row_by number s = record { sender = 0; number = number; target = target_by s; fate = fate_by s }

-- the copies of all captured frames
abbrev pub rows_due : GuestPlan → List FrameCopy
rows_due g = map (λ c. row_by c.number (verdict_on g c)) (captured g)

-- the record of a row's frame, where that came up at `b`
abbrev pub record_up : List Stamped → FrameCopy → Option Stamped
record_up records x = if is_target 1 x.target && has_kind kind.Up x.fate then slice_get records x.number else None
