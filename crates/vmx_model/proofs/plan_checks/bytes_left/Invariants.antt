use Rattle.std.proofs.Common.{◌≡◌, ◌+◌, drop}
use Rattle.vmx_model.specs.Totals.{frame_bytes}
use Rattle.vmx_model.proofs.plan_checks.bytes_left.Given as goal

-- what is left and what the records so far took
abbrev pub invariant-loop-record : goal.invariant-loop-record
invariant-loop-record l = l.left + l.capture.tail + frame_bytes l.capture.records ≡ l.bytes + frame_bytes (drop l.record-index l.capture.records)
