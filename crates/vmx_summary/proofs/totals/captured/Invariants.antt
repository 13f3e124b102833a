use Rattle.std.proofs.Common.{◌≡◌, ◌+◌, drop}
use Rattle.vmx_model.specs.Totals.{records_of}
use Rattle.vmx_summary.proofs.totals.captured.Given as goal

abbrev pub invariant-loop-guest : goal.invariant-loop-guest
invariant-loop-guest l = l.captured + records_of (drop l.guest-index l.plan.guests) ≡ records_of l.plan.guests
