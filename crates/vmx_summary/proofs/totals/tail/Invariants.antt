use Rattle.std.proofs.Common.{◌≡◌, ◌+◌, drop}
use Rattle.vmx_summary.specs.Summary.{tails_of}
use Rattle.vmx_summary.proofs.totals.tail.Given as goal

abbrev pub invariant-loop-guest : goal.invariant-loop-guest
invariant-loop-guest l = l.tail + tails_of (drop l.guest-index l.plan.guests) ≡ tails_of l.plan.guests
