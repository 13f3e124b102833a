use Rattle.std.proofs.Common.{◌≡◌, ◌≤◌, nat_le, drop}
use Rattle.vmx_model.specs.Totals.{records_of}
use Rattle.vmx_model.proofs.plan_checks.records_fit.Given as goal

-- the guests that are left share what is left
abbrev pub invariant-loop-guest : goal.invariant-loop-guest
invariant-loop-guest l = record {
  low : l.left ≤ 262144;
  same : nat_le (records_of (drop l.guest-index l.guests)) l.left ≡ nat_le (records_of l.guests) 262144;
}
