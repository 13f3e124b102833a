use Rattle.std.proofs.Common.{◌≡◌, ◌≤◌, nat_le, drop}
use Rattle.vmx_model.specs.Totals.{bytes_of}
use Rattle.vmx_model.proofs.plan_checks.bytes_fit.Given as goal

-- the guests that are left share what is left
abbrev pub invariant-loop-guest : goal.invariant-loop-guest
invariant-loop-guest l = record {
  low : l.left ≤ 67108864;
  same : nat_le (bytes_of (drop l.guest-index l.guests)) l.left ≡ nat_le (bytes_of l.guests) 67108864;
}
