use Rattle.std.proofs.Common.{◌≡◌, ◌≤◌, ◌+◌, drop, max}
use Rattle.vmx_model.specs.declared.limits.TheConstants.{MAX_NUMBER}
use Rattle.vmx_model.specs.Serial.{last_number}
use Rattle.vmx_plan_bounds.proofs.last.last_number.Given as goal

abbrev pub invariant-loop-guest : goal.invariant-loop-guest
invariant-loop-guest l = record {
  last : max l.last (last_number (drop l.guest-index l.plan.guests)) ≡ last_number l.plan.guests;
  few : l.last ≤ MAX_NUMBER + 1;
}
