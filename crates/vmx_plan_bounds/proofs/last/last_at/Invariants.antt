use Rattle.std.proofs.Common.{◌≡◌, ◌≤◌, ◌+◌, drop, max}
use Rattle.vmx_model.specs.declared.limits.TheConstants.{MAX_NUMBER}
use Rattle.vmx_model.specs.Serial.{last_at}
use Rattle.vmx_plan_bounds.proofs.last.last_at.Given as goal

abbrev pub invariant-loop-action : goal.invariant-loop-action
invariant-loop-action l = record {
  last : max l.last (last_at (drop l.action-index l.script)) ≡ last_at l.script;
  few : l.last ≤ MAX_NUMBER + 1;
}
