use Rattle.std.proofs.Common.{◌≡◌, false, take}
use Rattle.vmx_model.specs.Deeds.{is_quiet}
use Rattle.vmx_model.specs.Plan.{past}
use Rattle.vmx_model.proofs.verdicts.is_quiet_at.Given as goal

-- after the actions so far
abbrev pub invariant-loop-action : goal.invariant-loop-action
invariant-loop-action l = l.quiet ≡ is_quiet false (past l.number (take l.action-index l.script))
