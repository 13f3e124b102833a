use Rattle.std.proofs.Common.{ap, sym, ◌∙◌}
use Rattle.vmx_model.specs.Deeds.{quiet_after}
use Rattle.vmx_model.specs.PlanSteps.{quiet_done, quiet_skipped}
use Rattle.vmx_model.proofs.verdicts.is_quiet_at.Goals as goal
use Rattle.vmx_model.proofs.verdicts.is_quiet_at.Goals.{then-action-number, else-action-number}

pub loop-action-preserved : goal.loop-action-preserved
loop-action-preserved c = elim c.if-action-number.branch [
  | then-action-number w ↦ w.quiet-is ∙ w.quiet_after-quiet.ensures.quiet ∙ ap (λ q. quiet_after q c.action-item.result.deed) c.loop-action.invariant
      ∙ sym (quiet_done c.args.number c.loop-action.action-index c.args.script.now c.action-item.result c.loop-action-test.true c.action-item.is w.if-action-number.true)
  | else-action-number w ↦ w.quiet-is ∙ c.loop-action.invariant ∙ sym (quiet_skipped c.args.number c.loop-action.action-index c.args.script.now c.action-item.result c.loop-action-test.true c.action-item.is w.if-action-number.false)
]
