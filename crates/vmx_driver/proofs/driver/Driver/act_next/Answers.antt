use Rattle.std.proofs.Common.{◌≡◌, ◌∙◌, false, sym, subst}
use Rattle.vmx_model.specs.declared.deeds.Action.{Action}
use Rattle.vmx_driver_steps.specs.declared.progress.Stage.TheVariants.{Active}
use Rattle.vmx_driver_steps.specs.Asking.{Waits}
use Rattle.vmx_driver_steps.specs.Acting.{ActionDue}
use Rattle.vmx_driver_steps.specs.Nexts.{action_due}
use Rattle.vmx_driver.specs.Stocked.{Stocked}
use Rattle.vmx_driver.specs.Deciding.{not_due}
use Rattle.vmx_driver.proofs.driver.Driver.act_next.Goals as goal

pub act_action-requires-clause-due : goal.act_action-requires-clause-due
act_action-requires-clause-due g c κs within = subst (λ (x : Stocked). (a : Action) × ActionDue x.driver.plan x.driver.at a) c.self.view_is
    (action_due c.self.inside.plan.now c.self.inside.at c.in-Action.at (subst (λ (x : Stocked). Waits x.driver.at.stage) (sym c.self.view_is) c.requires.waits) (subst (λ (x : Stocked). x.driver.at.stage ≡ Active → x.driver.at.closed ≡ false) (sym c.self.view_is) c.requires.unclosed) (sym c.due.ensures.due ∙ c.in-Action.is))

pub unreachable-requires : goal.unreachable-requires
unreachable-requires g c = not_due c.self.inside.plan.now c.self.inside.at c.due.result (subst (λ (x : Stocked). Waits x.driver.at.stage) (sym c.self.view_is) c.requires.waits) (subst (λ (x : Stocked). x.driver.at.stage ≡ Active → x.driver.at.closed ≡ false) (sym c.self.view_is) c.requires.unclosed) (sym c.due.ensures.due) c.in-Activate.is
