use Rattle.std.proofs.Common.{◌≡◌, ◌+◌, None, sym, subst, arith}
use Rattle.vmx_driver_steps.specs.declared.progress.Then.TheVariants.{Rest}
use Rattle.vmx_driver_steps.specs.Asking.{Waits}
use Rattle.vmx_driver_steps.specs.Acting.{ActionDue}
use Rattle.vmx_driver_steps.specs.Activating.{BeginDue}
use Rattle.vmx_driver.specs.Stocked.{Stocked}
use Rattle.vmx_driver.specs.Acts.{QuiesceDue, ResetDue}
use Rattle.vmx_driver.specs.InTurn.{rest_due, begin_due, again_due, one_more}
use Rattle.vmx_driver.proofs.driver.Driver.begin.Goals as goal

pub overflow_add-done : goal.overflow_add-done
overflow_add-done g c = let few = one_more _ _ c.self.invariant.runs (subst (λ (x : Stocked). Waits x.driver.at.stage) (sym c.self.view_is) c.requires.waits) c.args.action.now (subst (λ (x : Stocked). ActionDue x.driver.plan x.driver.at c.args.action.now) (sym c.self.view_is) c.requires.due) in let most = c.self.inside.plan.now.script_length in omega (arith, few, most)

pub quiesce-requires-clause-due : goal.quiesce-requires-clause-due
quiesce-requires-clause-due g c κs within = subst (λ (x : Stocked). QuiesceDue x.driver Rest (c.self.inside.at.done + 1)) c.self.view_is
    (rest_due _ _ c.self.invariant.runs (subst (λ (x : Stocked). Waits x.driver.at.stage) (sym c.self.view_is) c.requires.waits) c.args.action.now (subst (λ (x : Stocked). ActionDue x.driver.plan x.driver.at c.args.action.now) (sym c.self.view_is) c.requires.due) (subst (λ (x : Stocked). x.driver.calls.asked ≡ None) (sym c.self.view_is) c.requires.none) c.in-Quiesce.is)

pub activate-requires-clause-due : goal.activate-requires-clause-due
activate-requires-clause-due g c κs within = subst (λ (x : Stocked). BeginDue x.driver (c.self.inside.at.done + 1)) c.self.view_is
    (begin_due _ _ c.self.invariant.runs (subst (λ (x : Stocked). Waits x.driver.at.stage) (sym c.self.view_is) c.requires.waits) c.args.action.now (subst (λ (x : Stocked). ActionDue x.driver.plan x.driver.at c.args.action.now) (sym c.self.view_is) c.requires.due) (subst (λ (x : Stocked). x.driver.calls.asked ≡ None) (sym c.self.view_is) c.requires.none) c.in-Activate.is)

pub reset-requires-clause-due : goal.reset-requires-clause-due
reset-requires-clause-due g c κs within = subst (λ (x : Stocked). ResetDue x.driver (c.self.inside.at.done + 1)) c.self.view_is
    (again_due _ _ c.self.invariant.runs (subst (λ (x : Stocked). Waits x.driver.at.stage) (sym c.self.view_is) c.requires.waits) c.args.action.now (subst (λ (x : Stocked). ActionDue x.driver.plan x.driver.at c.args.action.now) (sym c.self.view_is) c.requires.due) (subst (λ (x : Stocked). x.driver.calls.asked ≡ None) (sym c.self.view_is) c.requires.none) c.in-Reset.is)
