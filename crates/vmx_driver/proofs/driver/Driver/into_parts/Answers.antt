use Rattle.std.proofs.Common.{◌≡◌, map, sym, ap, ◌∙◌, subst, true, None}
use Rattle.vmx_model.specs.Bags.{DriverLeaves}
use Rattle.vmx_driver_steps.specs.Progress.{is_over}
use Rattle.vmx_driver_steps.specs.Leaves.{leaves}
use Rattle.vmx_driver.specs.Stocked.{Stocked}
use Rattle.vmx_driver.proofs.driver.Driver.into_parts.Goals as goal

pub returns-clause-leaves : goal.returns-clause-leaves
returns-clause-leaves g c r tx rx received told = subst (λ (v : Stocked). DriverLeaves v.driver.guest v.driver.plan r) c.self.view_is
    (leaves _ c.self.invariant.runs.keeps (subst (λ (v : Stocked). is_over v.driver.at ≡ true) (sym c.self.view_is) c.requires.over) (subst (λ (v : Stocked). v.driver.calls.asked ≡ None) (sym c.self.view_is) c.requires.none) r
    (tx ∙ ap (map g.F.TxFacts.TxFacts.view) (c.of-2.ensures.items ∙ c.into_vec-2.ensures.items), rx ∙ ap (map g.F.RxFacts.RxFacts.view) (c.of-3.ensures.items ∙ c.into_vec-3.ensures.items), received ∙ c.of.ensures.items ∙ c.into_vec.ensures.items, told))
