use Rattle.std.proofs.Common.{◌≡◌, ◌≢◌, sym, ◌∙◌, subst, arith}
use Rattle.vmx_driver_steps.specs.Counting.{all_reaped}
use Rattle.vmx_driver_steps.specs.Driving.{unreaped}
use Rattle.vmx_driver.specs.Stocked.{Stocked, AllReaped}
use Rattle.vmx_driver.proofs.driver.Driver.is_reaped.Goals as goal

pub returns-clause-all : goal.returns-clause-all
returns-clause-all g c e = let none : c.self.inside.unreaped ≡ 0 = grind (arith, e) in
    subst (λ (x : Stocked). AllReaped x.driver) c.self.view_is (all_reaped _ _ _ _ 0 _ c.self.invariant.runs.keeps.tx (sym c.self.invariant.left_is ∙ none))

pub returns-clause-some : goal.returns-clause-some
returns-clause-some g c e = subst (λ (x : Stocked). unreaped x.driver.tx ≢ 0) c.self.view_is (λ z. let is = c.self.invariant.left_is in let none : c.self.inside.unreaped ≡ 0 = is ∙ z in grind (arith, e, none))
