use Rattle.std.proofs.Common.{rules, if◌then◌else◌, ◌+◌, sym, ap, ◌∙◌, subst}
use Rattle.std.specs.Prelude.{IsSome}
use Rattle.vmx_driver_steps.specs.Asking.{Waits}
use Rattle.vmx_driver_steps.specs.Answering.{few_turns}
use Rattle.vmx_driver_steps.specs.Hints.{unmasked}
use Rattle.vmx_driver.specs.Stocked.{Stocked}
use Rattle.vmx_driver.specs.Holding.{plain_holds, takes_plain}
use Rattle.vmx_driver.proofs.driver.Driver.take_plain.Goals as goal

pub wait-requires-clause-few : goal.wait-requires-clause-few
wait-requires-clause-few g c κs within = few_turns _ _ c.self.invariant.runs

pub invariant_of-self-2 : goal.invariant_of-self-2
invariant_of-self-2 g c = let one = c.wait.ensures.one (search rules) in
    plain_holds _ _ _ _ _ _ c.self.invariant _ (subst (λ (v : Stocked). IsSome v.driver.calls.asked) (sym c.self.view_is) c.requires.asked) one.0 one.1 _ one.2 _ _ _ (subst (λ (v : Stocked). Waits v.driver.at.stage) (sym c.self.view_is) c.requires.waits) c.unmask_if.ensures.calls

pub returns-clause-takes : goal.returns-clause-takes
returns-clause-takes g c e = takes_plain _ _ _ _ _ _ c.self.invariant _ (subst (λ (v : Stocked). IsSome v.driver.calls.asked) (sym c.self.view_is) c.requires.asked) _ _ _ _ _ (ap (λ (x : Stocked). x.driver) c.self.view_is)
    (subst (λ (v : Stocked). Waits v.driver.at.stage) (sym c.self.view_is) c.requires.waits) (c.wait.ensures.one (search rules)) c.unmask_if.ensures.calls
    (c.unmask_if.ensures.masks ∙ (λ i. if c.self.invariant.opening_is i then unmasked (c.from.ensures i + c.from-2.ensures i + 1) (c.wait.ensures.masks i) else c.wait.ensures.masks i))
    (c.unmask_if.ensures.key ∙ c.wait.ensures.key)
