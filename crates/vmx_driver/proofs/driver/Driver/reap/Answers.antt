use Rattle.std.proofs.Common.{refl, ap, arith}
use Rattle.std.proofs.lemmas.List.{length-map}
use Rattle.vmx_driver_steps.specs.Ending.{all_fine}
use Rattle.vmx_driver.specs.Stocked.{Stocked}
use Rattle.vmx_driver.specs.Seeing.{reaps_so}
use Rattle.vmx_driver.specs.Holding.{reaps_hold, few_left, few_tx}
use Rattle.vmx_driver.proofs.driver.Driver.reap.Goals as goal

pub reap_all-count-requires-clause-fine : goal.reap_all-count-requires-clause-fine
reap_all-count-requires-clause-fine g c κs within = all_fine _ _ c.self.invariant.runs

pub reap_all-count-requires-clause-few : goal.reap_all-count-requires-clause-few
reap_all-count-requires-clause-few g c κs within = let e = few_tx _ _ _ _ _ _ c.self.invariant in let l = length-map c.self.inside.tx g.F.TxDriver.TxDriver.view in omega (arith, e, l)

pub overflow_sub-self : goal.overflow_sub-self
overflow_sub-self g c = few_left _ _ _ _ _ _ c.self.invariant _ _ c.reap_all-count.ensures.count

pub invariant_of-self : goal.invariant_of-self
invariant_of-self g c = reaps_hold _ _ _ _ _ _ c.self.invariant _ _ _ c.reap_all-count.ensures.reaped c.reap_all-count.ensures.count refl

pub returns-clause-reaps : goal.returns-clause-reaps
returns-clause-reaps g c = reaps_so _ _ _ (ap (λ (x : Stocked). x.driver) c.self.view_is) c.reap_all-count.ensures.reaped
