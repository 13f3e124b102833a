use Rattle.std.proofs.Common.{sym, ap, subst}
use Rattle.vmx_driver.specs.Stocked.{Stocked, IsClosable, closed_as}
use Rattle.vmx_driver.specs.Noticing.{closes_hold}
use Rattle.vmx_driver.proofs.driver.Driver.close.Goals as goal

pub invariant_of-self : goal.invariant_of-self
invariant_of-self g c = closes_hold _ _ _ _ _ _ c.self.invariant (subst (λ (x : Stocked). IsClosable x.driver) (sym c.self.view_is) c.requires.done)

pub returns-clause-closes : goal.returns-clause-closes
returns-clause-closes g c = ap (λ (x : Stocked). closed_as x.driver) c.self.view_is
