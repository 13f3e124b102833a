use Rattle.std.proofs.Common.{ap}
use Rattle.vmx_driver.specs.Stocked.{Stocked}
use Rattle.vmx_driver.specs.Deciding.{due_there}
use Rattle.vmx_driver.proofs.driver.Driver.act_action.Goals as goal

pub begin-requires-clause-due : goal.begin-requires-clause-due
begin-requires-clause-due g c κs within = due_there _ _ c.as_slice.result.now c.index-as_slice-self.result _ (ap (λ (x : Stocked). x.driver) c.self.view_is) c.as_slice.ensures.items c.index-as_slice-self.is c.requires.due.1
