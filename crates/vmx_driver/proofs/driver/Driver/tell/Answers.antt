use Rattle.vmx_driver_steps.specs.Driver.{DriverView}
use Rattle.vmx_driver_steps.specs.Acting.{ActionDue}
use Rattle.vmx_driver.specs.Following.{along, updates_after}
use Rattle.vmx_driver.proofs.driver.Driver.tell.Goals as goal

pub update-requires-clause-due : goal.update-requires-clause-due
update-requires-clause-due g c κs within = along (λ (v : DriverView). ActionDue v.plan v.at c.args.action.now) _ _ c.reap.ensures.reaps c.requires.due

pub returns-clause-acts : goal.returns-clause-acts
returns-clause-acts g c = updates_after _ _ _ _ _ c.requires.number c.reap.ensures.reaps c.update.ensures.updates
