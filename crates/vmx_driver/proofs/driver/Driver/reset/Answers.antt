use Rattle.vmx_driver.specs.Following.{reset_due}
use Rattle.vmx_driver.proofs.driver.Driver.reset.Goals as goal

pub stop-requires-clause-due : goal.stop-requires-clause-due
stop-requires-clause-due g c κs within = reset_due _ _ _ c.requires.due c.reap.ensures.reaps

pub returns-clause-acts : goal.returns-clause-acts
returns-clause-acts g c = record { mid = c.reap.new.self.driver; reaps = c.reap.ensures.reaps; stops = c.stop.ensures.stops }
