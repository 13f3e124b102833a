use Rattle.vmx_driver.specs.Following.{quiesce_due}
use Rattle.vmx_driver.proofs.driver.Driver.quiesce.Goals as goal

pub stop-requires-clause-due : goal.stop-requires-clause-due
stop-requires-clause-due g c κs within = quiesce_due _ _ _ _ c.requires.due c.reap.ensures.reaps (c.is_reaped.ensures.all c.if-not-is_reaped.false)

pub returns-clause-acts : goal.returns-clause-acts
returns-clause-acts g c = record { mid = c.reap.new.self.driver; reaps = c.reap.ensures.reaps; all = c.is_reaped.ensures.all c.if-not-is_reaped.false; stops = c.stop.ensures.stops }
