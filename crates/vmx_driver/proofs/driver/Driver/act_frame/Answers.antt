use Rattle.std.proofs.Common.{rules}
use Rattle.vmx_driver_steps.specs.Dues.{FrameDue}
use Rattle.vmx_driver_steps.specs.Driver.{DriverView}
use Rattle.vmx_driver.specs.Following.{along}
use Rattle.vmx_driver.proofs.driver.Driver.act_frame.Goals as goal

pub post-requires-clause-due : goal.post-requires-clause-due
post-requires-clause-due g c κs within = along (λ (v : DriverView). FrameDue v.plan v.at) _ _ c.reap.ensures.reaps c.requires.due

pub returns-then-post-clause-acts : goal.returns-then-post-clause-acts
returns-then-post-clause-acts g c = record { mid = c.reap.new.self.driver; reaps = c.reap.ensures.reaps; posts = c.post.ensures.posts (search rules) }

pub returns-else-post-clause-acts : goal.returns-else-post-clause-acts
returns-else-post-clause-acts g c = record { mid = c.reap.new.self.driver; reaps = c.reap.ensures.reaps; full = c.post.ensures.full (search rules) }
