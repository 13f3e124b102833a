use Rattle.std.proofs.Common.{refl}
use Rattle.vmx_driver_ends.specs.PollOne.{polls_nothing}
use Rattle.vmx_driver_ends.proofs.ends.poll_one.Goals as goal

pub returns-in-Nothing-clause-polled : goal.returns-in-Nothing-clause-polled
returns-in-Nothing-clause-polled g c = polls_nothing _ _ _ _ _ _ _ _ _ _ c.in-Nothing.ensures.found refl c.unmask.ensures.view
