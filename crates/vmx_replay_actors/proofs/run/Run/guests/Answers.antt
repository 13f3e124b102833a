use Rattle.vmx_replay_actors.proofs.Calls.{over_all}
use Rattle.vmx_replay_actors.proofs.run.Run.guests.Goals as goal

pub returns-clause-over : goal.returns-clause-over
returns-clause-over g c = over_all _ _ _ _ _ c.self.invariant _ c.self.view_is
