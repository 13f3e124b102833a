use Rattle.vmx_replay_calls.proofs.Closed.{was_closed}
use Rattle.vmx_replay_calls.proofs.laws.a_guest_is_closed.Goals as goal

pub returns : goal.returns
returns c = record { closes = was_closed }
