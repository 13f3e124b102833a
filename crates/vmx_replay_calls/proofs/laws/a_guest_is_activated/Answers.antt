use Rattle.vmx_replay_calls.proofs.Begun.{was_activated}
use Rattle.vmx_replay_calls.proofs.laws.a_guest_is_activated.Goals as goal

pub returns : goal.returns
returns c = record { activates = was_activated }
