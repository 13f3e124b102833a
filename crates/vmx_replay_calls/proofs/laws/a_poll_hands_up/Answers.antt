use Rattle.vmx_replay_calls.proofs.PolledOn.{polled_on}
use Rattle.vmx_replay_calls.proofs.laws.a_poll_hands_up.Goals as goal

pub returns : goal.returns
returns c = record { polls = polled_on }
