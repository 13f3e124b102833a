use Rattle.vmx_replay_calls.proofs.Selves.{turn_self}
use Rattle.vmx_replay_calls.proofs.laws.a_device_stays_itself.Goals as goal

pub returns : goal.returns
returns c = record { turn = turn_self }
