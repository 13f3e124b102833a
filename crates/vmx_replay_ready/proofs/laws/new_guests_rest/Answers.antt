use Rattle.vmx_replay_ready.proofs.Resting.{rest_all, paired_all, keep_all}
use Rattle.vmx_replay_ready.proofs.laws.new_guests_rest.Goals as goal

pub returns : goal.returns
returns c = record { rest = rest_all; paired = paired_all; keeps = keep_all }
