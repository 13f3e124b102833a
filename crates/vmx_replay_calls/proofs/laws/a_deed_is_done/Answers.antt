use Rattle.vmx_replay_calls.proofs.Acted.{was_acted}
use Rattle.vmx_replay_calls.proofs.laws.a_deed_is_done.Goals as goal

pub returns : goal.returns
returns c = record { does = was_acted }
