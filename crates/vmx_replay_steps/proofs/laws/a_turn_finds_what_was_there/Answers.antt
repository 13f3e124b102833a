use Rattle.vmx_replay_steps.proofs.Sent.{was_put_out}
use Rattle.vmx_replay_steps.proofs.Looks.{looks}
use Rattle.vmx_replay_steps.proofs.Idled.{idles}
use Rattle.vmx_replay_steps.proofs.laws.a_turn_finds_what_was_there.Goals as goal

pub returns : goal.returns
returns c = record { frame = was_put_out; packet = looks; nothing = idles }
