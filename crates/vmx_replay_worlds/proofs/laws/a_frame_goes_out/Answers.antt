use Rattle.vmx_replay_worlds.proofs.Moved.{puts_is}
use Rattle.vmx_replay_worlds.proofs.laws.a_frame_goes_out.Goals as goal

pub returns : goal.returns
returns c = record { puts = puts_is }
