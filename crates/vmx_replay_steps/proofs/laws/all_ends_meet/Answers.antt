use Rattle.vmx_replay_steps.proofs.Meeting.{meets_is}
use Rattle.vmx_replay_steps.proofs.laws.all_ends_meet.Goals as goal

pub returns : goal.returns
returns c = record { meets = meets_is }
