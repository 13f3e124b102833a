use Rattle.vmx_replay_calls.proofs.Followed.{ends_met}
use Rattle.vmx_replay_calls.proofs.laws.the_ends_meet.Goals as goal

pub returns : goal.returns
returns c = record { meets = ends_met }
