use Rattle.vmx_replay_calls.proofs.LookedOn.{notes_still, looked_on}
use Rattle.vmx_replay_calls.proofs.laws.a_link_is_looked_at.Goals as goal

pub returns : goal.returns
returns c = record { notes = notes_still; looks = looked_on }
