use Rattle.vmx_replay_calls.proofs.SentOn.{sent_on}
use Rattle.vmx_replay_calls.proofs.laws.a_frame_is_sent_out.Goals as goal

pub returns : goal.returns
returns c = record { sends = sent_on }
