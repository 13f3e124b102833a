use Rattle.std.proofs.Common.{sym}
use Rattle.vmx_pair_plan.proofs.Verdicts.{frames_sent, sender_plain, sent_here, verdict_here}
use Rattle.vmx_pair_plan.proofs.laws.lengths_decide.Goals as goal

pub returns-clause-verdict : goal.returns-clause-verdict
returns-clause-verdict c = λ capture plan p i r there. verdict_here capture p.a p.sender i r

pub returns-clause-sent : goal.returns-clause-sent
returns-clause-sent c = λ capture plan p. sent_here capture p.a p.sender

pub returns-clause-frames : goal.returns-clause-frames
returns-clause-frames c = λ capture plan p. sym (frames_sent p.a (sender_plain capture p.a p.sender))
