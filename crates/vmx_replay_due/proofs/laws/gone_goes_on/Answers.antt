use Rattle.std.proofs.Common.{◌∙◌}
use Rattle.vmx_replay_due.proofs.Due.{unsent}
use Rattle.vmx_replay_due.proofs.laws.gone_goes_on.Goals as goal

pub returns : goal.returns
returns c = record {
  posted = λ n next p over. over.none;
  unsent = λ n p s st. unsent n p s st;
  passed = λ n from to p gone over a q. over.none a q ∙ gone a q;
}
