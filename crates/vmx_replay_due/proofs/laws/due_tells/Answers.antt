use Rattle.vmx_replay_due.proofs.Due.{acting, sent, queue, over}
use Rattle.vmx_replay_due.proofs.laws.due_tells.Goals as goal

pub returns : goal.returns
returns c = record {
  acting = λ n p s st. acting n p s st;
  sent = λ n p s r st acted there. sent n p s st r acted there;
  queue = λ n p s r st acted there. queue n p s st r acted there;
  over = λ n p s st. over n p s st;
}
