use Rattle.vmx_replay_start.proofs.Ends.{joined_ends}
use Rattle.vmx_replay_start.proofs.links.join.Goals as goal

pub returns : goal.returns
returns c = let a = c.args in record {
  joined = joined_ends a.links.now a.from a.to c.at_mut.result.now c.push.new.self c.at_mut-2.result.now c.push-2.new.self c.requires.from c.requires.to c.at_mut.ensures.value c.at_mut-2.ensures.value c.in_ok-out.out c.in_ok-out.input c.in_ok-out.ensures.ends c.in_ok-push.ensures.ok c.in_ok-push-2.ensures.ok;
}
