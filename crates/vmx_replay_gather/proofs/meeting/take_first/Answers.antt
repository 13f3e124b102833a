use Rattle.vmx_replay_gather.proofs.InTurn.{taken_first}
use Rattle.vmx_replay_gather.proofs.meeting.take_first.Goals as goal

pub returns : goal.returns
returns c = record { taken = taken_first c.args.input.now c.args.port c.at_mut.result.now c.pop_first.new.self c.in-Some.end c.requires.there c.at_mut.ensures.value c.in-Some.ensures.first }
