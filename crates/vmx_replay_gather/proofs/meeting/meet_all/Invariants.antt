use Rattle.std.proofs.Common.{length, map}
use Rattle.vmx_link.specs.Ends.{facts_view}
use Rattle.vmx_replay_start.specs.Linking.{outs_view, ins_view}
use Rattle.vmx_replay_gather.proofs.InTurn.{MetSo}
use Rattle.vmx_replay_gather.proofs.meeting.meet_all.Given as goal

abbrev pub invariant-loop-end : goal.invariant-loop-end
invariant-loop-end l = MetSo (map ins_view l.fn.ends.input) (outs_view l.fn.ends.out) (outs_view l.out) (map ins_view l.input) (map facts_view l.links)

abbrev pub decreases-loop-end : goal.decreases-loop-end
decreases-loop-end l = length l.out
