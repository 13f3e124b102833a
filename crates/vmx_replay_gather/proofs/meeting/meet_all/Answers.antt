use Rattle.std.proofs.Common.{map}
use Rattle.vmx_replay_start.specs.Linking.{outs_view, ins_view}
use Rattle.vmx_replay_gather.proofs.InTurn.{first_there, both_ends, both_met}
use Rattle.vmx_replay_gather.proofs.meeting.meet_all.Goals as goal

pub take_first-other-requires : goal.take_first-other-requires
take_first-other-requires c = let a = c.args.ends in let l = c.loop-end in record {
  there = first_there (map ins_view a.input) (outs_view a.out) l.out c.pop_first.new.self c.in-Some.end c.to.result l.input l.links l.invariant c.in-Some.ensures.first c.to.ensures.to;
}

pub meet-requires-clause-key : goal.meet-requires-clause-key
meet-requires-clause-key c = let a = c.args.ends in let l = c.loop-end in
    (both_ends (map ins_view a.input) (outs_view a.out) l.out c.pop_first.new.self c.in-Some.end c.to.result l.input l.links l.invariant c.in-Some.ensures.first c.to.ensures.to c.take_first-other.result c.take_first-other.new.input c.take_first-other.ensures.taken).key

pub meet-requires-clause-output_even : goal.meet-requires-clause-output_even
meet-requires-clause-output_even c = let a = c.args.ends in let l = c.loop-end in
    (both_ends (map ins_view a.input) (outs_view a.out) l.out c.pop_first.new.self c.in-Some.end c.to.result l.input l.links l.invariant c.in-Some.ensures.first c.to.ensures.to c.take_first-other.result c.take_first-other.new.input c.take_first-other.ensures.taken).out_even

pub meet-requires-clause-input_even : goal.meet-requires-clause-input_even
meet-requires-clause-input_even c = let a = c.args.ends in let l = c.loop-end in
    (both_ends (map ins_view a.input) (outs_view a.out) l.out c.pop_first.new.self c.in-Some.end c.to.result l.input l.links l.invariant c.in-Some.ensures.first c.to.ensures.to c.take_first-other.result c.take_first-other.new.input c.take_first-other.ensures.taken).in_even

pub loop-end-preserved : goal.loop-end-preserved
loop-end-preserved c = let a = c.args.ends in let l = c.loop-end in
    both_met (map ins_view a.input) (outs_view a.out) l.out c.pop_first.new.self c.in-Some.end c.to.result l.input l.links l.invariant c.in-Some.ensures.first c.to.ensures.to c.take_first-other.result c.take_first-other.new.input c.take_first-other.ensures.taken c.meet.result c.push.new.self c.meet.ensures.view c.in_ok-push.ensures.ok
