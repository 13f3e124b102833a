use Rattle.std.proofs.Common.{arith}
use Rattle.vmx_replay_chains.specs.Views.{guest_view, guest_views}
use Rattle.vmx_replay_actors.proofs.Calls.{call_acts, few_in, links_of, pair_of}
use Rattle.vmx_replay_actors.proofs.run.Run.act.Goals as goal

pub follow-requires-clause-pair : goal.follow-requires-clause-pair
follow-requires-clause-pair g c κs within = pair_of _ _ _ _ _ c.self.invariant _ c.self.view_is _ c.requires.port _ _ c.requires.short (omega arith) (omega arith)

pub follow-requires-clause-links : goal.follow-requires-clause-links
follow-requires-clause-links g c κs within = links_of _ _ _ _ _ c.self.invariant _ c.self.view_is _ c.requires.port

pub follow-requires-clause-few : goal.follow-requires-clause-few
follow-requires-clause-few g c κs within = few_in guest_view c.self.inside.guests _ c.self.invariant.settled.rests

pub invariant_of-result : goal.invariant_of-result
invariant_of-result g c =
    (call_acts _ _ _ _ _ c.self.invariant _ c.self.view_is _ c.requires.port _ c.requires.passed c.requires.acting c.requires.ready (guest_views c.follow.new.guests) c.in_ok-follow.ensures.follows c.in_ok-follow.ensures.paired).run

pub returns : goal.returns
returns g c = record {
  acts = (call_acts _ _ _ _ _ c.self.invariant _ c.self.view_is _ c.requires.port _ c.requires.passed c.requires.acting c.requires.ready (guest_views c.follow.new.guests) c.in_ok-follow.ensures.follows c.in_ok-follow.ensures.paired).is;
}
