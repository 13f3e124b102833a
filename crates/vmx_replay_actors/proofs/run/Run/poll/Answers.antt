use Rattle.vmx_replay_chains.specs.Views.{guest_views}
use Rattle.vmx_replay_actors.proofs.Calls.{alike_of, any_pair, call_count, call_polls}
use Rattle.vmx_replay_actors.proofs.run.Run.poll.Goals as goal

pub poll_on-requires-clause-pair : goal.poll_on-requires-clause-pair
poll_on-requires-clause-pair g c κs within = any_pair _ _ _ _ _ c.self.invariant _ c.self.view_is _ c.requires.port

pub poll_on-requires-clause-alike : goal.poll_on-requires-clause-alike
poll_on-requires-clause-alike g c κs within = alike_of _ _ _ _ _ c.self.invariant _ c.self.view_is _ c.requires.port

pub invariant_of-result : goal.invariant_of-result
invariant_of-result g c =
    (call_polls _ _ _ _ _ c.self.invariant _ c.self.view_is _ c.requires.port _ (guest_views c.poll_on.new.guests) c.in_ok-count.ensures.polls c.in_ok-count.ensures.paired).run

pub returns-clause-polls : goal.returns-clause-polls
returns-clause-polls g c =
    (call_polls _ _ _ _ _ c.self.invariant _ c.self.view_is _ c.requires.port _ (guest_views c.poll_on.new.guests) c.in_ok-count.ensures.polls c.in_ok-count.ensures.paired).is

pub returns-clause-count : goal.returns-clause-count
returns-clause-count g c =
    call_count _ _ _ _ _ c.self.invariant _ c.self.view_is _ c.requires.port _ (guest_views c.poll_on.new.guests) c.in_ok-count.ensures.polls c.in_ok-count.ensures.paired
