use Rattle.std.proofs.Common.{arith}
use Rattle.vmx_replay_chains.specs.Views.{guest_view, guest_views}
use Rattle.vmx_replay_actors.proofs.Calls.{call_closable, call_closes, few_closed, few_in, links_of, pair_of}
use Rattle.vmx_replay_actors.proofs.run.Run.close.Goals as goal

pub close-requires-clause-pair : goal.close-requires-clause-pair
close-requires-clause-pair g c κs within = pair_of _ _ _ _ _ c.self.invariant _ c.self.view_is _ c.requires.port _ _ c.requires.short (omega arith) (omega arith)

pub close-requires-clause-due : goal.close-requires-clause-due
close-requires-clause-due g c κs within = call_closable _ _ _ _ _ c.self.invariant _ c.self.view_is _ c.requires.port c.requires.next c.requires.over

pub close-requires-clause-links : goal.close-requires-clause-links
close-requires-clause-links g c κs within = links_of _ _ _ _ _ c.self.invariant _ c.self.view_is _ c.requires.port

pub close-requires-clause-few : goal.close-requires-clause-few
close-requires-clause-few g c κs within = few_in guest_view c.self.inside.guests _ c.self.invariant.settled.rests

pub overflow_add-result : goal.overflow_add-result
overflow_add-result g c = let few = few_closed _ _ _ _ _ c.self.invariant _ c.self.view_is _ c.requires.port c.requires.next c.requires.over in omega (arith, few)

pub invariant_of-result : goal.invariant_of-result
invariant_of-result g c =
    (call_closes _ _ _ _ _ c.self.invariant _ c.self.view_is _ c.requires.port c.requires.next c.requires.over c.requires.ready (guest_views c.close.new.guests) c.in_ok-close.ensures.closes c.in_ok-close.ensures.paired).run

pub returns : goal.returns
returns g c = record {
  closes = (call_closes _ _ _ _ _ c.self.invariant _ c.self.view_is _ c.requires.port c.requires.next c.requires.over c.requires.ready (guest_views c.close.new.guests) c.in_ok-close.ensures.closes c.in_ok-close.ensures.paired).is;
}
