use Rattle.std.proofs.Common.{arith}
use Rattle.vmx_replay_chains.specs.Views.{guest_view, guest_views}
use Rattle.vmx_replay_actors.proofs.Calls.{arrived_below, arrived_within, call_found, call_looks, few_in, link_of, links_of, pair_of}
use Rattle.vmx_replay_actors.proofs.run.Run.look.Goals as goal

pub look_on-requires-clause-pair : goal.look_on-requires-clause-pair
look_on-requires-clause-pair g c κs within = pair_of _ _ _ _ _ c.self.invariant _ c.self.view_is _ c.requires.ports.1 _ _ c.requires.short (omega arith) (omega arith)

pub look_on-requires-clause-link : goal.look_on-requires-clause-link
look_on-requires-clause-link g c κs within = link_of _ _ _ _ _ c.self.invariant _ c.self.view_is _ _ c.requires.ports.0 c.requires.ports.1 c.requires.ports.2

pub look_on-requires-clause-links : goal.look_on-requires-clause-links
look_on-requires-clause-links g c κs within = links_of _ _ _ _ _ c.self.invariant _ c.self.view_is _ c.requires.ports.1

pub look_on-requires-clause-few : goal.look_on-requires-clause-few
look_on-requires-clause-few g c κs within = few_in guest_view c.self.inside.guests _ c.self.invariant.settled.rests

pub count_if-requires-clause-port : goal.count_if-requires-clause-port
count_if-requires-clause-port g c = arrived_within _ _ _ _ _ c.self.invariant _ c.self.view_is _ c.requires.ports.1

pub count_if-requires-clause-few : goal.count_if-requires-clause-few
count_if-requires-clause-few g c = arrived_below _ _ _ _ _ c.self.invariant _ c.self.view_is _ c.requires.short

pub invariant_of-result : goal.invariant_of-result
invariant_of-result g c =
    let x = c.in_ok-is_found in
    (call_looks _ _ _ _ _ c.self.invariant _ c.self.view_is _ _ c.requires.ports.2 c.requires.alone (guest_views c.look_on.new.guests) x.ensures.looks x.ensures.paired _ x.ensures.found c.count_if.new.numbers c.count_if.ensures.counts).run

pub returns-clause-looks : goal.returns-clause-looks
returns-clause-looks g c =
    let x = c.in_ok-is_found in
    (call_looks _ _ _ _ _ c.self.invariant _ c.self.view_is _ _ c.requires.ports.2 c.requires.alone (guest_views c.look_on.new.guests) x.ensures.looks x.ensures.paired _ x.ensures.found c.count_if.new.numbers c.count_if.ensures.counts).is

pub returns-clause-found : goal.returns-clause-found
returns-clause-found g c =
    let x = c.in_ok-is_found in
    call_found _ _ _ _ _ c.self.invariant _ c.self.view_is _ _ c.requires.ports.2 c.requires.alone (guest_views c.look_on.new.guests) x.ensures.looks x.ensures.paired _ x.ensures.found
