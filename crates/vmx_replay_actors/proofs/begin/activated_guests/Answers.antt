use Rattle.std.proofs.Common.{◌≡◌, ℕ, ◌<◌, length, arith, subst}
use Rattle.vmx_replay_chains.specs.Views.{guest_view, guest_views}
use Rattle.vmx_replay_actors.specs.Runs.{AreBegun}
use Rattle.vmx_replay_actors.proofs.Beginning.{made_begun, next_begun, pair_begun}
use Rattle.vmx_replay_actors.proofs.Calls.{few_in}
use Rattle.vmx_replay_actors.proofs.Here.{links_on}
use Rattle.vmx_replay_actors.proofs.begin.activated_guests.Goals as goal

pub loop-port-init : goal.loop-port-init
loop-port-init g c = made_begun _ _ c.in_ok-guests.ensures.made c.in_ok-guests.ensures.new

pub renew-requires-clause-pair : goal.renew-requires-clause-pair
renew-requires-clause-pair g c κs within =
    let n = c.len-ports.ensures.len in let below = c.loop-port-test.true in let lt : c.loop-port.port < length c.args.plan.now.guests = omega (arith, n, below) in
    pair_begun _ _ _ c.loop-port.invariant lt

pub renew-requires-clause-links : goal.renew-requires-clause-links
renew-requires-clause-links g c κs within =
    let n = c.len-ports.ensures.len in let below = c.loop-port-test.true in let lt : c.loop-port.port < length c.args.plan.now.guests = omega (arith, n, below) in
    links_on _ _ _ c.loop-port.invariant.settled.rests lt

pub renew-requires-clause-few : goal.renew-requires-clause-few
renew-requires-clause-few g c κs within = few_in guest_view c.loop-port.guests _ c.loop-port.invariant.settled.rests

pub loop-port-preserved : goal.loop-port-preserved
loop-port-preserved g c =
    let n = c.len-ports.ensures.len in let below = c.loop-port-test.true in let lt : c.loop-port.port < length c.args.plan.now.guests = omega (arith, n, below) in
    next_begun _ _ _ c.loop-port.invariant lt (guest_views c.renew.new.guests) c.in_ok-renew.ensures.renews c.in_ok-renew.ensures.paired

pub returns : goal.returns
returns g c =
    let l = c.loop-port in let n = c.len-ports.ensures.len in
    let last : l.port ≡ length c.args.plan.now.guests = omega (arith, n) in
    record { begun = subst (λ (k : ℕ). AreBegun k c.args.plan.now (guest_views l.guests)) last l.invariant }
