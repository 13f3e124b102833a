use Rattle.std.proofs.Common.{◌≡◌, arith}
use Rattle.vmx_plan_bounds.proofs.Few.{guests_few}
use Rattle.vmx_replay_start.specs.Views.{guest_view, guest_views}
use Rattle.vmx_replay_start.specs.Linking.{links_view}
use Rattle.vmx_replay_start.specs.Made.{AreMade}
use Rattle.vmx_replay_start.proofs.Taking.{taken_first, outs_there, ins_there, row_taken, column_taken, taken_next, all_made}
use Rattle.vmx_replay_start.proofs.Beginning.{new_all}
use Rattle.vmx_replay_start.proofs.guests.new_guests.Goals as goal

pub links_between-requires : goal.links_between-requires
links_between-requires g c = let n = c.len-ports.ensures.len in let few = guests_few c.args.plan.now in record { few = omega (arith, n, few) }

pub loop-port-init : goal.loop-port-init
loop-port-init g c = taken_first guest_view c.args.plan.now (links_view c.in_ok-links.links) c.new-guests.result c.new-guests.ensures.empty

pub take_ends-out-requires : goal.take_ends-out-requires
take_ends-out-requires g c = let l = c.loop-port in record {
  out = outs_there guest_view c.args.plan.now c.len-ports.result l.port c.in_ok-links.links l.links l.guests c.len-ports.ensures.len c.in_ok-links.ensures.linked l.invariant c.loop-port-test.true;
  input = ins_there guest_view c.args.plan.now c.len-ports.result l.port c.in_ok-links.links l.links l.guests c.len-ports.ensures.len c.in_ok-links.ensures.linked l.invariant c.loop-port-test.true;
}

pub guest_at-requires-clause-port : goal.guest_at-requires-clause-port
guest_at-requires-clause-port g c κs within = let n = c.len-ports.ensures.len in let below = c.loop-port-test.true in omega (arith, n, below)

pub guest_at-requires-clause-switch : goal.guest_at-requires-clause-switch
guest_at-requires-clause-switch g c κs within = c.in_ok-switch.ensures.switch

pub guest_at-requires-clause-out : goal.guest_at-requires-clause-out
guest_at-requires-clause-out g c κs within = let l = c.loop-port in let t = c.take_ends-out in row_taken guest_view c.args.plan.now c.len-ports.result l.port c.in_ok-links.links l.links l.guests c.len-ports.ensures.len c.in_ok-links.ensures.linked l.invariant t.result.0 t.result.1 t.new.links t.ensures.taken

pub guest_at-requires-clause-input : goal.guest_at-requires-clause-input
guest_at-requires-clause-input g c κs within = let l = c.loop-port in let t = c.take_ends-out in column_taken guest_view c.args.plan.now c.len-ports.result l.port c.in_ok-links.links l.links l.guests c.len-ports.ensures.len c.in_ok-links.ensures.linked l.invariant t.result.0 t.result.1 t.new.links t.ensures.taken

pub loop-port-preserved : goal.loop-port-preserved
loop-port-preserved g c = let l = c.loop-port in let t = c.take_ends-out in let made = c.in_ok-guest_at.ensures in
    taken_next guest_view c.args.plan.now c.len-ports.result l.port c.in_ok-links.links l.links l.guests c.len-ports.ensures.len c.in_ok-links.ensures.linked l.invariant t.result.0 t.result.1 t.new.links t.ensures.taken
    c.in_ok-guest_at.field-0 c.push.new.self made.made made.links c.in_ok-push.ensures.ok

pub returns : goal.returns
returns g c =
    let l = c.loop-port in let last : l.port ≡ c.len-ports.result = omega arith in
    let all : AreMade c.args.plan.now (guest_views l.guests) = all_made guest_view c.args.plan.now c.len-ports.result l.port c.in_ok-links.links l.links l.guests c.len-ports.ensures.len c.in_ok-links.ensures.linked l.invariant last in
    record { made = all; new = new_all c.args.plan.now (guest_views l.guests) all }
