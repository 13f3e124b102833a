use Rattle.std.proofs.Common.{◌≡◌, ◌+◌, ℕ, length, arith, refl, ◌∙◌, subst}
use Rattle.vmx_device_laws.specs.Steps.{InSteps}
use Rattle.vmx_device.specs.Holds.{inner_view}
use Rattle.vmx_device_laws.proofs.Looked.{in_next}
use Rattle.vmx_device.proofs.Rooms.{room_same, room_then, room_more}
use Rattle.vmx_device.proofs.looking.look_at_links.Goals as goal

pub loop-index-init : goal.loop-index-init
loop-index-init g c = record { count = c.in_links-links.ensures.count; kept = refl; steps = (refl, refl); holds = c.requires.holds; room = room_same c.args.inner.now }

pub look_in-here-requires-clause-index : goal.look_in-here-requires-clause-index
look_in-here-requires-clause-index g c κs within = omega (arith, c.loop-index-test.true, c.loop-index.invariant.count, c.loop-index.invariant.kept)

pub look_in-here-requires-clause-few : goal.look_in-here-requires-clause-few
look_in-here-requires-clause-few g c κs within = let inv = c.loop-index.invariant in omega (arith, c.loop-index-test.true, c.in_links-links.ensures.few, inv.room.most, c.requires.few)

pub look_in-here-requires-clause-room : goal.look_in-here-requires-clause-room
look_in-here-requires-clause-room g c κs within = let inv = c.loop-index.invariant in omega (arith, c.loop-index-test.true, c.in_links-links.ensures.few, inv.room.entries_, c.requires.room)

pub loop-index-preserved : goal.loop-index-preserved
loop-index-preserved g c =
    let inv = c.loop-index.invariant in
    let here = c.look_in-here.ensures in record {
      count = inv.count;
      kept = here.links ∙ inv.kept;
      steps = in_next c.loop-index.index c.loop-index.found c.look_in-here.result c.either-found.result (inner_view c.args.inner.now) (inner_view c.loop-index.inner) (inner_view c.look_in-here.new.inner) c.either-found.ensures.either inv.steps here.step;
      holds = here.holds;
      room = room_then c.loop-index.index 0 0 1 0 0 (c.loop-index.index + 1) 0 0 c.args.inner.now c.loop-index.inner c.look_in-here.new.inner inv.room here.room (omega arith) (omega arith) (omega arith);
    }

pub returns-clause-steps : goal.returns-clause-steps
returns-clause-steps g c =
    let inv = c.loop-index.invariant in
    let end : c.loop-index.index ≡ length c.args.inner.now.input = omega (arith, c.loop-index-test.false, c.loop-index.auto.index-end, inv.count) in
    subst (λ (n : ℕ). InSteps n c.loop-index.found (inner_view c.args.inner.now) (inner_view c.loop-index.inner)) end inv.steps

pub returns-clause-room : goal.returns-clause-room
returns-clause-room g c = let inv = c.loop-index.invariant in room_more c.loop-index.index 0 0 15 0 0 c.args.inner.now c.loop-index.inner inv.room (omega (arith, c.loop-index.auto.index-end, c.in_links-links.ensures.few)) (omega arith) (omega arith)
