use Rattle.std.proofs.Common.{◌≡◌, ◌+◌, ◌*◌, ℕ, arith, refl, ◌∙◌, subst}
use Rattle.vmx_device_laws.specs.Views.{tx_held}
use Rattle.vmx_device_laws.specs.Steps.{TxSteps}
use Rattle.vmx_device.specs.Holds.{inner_view}
use Rattle.vmx_device_laws.proofs.Looked.{tx_next, tx_few}
use Rattle.vmx_device.proofs.Rooms.{room_same, room_then, room_more}
use Rattle.vmx_device_laws.proofs.Turns.{held_tx_step}
use Rattle.vmx_device.proofs.looking.look_at_queues.Goals as goal

pub tx_queues-queues-requires-clause-few : goal.tx_queues-queues-requires-clause-few
tx_queues-queues-requires-clause-few g c κs within = tx_few (inner_view c.args.inner.now) c.requires.holds.keeps

pub loop-queue-init : goal.loop-queue-init
loop-queue-init g c = record { count = c.tx_queues-queues.ensures.count; kept = refl; steps = (refl, refl); holds = c.requires.holds; room = room_same c.args.inner.now }

pub look_tx-here-requires-clause-queue : goal.look_tx-here-requires-clause-queue
look_tx-here-requires-clause-queue g c κs within = omega (arith, c.loop-queue-test.true, c.loop-queue.invariant.count, c.loop-queue.invariant.kept)

pub look_tx-here-requires-clause-few : goal.look_tx-here-requires-clause-few
look_tx-here-requires-clause-few g c κs within =
    let inv = c.loop-queue.invariant in omega (arith, c.loop-queue-test.true, inv.count, tx_few (inner_view c.args.inner.now) c.requires.holds.keeps, inv.room.most, c.requires.few)

pub look_tx-here-requires-clause-room : goal.look_tx-here-requires-clause-room
look_tx-here-requires-clause-room g c κs within =
    let inv = c.loop-queue.invariant in
    let few = tx_few (inner_view c.args.inner.now) c.requires.holds.keeps in
    (omega (arith, c.loop-queue-test.true, inv.count, few, inv.room.entries_, c.requires.room.0), omega (arith, c.loop-queue-test.true, inv.count, few, inv.room.copies_, c.requires.room.1))

pub loop-queue-preserved : goal.loop-queue-preserved
loop-queue-preserved g c =
    let inv = c.loop-queue.invariant in
    let here = c.look_tx-here.ensures in record {
      count = inv.count;
      kept = held_tx_step (inner_view c.loop-queue.inner) (inner_view c.look_tx-here.new.inner) c.loop-queue.queue c.look_tx-here.result here.step ∙ inv.kept;
      steps = tx_next c.loop-queue.queue c.loop-queue.found c.look_tx-here.result c.either-found.result (inner_view c.args.inner.now) (inner_view c.loop-queue.inner) (inner_view c.look_tx-here.new.inner) c.either-found.ensures.either inv.steps here.step;
      holds = here.holds;
      room = room_then (16 * c.loop-queue.queue) 0 (16 * c.loop-queue.queue) 16 0 16 (16 * (c.loop-queue.queue + 1)) 0 (16 * (c.loop-queue.queue + 1)) c.args.inner.now c.loop-queue.inner c.look_tx-here.new.inner inv.room here.room (omega arith) (omega arith) (omega arith);
    }

pub returns-clause-steps : goal.returns-clause-steps
returns-clause-steps g c =
    let inv = c.loop-queue.invariant in
    let end : c.loop-queue.queue ≡ tx_held c.args.inner.now.machine.active = omega (arith, c.loop-queue-test.false, c.loop-queue.auto.queue-end, inv.count) in
    subst (λ (n : ℕ). TxSteps n c.loop-queue.found (inner_view c.args.inner.now) (inner_view c.loop-queue.inner)) end inv.steps

pub returns-clause-room : goal.returns-clause-room
returns-clause-room g c =
    let inv = c.loop-queue.invariant in
    let few = tx_few (inner_view c.args.inner.now) c.requires.holds.keeps in
    room_more (16 * c.loop-queue.queue) 0 (16 * c.loop-queue.queue) 128 0 128 c.args.inner.now c.loop-queue.inner inv.room (omega (arith, c.loop-queue.auto.queue-end, inv.count, few)) (omega arith) (omega (arith, c.loop-queue.auto.queue-end, inv.count, few))
