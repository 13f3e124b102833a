use Rattle.std.proofs.Common.{rules, ◌≡◌, length, sym, ap, ◌∙◌, subst, arith}
use Rattle.vmx_ends.specs.ReceiveClauses.{made_of}
use Rattle.vmx_rx_ring.specs.Words.{room_at}
use Rattle.vmx_rx_ends.specs.Opening.{HaveRoom}
use Rattle.vmx_rx_ends.proofs.Begins.{one_room}
use Rattle.vmx_rx_ends.proofs.life.buffers.Goals as goal

pub loop-slot-preserved : goal.loop-slot-preserved
loop-slot-preserved c =
    let xs = c.loop-slot.buffers.items in
    let i = c.loop-slot.invariant in
    let at : length xs ≡ c.loop-slot.slot = omega (arith, i.0, c.loop-slot.buffers.ok) in
    let room = c.in_ok-from_elem.ensures.len ∙ c.room_of-size.ensures.room ∙ ap (room_at (made_of c.args.shape.now)) (sym at) in
    (search rules, subst (HaveRoom (made_of c.args.shape.now)) (sym c.in_ok-push.ensures.items) (one_room (made_of c.args.shape.now) xs _ i.1 room))
