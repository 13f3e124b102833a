use Rattle.std.proofs.Common.{ℕ, ◌+◌, ◌%◌, ◌≤◌, ◌∷◌, List, length, subst, ap, sym, ◌∙◌, arith}
use Rattle.atomic_table.specs.Table.{rest}
use Rattle.vmx_ends.specs.declared.made.RxMade.{RxMade}
use Rattle.vmx_rx_ring.specs.Words.{second1}
use Rattle.vmx_rx_ring.specs.Tells.{with_driver, items_in}
use Rattle.vmx_rx_ring.proofs.DriverSteps.{returns_descriptor1}
use Rattle.vmx_rx_walk.proofs.Stagings.{room_in}
use Rattle.vmx_rx_walk.proofs.Readings.{slot1_is, due_one, within, returned_below}
use Rattle.vmx_rx_walk.proofs.reading.read_one.Goals as goal

pub slot_mut-requires : goal.slot_mut-requires
slot_mut-requires g c = let h = c.requires.holds in let eq = slot1_is c.args.shape.now c.args.seat.now.me.0.made h.piece c.args.at c.requires.holding.3 h.ring_is h.at_is in
    (c.requires.table.0, (h.buffer, h.out ∙ (λ i. (sym eq i, h.buffer) ∷ rest (sym h.out i))))

pub skip_to-back1-requires-clause-can : goal.skip_to-back1-requires-clause-can
skip_to-back1-requires-clause-can g c = let h = c.requires.holds in let d = due_one c.args.shape.now c.args.seat.now.me.0.driver h.piece h.due h.ring_is in let low = d.0 in let high = d.1 in
    record { piece = h.piece; next = h.next; one = h.ring_is; at = h.at_is; below = low; near = high; lap = omega arith }

pub store-requires : goal.store-requires
store-requires g c = let h = c.requires.holds in let hold = c.requires.holding in let m = c.args.seat.now.me in let eq = slot1_is c.args.shape.now m.0.made h.piece c.args.at hold.3 h.ring_is h.at_is in let s1 = ap (λ (m : RxMade). m.size1) hold.3 in
    let now = c.skip_to-back1.ensures.skipped in let here = c.skip_to-back1.ensures.reached h.piece h.next in let v = with_driver m.0 (record m.0.driver { back1 = c.skip_to-back1.result }) in (
      c.skip_to-back1.ensures.same.0 ∙ c.requires.table.0,
      returned_below _ _ _ c.args.shape.now _ c.requires.table,
      returns_descriptor1 g.C.TellsVisible.counted _ _ _ v c.slot_mut.result.now _ _ h.piece (now ∙ (λ i. (v, (eq i, c.slot_mut.result.now) ∷ rest (h.out i)))) hold.0 hold.1 hold.2 h.next h.ring_is (sym here) (ap room_in (sym c.slot_mut.ensures.value ∙ h.out) ∙ h.room_is)
          (λ i. (sym s1 i + c.skip_to-back1.result) % sym s1 i) (c.descriptor1.ensures.word ∙ (λ i. second1 (sym hold.3 i) (sym s1 i + c.skip_to-back1.result))),
    )

pub copy_out-requires-clause-within : goal.copy_out-requires-clause-within
copy_out-requires-clause-within g c = let h = c.requires.holds in subst (λ (l : List ℕ). c.args.len ≤ length l) (sym (ap (items_in c.args.in_entry) (sym c.slot_mut.ensures.value ∙ h.out))) (within c.args.shape.now c.args.seat.now.me _ _ _ _ _ h)
