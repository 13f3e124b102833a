use Rattle.std.proofs.Common.{ℕ, ◌+◌, ◌%◌, ◌≤◌, ◌∷◌, List, length, subst, false, ap, sym, ◌∙◌}
use Rattle.atomic_table.specs.Table.{rest}
use Rattle.vmx_ends.specs.declared.made.RxMade.{RxMade}
use Rattle.vmx_rx_ring.specs.Words.{second2}
use Rattle.vmx_rx_ring.specs.Tells.{items_in}
use Rattle.vmx_rx_ring.proofs.DriverSteps.{returns_descriptor2}
use Rattle.vmx_rx_walk.proofs.Stagings.{room_in}
use Rattle.vmx_rx_walk.proofs.Readings.{slot2_is, due_two, within, second_below}
use Rattle.vmx_rx_walk.proofs.reading.read_two.Goals as goal

pub slot_mut-requires : goal.slot_mut-requires
slot_mut-requires g c = let h = c.requires.holds in let eq = slot2_is c.args.shape.now c.args.seat.now.me.0.made h.piece c.args.at c.requires.holding.3 h.ring_is h.at_is in
    (c.requires.table.0, (h.buffer, h.out ∙ (λ i. (sym eq i, h.buffer) ∷ rest (sym h.out i))))

pub store-requires : goal.store-requires
store-requires g c = let h = c.requires.holds in let hold = c.requires.holding in let m = c.args.seat.now.me in let eq = slot2_is c.args.shape.now m.0.made h.piece c.args.at hold.3 h.ring_is h.at_is in
    let s1 = ap (λ (m : RxMade). m.size1) hold.3 in let s2 = ap (λ (m : RxMade). m.size2) hold.3 in (
      c.requires.table.0,
      second_below _ _ _ c.args.shape.now _ c.requires.table,
      returns_descriptor2 g.C.TellsVisible.counted _ _ _ m.0 c.slot_mut.result.now _ _ h.piece (λ i. (m.0, (eq i, c.slot_mut.result.now) ∷ rest (h.out i))) hold.0 hold.1 hold.2 h.next h.ring_is (due_two c.args.shape.now m.0.driver h.piece h.due h.ring_is) (ap room_in (sym c.slot_mut.ensures.value ∙ h.out) ∙ h.room_is)
          (λ i. sym s1 i + (sym s2 i + c.requires.at i) % sym s2 i) (c.descriptor2.ensures.word ∙ (λ i. second2 (sym hold.3 i) (sym s2 i + c.requires.at i))),
    )

pub copy_out-requires-clause-within : goal.copy_out-requires-clause-within
copy_out-requires-clause-within g c = let h = c.requires.holds in subst (λ (l : List ℕ). c.args.len ≤ length l) (sym (ap (items_in false) (sym c.slot_mut.ensures.value ∙ h.out))) (within c.args.shape.now c.args.seat.now.me _ _ _ _ _ h)
