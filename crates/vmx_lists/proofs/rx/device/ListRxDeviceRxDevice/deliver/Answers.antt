use Rattle.std.proofs.Common.{rules, ap, ap₂, ◌∙◌, sym, refl, ℕ, List, set, length-append, ◌+◌, ◌%◌, ◌∷◌, [], length, arith, subst}
use Rattle.atomic_table.specs.Table.{rest}
use Rattle.vmx_ends.specs.Walk.{further_pieces}
use Rattle.vmx_ends.specs.Receive.{used, took1, took2}
use Rattle.vmx_lists.specs.RxPlays.{sight, going}
use Rattle.vmx_lists.proofs.RxDevices.{went, stopped, sums_below, slot_of}
use Rattle.vmx_ends.specs.WalkLaws.{through}
use Rattle.vmx_ends.specs.WalkCounts.{used-append}
use Rattle.vmx_lists.proofs.RxDelivers.{grows_delivered, grows_refused, filled_is, delivers, refuses, sums_more, around_of, soon}
use Rattle.vmx_lists.specs.RxSums.{AreSums}
use Rattle.vmx_ring_laws.specs.Keys.{key_of}
use Rattle.vmx_ends.specs.ReceiveClauses.{made_of}
use Rattle.vmx_ends.specs.Frames.{IsFrame}
use Rattle.vmx_lists.specs.RxEnds.{device_seen, device_view}
use Rattle.vmx_ends.specs.ReceiveClauses.{DeliversFrame, Refuses, ring_size}
use Rattle.vmx_layout.specs.declared.TheConstants.{RX_DESC_GENERATION_BIT}
use Rattle.vmx_ends.specs.Words.{missed_word}
use Rattle.vmx_ends.specs.declared.frames.Delivery.{Delivery}
use Rattle.vmx_lists.proofs.RxSteps.{device_stores}
use Rattle.vmx_lists.proofs.rx.device.ListRxDeviceRxDevice.deliver.Goals as goal

pub overflow_add-posted1 : goal.overflow_add-posted1
overflow_add-posted1 c = let me = c.args.self.now in
    let below = sums_below me.seat.me (made_of me.shape) c.look-received.result c.sum_of.result _ me.ones.items me.twos.items _ me.twos.items me.made_is me.sums c.look-received.ensures.looked.1 c.as_slice.ensures.value refl c.sum_of.ensures.sum refl in
    let b = below.0 in let s = c.requires.positions.0 in let k = me.kept.2 in omega arith

pub overflow_add-posted2 : goal.overflow_add-posted2
overflow_add-posted2 c = let me = c.args.self.now in
    let below = sums_below me.seat.me (made_of me.shape) c.look-received.result _ c.sum_of-2.result me.ones.items me.twos.items me.ones.items _ me.made_is me.sums c.look-received.ensures.looked.1 refl c.as_slice-2.ensures.value refl c.sum_of-2.ensures.sum in
    let b = below.1 in let s = c.requires.positions.1 in let k = me.kept.4 in omega arith

pub slot_mut-requires : goal.slot_mut-requires
slot_mut-requires c = let me = c.args.self.now in let n = sym me.sized.0 ∙ ap (λ z. z.slots) (me.seated ∙ sym (ap (λ q. q.shared.table_id) c.deref.ensures)) in let at = ap₂ (λ (a b : ℕ). a % b) me.counts.0 n in
    let g = went me.seat.me (made_of me.shape) c.look-received.result _ me.next1 me.next2 c.sum_of.result c.sum_of-2.result me.ones.items me.twos.items _ _ _ me.made_is refl me.sums c.look-received.ensures.looked.1 me.nexts.0 me.nexts.1 c.as_slice.ensures.value c.as_slice-2.ensures.value c.sum_of.ensures.sum c.sum_of-2.ensures.sum c.walk_by.ensures.walk _ _ _ c.in-Takes.is in
    let got = slot_of _ _ _ _ _ _ g.is c.look-received.ensures.looked.0 in
    (search rules, (got.0, ap (λ m. m.1) got.1 ∙ (λ i. (sym at i, got.0) ∷ rest (sym got.1 i).1)))

pub pack-requires : goal.pack-requires
pack-requires c = let me = c.args.self.now in let v = me.seat.me.0 in let r = c.look-received.result in
    let g = went me.seat.me (made_of me.shape) r _ me.next1 me.next2 c.sum_of.result c.sum_of-2.result me.ones.items me.twos.items _ _ _ me.made_is refl me.sums c.look-received.ensures.looked.1 me.nexts.0 me.nexts.1 c.as_slice.ensures.value c.as_slice-2.ensures.value c.sum_of.ensures.sum c.sum_of-2.ensures.sum c.walk_by.ensures.walk _ _ _ c.in-Takes.is in
    let same = ap (λ z. z.size1) me.made_is in let pos = me.sized.2 in
    let t = through v.made me.shape.bodies (used took1 v.delivered) (used took2 v.delivered) _ _ _ (ap (λ z. z.bodies) me.made_is) (omega arith) c.in-Takes.passed g.end g.is in let near = soon v.made me.shape.bodies (used took1 v.delivered) c.in-Takes.passed (ap (λ z. z.bodies) me.made_is) (omega arith) t.head in let small = me.kept.5 in let s = c.requires.frame.1 in
    record { fits = c.requires.frame.1; few = omega arith }

pub store-requires : goal.store-requires
store-requires c = let me = c.args.self.now in let n = sym me.sized.0 ∙ ap (λ z. z.slots) (me.seated ∙ sym (ap (λ q. q.shared.table_id) c.deref.ensures)) in let at = ap₂ (λ (a b : ℕ). a % b) me.counts.0 n in
    let v = me.seat.me.0 in let r = c.look-received.result in
    let g = went me.seat.me (made_of me.shape) r _ me.next1 me.next2 c.sum_of.result c.sum_of-2.result me.ones.items me.twos.items _ _ _ me.made_is refl me.sums c.look-received.ensures.looked.1 me.nexts.0 me.nexts.1 c.as_slice.ensures.value c.as_slice-2.ensures.value c.sum_of.ensures.sum c.sum_of-2.ensures.sum c.walk_by.ensures.walk _ _ _ c.in-Takes.is in
    let got = slot_of _ _ _ _ _ _ g.is c.look-received.ensures.looked.0 in let same = ap (λ z. z.size1) me.made_is in let pos = me.sized.2 in
    let t = through v.made me.shape.bodies (used took1 v.delivered) (used took2 v.delivered) _ _ _ (ap (λ z. z.bodies) me.made_is) (omega arith) c.in-Takes.passed g.end g.is in (
      search rules,
      search rules,
      device_stores _ _ _ (going v r) c.pack.new.parcel c.in-Takes.passed g.end _ _ (λ i. ((got.1 i).0, (at i, c.pack.new.parcel) ∷ rest (got.1 i).1)) me.rests.0 me.rests.1 refl (subst IsFrame (sym c.pack.ensures.frame) c.requires.frame)
          (ap (λ (l : ℕ). sight (further_pieces l) v r) c.pack.ensures.len ∙ g.is) c.pack.ensures.pieces.0 (c.pack.ensures.pieces.1 ∙ (let p = t.pieces in omega arith)) refl (ap (λ (z : ℕ). z + 1) me.counts.0),
    )

pub invariant_of-self-clause-rests : goal.invariant_of-self-clause-rests
invariant_of-self-clause-rests c = let me = c.args.self.now in let v = me.seat.me.0 in let r = c.look-received.result in
    let h = stopped me.seat.me (made_of me.shape) r _ me.next1 me.next2 c.sum_of.result c.sum_of-2.result me.ones.items me.twos.items _ _ _ me.made_is refl me.sums c.look-received.ensures.looked.1 me.nexts.0 me.nexts.1 c.as_slice.ensures.value c.as_slice-2.ensures.value c.sum_of.ensures.sum c.sum_of-2.ensures.sum c.walk_by.ensures.walk _ _ c.in-Misses.is in
    let now = slot_of _ _ _ _ _ _ h.is c.look-received.ensures.looked.0 in let same = ap (λ z. z.size1) me.made_is in let pos = me.sized.2 in
    (ap (λ z. z.0.delivers) now ∙ me.rests.0, ap (λ z. z.0.receives) now ∙ me.rests.1, ap (λ z. z.0.busy) now ∙ me.rests.2, ap (λ z. z.1) now)

pub invariant_of-self-clause-made_is : goal.invariant_of-self-clause-made_is
invariant_of-self-clause-made_is c = let me = c.args.self.now in let v = me.seat.me.0 in let r = c.look-received.result in
    let h = stopped me.seat.me (made_of me.shape) r _ me.next1 me.next2 c.sum_of.result c.sum_of-2.result me.ones.items me.twos.items _ _ _ me.made_is refl me.sums c.look-received.ensures.looked.1 me.nexts.0 me.nexts.1 c.as_slice.ensures.value c.as_slice-2.ensures.value c.sum_of.ensures.sum c.sum_of-2.ensures.sum c.walk_by.ensures.walk _ _ c.in-Misses.is in
    let now = slot_of _ _ _ _ _ _ h.is c.look-received.ensures.looked.0 in let same = ap (λ z. z.size1) me.made_is in let pos = me.sized.2 in
    ap (λ z. z.0.made) now ∙ me.made_is

pub invariant_of-self-clause-counts : goal.invariant_of-self-clause-counts
invariant_of-self-clause-counts c = let me = c.args.self.now in let v = me.seat.me.0 in let r = c.look-received.result in
    let h = stopped me.seat.me (made_of me.shape) r _ me.next1 me.next2 c.sum_of.result c.sum_of-2.result me.ones.items me.twos.items _ _ _ me.made_is refl me.sums c.look-received.ensures.looked.1 me.nexts.0 me.nexts.1 c.as_slice.ensures.value c.as_slice-2.ensures.value c.sum_of.ensures.sum c.sum_of-2.ensures.sum c.walk_by.ensures.walk _ _ c.in-Misses.is in
    let now = slot_of _ _ _ _ _ _ h.is c.look-received.ensures.looked.0 in let same = ap (λ z. z.size1) me.made_is in let pos = me.sized.2 in
    let a = ap (λ z. length z.0.refused) now in let b = me.counts.1 in let e = length-append v.refused ((c.in-Misses.ring, c.in-Misses.position, missed_word RX_DESC_GENERATION_BIT (ring_size v.made c.in-Misses.ring) c.in-Misses.position) ∷ []) in (me.counts.0 ∙ sym (ap (λ z. length z.0.delivered) now), omega arith)

pub invariant_of-self-clause-sums : goal.invariant_of-self-clause-sums
invariant_of-self-clause-sums c = let me = c.args.self.now in let v = me.seat.me.0 in let r = c.look-received.result in
    let h = stopped me.seat.me (made_of me.shape) r _ me.next1 me.next2 c.sum_of.result c.sum_of-2.result me.ones.items me.twos.items _ _ _ me.made_is refl me.sums c.look-received.ensures.looked.1 me.nexts.0 me.nexts.1 c.as_slice.ensures.value c.as_slice-2.ensures.value c.sum_of.ensures.sum c.sum_of-2.ensures.sum c.walk_by.ensures.walk _ _ c.in-Misses.is in
    let now = slot_of _ _ _ _ _ _ h.is c.look-received.ensures.looked.0 in let same = ap (λ z. z.size1) me.made_is in let pos = me.sized.2 in
    subst (λ ds. AreSums me.shape.size1 ds me.ones.items me.twos.items) (sym (ap (λ z. z.0.delivered) now)) me.sums

pub invariant_of-self-clause-nexts : goal.invariant_of-self-clause-nexts
invariant_of-self-clause-nexts c = let me = c.args.self.now in let v = me.seat.me.0 in let r = c.look-received.result in
    let h = stopped me.seat.me (made_of me.shape) r _ me.next1 me.next2 c.sum_of.result c.sum_of-2.result me.ones.items me.twos.items _ _ _ me.made_is refl me.sums c.look-received.ensures.looked.1 me.nexts.0 me.nexts.1 c.as_slice.ensures.value c.as_slice-2.ensures.value c.sum_of.ensures.sum c.sum_of-2.ensures.sum c.walk_by.ensures.walk _ _ c.in-Misses.is in
    let now = slot_of _ _ _ _ _ _ h.is c.look-received.ensures.looked.0 in let same = ap (λ z. z.size1) me.made_is in let pos = me.sized.2 in
    (me.nexts.0 ∙ sym (ap (λ z. used took1 z.0.delivered) now), me.nexts.1 ∙ sym (ap (λ z. used took2 z.0.delivered) now))

pub invariant_of-self-clause-tells : goal.invariant_of-self-clause-tells
invariant_of-self-clause-tells c = let me = c.args.self.now in let v = me.seat.me.0 in let r = c.look-received.result in
    let h = stopped me.seat.me (made_of me.shape) r _ me.next1 me.next2 c.sum_of.result c.sum_of-2.result me.ones.items me.twos.items _ _ _ me.made_is refl me.sums c.look-received.ensures.looked.1 me.nexts.0 me.nexts.1 c.as_slice.ensures.value c.as_slice-2.ensures.value c.sum_of.ensures.sum c.sum_of-2.ensures.sum c.walk_by.ensures.walk _ _ c.in-Misses.is in
    let now = slot_of _ _ _ _ _ _ h.is c.look-received.ensures.looked.0 in let same = ap (λ z. z.size1) me.made_is in let pos = me.sized.2 in
    (ap (λ z. z.0.tells_delivered) now ∙ me.tells.0, ap (λ z. z.0.tells_received) now ∙ me.tells.1)

pub returns-in-Misses-clause-delivers : goal.returns-in-Misses-clause-delivers
returns-in-Misses-clause-delivers c = let me = c.args.self.now in let v = me.seat.me.0 in let r = c.look-received.result in
    let h = stopped me.seat.me (made_of me.shape) r _ me.next1 me.next2 c.sum_of.result c.sum_of-2.result me.ones.items me.twos.items _ _ _ me.made_is refl me.sums c.look-received.ensures.looked.1 me.nexts.0 me.nexts.1 c.as_slice.ensures.value c.as_slice-2.ensures.value c.sum_of.ensures.sum c.sum_of-2.ensures.sum c.walk_by.ensures.walk _ _ c.in-Misses.is in
    let now = slot_of _ _ _ _ _ _ h.is c.look-received.ensures.looked.0 in let same = ap (λ z. z.size1) me.made_is in let pos = me.sized.2 in
    subst (λ (z : List ℕ × ℕ × ℕ). Refuses (device_view me) (length c.args.frame.now) c.in-Misses.ring c.in-Misses.position z.1 z.2 (device_seen z.0 c.look-received.new.seat.me.0))
    (λ i. (key_of (sym c.look-received.ensures.same.0 i), (ap (λ m. missed_word RX_DESC_GENERATION_BIT (ring_size m c.in-Misses.ring) c.in-Misses.position) me.made_is ∙ sym (c.missed_descriptor.ensures.word ∙ ap (λ (z : ℕ). missed_word RX_DESC_GENERATION_BIT z c.in-Misses.position) c.size_of-size.ensures.size)) i, sym me.counts.1 i))
    (refuses (key_of me.seat.table_id) v r _ me.shape.bodies (omega arith) (ap (λ z. z.bodies) me.made_is) me.kept.5 (let z = c.requires.frame.1 in omega arith) (around_of _ _ c.look-received.ensures.looked.1) (length c.args.frame.now) c.in-Misses.ring c.in-Misses.position h.looks c.look-received.new.seat.me.0 h.is refl (ap (λ m. m.0) now))

pub invariant_of-self-in-Takes-clause-rests : goal.invariant_of-self-in-Takes-clause-rests
invariant_of-self-in-Takes-clause-rests c = let me = c.args.self.now in let v = me.seat.me.0 in let r = c.look-received.result in
    let g = went me.seat.me (made_of me.shape) r _ me.next1 me.next2 c.sum_of.result c.sum_of-2.result me.ones.items me.twos.items _ _ _ me.made_is refl me.sums c.look-received.ensures.looked.1 me.nexts.0 me.nexts.1 c.as_slice.ensures.value c.as_slice-2.ensures.value c.sum_of.ensures.sum c.sum_of-2.ensures.sum c.walk_by.ensures.walk _ _ _ c.in-Takes.is in
    let got = slot_of _ _ _ _ _ _ g.is c.look-received.ensures.looked.0 in
    let now = ap (λ m. m.0) c.store.ensures.2 ∙ filled_is v c.look-received.new.seat.me.0 r _ c.in-Takes.passed g.end c.pack.new.parcel c.args.frame.now c.args.meta.now (ap (λ m. m.0) got.1) c.pack.ensures.len g.is c.pack.ensures.frame c.pack.ensures.meta in
    let same = ap (λ z. z.size1) me.made_is in let pos = me.sized.2 in
    (ap (λ z. z.delivers) now ∙ me.rests.0, ap (λ z. z.receives) now ∙ me.rests.1, ap (λ z. z.busy) now, ap (λ z. z.1) c.store.ensures.2)

pub invariant_of-self-in-Takes-clause-made_is : goal.invariant_of-self-in-Takes-clause-made_is
invariant_of-self-in-Takes-clause-made_is c = let me = c.args.self.now in let v = me.seat.me.0 in let r = c.look-received.result in
    let g = went me.seat.me (made_of me.shape) r _ me.next1 me.next2 c.sum_of.result c.sum_of-2.result me.ones.items me.twos.items _ _ _ me.made_is refl me.sums c.look-received.ensures.looked.1 me.nexts.0 me.nexts.1 c.as_slice.ensures.value c.as_slice-2.ensures.value c.sum_of.ensures.sum c.sum_of-2.ensures.sum c.walk_by.ensures.walk _ _ _ c.in-Takes.is in
    let got = slot_of _ _ _ _ _ _ g.is c.look-received.ensures.looked.0 in
    let now = ap (λ m. m.0) c.store.ensures.2 ∙ filled_is v c.look-received.new.seat.me.0 r _ c.in-Takes.passed g.end c.pack.new.parcel c.args.frame.now c.args.meta.now (ap (λ m. m.0) got.1) c.pack.ensures.len g.is c.pack.ensures.frame c.pack.ensures.meta in
    let same = ap (λ z. z.size1) me.made_is in let pos = me.sized.2 in
    ap (λ z. z.made) now ∙ me.made_is

pub invariant_of-self-in-Takes-clause-counts : goal.invariant_of-self-in-Takes-clause-counts
invariant_of-self-in-Takes-clause-counts c = let me = c.args.self.now in let v = me.seat.me.0 in let r = c.look-received.result in
    let g = went me.seat.me (made_of me.shape) r _ me.next1 me.next2 c.sum_of.result c.sum_of-2.result me.ones.items me.twos.items _ _ _ me.made_is refl me.sums c.look-received.ensures.looked.1 me.nexts.0 me.nexts.1 c.as_slice.ensures.value c.as_slice-2.ensures.value c.sum_of.ensures.sum c.sum_of-2.ensures.sum c.walk_by.ensures.walk _ _ _ c.in-Takes.is in
    let got = slot_of _ _ _ _ _ _ g.is c.look-received.ensures.looked.0 in
    let now = ap (λ m. m.0) c.store.ensures.2 ∙ filled_is v c.look-received.new.seat.me.0 r _ c.in-Takes.passed g.end c.pack.new.parcel c.args.frame.now c.args.meta.now (ap (λ m. m.0) got.1) c.pack.ensures.len g.is c.pack.ensures.frame c.pack.ensures.meta in
    let same = ap (λ z. z.size1) me.made_is in let pos = me.sized.2 in
    let a = ap (λ z. length z.delivered) now in let b = me.counts.0 in let d : Delivery = record { frame = c.args.frame.now; meta = c.args.meta.now; passed = c.in-Takes.passed; chain = g.end.chain } in let e = length-append v.delivered (d ∷ []) in (omega arith, me.counts.1 ∙ sym (ap (λ z. length z.refused) now))

pub invariant_of-self-in-Takes-clause-nexts : goal.invariant_of-self-in-Takes-clause-nexts
invariant_of-self-in-Takes-clause-nexts c = let me = c.args.self.now in let v = me.seat.me.0 in let r = c.look-received.result in
    let g = went me.seat.me (made_of me.shape) r _ me.next1 me.next2 c.sum_of.result c.sum_of-2.result me.ones.items me.twos.items _ _ _ me.made_is refl me.sums c.look-received.ensures.looked.1 me.nexts.0 me.nexts.1 c.as_slice.ensures.value c.as_slice-2.ensures.value c.sum_of.ensures.sum c.sum_of-2.ensures.sum c.walk_by.ensures.walk _ _ _ c.in-Takes.is in
    let got = slot_of _ _ _ _ _ _ g.is c.look-received.ensures.looked.0 in
    let now = ap (λ m. m.0) c.store.ensures.2 ∙ filled_is v c.look-received.new.seat.me.0 r _ c.in-Takes.passed g.end c.pack.new.parcel c.args.frame.now c.args.meta.now (ap (λ m. m.0) got.1) c.pack.ensures.len g.is c.pack.ensures.frame c.pack.ensures.meta in
    let same = ap (λ z. z.size1) me.made_is in let pos = me.sized.2 in
    let t = through v.made me.shape.bodies (used took1 v.delivered) (used took2 v.delivered) _ _ _ (ap (λ z. z.bodies) me.made_is) (omega arith) c.in-Takes.passed g.end g.is in
    let d : Delivery = record { frame = c.args.frame.now; meta = c.args.meta.now; passed = c.in-Takes.passed; chain = g.end.chain } in
    let u1 = used-append took1 v.delivered (d ∷ []) in let u2 = used-append took2 v.delivered (d ∷ []) in let s1 = t.sum1 in let s2 = t.sum2 in let x1 = g.next1_is in let x2 = g.next2_is in
    let a = ap (λ z. used took1 z.delivered) now in let b = ap (λ z. used took2 z.delivered) now in (omega arith, omega arith)

pub invariant_of-self-in-Takes-clause-sums : goal.invariant_of-self-in-Takes-clause-sums
invariant_of-self-in-Takes-clause-sums c = let me = c.args.self.now in let v = me.seat.me.0 in let r = c.look-received.result in
    let g = went me.seat.me (made_of me.shape) r _ me.next1 me.next2 c.sum_of.result c.sum_of-2.result me.ones.items me.twos.items _ _ _ me.made_is refl me.sums c.look-received.ensures.looked.1 me.nexts.0 me.nexts.1 c.as_slice.ensures.value c.as_slice-2.ensures.value c.sum_of.ensures.sum c.sum_of-2.ensures.sum c.walk_by.ensures.walk _ _ _ c.in-Takes.is in
    let got = slot_of _ _ _ _ _ _ g.is c.look-received.ensures.looked.0 in
    let now = ap (λ m. m.0) c.store.ensures.2 ∙ filled_is v c.look-received.new.seat.me.0 r _ c.in-Takes.passed g.end c.pack.new.parcel c.args.frame.now c.args.meta.now (ap (λ m. m.0) got.1) c.pack.ensures.len g.is c.pack.ensures.frame c.pack.ensures.meta in
    let same = ap (λ z. z.size1) me.made_is in let pos = me.sized.2 in
    let t = through v.made me.shape.bodies (used took1 v.delivered) (used took2 v.delivered) _ _ _ (ap (λ z. z.bodies) me.made_is) (omega arith) c.in-Takes.passed g.end g.is in
    let d : Delivery = record { frame = c.args.frame.now; meta = c.args.meta.now; passed = c.in-Takes.passed; chain = g.end.chain } in
    let u1 = used-append took1 v.delivered (d ∷ []) in let u2 = used-append took2 v.delivered (d ∷ []) in let s1 = t.sum1 in let s2 = t.sum2 in let x1 = g.next1_is in let x2 = g.next2_is in
    subst (λ (z : List Delivery × ℕ). AreSums me.shape.size1 z.0 (set me.ones.items (z.1 % (me.shape.size1 + 1)) c.in-Takes.next1) (set me.twos.items (z.1 % (me.shape.size1 + 1)) c.in-Takes.next2)) (λ i. (ap (λ z. z.delivered) (sym now) i, sym me.counts.0 i))
    (sums_more me.shape.size1 v.delivered d me.ones.items me.twos.items c.in-Takes.next1 c.in-Takes.next2 me.sums (search rules) (search rules) (omega arith) (omega arith))

pub invariant_of-self-in-Takes-clause-tells : goal.invariant_of-self-in-Takes-clause-tells
invariant_of-self-in-Takes-clause-tells c = let me = c.args.self.now in let v = me.seat.me.0 in let r = c.look-received.result in
    let g = went me.seat.me (made_of me.shape) r _ me.next1 me.next2 c.sum_of.result c.sum_of-2.result me.ones.items me.twos.items _ _ _ me.made_is refl me.sums c.look-received.ensures.looked.1 me.nexts.0 me.nexts.1 c.as_slice.ensures.value c.as_slice-2.ensures.value c.sum_of.ensures.sum c.sum_of-2.ensures.sum c.walk_by.ensures.walk _ _ _ c.in-Takes.is in
    let got = slot_of _ _ _ _ _ _ g.is c.look-received.ensures.looked.0 in
    let now = ap (λ m. m.0) c.store.ensures.2 ∙ filled_is v c.look-received.new.seat.me.0 r _ c.in-Takes.passed g.end c.pack.new.parcel c.args.frame.now c.args.meta.now (ap (λ m. m.0) got.1) c.pack.ensures.len g.is c.pack.ensures.frame c.pack.ensures.meta in
    let same = ap (λ z. z.size1) me.made_is in let pos = me.sized.2 in
    (ap (λ z. z.tells_delivered) now ∙ me.tells.0, ap (λ z. z.tells_received) now ∙ me.tells.1)

pub returns-in-Takes-clause-delivers : goal.returns-in-Takes-clause-delivers
returns-in-Takes-clause-delivers c = let me = c.args.self.now in let v = me.seat.me.0 in let r = c.look-received.result in
    let g = went me.seat.me (made_of me.shape) r _ me.next1 me.next2 c.sum_of.result c.sum_of-2.result me.ones.items me.twos.items _ _ _ me.made_is refl me.sums c.look-received.ensures.looked.1 me.nexts.0 me.nexts.1 c.as_slice.ensures.value c.as_slice-2.ensures.value c.sum_of.ensures.sum c.sum_of-2.ensures.sum c.walk_by.ensures.walk _ _ _ c.in-Takes.is in
    let got = slot_of _ _ _ _ _ _ g.is c.look-received.ensures.looked.0 in
    let now = ap (λ m. m.0) c.store.ensures.2 ∙ filled_is v c.look-received.new.seat.me.0 r _ c.in-Takes.passed g.end c.pack.new.parcel c.args.frame.now c.args.meta.now (ap (λ m. m.0) got.1) c.pack.ensures.len g.is c.pack.ensures.frame c.pack.ensures.meta in
    let same = ap (λ z. z.size1) me.made_is in let pos = me.sized.2 in (
      me.counts.0,
      subst (λ (z : List ℕ). DeliversFrame (device_view me) c.args.frame.now c.args.meta.now (device_seen z c.store.new.seat.me.0)) (λ i. key_of (sym (c.store.ensures.0 ∙ c.look-received.ensures.same.0) i))
          (delivers (key_of me.seat.table_id) v r _ me.shape.bodies (omega arith) (ap (λ z. z.bodies) me.made_is) me.kept.5 (let z = c.requires.frame.1 in omega arith) (around_of _ _ c.look-received.ensures.looked.1) c.in-Takes.passed g.end c.args.frame.now c.args.meta.now c.store.new.seat.me.0 g.is refl now),
    )

pub returns-in-Misses-clause-grows : goal.returns-in-Misses-clause-grows
returns-in-Misses-clause-grows c = grows_refused _ _ _ _ _ _ _ refl (returns-in-Misses-clause-delivers c)

pub returns-in-Takes-clause-grows : goal.returns-in-Takes-clause-grows
returns-in-Takes-clause-grows c = grows_delivered _ _ _ _ refl (returns-in-Takes-clause-delivers c).1
