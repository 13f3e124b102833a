use Rattle.std.proofs.Common.{rules, ◌≡◌, ◌<◌, ℕ, ◌+◌, ◌%◌, ◌∷◌, [], ◌++◌, length, sym, refl, ap, ap₂, ◌∙◌, arith, length-append}
use Rattle.vmx_ends.specs.declared.frames.Delivery.{Delivery}
use Rattle.vmx_ends.specs.Receive.{used, pieces_of}
use Rattle.vmx_lists.specs.declared.rx.log.RxParcel.{RxParcel}
use Rattle.vmx_ends.specs.WalkCounts.{used-append}
use Rattle.atomic_table.specs.Table.{rest}
use Rattle.vmx_lists.specs.RxPlays.{opening_it}
use Rattle.vmx_lists.proofs.RxSteps.{driver_looks, driver_stores, lent}
use Rattle.vmx_lists.proofs.rx.driver.ListRxDriverRxDriver.receive.Goals as goal

pub load-delivered-requires : goal.load-delivered-requires
load-delivered-requires c = let me = c.args.self.now in (search rules, search rules, driver_looks _ _ _ me.rests.0 me.rests.1 me.rests.2 me.rests.3)

pub slot_mut-parcel-requires : goal.slot_mut-parcel-requires
slot_mut-parcel-requires c = let me = c.args.self.now in let n = sym me.sized.0 ∙ ap (λ z. z.slots) (me.seated ∙ sym (ap (λ q. q.shared.table_id) c.deref.ensures)) in
    let at = ap₂ (λ (a b : ℕ). a % b) me.counts.0 n in let p = me.counts.0 in let f = c.if-delivered-self.false in
    let less : length me.seat.me.0.received < c.load-delivered.result = omega arith in let told = c.load-delivered.ensures.2.0 less in
    (search rules, (told.1, ap (λ m. m.1) told.2 ∙ (λ i. (sym at i, told.1) ∷ rest (sym told.2 i).1)))

pub store-requires : goal.store-requires
store-requires c = let me = c.args.self.now in let n = sym me.sized.0 ∙ ap (λ z. z.slots) (me.seated ∙ sym (ap (λ q. q.shared.table_id) c.deref.ensures)) in
    let at = ap₂ (λ (a b : ℕ). a % b) me.counts.0 n in let p = me.counts.0 in let f = c.if-delivered-self.false in let v = me.seat.me.0 in
    let less : length v.received < c.load-delivered.result = omega arith in let told = c.load-delivered.ensures.2.0 less in (
      search rules,
      search rules,
      driver_stores _ _ _ (opening_it v told.0) c.slot_mut-parcel.result.now (length v.received) _ _ (λ i. ((told.2 i).0, (at i, c.slot_mut-parcel.result.now) ∷ rest (told.2 i).1)) me.rests.0 me.rests.1 refl (length-append v.received (told.0 ∷ []) ∙ (omega arith)) refl (ap (λ (z : ℕ). z + 1) me.counts.0),
    )

pub invariant_of-self-2-clause-counts : goal.invariant_of-self-2-clause-counts
invariant_of-self-2-clause-counts c = let me = c.args.self.now in let p = me.counts.0 in let q = me.counts.1 in let f = c.if-delivered-self.false in let v = me.seat.me.0 in
    let less : length v.received < c.load-delivered.result = omega arith in let told = c.load-delivered.ensures.2.0 less in let d : Delivery = told.0 in
    let got : c.store.new.seat.me.0.received ≡ v.received ++ d ∷ [] = ap (λ m. m.0.received) c.store.ensures.2 ∙ ap (λ m. m.0.received) told.2 in
    let same = lent _ _ _ _ c.load-delivered.new.seat.me _ c.slot_mut-parcel.ensures.value (ap (λ m. m.1) told.2) in
    let pieces : c.slot_mut-parcel.result.now.pieces ≡ length d.chain = ap (λ (x : RxParcel). x.pieces) same ∙ told.3.pieces in
    let long = ap length got ∙ length-append v.received (d ∷ []) in let sum = ap (used pieces_of) got ∙ used-append pieces_of v.received (d ∷ []) in ((omega arith), (omega arith))
