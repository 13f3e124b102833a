use Rattle.std.proofs.Common.{rules, ◌≡◌, ◌<◌, ℕ, ◌%◌, List, ◌∷◌, [], length, take, sym, refl, ap, ap₂, ◌∙◌, arith, length-append}
use Rattle.atomic_table.specs.Table.{rest}
use Rattle.vmx_ends.specs.declared.frames.Taken.{Taken}
use Rattle.vmx_ends.specs.declared.made.TxMade.{TxMade}
use Rattle.vmx_ends.specs.Transmit.{need, found_in}
use Rattle.vmx_lists.specs.declared.tx.log.TxLog.{TxLog}
use Rattle.vmx_lists.specs.declared.tx.log.TxParcel.{TxParcel}
use Rattle.vmx_lists.specs.TxPlays.{to_empty, emptied}
use Rattle.vmx_ends.specs.TransmitCounts.{found-append}
use Rattle.vmx_lists.proofs.TxSteps.{device_looks, device_returns, lent}
use Rattle.vmx_lists.proofs.tx.device.ListTxDeviceTxDevice.take.Goals as goal

pub load-sent-requires : goal.load-sent-requires
load-sent-requires c = let me = c.args.self.now in (search rules, search rules, device_looks _ _ _ me.rests.0 me.rests.1 me.rests.2 me.rests.3 c.requires.idle)

pub slot_mut-parcel-requires : goal.slot_mut-parcel-requires
slot_mut-parcel-requires c = let me = c.args.self.now in let v = me.seat.me.0 in let n = sym me.sized.0 ∙ ap (λ z. z.slots) (me.seated ∙ sym (ap (λ q. q.shared.table_id) c.deref.ensures)) in
    let at = ap₂ (λ (a b : ℕ). a % b) me.counts.0 n in let p = me.counts.0 in let f = c.if-sent-self.false in
    let less : length v.taken < c.load-sent.result = omega arith in let told = c.load-sent.ensures.2.0 less in
    (search rules, (told.1, ap (λ m. m.1) told.2 ∙ (λ i. (sym at i, told.1) ∷ rest (sym told.2 i).1)))

pub load-self-requires : goal.load-self-requires
load-self-requires c = let me = c.args.self.now in let v = me.seat.me.0 in let n = sym me.sized.0 ∙ ap (λ z. z.slots) (me.seated ∙ sym (ap (λ q. q.shared.table_id) c.deref.ensures)) in
    let at = ap₂ (λ (a b : ℕ). a % b) me.counts.0 n in let p = me.counts.0 in let f = c.if-sent-self.false in
    let less : length v.taken < c.load-sent.result = omega arith in let told = c.load-sent.ensures.2.0 less in let t : Taken = record { sent = told.0; descriptors = need v.made (length told.0.frame) } in
    (search rules, search rules, device_returns _ _ (length v.taken) _ (to_empty v told.0) c.slot_mut-parcel.result.now (λ i. ((told.2 i).0, (at i, c.slot_mut-parcel.result.now) ∷ rest (told.2 i).1)) me.rests.0 me.rests.1 refl (length-append v.taken (t ∷ []) ∙ (omega arith)))

pub need_of-need-requires-clause-bytes : goal.need_of-need-requires-clause-bytes
need_of-need-requires-clause-bytes c = let me = c.args.self.now in let v = me.seat.me.0 in let p = me.counts.0 in let f = c.if-sent-self.false in
    let less : length v.taken < c.load-sent.result = omega arith in let told = c.load-sent.ensures.2.0 less in
    let same = lent _ _ _ _ c.load-sent.new.seat.me _ c.slot_mut-parcel.ensures.value (ap (λ m. m.1) told.2) in
    let got : c.unpack.new.into.items ≡ told.0.frame = c.unpack.ensures.frame ∙ ap (λ (x : TxParcel). take x.len x.bytes.items) same ∙ told.3.frame in
    let long = ap length got in let most = told.4.0.1 in omega arith

pub invariant_of-self-2-clause-counts : goal.invariant_of-self-2-clause-counts
invariant_of-self-2-clause-counts c = let me = c.args.self.now in let v = me.seat.me.0 in let p0 = me.counts.0 in let p2 = me.counts.2 in let f = c.if-sent-self.false in
    let less : length v.taken < c.load-sent.result = omega arith in let told = c.load-sent.ensures.2.0 less in let t : Taken = record { sent = told.0; descriptors = need v.made (length told.0.frame) } in
    let same = lent _ _ _ _ c.load-sent.new.seat.me _ c.slot_mut-parcel.ensures.value (ap (λ m. m.1) told.2) in
    let got : c.unpack.new.into.items ≡ told.0.frame = c.unpack.ensures.frame ∙ ap (λ (x : TxParcel). take x.len x.bytes.items) same ∙ told.3.frame in
    let now = ap (λ m. m.0) c.load-self.ensures.2 ∙ ap (λ m. emptied m.0) told.2 in
    let long = ap (λ (z : TxLog). length z.taken) now ∙ length-append v.taken (t ∷ []) in let sum = ap (λ (z : TxLog). found_in z.taken) now ∙ found-append v.taken (t ∷ []) in
    let e : c.need_of-need.result ≡ need v.made (length told.0.frame) = c.need_of-need.ensures.need ∙ ap₂ (λ (z : TxMade) (l : List ℕ). need z (length l)) (sym me.made_is) (c.as_slice.ensures.value ∙ got) in
    (omega arith, me.counts.1 ∙ ap (λ (z : TxLog). z.completed) (sym now), omega arith)
