use Rattle.std.proofs.Common.{rules, ◌<◌, ◌≤◌, ℕ, ◌+◌, ◌%◌, List, ◌∷◌, [], length, set, drop, sym, refl, ap, ap₂, ◌∙◌, arith, subst, length-append}
use Rattle.atomic_table.specs.Table.{rest}
use Rattle.vmx_ends.specs.declared.frames.Sent.{Sent}
use Rattle.vmx_ends.specs.declared.meta.TxMark.{TxMark}
use Rattle.vmx_ends.specs.declared.made.TxMade.{TxMade}
use Rattle.vmx_ends.specs.Frames.{IsMarked}
use Rattle.vmx_ends.specs.Transmit.{need, descriptors}
use Rattle.vmx_lists.specs.declared.tx.log.TxLog.{TxLog}
use Rattle.vmx_lists.specs.TxPlays.{to_fill}
use Rattle.vmx_lists.specs.TxNeeds.{AreNeeds}
use Rattle.vmx_ends.specs.TransmitCounts.{need_some, drop_more, descriptors-append}
use Rattle.vmx_lists.proofs.TxCounts.{piece_some, needs_more}
use Rattle.vmx_lists.proofs.TxSteps.{driver_opens, driver_stores, sent_now}
use Rattle.vmx_lists.proofs.tx.driver.ListTxDriverTxDriver.post.Goals as goal

pub load-requires : goal.load-requires
load-requires c = let me = c.args.self.now in let v = me.seat.me.0 in let pos : 0 < me.made.piece = piece_some me.made me.sized.4 in let long = c.requires.frame.0.0 in let some = need_some me.made (length c.args.frame.now) pos (omega arith) in
    let e = c.need_of-need.ensures.need in let f = c.if-self-used.false in let u = me.counts.2 in
    (search rules, search rules, driver_opens _ _ _ me.rests.0 me.rests.1 me.rests.2 me.rests.3 (subst (λ (z : TxMade). descriptors z (drop v.reaped v.sent) < z.size) (sym me.made_is) (omega arith)))

pub slot_mut-requires : goal.slot_mut-requires
slot_mut-requires c = let me = c.args.self.now in let n = sym me.sized.0 ∙ ap (λ z. z.slots) (me.seated ∙ sym (ap (λ q. q.shared.table_id) c.deref.ensures)) in
    let at = ap₂ (λ (a b : ℕ). a % b) me.counts.0 n in let got = c.load.ensures.2 in
    (search rules, (got.1, ap (λ m. m.1) got.2 ∙ (λ i. (sym at i, got.1) ∷ rest (sym got.2 i).1)))

pub store-requires : goal.store-requires
store-requires c = let me = c.args.self.now in let v = me.seat.me.0 in let n = sym me.sized.0 ∙ ap (λ z. z.slots) (me.seated ∙ sym (ap (λ q. q.shared.table_id) c.deref.ensures)) in
    let at = ap₂ (λ (a b : ℕ). a % b) me.counts.0 n in let got = c.load.ensures.2 in let e = c.need_of-need.ensures.need in let f = c.if-self-used.false in let u = me.counts.2 in (
      search rules,
      search rules,
      driver_stores _ _ _ (to_fill v) c.pack.new.parcel _ _ (λ i. ((got.2 i).0, (at i, c.pack.new.parcel) ∷ rest (got.2 i).1)) me.rests.0 me.rests.1 refl (subst (λ (z : List ℕ × TxMark). IsMarked z.0 z.1) (λ i. (sym c.pack.ensures.frame i, sym c.pack.ensures.mark i)) c.requires.frame)
          (subst (λ (z : TxMade × List ℕ). descriptors z.0 (drop v.reaped v.sent) + need z.0 (length z.1) ≤ z.0.size) (λ i. (sym me.made_is i, sym c.pack.ensures.frame i)) (omega arith)) refl (ap (λ (z : ℕ). z + 1) me.counts.0),
    )

pub invariant_of-self-2 : goal.invariant_of-self-2
invariant_of-self-2 c = let me = c.args.self.now in let v = me.seat.me.0 in let got = c.load.ensures.2 in let d : Sent = record { frame = c.args.frame.now; mark = c.args.mark.now } in
    let now = sent_now v c.load.new.seat.me.0 c.store.new.seat.me.0 c.pack.new.parcel c.args.frame.now c.args.mark.now (ap (λ m. m.0) got.2) (ap (λ m. m.0) c.store.ensures.2) c.pack.ensures.frame c.pack.ensures.mark in
    let e = c.need_of-need.ensures.need in let f = c.if-self-used.false in let p0 = me.counts.0 in let p1 = me.counts.1 in let p2 = me.counts.2 in let w = me.within.2 in
    let long = ap (λ (z : TxLog). length z.sent) now ∙ length-append v.sent (d ∷ []) in let kept = ap (λ (z : TxLog). z.reaped) now in
    let more = drop_more me.made v.sent v.reaped d (omega arith) in let sum = ap (λ (z : TxLog). descriptors me.made (drop z.reaped z.sent)) now in
    let n = sym me.sized.0 ∙ ap (λ z. z.slots) (me.seated ∙ sym (ap (λ q. q.shared.table_id) c.deref.ensures)) in let room = got.0 in record {
      seated = search rules;
      sized = search rules;
      rests = (ap (λ (z : TxLog). z.sends) now ∙ me.rests.0, ap (λ (z : TxLog). z.takes) now ∙ me.rests.1, ap (λ (z : TxLog). z.filling) now, ap (λ z. z.1) c.store.ensures.2);
      made_is = ap (λ (z : TxLog). z.made) now ∙ me.made_is;
      counts = (omega arith, omega arith, omega arith);
      within = (f, me.within.1, omega arith);
      kept = subst (λ (z : List Sent × ℕ × ℕ). AreNeeds me.made z.0 z.1 (set me.needs.items (z.2 % me.made.size) c.need_of-need.result)) (λ i. (ap (λ (z : TxLog). z.sent) (sym now) i, sym kept i, sym p0 i))
          (needs_more me.made v.sent v.reaped me.needs.items d c.need_of-need.result me.kept (omega arith) (search rules) me.sized.2 e);
      tells = (ap (λ (z : TxLog). z.tells_sent) now ∙ me.tells.0, ap (λ (z : TxLog). z.tells_taken) now ∙ me.tells.1);
    }

pub returns-clause-grows : goal.returns-clause-grows
returns-clause-grows c = let me = c.args.self.now in let v = me.seat.me.0 in let got = c.load.ensures.2 in let d : Sent = record { frame = c.args.frame.now; mark = c.args.mark.now } in
    let now = sent_now v c.load.new.seat.me.0 c.store.new.seat.me.0 c.pack.new.parcel c.args.frame.now c.args.mark.now (ap (λ m. m.0) got.2) (ap (λ m. m.0) c.store.ensures.2) c.pack.ensures.frame c.pack.ensures.mark in
    let long = ap (λ (z : TxLog). length z.sent) now ∙ length-append v.sent (d ∷ []) in let sum = ap (λ (z : TxLog). descriptors z.made z.sent) now ∙ descriptors-append v.made v.sent (d ∷ []) in
    let e = c.need_of-need.ensures.need in let few = c.need_of-need.ensures.few in let same = ap (λ (z : TxMade). need z (length c.args.frame.now)) me.made_is in
    (omega arith, omega arith)
