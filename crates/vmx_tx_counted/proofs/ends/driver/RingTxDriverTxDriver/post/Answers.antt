use Rattle.std.proofs.Common.{[], ◌∷◌, length, sym, refl, ap, ◌∙◌, arith, length-append}
use Rattle.vmx_ring_laws.specs.Keys.{key_of}
use Rattle.vmx_ends.specs.declared.frames.Sent.{Sent}
use Rattle.vmx_ends.specs.declared.made.TxMade.{TxMade}
use Rattle.vmx_ends.specs.Frames.{sent_as}
use Rattle.vmx_ends.specs.Transmit.{need, descriptors}
use Rattle.vmx_ends.specs.TransmitCounts.{parts, descriptors-append}
use Rattle.vmx_tx_ring.specs.declared.known.TxKnown.{TxKnown}
use Rattle.vmx_tx_ring.specs.Seats.{driver_seen}
use Rattle.vmx_tx_counted.proofs.ends.driver.RingTxDriverTxDriver.post.Goals as goal

pub returns-then-self-used-clause-posts : goal.returns-then-self-used-clause-posts
returns-then-self-used-clause-posts c = let me = c.args.self.now in let w = me.writer in let v = w.seat.me.0 in let d = v.driver.at in let p = parts v.made d.sent d.reaped in let none = ap length me.rests in let o1 = w.order.1 in let p1 = w.counts.1 in let p2 = w.counts.2 in
    let n = c.need_of-need.ensures.need ∙ ap (λ (z : TxMade). need z (length c.args.frame.now)) (sym w.made_is) in let t = c.if-self-used.true in let size = ap (λ z. z.size) w.made_is in (omega arith, n, omega arith, refl)

pub send-requires-clause-small : goal.send-requires-clause-small
send-requires-clause-small c = let me = c.args.self.now in let w = me.writer in let none = ap length me.rests in let o1 = w.order.1 in let p1 = w.counts.1 in let p3 = w.places.0 in let a = c.requires.small.0 in let b = c.requires.small.1 in let few = c.need_of-need.ensures.few in (omega arith, omega arith)

pub returns-clause-posts : goal.returns-clause-posts
returns-clause-posts c = let me = c.args.self.now in let w = me.writer in let v = w.seat.me.0 in let d = v.driver.at in let p = parts v.made d.sent d.reaped in let none = ap length me.rests in let o1 = w.order.1 in let p1 = w.counts.1 in let p2 = w.counts.2 in
    let n = c.need_of-need.ensures.need ∙ ap (λ (z : TxMade). need z (length c.args.frame.now)) (sym w.made_is) in let t = c.if-self-used.false in let size = ap (λ z. z.size) w.made_is in
    (w.places.0, omega arith, (λ i. driver_seen (key_of (c.send.ensures.key i)) (c.send.ensures.sent i)))

pub returns-clause-grows : goal.returns-clause-grows
returns-clause-grows c = let me = c.args.self.now in let w = me.writer in let v = w.seat.me.0 in let s : Sent = sent_as c.args.frame.now c.args.mark.now in let now = c.send.ensures.sent in
    let long = ap (λ (z : TxKnown). length z.driver.at.sent) now ∙ length-append v.driver.at.sent (s ∷ []) in let sum = ap (λ (z : TxKnown). descriptors z.made z.driver.at.sent) now ∙ descriptors-append v.made v.driver.at.sent (s ∷ []) in
    let n = c.need_of-need.ensures.need ∙ ap (λ (z : TxMade). need z (length c.args.frame.now)) (sym w.made_is) in let few = c.need_of-need.ensures.few in (omega arith, omega arith)
