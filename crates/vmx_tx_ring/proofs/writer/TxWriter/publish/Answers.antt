use Rattle.std.proofs.Common.{rules, ℕ, ◌%◌, [], ◌∷◌, length, sym, ap, ap₂, ◌∙◌, arith, mod-lt, length-append}
use Rattle.vmx_ends.specs.declared.frames.Sent.{Sent}
use Rattle.vmx_ends.specs.Transmit.{descriptors}
use Rattle.vmx_tx_ring.specs.declared.known.TxKnown.{TxKnown}
use Rattle.vmx_tx_ring.specs.Tells.{next_at}
use Rattle.vmx_tx_ring.specs.Walks.{word_of, first_word, returned_to}
use Rattle.vmx_tx_ring.proofs.Driving.{cons_of, sent_next, sent_posted, sent_returned}
use Rattle.vmx_tx_ring.proofs.Moves.{driver_publishes}
use Rattle.vmx_tx_ring.proofs.writer.TxWriter.publish.Goals as goal

pub store-requires : goal.store-requires
store-requires g c = let me = c.args.self.now in let v = me.seat.me.0 in let id_is = me.seated ∙ sym (ap (λ q. q.shared.table_id) c.deref.ensures) in let size = ap (λ z. z.size) (sym me.made_is) in
    let many = ap (λ z. z.words) id_is in let enough = me.words in let low = mod-lt me.published me.size.0 in let first = cons_of v.driver.at.staged c.requires.some in let whole = c.requires.whole in (
      search rules,
      omega arith,
      driver_publishes g.C.TellsCompletions.told g.met.C.TellsCompletions.stable _ _ _ first.0 first.1 whole.0 _ _ me.rests.0 me.rests.1 me.rests.2 first.2 whole.1 whole.2 whole.3 (ap₂ (λ (a b : ℕ). a % b) me.counts.1 size) (me.first_is ∙ ap (word_of v.made.size (descriptors v.made v.driver.at.sent)) first.2),
    )

pub returns-clause-sent : goal.returns-clause-sent
returns-clause-sent g c = let t = c.store.ensures.2 in (t.0, ap (λ m. m.0) t.1, t.2, t.3)

pub invariant_of-self : goal.invariant_of-self
invariant_of-self g c = let me = c.args.self.now in let v = me.seat.me.0 in let t = c.store.ensures.2 in let s : Sent = t.0 in let now = ap (λ m. m.0) t.1 in let p0 = me.places.0 in let o = me.order in let o1 = o.1 in let o2 = o.2 in let o3 = o.3 in
    let long = ap (λ (z : TxKnown). length z.driver.at.sent) now ∙ length-append v.driver.at.sent (s ∷ []) in let none = ap (λ (z : TxKnown). length z.driver.at.staged) now in let p1 = me.places.1 in record {
      seated = search rules;
      slots = search rules;
      words = search rules;
      size = me.size;
      piece = me.piece;
      rests = (ap (λ (z : TxKnown). z.drives) now ∙ me.rests.0, ap (λ (z : TxKnown). z.serves) now ∙ me.rests.1, ap (λ (z : TxKnown). z.driver.at.opened) now ∙ me.rests.2, ap (λ (z : TxKnown). z.driver.at.checking) now ∙ me.rests.3, ap (λ m. m.1) t.1 ∙ me.rests.4);
      made_is = ap (λ (z : TxKnown). z.made) now ∙ me.made_is;
      counts = (
        me.counts.0 ∙ sym (sent_next v s t.2) ∙ ap next_at (sym now),
        me.counts.0 ∙ sym (sent_posted v s t.2) ∙ ap (λ (z : TxKnown). descriptors z.made z.driver.at.sent) (sym now),
        me.counts.2 ∙ sym (sent_returned v s (omega arith)) ∙ ap returned_to (sym now),
      );
      places = (omega arith, p1 ∙ ap (λ (z : TxKnown). z.driver.at.reaped) (sym now));
      order = (let o0 = o.0 in omega arith, omega arith, o2, omega arith);
      small = me.small;
      first_is = ap first_word (sym now);
      note = (ap (λ (z : TxKnown). z.of_driver) now ∙ me.note.0, ap (λ (z : TxKnown). z.of_device) now ∙ me.note.1);
    }
