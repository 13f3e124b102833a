use Rattle.std.proofs.Common.{rules, ◌≡◌, ℕ, suc, ◌+◌, length, sym, ap, ap₂, ◌∙◌, subst, arith}
use lib.ListN.{get_elem?}
use Rattle.vmx_ring_laws.specs.Keys.{key_of}
use Rattle.vmx_ring_laws.specs.Lists.{at_below}
use Rattle.vmx_ends.specs.declared.answers.Reap.TheVariants.{NotYet}
use Rattle.vmx_ends.specs.LookWords.{missed63_is}
use Rattle.vmx_ends.specs.Transmit.{need, descriptors}
use Rattle.vmx_ends.specs.TransmitClauses.{Reaps}
use Rattle.vmx_ends.specs.TransmitCounts.{take_one}
use Rattle.vmx_ends.specs.Words.{missed_word}
use Rattle.vmx_tx_ring.specs.declared.known.TxKnown.{TxKnown}
use Rattle.vmx_tx_ring.specs.Seats.{driver_seen}
use Rattle.vmx_tx_ring.specs.Tells.{next_at}
use Rattle.vmx_tx_ring.specs.Walks.{first_word, returned_to}
use Rattle.vmx_tx_ring.proofs.PieceLaws.{take-all}
use Rattle.vmx_tx_counted.specs.Tells.{one_reaped}
use Rattle.vmx_tx_counted.proofs.CountSteps.{driver_looks, driver_reaps, needs}
use Rattle.vmx_tx_counted.proofs.reaping.reap_next.Goals as goal

pub load-completed-requires : goal.load-completed-requires
load-completed-requires c = let me = c.args.writer.now in let id_is = me.seated ∙ sym (ap (λ q. q.shared.table_id) c.deref.ensures) in let size = ap (λ z. z.size) (sym me.made_is) in let many = ap (λ z. z.words) id_is in let wide = me.words in
    (search rules, omega arith, driver_looks _ _ _ _ me.rests.0 me.rests.1 me.rests.3 (omega arith))

pub descriptors_of-descriptors-requires-clause-place : goal.descriptors_of-descriptors-requires-clause-place
descriptors_of-descriptors-requires-clause-place c = let me = c.args.writer.now in let size = ap (λ z. z.size) (sym me.made_is) in let p4 = me.places.1 in let more = c.if-completed-writer.false in let e = (c.load-completed.ensures.2.0 (omega arith)).1 in let a = me.order.0 in let b = me.order.1 in let s = me.small in
    (size ∙ ap (λ m. m.0.made.size) (sym e), me.counts.2 ∙ ap (λ m. returned_to m.0) (sym e), me.size.0, me.size.1, omega arith)

pub descriptors_of-descriptors-requires-clause-state : goal.descriptors_of-descriptors-requires-clause-state
descriptors_of-descriptors-requires-clause-state c = let me = c.args.writer.now in let p4 = me.places.1 in let more = c.if-completed-writer.false in let e = (c.load-completed.ensures.2.0 (omega arith)).1 in
    (ap (λ m. m.0.drives) e ∙ me.rests.0, ap (λ m. m.0.driver.at.checking) e)

pub descriptors_of-descriptors-requires-clause-frame : goal.descriptors_of-descriptors-requires-clause-frame
descriptors_of-descriptors-requires-clause-frame c = let me = c.args.writer.now in let p4 = me.places.1 in let more = c.if-completed-writer.false in let told = c.load-completed.ensures.2.0 (omega arith) in
    (told.0, ap (λ m. get_elem? m.0.driver.at.sent m.0.driver.at.reaped) told.1 ∙ told.2)

pub descriptors_of-descriptors-requires-clause-need : goal.descriptors_of-descriptors-requires-clause-need
descriptors_of-descriptors-requires-clause-need c = λ f at. let me = c.args.writer.now in let p4 = me.places.1 in let more = c.if-completed-writer.false in let told = c.load-completed.ensures.2.0 (omega arith) in
    needs me.seat.me.0 _ me.made told.0 f (ap (λ m. m.0) told.1) me.made_is me.piece.0 told.2 told.3 at

pub load-requires : goal.load-requires
load-requires c = let me = c.args.writer.now in let id_is = me.seated ∙ sym (ap (λ q. q.shared.table_id) c.deref.ensures) in let many = ap (λ z. z.words) id_is in let wide = me.words in let p4 = me.places.1 in let more = c.if-completed-writer.false in
    let e = c.descriptors_of-descriptors.ensures.seat ∙ (c.load-completed.ensures.2.0 (omega arith)).1 in
    (search rules, omega arith, driver_reaps _ _ _ _ (ap (λ m. m.0.drives) e ∙ me.rests.0) (ap (λ m. m.0.serves) e ∙ me.rests.1) (ap (λ m. m.0.driver.at.checking) e))

pub overflow_add-writer : goal.overflow_add-writer
overflow_add-writer c = let me = c.args.writer.now in let a = me.order.0 in let b = me.order.1 in let s = me.small in let f = c.descriptors_of-descriptors.ensures.few in omega arith

pub returns-then-completed-writer-clause-reaps : goal.returns-then-completed-writer-clause-reaps
returns-then-completed-writer-clause-reaps c = let me = c.args.writer.now in let v = me.seat.me.0 in let size = ap (λ z. z.size) (sym me.made_is) in let p4 = me.places.1 in let few = c.if-completed-writer.true in
    let told = c.load-completed.ensures.2.1 (omega arith) in let now = ap (λ m. m.0) told.0 in let w = c.missed_completion.ensures.word ∙ ap₂ (missed_word 63) size p4 in
    subst (λ (z : ℕ). Reaps (driver_seen (key_of me.seat.table_id) v) (NotYet z) (driver_seen (key_of c.load-completed.new.seat.table_id) c.load-completed.new.seat.me.0)) (sym w) ((λ i. driver_seen (key_of (c.load-completed.ensures.0 i)) (now i)), missed63_is v.made.size v.driver.at.reaped, told.1)

pub returns-clause-reaps : goal.returns-clause-reaps
returns-clause-reaps c = let me = c.args.writer.now in let v = me.seat.me.0 in let p4 = me.places.1 in let more = c.if-completed-writer.false in let told = c.load-completed.ensures.2.0 (omega arith) in let e = c.descriptors_of-descriptors.ensures.seat ∙ told.1 in
    let now = ap (λ m. m.0) c.load.ensures.2 ∙ ap (λ m. one_reaped m.0) e in
    let count : c.descriptors_of-descriptors.result ≡ need v.made (length told.0.frame) = c.descriptors_of-descriptors.ensures.count told.0 (ap (λ m. get_elem? m.0.driver.at.sent m.0.driver.at.reaped) told.1 ∙ told.2) ∙ ap (λ m. need m.0.made (length told.0.frame)) told.1 in
    (p4, told.0, ap (λ (z : ℕ). get_elem? v.driver.at.sent z) p4 ∙ told.2, count, (λ i. driver_seen (key_of ((c.load.ensures.0 ∙ c.descriptors_of-descriptors.ensures.key ∙ c.load-completed.ensures.0) i)) (now i)))

pub invariant_of-writer-2 : goal.invariant_of-writer-2
invariant_of-writer-2 c = let me = c.args.writer.now in let v = me.seat.me.0 in let p4 = me.places.1 in let more_in = c.if-completed-writer.false in let told = c.load-completed.ensures.2.0 (omega arith) in let e = c.descriptors_of-descriptors.ensures.seat ∙ told.1 in
    let seat = c.load.ensures.2 ∙ ap (λ m. (one_reaped m.0, m.1)) e in let now = ap (λ m. m.0) seat in
    let count : c.descriptors_of-descriptors.result ≡ need v.made (length told.0.frame) = c.descriptors_of-descriptors.ensures.count told.0 (ap (λ m. get_elem? m.0.driver.at.sent m.0.driver.at.reaped) told.1 ∙ told.2) ∙ ap (λ m. need m.0.made (length told.0.frame)) told.1 in
    let more = take_one v.made v.driver.at.sent v.driver.at.reaped told.0 told.2 in let p2 = me.counts.2 in
    let all = take-all v.made v.driver.at.sent (suc v.driver.at.reaped) in let some_in = at_below v.driver.at.sent v.driver.at.reaped told.0 told.2 in let p1 = me.counts.1 in let p3 = me.places.0 in let o1 = me.order.1 in let o2 = me.order.2 in let staged = ap (λ (z : TxKnown). length z.driver.at.staged) now in record {
      seated = search rules;
      slots = search rules;
      words = search rules;
      size = me.size;
      piece = me.piece;
      rests = (ap (λ (z : TxKnown). z.drives) now ∙ me.rests.0, ap (λ (z : TxKnown). z.serves) now ∙ me.rests.1, ap (λ (z : TxKnown). z.driver.at.opened) now ∙ me.rests.2, ap (λ (z : TxKnown). z.driver.at.checking) now, ap (λ m. m.1) seat ∙ me.rests.4);
      made_is = ap (λ (z : TxKnown). z.made) now ∙ me.made_is;
      counts = (me.counts.0 ∙ ap next_at (sym now), me.counts.1 ∙ ap (λ (z : TxKnown). descriptors z.made z.driver.at.sent) (sym now), ap₂ (λ (a b : ℕ). a + b) p2 count ∙ sym more ∙ ap returned_to (sym now));
      places = (p3 ∙ ap (λ (z : TxKnown). length z.driver.at.sent) (sym now), (let k : me.reaped + 1 ≡ suc v.driver.at.reaped = omega arith in k) ∙ ap (λ (z : TxKnown). z.driver.at.reaped) (sym now));
      order = (omega arith, omega arith, omega arith, omega arith);
      small = me.small;
      first_is = me.first_is ∙ ap first_word (sym now);
      note = (ap (λ (z : TxKnown). z.of_driver) now ∙ me.note.0, ap (λ (z : TxKnown). z.of_device) now ∙ me.note.1);
    }

pub invariant_of-writer : goal.invariant_of-writer
invariant_of-writer c = let me = c.args.writer.now in let v = me.seat.me.0 in let p4 = me.places.1 in let few = c.if-completed-writer.true in
    let told = (c.load-completed.ensures.2.1 (omega arith)).0 in let now = ap (λ m. m.0) told in record {
      seated = search rules;
      slots = search rules;
      words = search rules;
      size = me.size;
      piece = me.piece;
      rests = (ap (λ (z : TxKnown). z.drives) now ∙ me.rests.0, ap (λ (z : TxKnown). z.serves) now ∙ me.rests.1, ap (λ (z : TxKnown). z.driver.at.opened) now ∙ me.rests.2, ap (λ (z : TxKnown). z.driver.at.checking) now ∙ me.rests.3, ap (λ m. m.1) told ∙ me.rests.4);
      made_is = ap (λ (z : TxKnown). z.made) now ∙ me.made_is;
      counts = (me.counts.0 ∙ ap next_at (sym now), me.counts.1 ∙ ap (λ (z : TxKnown). descriptors z.made z.driver.at.sent) (sym now), me.counts.2 ∙ ap returned_to (sym now));
      places = (me.places.0 ∙ ap (λ (z : TxKnown). length z.driver.at.sent) (sym now), me.places.1 ∙ ap (λ (z : TxKnown). z.driver.at.reaped) (sym now));
      order = (me.order.0, ap (λ (z : TxKnown). me.published + length z.driver.at.staged) now ∙ me.order.1, me.order.2, me.order.3);
      small = me.small;
      first_is = me.first_is ∙ ap first_word (sym now);
      note = (ap (λ (z : TxKnown). z.of_driver) now ∙ me.note.0, ap (λ (z : TxKnown). z.of_device) now ∙ me.note.1);
    }
