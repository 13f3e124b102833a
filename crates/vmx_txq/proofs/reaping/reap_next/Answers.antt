use Rattle.std.proofs.Common.{rules, ◌≡◌, ◌≢◌, ℕ, suc, ◌+◌, ◌-◌, ◌%◌, length, true≢false, sym, ap, ap₂, ◌∙◌, subst, arith, mod-lt}
use mathlib.Core.Option.{none}
use lib.ListN.{get_elem?}
use Rattle.atomic_table.specs.Table.{Me, step}
use Rattle.std.specs.Int.{bit_at}
use Rattle.vmx_ring_laws.specs.Keys.{key_of}
use Rattle.vmx_ring_laws.specs.Lists.{at_below}
use Rattle.vmx_genring.specs.Rings.{generation_bit}
use Rattle.vmx_ends.specs.Transmit.{need, descriptors}
use Rattle.vmx_tx_ring.specs.declared.known.TxKnown.{TxKnown}
use Rattle.vmx_tx_ring.specs.declared.known.TxBuffer.{TxBuffer}
use Rattle.vmx_tx_ring.specs.Seats.{driver_seen}
use Rattle.vmx_tx_ring.specs.Tells.{next_at}
use Rattle.vmx_tx_ring.specs.Walks.{first_word, returned_to}
use Rattle.vmx_tx_ring.proofs.PieceLaws.{take-all}
use Rattle.vmx_txq.specs.Tells.{to_check, driver_reaped}
use Rattle.vmx_txq.proofs.Counting.{index_is, returned_more}
use Rattle.vmx_txq.proofs.CompletionSteps.{driver_looks, driver_reaps}
use Rattle.vmx_txq.proofs.reaping.reap_next.Goals as goal

pub load-word-requires : goal.load-word-requires
load-word-requires c = let me = c.args.writer.now in let id_is = me.seated ∙ sym (ap (λ q. q.shared.table_id) c.deref.ensures) in let size = ap (λ z. z.size) (sym me.made_is) in let many = ap (λ z. z.words) id_is in let wide = c.requires.wide in let low = mod-lt me.reaped me.size.0 in
    let at = ap₂ (λ (a b : ℕ). a % b) me.places.1 size in (search rules, omega arith, driver_looks _ _ _ _ me.rests.0 me.rests.1 me.rests.3 (λ i. size i + (size i + at i)))

pub load-last-requires : goal.load-last-requires
load-last-requires c = let me = c.args.writer.now in let v = me.seat.me.0 in let id_is = me.seated ∙ sym (ap (λ q. q.shared.table_id) c.deref.ensures) in let size = ap (λ z. z.size) (sym me.made_is) in let many = ap (λ z. z.words) id_is in let wide = c.requires.wide in let low = mod-lt me.reaped me.size.0 in
    let hit : bit_at c.load-word.result 63 ≡ generation_bit v.made.size v.driver.at.reaped = c.owned.ensures.owner.0 c.if-not-owned.false ∙ ap₂ generation_bit (c.new-ring.ensures.size ∙ size) me.places.1 in let e = (c.load-word.ensures.2.0 hit).0 in
    let sz = size ∙ ap (λ m. m.0.made.size) (sym e) in let at = ap₂ (λ (a b : ℕ). a % b) (me.places.1 ∙ ap (λ m. m.0.driver.at.reaped) (sym e)) sz in
    (search rules, omega arith, driver_reaps _ _ _ _ (ap (λ m. m.0.drives) e ∙ me.rests.0) (ap (λ m. m.0.serves) e ∙ me.rests.1) (ap (λ m. m.0.driver.at.checking) e) (λ i. sz i + (sz i + (sz i + at i))))

pub count_to-descriptors-requires-clause-small : goal.count_to-descriptors-requires-clause-small
count_to-descriptors-requires-clause-small c = let me = c.args.writer.now in let a = me.order.0 in let b = me.order.1 in let s = me.small in omega arith

pub overflow_add-writer : goal.overflow_add-writer
overflow_add-writer c = let me = c.args.writer.now in let a = me.order.0 in let b = me.order.1 in let s = me.small in let f = c.count_to-descriptors.ensures.few in let z = me.size.1 in omega arith

pub returns-clause-reaps : goal.returns-clause-reaps
returns-clause-reaps c = let me = c.args.writer.now in let v = me.seat.me.0 in let size = ap (λ z. z.size) (sym me.made_is) in
    let hit : bit_at c.load-word.result 63 ≡ generation_bit v.made.size v.driver.at.reaped = c.owned.ensures.owner.0 c.if-not-owned.false ∙ ap₂ generation_bit (c.new-ring.ensures.size ∙ size) me.places.1 in let e = (c.load-word.ensures.2.0 hit).0 in
    let told : driver_reaped (step c.deref.result.now.shared.table_id.slots (me.made.size + (me.made.size + (me.made.size + me.reaped % me.made.size))) 0 0 none) (to_check v, me.seat.me.1) c.load-last.result c.load-last.new.seat.me =
    subst (λ (z : Me TxBuffer TxKnown). driver_reaped (step c.deref.result.now.shared.table_id.slots (me.made.size + (me.made.size + (me.made.size + me.reaped % me.made.size))) 0 0 none) z c.load-last.result c.load-last.new.seat.me) e c.load-last.ensures.2 in
    let now = ap (λ m. m.0) told.1 in let more = returned_more v told.0 told.3 in let p2 = me.counts.2 in
    let last : c.load-last.result ≡ (me.returned + need v.made (length told.0.frame) - 1) % me.made.size = told.2 ∙ index_is _ ∙ ap₂ (λ (a b : ℕ). (a - 1) % b) (more ∙ ap (λ (k : ℕ). k + need v.made (length told.0.frame)) (sym p2)) (sym size) in
    let count : c.count_to-descriptors.result ≡ need v.made (length told.0.frame) = c.count_to-descriptors.ensures.count (need v.made (length told.0.frame)) told.4 (let k = told.5 in omega (arith, size)) last in
    (me.places.1, told.0, ap (λ (z : ℕ). get_elem? v.driver.at.sent z) me.places.1 ∙ told.3, count, (λ i. driver_seen (key_of ((c.load-last.ensures.0 ∙ c.load-word.ensures.0) i)) (now i)))

pub invariant_of-writer-2 : goal.invariant_of-writer-2
invariant_of-writer-2 c = let me = c.args.writer.now in let v = me.seat.me.0 in let size = ap (λ z. z.size) (sym me.made_is) in
    let hit : bit_at c.load-word.result 63 ≡ generation_bit v.made.size v.driver.at.reaped = c.owned.ensures.owner.0 c.if-not-owned.false ∙ ap₂ generation_bit (c.new-ring.ensures.size ∙ size) me.places.1 in let e = (c.load-word.ensures.2.0 hit).0 in
    let told : driver_reaped (step c.deref.result.now.shared.table_id.slots (me.made.size + (me.made.size + (me.made.size + me.reaped % me.made.size))) 0 0 none) (to_check v, me.seat.me.1) c.load-last.result c.load-last.new.seat.me =
    subst (λ (z : Me TxBuffer TxKnown). driver_reaped (step c.deref.result.now.shared.table_id.slots (me.made.size + (me.made.size + (me.made.size + me.reaped % me.made.size))) 0 0 none) z c.load-last.result c.load-last.new.seat.me) e c.load-last.ensures.2 in
    let now = ap (λ m. m.0) told.1 in let more = returned_more v told.0 told.3 in let p2 = me.counts.2 in
    let last : c.load-last.result ≡ (me.returned + need v.made (length told.0.frame) - 1) % me.made.size = told.2 ∙ index_is _ ∙ ap₂ (λ (a b : ℕ). (a - 1) % b) (more ∙ ap (λ (k : ℕ). k + need v.made (length told.0.frame)) (sym p2)) (sym size) in
    let count : c.count_to-descriptors.result ≡ need v.made (length told.0.frame) = c.count_to-descriptors.ensures.count (need v.made (length told.0.frame)) told.4 (let k = told.5 in omega (arith, size)) last in
    let all = take-all v.made v.driver.at.sent (suc v.driver.at.reaped) in let some_in = at_below v.driver.at.sent v.driver.at.reaped told.0 told.3 in let p1 = me.counts.1 in let p3 = me.places.0 in let p4 = me.places.1 in let o1 = me.order.1 in let o2 = me.order.2 in let staged = ap (λ (z : TxKnown). length z.driver.at.staged) now in record {
      seated = search rules;
      slots = search rules;
      words = search rules;
      size = me.size;
      piece = me.piece;
      rests = (ap (λ (z : TxKnown). z.drives) now ∙ me.rests.0, ap (λ (z : TxKnown). z.serves) now ∙ me.rests.1, ap (λ (z : TxKnown). z.driver.at.opened) now ∙ me.rests.2, ap (λ (z : TxKnown). z.driver.at.checking) now, ap (λ m. m.1) told.1 ∙ me.rests.4);
      made_is = ap (λ (z : TxKnown). z.made) now ∙ me.made_is;
      counts = (me.counts.0 ∙ ap next_at (sym now), me.counts.1 ∙ ap (λ (z : TxKnown). descriptors z.made z.driver.at.sent) (sym now), ap₂ (λ (a b : ℕ). a + b) p2 count ∙ sym more ∙ ap returned_to (sym now));
      places = (p3 ∙ ap (λ (z : TxKnown). length z.driver.at.sent) (sym now), (let k : me.reaped + 1 ≡ suc v.driver.at.reaped = omega arith in k) ∙ ap (λ (z : TxKnown). z.driver.at.reaped) (sym now));
      order = (omega arith, omega arith, omega arith, omega arith);
      small = me.small;
      first_is = me.first_is ∙ ap first_word (sym now);
      note = (ap (λ (z : TxKnown). z.of_driver) now ∙ me.note.0, ap (λ (z : TxKnown). z.of_device) now ∙ me.note.1);
    }

pub invariant_of-writer : goal.invariant_of-writer
invariant_of-writer c = let me = c.args.writer.now in let v = me.seat.me.0 in let size = ap (λ z. z.size) (sym me.made_is) in
    let miss : bit_at c.load-word.result 63 ≢ generation_bit v.made.size v.driver.at.reaped = λ e. true≢false (sym (c.owned.ensures.owner.1 (e ∙ sym (ap₂ generation_bit (c.new-ring.ensures.size ∙ size) me.places.1))) ∙ c.if-not-owned.true) in
    let told = (c.load-word.ensures.2.1 miss).0 in let now = ap (λ m. m.0) told in record {
      seated = search rules;
      slots = search rules;
      words = search rules;
      size = me.size;
      piece = me.piece;
      rests = (ap (λ (z : TxKnown). z.drives) now ∙ me.rests.0, ap (λ (z : TxKnown). z.serves) now ∙ me.rests.1, ap (λ (z : TxKnown). z.driver.at.opened) now ∙ me.rests.2, ap (λ (z : TxKnown). z.driver.at.checking) now ∙ me.rests.3, ap (λ m. m.1) told ∙ me.rests.4);
      made_is = ap (λ (z : TxKnown). z.made) now ∙ me.made_is;
      counts = (me.counts.0 ∙ ap next_at (sym now), me.counts.1 ∙ ap (λ (z : TxKnown). descriptors z.made z.driver.at.sent) (sym now), me.counts.2 ∙ ap returned_to (sym now));
      places = (me.places.0 ∙ ap (λ (z : TxKnown). length z.driver.at.sent) (sym now), me.places.1 ∙ ap (λ (z : TxKnown). z.driver.at.reaped) (sym now));
      order = (me.order.0, ap (λ (z : TxKnown). me.published + length z.driver.at.staged) now ∙ me.order.1, me.order.2, me.order.3);
      small = me.small;
      first_is = me.first_is ∙ ap first_word (sym now);
      note = (ap (λ (z : TxKnown). z.of_driver) now ∙ me.note.0, ap (λ (z : TxKnown). z.of_device) now ∙ me.note.1);
    }
