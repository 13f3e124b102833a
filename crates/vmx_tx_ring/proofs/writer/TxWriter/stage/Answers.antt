use Rattle.std.proofs.Common.{rules, ◌≡◌, ℕ, ◌+◌, ◌%◌, [], ◌∷◌, length, take, sym, refl, ap, ap₂, ◌∙◌, arith, mod-lt, length-append}
use mathlib.Core.Logic.{dite}
use native.Mathlib.Decide.{ℕ_discrete}
use Rattle.atomic_table.specs.Table.{rest}
use Rattle.vmx_layout.specs.Bits.{bit}
use Rattle.vmx_layout.specs.TxDesc.{second_word}
use Rattle.vmx_genring.specs.Rings.{generation_bit, flipped}
use Rattle.vmx_ends.specs.Transmit.{descriptors}
use Rattle.vmx_tx_ring.specs.declared.known.TxKnown.{TxKnown}
use Rattle.vmx_tx_ring.specs.declared.known.TxPiece.{TxPiece}
use Rattle.vmx_tx_ring.specs.Pieces.{address, descriptor, told_of, next_in_data, numbers_of, lies, Shows}
use Rattle.vmx_tx_ring.specs.Tells.{next_at, to_fill, with_piece}
use Rattle.vmx_tx_ring.specs.Walks.{first_word, returned_to}
use Rattle.vmx_tx_ring.proofs.PieceLaws.{mark_fits}
use Rattle.vmx_tx_ring.proofs.Driving.{bit_generation, next_is, staged_next, staged_now, word_first, word_later, lies_as}
use Rattle.vmx_tx_ring.proofs.Moves.{StoredAs, driver_opens, driver_stages, stored_piece}
use Rattle.vmx_tx_ring.proofs.writer.TxWriter.stage.Goals as goal

pub store-requires : goal.store-requires
store-requires g c = let me = c.args.self.now in let v = me.seat.me.0 in let id_is = me.seated ∙ sym (ap (λ q. q.shared.table_id) c.deref.ensures) in let size = ap (λ z. z.size) (sym me.made_is) in
    let many = ap (λ z. z.words) id_is in let enough = me.words in let low = mod-lt me.posted me.size.0 in let at = ap₂ (λ (a b : ℕ). a % b) me.counts.0 size in let p0 = me.counts.0 in let p2 = me.counts.2 in let room = c.requires.room in
    let lies_so = lies_as v me.made me.posted me.published c.goes_to_data-in_data.result me.made_is me.order.1 c.goes_to_data-in_data.ensures.first c.goes_to_data-in_data.ensures.later in let queue = ap (λ z. z.name.queue) (sym me.made_is) in (
      search rules,
      omega arith,
      driver_opens g.C.TellsCompletions.told _ _ _ _ _ me.rests.0 me.rests.1 me.rests.2 me.rests.4 (omega arith) (ap₂ (λ (a b : ℕ). a + b) size at) (c.address_of.ensures.value ∙ (λ i. address (queue i) (lies_so i) (at i))),
    )

pub slot_mut-requires : goal.slot_mut-requires
slot_mut-requires g c = let me = c.args.self.now in let size = ap (λ z. z.size) (sym me.made_is) in let at = ap₂ (λ (a b : ℕ). a % b) me.counts.0 size in let got = c.store.ensures.2 in
    (search rules, (got.0, ap (λ m. m.1) got.1 ∙ (λ i. (sym at i, got.0) ∷ rest (sym got.1 i).1)))

pub pack-requires-clause-entry : goal.pack-requires-clause-entry
pack-requires-clause-entry g c = let me = c.args.self.now in let v = me.seat.me.0 in let lies_so = lies_as v me.made me.posted me.published c.goes_to_data-in_data.result me.made_is me.order.1 c.goes_to_data-in_data.ensures.first c.goes_to_data-in_data.ensures.later in
    λ e. c.requires.entry (sym lies_so ∙ e)

pub store-requires-2 : goal.store-requires-2
store-requires-2 g c = let me = c.args.self.now in let v = me.seat.me.0 in let size = ap (λ z. z.size) (sym me.made_is) in let p0 = me.counts.0 in let at = ap₂ (λ (a b : ℕ). a % b) p0 size in let got = c.store.ensures.2 in let o1 = me.order.1 in
    let lies_so = lies_as v me.made me.posted me.published c.goes_to_data-in_data.result me.made_is o1 c.goes_to_data-in_data.ensures.first c.goes_to_data-in_data.ensures.later in
    let x : TxPiece = record { bytes = c.args.piece.now; last = c.args.last; in_data = next_in_data v.made v.driver.at.staged; numbers = numbers_of c.args.mark.now } in
    let word_is : c.descriptor_word-word.result ≡ (descriptor v.made (next_at v) x).second = c.descriptor_word-word.ensures.word ∙ ap (λ (g : ℕ). second_word (told_of g x)) (ap bit c.generation.ensures.value ∙ bit_generation c.new-ring.result.size me.posted ∙ ap₂ generation_bit (c.new-ring.ensures.size ∙ size) p0) in
    let as_ : StoredAs v x c.staged_word-stored.result = record { first = λ e. c.staged_word-stored.ensures.first (omega arith) ∙ ap (flipped 14) word_is; later = λ e. c.staged_word-stored.ensures.later (λ k. omega arith) ∙ word_is } in
    let shown : Shows x c.pack.new.buffer = ap (λ z. take (length c.args.piece.now) (lies z c.pack.new.buffer)) (sym lies_so) ∙ c.pack.ensures.shows in
    let id_is = me.seated ∙ sym (ap (λ q. q.shared.table_id) c.deref.ensures) in let many = ap (λ z. z.words) id_is in let enough = me.words in let low = mod-lt me.posted me.size.0 in (
      search rules,
      omega arith,
      driver_stages g.C.TellsCompletions.told _ _ _ (to_fill v) c.pack.new.buffer x _ _ (λ i. ((got.1 i).0, (at i, c.pack.new.buffer) ∷ rest (got.1 i).1)) me.rests.0 me.rests.1 refl refl shown c.requires.short (mark_fits c.args.mark.now c.descriptor_word-word.ensures.tag) (record { first = as_.first; later = as_.later }) at,
    )

pub returns-clause-staged : goal.returns-clause-staged
returns-clause-staged g c = let me = c.args.self.now in let v = me.seat.me.0 in let size = ap (λ z. z.size) (sym me.made_is) in let p0 = me.counts.0 in let got = c.store.ensures.2 in let o1 = me.order.1 in
    let lies_so = lies_as v me.made me.posted me.published c.goes_to_data-in_data.result me.made_is o1 c.goes_to_data-in_data.ensures.first c.goes_to_data-in_data.ensures.later in
    let x : TxPiece = record { bytes = c.args.piece.now; last = c.args.last; in_data = next_in_data v.made v.driver.at.staged; numbers = numbers_of c.args.mark.now } in
    let word_is : c.descriptor_word-word.result ≡ (descriptor v.made (next_at v) x).second = c.descriptor_word-word.ensures.word ∙ ap (λ (g : ℕ). second_word (told_of g x)) (ap bit c.generation.ensures.value ∙ bit_generation c.new-ring.result.size me.posted ∙ ap₂ generation_bit (c.new-ring.ensures.size ∙ size) p0) in
    let as_ : StoredAs v x c.staged_word-stored.result = record { first = λ e. c.staged_word-stored.ensures.first (omega arith) ∙ ap (flipped 14) word_is; later = λ e. c.staged_word-stored.ensures.later (λ k. omega arith) ∙ word_is } in
    let shown : Shows x c.pack.new.buffer = ap (λ z. take (length c.args.piece.now) (lies z c.pack.new.buffer)) (sym lies_so) ∙ c.pack.ensures.shows in
    staged_now v c.store.new.seat.me.0 c.store-2.new.seat.me.0 c.pack.new.buffer x c.staged_word-stored.result (ap (λ m. m.0) got.1) (ap (λ m. m.0) c.store-2.ensures.2)
    (stored_piece v c.pack.new.buffer x c.staged_word-stored.result refl shown c.requires.short (mark_fits c.args.mark.now c.descriptor_word-word.ensures.tag) as_)

pub invariant_of-self : goal.invariant_of-self
invariant_of-self g c = let me = c.args.self.now in let v = me.seat.me.0 in let size = ap (λ z. z.size) (sym me.made_is) in let p0 = me.counts.0 in let got = c.store.ensures.2 in let o1 = me.order.1 in
    let lies_so = lies_as v me.made me.posted me.published c.goes_to_data-in_data.result me.made_is o1 c.goes_to_data-in_data.ensures.first c.goes_to_data-in_data.ensures.later in
    let x : TxPiece = record { bytes = c.args.piece.now; last = c.args.last; in_data = next_in_data v.made v.driver.at.staged; numbers = numbers_of c.args.mark.now } in
    let word_is : c.descriptor_word-word.result ≡ (descriptor v.made (next_at v) x).second = c.descriptor_word-word.ensures.word ∙ ap (λ (g : ℕ). second_word (told_of g x)) (ap bit c.generation.ensures.value ∙ bit_generation c.new-ring.result.size me.posted ∙ ap₂ generation_bit (c.new-ring.ensures.size ∙ size) p0) in
    let as_ : StoredAs v x c.staged_word-stored.result = record { first = λ e. c.staged_word-stored.ensures.first (omega arith) ∙ ap (flipped 14) word_is; later = λ e. c.staged_word-stored.ensures.later (λ k. omega arith) ∙ word_is } in
    let shown : Shows x c.pack.new.buffer = ap (λ z. take (length c.args.piece.now) (lies z c.pack.new.buffer)) (sym lies_so) ∙ c.pack.ensures.shows in
    let now : c.store-2.new.seat.me.0 ≡ with_piece v x = staged_now v c.store.new.seat.me.0 c.store-2.new.seat.me.0 c.pack.new.buffer x c.staged_word-stored.result (ap (λ m. m.0) got.1) (ap (λ m. m.0) c.store-2.ensures.2)
    (stored_piece v c.pack.new.buffer x c.staged_word-stored.result refl shown c.requires.short (mark_fits c.args.mark.now c.descriptor_word-word.ensures.tag) as_) in
    let long = ap (λ (z : TxKnown). length z.driver.at.staged) now ∙ length-append v.driver.at.staged (x ∷ []) in let o0 = me.order.0 in let o3 = me.order.3 in let room = c.requires.room in let next = staged_next v x in
    let u : ℕ = descriptors v.made v.driver.at.sent in let sz : ℕ = v.made.size in let chosen = c.first_staged-self.ensures in record {
      seated = search rules;
      slots = search rules;
      words = search rules;
      size = me.size;
      piece = me.piece;
      rests = (ap (λ (z : TxKnown). z.drives) now ∙ me.rests.0, ap (λ (z : TxKnown). z.serves) now ∙ me.rests.1, ap (λ (z : TxKnown). z.driver.at.opened) now, ap (λ (z : TxKnown). z.driver.at.checking) now ∙ me.rests.3, ap (λ m. m.1) c.store-2.ensures.2);
      made_is = ap (λ (z : TxKnown). z.made) now ∙ me.made_is;
      counts = (ap (λ (k : ℕ). k + 1) p0 ∙ sym next ∙ ap next_at (sym now), me.counts.1 ∙ ap (λ (z : TxKnown). descriptors z.made z.driver.at.sent) (sym now), me.counts.2 ∙ ap returned_to (sym now));
      places = (me.places.0 ∙ ap (λ (z : TxKnown). length z.driver.at.sent) (sym now), me.places.1 ∙ ap (λ (z : TxKnown). z.driver.at.reaped) (sym now));
      order = (o0, omega arith, omega arith, o3);
      small = let k = c.requires.small in omega arith;
      first_is = dite (ℕ_discrete me.posted me.published)
          (λ is. let none : length v.driver.at.staged ≡ 0 = omega arith in chosen.first is ∙ word_is ∙ ap (λ (k : ℕ). second_word (told_of (generation_bit sz k) x)) (let n = next_is v in let p1 = me.counts.1 in let k : next_at v ≡ u = omega arith in k) ∙ sym (word_first sz u v.driver.at.staged x none) ∙ ap first_word (sym now))
          (λ other. chosen.later other ∙ me.first_is ∙ sym (word_later sz u v.driver.at.staged x (omega arith)) ∙ ap first_word (sym now));
      note = (ap (λ (z : TxKnown). z.of_driver) now ∙ me.note.0, ap (λ (z : TxKnown). z.of_device) now ∙ me.note.1);
    }
