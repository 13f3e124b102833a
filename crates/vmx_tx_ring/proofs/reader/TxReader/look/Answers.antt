use Rattle.std.proofs.Common.{rules, ◌≡◌, ℕ, ◌%◌, [], ◌∷◌, length, sym, ap, ap₂, ◌∙◌, subst, arith, mod-lt, length-append}
use Rattle.std.specs.Int.{bit_at}
use Rattle.vmx_layout.specs.Bits.{field}
use Rattle.vmx_genring.specs.Rings.{generation_bit}
use Rattle.vmx_ends.specs.declared.frames.Sent.{Sent}
use Rattle.vmx_ends.specs.declared.frames.Taken.{Taken}
use Rattle.vmx_ends.specs.Transmit.{need, found_in}
use Rattle.vmx_ends.specs.TransmitCounts.{found-append}
use Rattle.vmx_tx_ring.specs.declared.known.MarkNumbers.{MarkNumbers}
use Rattle.vmx_tx_ring.specs.declared.known.TxKnown.{TxKnown}
use Rattle.vmx_tx_ring.specs.declared.known.TxPiece.{TxPiece}
use Rattle.vmx_tx_ring.specs.Pieces.{numbers_of, numbers_in}
use Rattle.vmx_tx_ring.specs.Tells.{Found, emptied}
use Rattle.vmx_tx_ring.proofs.PieceLaws.{generation_small, piece-tells, shown_short, chain-length, chain-first, same_mark}
use Rattle.vmx_tx_ring.proofs.Driving.{empty_first}
use Rattle.vmx_tx_ring.proofs.Moves.{device_looks}
use Rattle.vmx_tx_ring.proofs.reader.TxReader.look.Goals as goal

pub load-word-requires : goal.load-word-requires
load-word-requires g c = let me = c.args.self.now in let id_is = me.seated ∙ sym (ap (λ q. q.shared.table_id) c.deref.ensures) in let size = ap (λ z. z.size) (sym me.made_is) in let many = ap (λ z. z.words) id_is in let enough = me.words in let low = mod-lt me.read me.size.0 in (
  search rules,
  omega arith,
  device_looks g.C.TellsCompletions.told _ _ _ _ me.rests.0 me.rests.1 me.rests.2 c.requires.idle.0 c.requires.idle.1 me.rests.4 (ap₂ (λ (a b : ℕ). a % b) me.places.0 size),
)

pub mark_of-mark-requires-clause-named : goal.mark_of-mark-requires-clause-named
mark_of-mark-requires-clause-named g c = let me = c.args.self.now in let v = me.seat.me.0 in let size = ap (λ z. z.size) (sym me.made_is) in
    let hit : bit_at c.load-word.result 14 ≡ generation_bit v.made.size v.device.at.read = c.owned.ensures.owner.0 c.if-not-owned.false ∙ ap₂ generation_bit (c.new-ring.ensures.size ∙ size) me.places.0 in
    let told = c.load-word.ensures.2.0 hit in let x : TxPiece = told.1 in let f = told.4.found in
    ap (λ (w : ℕ). field w 15 1) f.word ∙ (piece-tells (generation_bit v.made.size v.device.at.read) x (shown_short x told.3 f.bytes) (generation_small v.made.size v.device.at.read) f.numbers).named

pub mark_of-mark-requires-clause-lawful : goal.mark_of-mark-requires-clause-lawful
mark_of-mark-requires-clause-lawful g c = let me = c.args.self.now in let v = me.seat.me.0 in let size = ap (λ z. z.size) (sym me.made_is) in
    let hit : bit_at c.load-word.result 14 ≡ generation_bit v.made.size v.device.at.read = c.owned.ensures.owner.0 c.if-not-owned.false ∙ ap₂ generation_bit (c.new-ring.ensures.size ∙ size) me.places.0 in
    let told = c.load-word.ensures.2.0 hit in let s : Sent = told.0 in let x : TxPiece = told.1 in let f = told.4.found in
    let numbers : numbers_in c.load-word.result ≡ numbers_of s.mark = ap numbers_in f.word ∙ (piece-tells (generation_bit v.made.size v.device.at.read) x (shown_short x told.3 f.bytes) (generation_small v.made.size v.device.at.read) f.numbers).numbers_are ∙ (chain-first v.made s x told.2 told.4.chain_is).numbers_are in
    λ e. s.mark.om_lawful (ap (λ (n : MarkNumbers). n.om) (sym numbers) ∙ e)

pub empty_slot-last-requires-clause-out : goal.empty_slot-last-requires-clause-out
empty_slot-last-requires-clause-out g c = let me = c.args.self.now in let v = me.seat.me.0 in let size = ap (λ z. z.size) (sym me.made_is) in let at = ap₂ (λ (a b : ℕ). a % b) me.places.0 size in
    let hit : bit_at c.load-word.result 14 ≡ generation_bit v.made.size v.device.at.read = c.owned.ensures.owner.0 c.if-not-owned.false ∙ ap₂ generation_bit (c.new-ring.ensures.size ∙ size) me.places.0 in
    let told = c.load-word.ensures.2.0 hit in let is = told.4.is in let f = told.4.found in
    (told.3, ap (λ m. m.1) is ∙ (λ i. (sym at i, told.3) ∷ []), subst (λ (z : TxKnown). Found z c.load-word.result z.device.at.at_hand told.3) (sym (ap (λ m. m.0) is)) (record { word = f.word; bytes = f.bytes; numbers = f.numbers }))

pub empty_slot-last-requires-clause-lies : goal.empty_slot-last-requires-clause-lies
empty_slot-last-requires-clause-lies g c = let me = c.args.self.now in let v = me.seat.me.0 in let size = ap (λ z. z.size) (sym me.made_is) in
    let hit : bit_at c.load-word.result 14 ≡ generation_bit v.made.size v.device.at.read = c.owned.ensures.owner.0 c.if-not-owned.false ∙ ap₂ generation_bit (c.new-ring.ensures.size ∙ size) me.places.0 in
    let told = c.load-word.ensures.2.0 hit in ap (λ z. z.with_data) (sym me.made_is) ∙ sym (chain-first v.made told.0 told.1 told.2 told.4.chain_is).in_data_is ∙ ap (λ m. m.0.device.at.at_hand.in_data) (sym told.4.is)

pub invariant_of-self-2 : goal.invariant_of-self-2
invariant_of-self-2 g c = let me = c.args.self.now in let v = me.seat.me.0 in let size = ap (λ z. z.size) (sym me.made_is) in
    let hit : bit_at c.load-word.result 14 ≡ generation_bit v.made.size v.device.at.read = c.owned.ensures.owner.0 c.if-not-owned.false ∙ ap₂ generation_bit (c.new-ring.ensures.size ∙ size) me.places.0 in
    let told = c.load-word.ensures.2.0 hit in let now = ap (λ m. m.0) c.empty_slot-last.ensures.seat ∙ ap (λ m. emptied m.0) told.4.is in let p0 = me.places.0 in let p1 = me.places.1 in let p2 = me.places.2 in
    let t : Taken = record { sent = told.0; descriptors = need v.made (length told.0.frame) } in let long = length-append v.device.at.taken (t ∷ []) in let sum = found-append v.device.at.taken (t ∷ []) in let old = me.found.0 in let least = me.found.1 in let none = ap length c.requires.idle.0 in let of_chain = ap length told.4.chain_is in
    let as_needed = chain-length v.made told.0 in
    let a = ap (λ (z : TxKnown). z.device.at.read) now in let b = ap (λ (z : TxKnown). length z.device.at.taken) now in let d = ap (λ (z : TxKnown). length z.device.at.ahead) now in let e = ap (λ (z : TxKnown). found_in z.device.at.taken) now in record {
      seated = search rules;
      slots = search rules;
      words = search rules;
      size = me.size;
      piece = me.piece;
      rests = (ap (λ (z : TxKnown). z.serves) now ∙ me.rests.0, ap (λ (z : TxKnown). z.drives) now ∙ me.rests.1, ap (λ (z : TxKnown). z.device.at.emptying) now, ap (λ (z : TxKnown). z.device.at.closing) now ∙ me.rests.3, ap (λ m. m.1) c.empty_slot-last.ensures.seat);
      made_is = ap (λ (z : TxKnown). z.made) now ∙ me.made_is;
      places = (omega arith, omega arith, p2 ∙ ap (λ (z : TxKnown). z.device.at.completed) (sym now));
      found = (omega arith, omega arith);
      note = (ap (λ (z : TxKnown). z.of_driver) now ∙ me.note.0, ap (λ (z : TxKnown). z.of_device) now ∙ me.note.1);
    }

pub returns-clause-looks : goal.returns-clause-looks
returns-clause-looks g c = let me = c.args.self.now in let v = me.seat.me.0 in let size = ap (λ z. z.size) (sym me.made_is) in
    let hit : bit_at c.load-word.result 14 ≡ generation_bit v.made.size v.device.at.read = c.owned.ensures.owner.0 c.if-not-owned.false ∙ ap₂ generation_bit (c.new-ring.ensures.size ∙ size) me.places.0 in
    let told = c.load-word.ensures.2.0 hit in let s : Sent = told.0 in let x : TxPiece = told.1 in let found = told.4 in let f = found.found in let is = found.is in
    let numbers : numbers_of c.mark_of-mark.result ≡ numbers_of s.mark = c.mark_of-mark.ensures.numbers ∙ ap numbers_in f.word ∙ (piece-tells (generation_bit v.made.size v.device.at.read) x (shown_short x told.3 f.bytes) (generation_small v.made.size v.device.at.read) f.numbers).numbers_are ∙ (chain-first v.made s x told.2 found.chain_is).numbers_are in
    let empty = c.requires.empty in let none : length c.args.into.now.items ≡ 0 = omega arith in (
      s,
      x,
      told.2,
      ap (λ m. m.0) c.empty_slot-last.ensures.seat ∙ ap (λ m. emptied m.0) is,
      found.chain_is,
      c.empty_slot-last.ensures.into ∙ empty_first _ _ none ∙ ap (λ m. m.0.device.at.at_hand.bytes) is,
      c.empty_slot-last.ensures.last ∙ ap (λ m. m.0.device.at.at_hand.last) is,
      same_mark c.mark_of-mark.result s.mark numbers,
      found.frame,
      found.comparable,
    )
