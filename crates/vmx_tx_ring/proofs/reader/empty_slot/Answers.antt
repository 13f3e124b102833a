use Rattle.std.proofs.Common.{rules, ℕ, ◌+◌, ◌%◌, ◌<◌, ◌≤◌, ◌∷◌, ◌++◌, length, take, sym, ap, ap₂, ◌∙◌, subst, arith, mod-lt}
use Rattle.atomic_table.specs.Table.{rest}
use Rattle.vmx_layout.specs.Bits.{field}
use Rattle.vmx_genring.specs.Rings.{generation_bit}
use Rattle.vmx_tx_ring.specs.declared.known.TxPiece.{TxPiece}
use Rattle.vmx_tx_ring.specs.Pieces.{Shows, lies}
use Rattle.vmx_tx_ring.proofs.PieceLaws.{generation_small, piece-tells, shown_in, shown_short}
use Rattle.vmx_layout.specs.BitsLaws.{bit_same}
use Rattle.vmx_tx_ring.proofs.Driving.{lent}
use Rattle.vmx_tx_ring.proofs.Moves.{device_returns}
use Rattle.vmx_tx_ring.proofs.reader.empty_slot.Goals as goal

pub slot_mut-requires : goal.slot_mut-requires
slot_mut-requires g c = let o = c.requires.out in (search rules, (o.0, o.1 ∙ (λ i. (c.args.index, o.0) ∷ rest (sym o.1 i))))

pub unpack-requires-clause-short : goal.unpack-requires-clause-short
unpack-requires-clause-short g c = let o = c.requires.out in let v = c.args.seat.now.me.0 in let x : TxPiece = v.device.at.at_hand in let f = o.2 in
    let same = lent _ _ o.0 c.slot_mut.result.now c.args.seat.now.me.1 _ c.slot_mut.ensures.value o.1 in let gen : ℕ = generation_bit v.made.size v.device.at.read in
    let len = c.len_of_second-len.ensures.field ∙ ap (λ (w : ℕ). field w 0 14) f.word ∙ (piece-tells gen x (shown_short x o.0 f.bytes) (generation_small v.made.size v.device.at.read) f.numbers).len_is in
    let fits : length x.bytes ≤ length (lies c.args.in_data c.slot_mut.result.now) = subst (λ z. length x.bytes ≤ length (lies z c.slot_mut.result.now)) (sym c.requires.lies) (subst (λ z. length x.bytes ≤ length (lies x.in_data z)) (sym same) (shown_in x o.0 f.bytes)) in omega arith

pub unpack-requires-clause-room : goal.unpack-requires-clause-room
unpack-requires-clause-room g c = let o = c.requires.out in let v = c.args.seat.now.me.0 in let x : TxPiece = v.device.at.at_hand in let f = o.2 in let gen : ℕ = generation_bit v.made.size v.device.at.read in
    let len = c.len_of_second-len.ensures.field ∙ ap (λ (w : ℕ). field w 0 14) f.word ∙ (piece-tells gen x (shown_short x o.0 f.bytes) (generation_small v.made.size v.device.at.read) f.numbers).len_is in let room = c.requires.room in omega arith

pub load-requires : goal.load-requires
load-requires g c = let o = c.requires.out in let p = c.requires.place in let v = c.args.seat.now.me.0 in let pos = p.2 in let size = p.1 in let low : v.device.at.read % v.made.size < v.made.size = mod-lt v.device.at.read (omega arith) in let i = p.0 in let w = c.requires.words in
    let same = lent _ _ o.0 c.slot_mut.result.now c.args.seat.now.me.1 _ c.slot_mut.ensures.value o.1 in (
      search rules,
      omega arith,
      device_returns g.C.TellsCompletions.told _ _ _ v c.slot_mut.result.now _ (λ j. (v, (p.0 j, c.slot_mut.result.now) ∷ rest (o.1 j))) c.requires.state.0 c.requires.state.1 c.requires.state.2 (subst (Shows v.device.at.at_hand) (sym same) o.2.bytes) (ap₂ (λ (a b : ℕ). a + b) p.1 p.0),
    )

pub returns-clause-into : goal.returns-clause-into
returns-clause-into g c = let o = c.requires.out in let v = c.args.seat.now.me.0 in let x : TxPiece = v.device.at.at_hand in let f = o.2 in
    let same = lent _ _ o.0 c.slot_mut.result.now c.args.seat.now.me.1 _ c.slot_mut.ensures.value o.1 in let gen : ℕ = generation_bit v.made.size v.device.at.read in
    let len = c.len_of_second-len.ensures.field ∙ ap (λ (w : ℕ). field w 0 14) f.word ∙ (piece-tells gen x (shown_short x o.0 f.bytes) (generation_small v.made.size v.device.at.read) f.numbers).len_is in
    let lies_so = c.requires.lies in
    c.unpack.ensures.items ∙ ap (λ l. c.args.into.now.items ++ l) ((λ i. take (len i) (lies (lies_so i) (same i))) ∙ f.bytes)

pub returns-clause-last : goal.returns-clause-last
returns-clause-last g c = let o = c.requires.out in let v = c.args.seat.now.me.0 in let x : TxPiece = v.device.at.at_hand in let f = o.2 in let gen : ℕ = generation_bit v.made.size v.device.at.read in
    bit_same _ _ (c.ends_packet-last.ensures.field ∙ ap (λ (w : ℕ). field w 44 1) f.word ∙ (piece-tells gen x (shown_short x o.0 f.bytes) (generation_small v.made.size v.device.at.read) f.numbers).last_is)
