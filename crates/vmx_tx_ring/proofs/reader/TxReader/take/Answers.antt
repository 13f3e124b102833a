use Rattle.std.proofs.Common.{◌≡◌, ℕ, ◌<◌, ◌≤◌, List, [], ◌∷◌, ◌++◌, length, sym, refl, ap, ap₂, ◌∙◌, subst, arith, length-append}
use Rattle.vmx_ring_laws.specs.Keys.{key_of}
use Rattle.vmx_ends.specs.declared.frames.Sent.{Sent}
use Rattle.vmx_ends.specs.declared.frames.Taken.{Taken}
use Rattle.vmx_ends.specs.declared.made.TxMade.{TxMade}
use Rattle.vmx_ends.specs.declared.meta.TxMark.{TxMark}
use Rattle.vmx_ends.specs.Frames.{IsMarked, IsComparable, sent_of}
use Rattle.vmx_ends.specs.Queues.{least_piece}
use Rattle.vmx_ends.specs.Transmit.{TxDeviceView, need, found_in}
use Rattle.vmx_ends.specs.TransmitCounts.{need_few, found-append}
use Rattle.vmx_tx_ring.specs.declared.known.TxKnown.{TxKnown}
use Rattle.vmx_tx_ring.specs.declared.known.TxPiece.{TxPiece}
use Rattle.vmx_tx_ring.specs.Pieces.{Closes, ending, joined}
use Rattle.vmx_tx_ring.specs.Seats.{device_seen}
use Rattle.vmx_tx_ring.specs.Tells.{with_taken, emptied}
use Rattle.vmx_tx_ring.proofs.PieceLaws.{chain-length, chain-closes}
use Rattle.vmx_tx_ring.proofs.Driving.{closes_head, frame_read, some_piece}
use Rattle.vmx_tx_ring.proofs.reader.TxReader.take.Goals as goal

pub finish-requires-clause-closes : goal.finish-requires-clause-closes
finish-requires-clause-closes g c = let me = c.args.self.now in let v = me.seat.me.0 in let l = c.in-Piece.ensures.looks in
    subst (λ (z : List TxPiece). Closes (ending c.in-Piece.last ∷ z)) (sym (ap (λ (z : TxKnown). z.device.at.ahead) l.3)) (closes_head l.1 c.in-Piece.last l.2 l.6 (subst Closes l.4 (chain-closes v.made l.0)))

pub finish-requires-clause-few : goal.finish-requires-clause-few
finish-requires-clause-few g c = let me = c.args.self.now in let v = me.seat.me.0 in let l = c.in-Piece.ensures.looks in let ahead = ap (λ (z : TxKnown). length z.device.at.ahead) l.3 in let n = ap length l.4 in let as_needed = chain-length v.made l.0 in
    let big : least_piece v.made.with_data ≤ v.made.piece = subst (λ (z : TxMade). least_piece z.with_data ≤ z.piece) (sym me.made_is) me.piece.0 in let few = need_few v.made (length l.0.frame) l.8.0.1 big in omega arith

pub finish-requires-clause-room : goal.finish-requires-clause-room
finish-requires-clause-room g c = let me = c.args.self.now in let v = me.seat.me.0 in let l = c.in-Piece.ensures.looks in let ahead = ap (λ (z : TxKnown). length (joined z.device.at.ahead)) l.3 in
    let big : 0 < v.made.piece = subst (λ (z : TxMade). 0 < z.piece) (sym me.made_is) (some_piece me.made me.piece.0) in let least = l.8.0.0 in
    let whole = ap length (frame_read v.made l.0 l.1 l.2 big (omega arith) l.4) in let sum = length-append l.1.bytes (joined l.2) in let first = ap length l.5 in let most = l.8.0.1 in let room = c.requires.room in let kept = c.in-Piece.ensures.room in omega arith

pub returns-in-Piece-clause-takes : goal.returns-in-Piece-clause-takes
returns-in-Piece-clause-takes g c = let me = c.args.self.now in let v = me.seat.me.0 in let l = c.in-Piece.ensures.looks in let s : Sent = l.0 in
    let pos : 0 < v.made.piece = subst (λ (z : TxMade). 0 < z.piece) (sym me.made_is) (some_piece me.made me.piece.0) in let least = l.8.0.0 in
    let big : least_piece v.made.with_data ≤ v.made.piece = subst (λ (z : TxMade). least_piece z.with_data ≤ z.piece) (sym me.made_is) me.piece.0 in
    let ahead = ap (λ (z : TxKnown). z.device.at.ahead) l.3 in
    let got : c.finish.new.into.items ≡ s.frame = c.finish.ensures.into ∙ ap₂ (λ (a : List ℕ) (b : List TxPiece). a ++ joined b) l.5 ahead ∙ frame_read v.made s l.1 l.2 pos (omega arith) l.4 in
    let key : List ℕ = key_of me.seat.table_id in
    let seen : device_seen (key_of c.finish.new.self.seat.table_id) c.finish.new.self.seat.me.0 ≡ device_seen key (emptied (with_taken v s l.1 l.2)) = (λ i. record (c.finish.ensures.seen i) { key = key_of ((c.finish.ensures.key.0 ∙ c.in-Piece.ensures.key.0) i) }) ∙ ap (device_seen key) l.3 in
    let t : Taken = record { sent = s; descriptors = need v.made (length s.frame) } in let long = ap (λ (z : TxKnown). length z.device.at.taken) l.3 ∙ length-append v.device.at.taken (t ∷ []) in let p1 = c.look.new.self.places.1 in record {
      fine = refl;
      place_is = omega arith;
      frame = subst (λ (z : List ℕ × TxMark). IsMarked z.0 z.1) (λ i. (sym got i, sym l.7 i)) l.8;
      count = need v.made (length c.finish.new.into.items);
      exact = λ _. refl;
      few = subst (λ (z : List ℕ). need v.made (length z) ≤ 16) (sym got) (need_few v.made (length s.frame) l.8.0.1 big);
      is = seen ∙ (λ i. record (device_seen key v) { taken = v.device.at.taken ++ record { sent = record { frame = sym got i; mark = sym l.7 i }; descriptors = need v.made (length (sym got i)) } ∷ [] });
      comparable = subst (λ (w : TxDeviceView). IsComparable (sent_of w.taken) w.heard) (sym seen) l.9;
    }

pub returns-in-Piece-clause-grows : goal.returns-in-Piece-clause-grows
returns-in-Piece-clause-grows g c = let me = c.args.self.now in let v = me.seat.me.0 in let l = c.in-Piece.ensures.looks in let s : Sent = l.0 in let big : least_piece v.made.with_data ≤ v.made.piece = subst (λ (z : TxMade). least_piece z.with_data ≤ z.piece) (sym me.made_is) me.piece.0 in
    let seen = c.finish.ensures.seen ∙ ap (device_seen []) l.3 in let t : Taken = record { sent = s; descriptors = need v.made (length s.frame) } in
    let long = ap (λ w. length w.taken) seen ∙ length-append v.device.at.taken (t ∷ []) in let sum = ap (λ w. found_in w.taken) seen ∙ found-append v.device.at.taken (t ∷ []) in let few = need_few v.made (length s.frame) l.8.0.1 big in (omega arith, omega arith)
