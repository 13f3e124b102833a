use Rattle.std.proofs.Common.{◌≡◌, ℕ, suc, ◌+◌, ◌-◌, ◌*◌, ◌<◌, ◌≤◌, List, length, take, drop, false, sym, ap, ◌∙◌, subst, arith}
use mathlib.Core.Logic.{dite}
use native.Mathlib.Decide.{ℕ_discrete}
use Rattle.std.proofs.lemmas.List.{length-drop}
use Rattle.vmx_ends.specs.declared.frames.Sent.{Sent}
use Rattle.vmx_ends.specs.declared.made.TxMade.{TxMade}
use Rattle.vmx_ends.specs.Frames.{sent_as}
use Rattle.vmx_ends.specs.TransmitCounts.{need_some}
use Rattle.vmx_tx_ring.specs.declared.known.TxKnown.{TxKnown}
use Rattle.vmx_tx_ring.specs.declared.known.TxPiece.{TxPiece}
use Rattle.vmx_tx_ring.specs.Pieces.{is_zero, first_size, first_piece, cut, chain, numbers_of, no_numbers, next_in_data}
use Rattle.vmx_tx_ring.specs.Tells.{with_sent}
use Rattle.vmx_tx_ring.proofs.PieceLaws.{same_frame}
use Rattle.vmx_tx_ring.proofs.Driving.{cut-at, zero_is, zero_not, starts_by, grows_by, all-staged, begins_in, some_piece}
use Rattle.vmx_tx_ring.proofs.writer.TxWriter.send.Goals as goal

pub loop-place-init : goal.loop-place-init
loop-place-init g c = let me = c.args.self.now in let v : TxKnown = me.seat.me.0 in let frame : List ℕ = c.args.frame.now in let more : ℕ = c.args.count - 1 in let s : Sent = sent_as frame c.args.mark.now in
    let count = c.requires.count in let least = c.requires.frame.0.0 in let pos : 0 < v.made.piece = subst (λ (m : TxMade). 0 < m.piece) (sym me.made_is) (some_piece me.made me.piece.0) in let some_in = need_some v.made (length frame) pos (omega arith) in
    let z : TxPiece = record { bytes = c.head_of.result.now; last = c.ends.result; in_data = next_in_data v.made v.driver.at.staged; numbers = numbers_of c.args.mark.now } in
    let bytes = c.head_of.ensures.value ∙ ap (λ (k : ℕ). take k frame) (c.first_size_of-first_size.ensures.value ∙ ap first_size (sym me.made_is)) in
    let last : c.ends.result ≡ is_zero more = dite (ℕ_discrete c.args.count (0 + 1)) (λ is. c.ends.ensures.last is ∙ sym (zero_is more (omega arith))) (λ other. c.ends.ensures.further (omega arith) ∙ sym (zero_not more (omega arith))) in
    let in_data = ap (next_in_data v.made) c.requires.none in
    let same : z ≡ first_piece v.made more s = λ i. record { bytes = bytes i; last = last i; in_data = in_data i; numbers = numbers_of c.args.mark.now } in
    let q = c.stage.ensures.same in let posted = q.2 in record {
      key = c.stage.ensures.key;
      staged = starts_by v c.stage.new.self.seat.me.0 (first_piece v.made more s) z c.stage.ensures.staged c.requires.none me.rests.2 same;
      made = q.0;
      returned = q.1;
      posted = omega arith;
      place = q.3;
      tag = c.stage.ensures.tag;
    }

pub piece_at-requires : goal.piece_at-requires
piece_at-requires g c = let me = c.args.self.now in let v : TxKnown = me.seat.me.0 in let frame : List ℕ = c.args.frame.now in let more : ℕ = c.args.count - 1 in let p : ℕ = c.loop-place.place in let less = c.loop-place-test.true in let count = c.requires.count in
    let pos : 0 < v.made.piece = subst (λ (m : TxMade). 0 < m.piece) (sym me.made_is) (some_piece me.made me.piece.0) in
    let begins : p * v.made.piece ≤ length frame - first_size v.made = begins_in v.made (length frame) more p pos (omega arith) less in
    let times : p * c.stage.new.self.made.piece ≡ p * v.made.piece = ap (λ (m : TxMade). p * m.piece) (c.stage.ensures.same.0 ∙ sym me.made_is) in
    let size : c.first_size_of-first_size.result ≡ first_size v.made = c.first_size_of-first_size.ensures.value ∙ ap first_size (sym me.made_is) in
    let long : length c.rest_of-rest.result.now ≡ length frame - c.first_size_of-first_size.result = ap length c.rest_of-rest.ensures.value ∙ length-drop c.first_size_of-first_size.result frame in record { begins = omega arith }

pub loop-place-preserved : goal.loop-place-preserved
loop-place-preserved g c = let me = c.args.self.now in let v : TxKnown = me.seat.me.0 in let frame : List ℕ = c.args.frame.now in let more : ℕ = c.args.count - 1 in let s : Sent = sent_as frame c.args.mark.now in let p : ℕ = c.loop-place.place in let less = c.loop-place-test.true in
    let inv = c.loop-place.invariant in let w : TxKnown = c.loop-place.self.seat.me.0 in let rest : List ℕ = drop (first_size v.made) frame in let size : ℕ = v.made.piece in
    let x : TxPiece = record { bytes = take size (drop (p * size) rest); last = is_zero (more - suc p); in_data = false; numbers = no_numbers } in
    let z : TxPiece = record { bytes = c.piece_at.result.now; last = c.ends-in-loop-place.result; in_data = next_in_data w.made w.driver.at.staged; numbers = numbers_of c.plain-plain.result } in
    let piece = ap (λ (m : TxMade). m.piece) (c.stage.ensures.same.0 ∙ sym me.made_is) in let rest_is : c.rest_of-rest.result.now ≡ rest = c.rest_of-rest.ensures.value ∙ ap (λ (k : ℕ). drop k frame) (c.first_size_of-first_size.ensures.value ∙ ap first_size (sym me.made_is)) in
    let bytes : c.piece_at.result.now ≡ x.bytes = c.piece_at.ensures.value ∙ (λ i. take (piece i) (drop (p * piece i) (rest_is i))) in
    let last : c.ends-in-loop-place.result ≡ x.last = dite (ℕ_discrete c.args.count (p + 1 + 1)) (λ is. c.ends-in-loop-place.ensures.last is ∙ sym (zero_is (more - suc p) (omega arith))) (λ other. c.ends-in-loop-place.ensures.further (omega arith) ∙ sym (zero_not (more - suc p) (omega arith))) in
    let in_data : next_in_data w.made w.driver.at.staged ≡ false = ap (λ (u : TxKnown). next_in_data u.made u.driver.at.staged) inv.staged in
    let numbers : numbers_of c.plain-plain.result ≡ no_numbers = ap numbers_of c.plain-plain.ensures.plain in
    let same : z ≡ x = λ i. record { bytes = bytes i; last = last i; in_data = in_data i; numbers = numbers i } in
    let q = c.stage-in-loop-place.ensures.same in let posted = inv.posted in let q2 = q.2 in record {
      key = c.stage-in-loop-place.ensures.key ∙ inv.key;
      staged = grows_by v w c.stage-in-loop-place.new.self.seat.me.0 (first_piece v.made more s) (cut size more rest) p x z inv.staged c.stage-in-loop-place.ensures.staged me.rests.2 same (cut-at size more rest p less);
      made = q.0 ∙ inv.made;
      returned = q.1 ∙ inv.returned;
      posted = omega arith;
      place = q.3 ∙ inv.place;
      tag = inv.tag;
    }

pub publish-requires-clause-whole : goal.publish-requires-clause-whole
publish-requires-clause-whole g c = let me = c.args.self.now in let v : TxKnown = me.seat.me.0 in let frame : List ℕ = c.args.frame.now in let more : ℕ = c.args.count - 1 in let s : Sent = sent_as frame c.args.mark.now in let inv = c.loop-place.invariant in
    let past = c.loop-place-test.false in let most = c.loop-place.auto.place-end in let count = c.requires.count in let least = c.requires.frame.0.0 in let pos : 0 < v.made.piece = subst (λ (m : TxMade). 0 < m.piece) (sym me.made_is) (some_piece me.made me.piece.0) in
    let some_in = need_some v.made (length frame) pos (omega arith) in
    (s, ap (λ (u : TxKnown). u.driver.at.staged) inv.staged ∙ all-staged v.made s more c.loop-place.place (omega arith) (omega arith) ∙ ap (λ (u : TxKnown). chain u.made s) (sym inv.staged), c.requires.frame, (c.requires.frame.1, inv.tag))

pub returns-clause-sent : goal.returns-clause-sent
returns-clause-sent g c = let me = c.args.self.now in let v : TxKnown = me.seat.me.0 in let frame : List ℕ = c.args.frame.now in let more : ℕ = c.args.count - 1 in let s : Sent = sent_as frame c.args.mark.now in let inv = c.loop-place.invariant in
    let past = c.loop-place-test.false in let most = c.loop-place.auto.place-end in let count = c.requires.count in let least = c.requires.frame.0.0 in let pos : 0 < v.made.piece = subst (λ (m : TxMade). 0 < m.piece) (sym me.made_is) (some_piece me.made me.piece.0) in
    let some_in = need_some v.made (length frame) pos (omega arith) in let t = c.publish.ensures.sent in let least' = t.3.0.0 in
    let chains : chain v.made t.0 ≡ chain v.made s = ap (λ (u : TxKnown). chain u.made t.0) (sym inv.staged) ∙ sym t.2 ∙ ap (λ (u : TxKnown). u.driver.at.staged) inv.staged ∙ all-staged v.made s more c.loop-place.place (omega arith) (omega arith) in
    let same : t.0 ≡ s = same_frame v.made t.0 s pos (omega arith) (omega arith) chains in
    t.1 ∙ ap (λ (u : TxKnown). with_sent u t.0) inv.staged ∙ ap (with_sent v) same
