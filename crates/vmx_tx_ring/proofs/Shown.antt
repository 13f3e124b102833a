-- What a load of a descriptor's word finds.
use Rattle.std.proofs.Common.{◌≡◌, ◌≢◌, ℕ, ◌+◌, ◌%◌, ◌≤◌, List, ◌++◌, get_or, sym, ap, ◌∙◌, arith, mod-lt, length-append}
use mathlib.Core.Option.{some}
use mathlib.Core.Option as maybe
use lib.ListN.{get_elem?}
use Rattle.std.specs.Int.{bit_at}
use Rattle.vmx_ring_laws.specs.Lists.{at_below}
use Rattle.vmx_genring.specs.Rings.{generation_bit}
use Rattle.vmx_genring.specs.RingLaws.{hides_next, first_shows}
use Rattle.vmx_ends.specs.declared.made.TxMade.{TxMade}
use Rattle.vmx_ends.specs.Transmit.{descriptors}
use Rattle.vmx_tx_ring.specs.declared.known.TxPiece.{TxPiece}
use Rattle.vmx_tx_ring.specs.declared.known.TxBuffer.{TxBuffer}
use Rattle.vmx_tx_ring.specs.declared.known.TxDriverAt.{TxDriverAt}
use Rattle.vmx_tx_ring.specs.declared.known.TxDeviceAt.{TxDeviceAt}
use Rattle.vmx_tx_ring.specs.Pieces.{pieces, address, descriptor, descriptor_ring}
use Rattle.vmx_tx_ring.specs.Rule.{Telling, Ring, returned_of}
use Rattle.vmx_tx_ring.proofs.ThreeRows.{get_first, get_second}
use Rattle.vmx_tx_ring.proofs.Rings.{bounds}
use Rattle.vmx_tx_ring.proofs.PieceLaws.{entries-length, entry-is, at_first, pieces-length}

module _ (Told : Telling) (m : TxMade) (d : TxDriverAt) (e : TxDeviceAt) (ws : List ℕ) (hs : List (maybe.Option TxBuffer)) (r : Ring Told m d e ws hs) where
  abbrev n : ℕ
  n = m.size

  -- a piece that is published
  pub descriptor_shows : (p : ℕ) (x : TxPiece) → returned_of m d ≤ p → get_elem? (pieces m d.sent) p ≡ some x → get_or ws (p % n) 0 ≡ (descriptor m p x).second
  descriptor_shows p x low at = let w = r.words_are in let st = w.stand in let in_ = at_below (pieces m d.sent) p x at in let count = pieces-length m d.sent in let long = entries-length m 0 (pieces m d.sent ++ d.staged) in let more = length-append (pieces m d.sent) d.staged in
      let bd = bounds Told m d e ws hs r in let room = bd.room in let k : 0 + p ≡ p = omega arith in
      ap (λ l. get_or l (p % n) 0) w.are ∙ get_first n w.seconds w.firsts w.others st.as_many_seconds st.as_many_firsts (p % n) (mod-lt p r.core.some_slot)
      ∙ st.second p (omega arith) (omega arith) (λ q. omega arith) ∙ ap (λ z. z.second) (entry-is m 0 (pieces m d.sent ++ d.staged) p x (at_first (pieces m d.sent) d.staged p x at)) ∙ ap (λ (q : ℕ). (descriptor m q x).second) k

  -- and the descriptor behind all these
  pub descriptor_hides : bit_at (get_or ws (descriptors m d.sent % n) 0) 14 ≢ generation_bit n (descriptors m d.sent)
  descriptor_hides same = let w = r.words_are in let st = w.stand in let u : ℕ = descriptors m d.sent in
      hides_next n 14 w.firsts w.seconds (descriptor_ring m d.sent d.staged d.opened d.reaped) r.core.some_slot st
      (ap (λ (z : ℕ). bit_at z 14) (sym (ap (λ l. get_or l (u % n) 0) w.are ∙ get_first n w.seconds w.firsts w.others st.as_many_seconds st.as_many_firsts (u % n) (mod-lt u r.core.some_slot))) ∙ same)

  -- the first word of a descriptor is the address where its piece lies
  pub address_shows : (p : ℕ) (x : TxPiece) → returned_of m d ≤ p → get_elem? (pieces m d.sent) p ≡ some x → get_or ws (n + p % n) 0 ≡ address m.name.queue x.in_data (p % n)
  address_shows p x low at = let w = r.words_are in let st = w.stand in let in_ = at_below (pieces m d.sent) p x at in let long = entries-length m 0 (pieces m d.sent ++ d.staged) in let more = length-append (pieces m d.sent) d.staged in
      let k : 0 + p ≡ p = omega arith in
      ap (λ l. get_or l (n + p % n) 0) w.are ∙ get_second n w.seconds w.firsts w.others st.as_many_seconds st.as_many_firsts (p % n) (mod-lt p r.core.some_slot)
      ∙ first_shows n 14 w.firsts w.seconds (descriptor_ring m d.sent d.staged d.opened d.reaped) p st low (omega arith) ∙ ap (λ z. z.first) (entry-is m 0 (pieces m d.sent ++ d.staged) p x (at_first (pieces m d.sent) d.staged p x at)) ∙ ap (λ (q : ℕ). (descriptor m q x).first) k
