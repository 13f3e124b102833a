-- What the two walkers of a transmit ring know between two steps of their own.
use Rattle.std.specs.Prelude.{◌≡◌, ◌≢◌, ℕ, ◌≤◌, List, [], ◌∷◌, ◌++◌, length, Bool}
use Rattle.std.specs.Int.{bit_at}
use Rattle.vmx_layout.specs.TxDesc.{second_word}
use Rattle.vmx_layout.specs.declared.TheConstants.{TX_DESC_GENERATION_BIT}
use Rattle.vmx_genring.specs.Rings.{generation_bit}
use Rattle.vmx_ends.specs.declared.frames.Sent.{Sent}
use Rattle.vmx_ends.specs.Frames.{IsMarked, IsComparable, sent_of}
use Rattle.vmx_ends.specs.Transmit.{descriptors}
use Rattle.vmx_tx_ring.specs.declared.known.TxPiece.{TxPiece}
use Rattle.vmx_tx_ring.specs.declared.known.TxKnown.{TxKnown}
use Rattle.vmx_tx_ring.specs.declared.reader.Look.{Look}
use Rattle.vmx_tx_ring.specs.declared.reader.Look.TheVariants.{Missing, Piece}
use Rattle.vmx_tx_ring.specs.Pieces.{chain, told_of}
use Rattle.vmx_tx_ring.specs.Rule.{HasLawfulMark, returned_of}
use Rattle.vmx_tx_ring.specs.Tells.{with_sent, not_taken, with_taken, with_next, emptied}

-- the second word of the first staged piece, as it is published; 0 where none is
abbrev pub word_of : ℕ → ℕ → List TxPiece → ℕ
word_of size p [] = 0
word_of size p (x ∷ xs) = second_word (told_of (generation_bit size p) x)

abbrev pub first_word : TxKnown → ℕ
first_word v = word_of v.made.size (descriptors v.made v.driver.at.sent) v.driver.at.staged

abbrev pub returned_to : TxKnown → ℕ
returned_to v = returned_of v.made v.driver.at

-- the staged pieces are those of a frame that may be sent
abbrev pub IsWhole : TxKnown → Type 0
IsWhole v = (s : Sent) × (v.driver.at.staged ≡ chain v.made s) × IsMarked s.frame s.mark × HasLawfulMark s

-- and that frame is sent
abbrev pub Publishes : TxKnown → TxKnown → Type 0
Publishes old new = (s : Sent) × (new ≡ with_sent old s) × (old.driver.at.staged ≡ chain old.made s) × IsMarked s.frame s.mark

-- what the device's first look at a frame finds, with the bytes so far and what it knows after it
abbrev pub Looks : TxKnown → Look → List ℕ → TxKnown → Type 0
Looks old (Missing word) into new =
    (into ≡ []) × (new ≡ not_taken old word) × (bit_at word TX_DESC_GENERATION_BIT ≢ generation_bit old.made.size old.device.at.read) × (length old.device.heard ≤ length old.device.at.taken)
Looks old (Piece last mark) into new =
    (s : Sent) × (x : TxPiece) × (more : List TxPiece) × (new ≡ emptied (with_taken old s x more)) × (chain old.made s ≡ x ∷ more) × (into ≡ x.bytes) × (last ≡ x.last) × (mark ≡ s.mark) × IsMarked s.frame s.mark
    × IsComparable (sent_of (with_taken old s x more).device.at.taken) old.device.heard

-- and a further one
abbrev pub GoesOn : TxKnown → List ℕ → Bool → List ℕ → TxKnown → Type 0
GoesOn old before last after new = (x : TxPiece) × (more : List TxPiece) × (old.device.at.ahead ≡ x ∷ more) × (new ≡ emptied (with_next old x more)) × (after ≡ before ++ x.bytes) × (last ≡ x.last)
