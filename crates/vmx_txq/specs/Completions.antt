-- Completions in a ring of their own: of each completed frame, in the order of places, one completion of two words.
use Rattle.std.specs.Prelude.{◌≡◌, ℕ, zero, suc, ◌-◌, ◌*◌, ◌%◌, List, [], ◌∷◌, ◌++◌, take, Bool}
use Rattle.vmx_layout.specs.TxComp.{first_word, second_word}
use Rattle.vmx_layout.specs.declared.TheConstants.{COMPLETION_GENERATION_BIT}
use Rattle.vmx_layout.specs.declared.tx_comp.TheConstants.{TX_COMPLETION_TYPE}
use Rattle.vmx_genring.specs.Rings.{generation_bit, Entry, Contents, StandFor}
use Rattle.vmx_ends.specs.declared.made.TxMade.{TxMade}
use Rattle.vmx_ends.specs.declared.frames.Sent.{Sent}
use Rattle.vmx_ends.specs.Transmit.{descriptors}
use Rattle.vmx_tx_ring.specs.Pieces.{word_if}

-- the second word of a completion with this generation
abbrev pub completed_word : ℕ → ℕ
completed_word g = second_word (record { kind = TX_COMPLETION_TYPE; generation = g })

-- the completion of the frame at this place: the index of its last descriptor, and the generation of its own position
abbrev pub completion : TxMade → List Sent → ℕ → Entry
completion m sent c = record { first = first_word ((descriptors m (take (suc c) sent) - 1) % m.size); second = completed_word (generation_bit m.size c) }

abbrev pub completions : TxMade → List Sent → ℕ → List Entry
completions m sent zero = []
completions m sent (suc c) = completions m sent c ++ completion m sent c ∷ []

-- what the ring of completions holds
abbrev pub completion_ring : TxMade → List Sent → ℕ → Bool → ℕ → Contents
completion_ring m sent completed closing reaped = record {
  entries = completions m sent completed;
  next = word_if closing (completion m sent completed).first;
  published = completed;
  consumed = reaped;
}

-- the words behind the descriptors are the second words of the completions, then the first ones
pub record Rows (m : TxMade) (sent : List Sent) (completed : ℕ) (closing : Bool) (reaped : ℕ) (words : List ℕ) : Type 0 where
  pub firsts : List ℕ
  pub seconds : List ℕ
  pub are : words ≡ seconds ++ firsts
  pub stand : StandFor m.size COMPLETION_GENERATION_BIT firsts seconds (completion_ring m sent completed closing reaped)

-- two for each descriptor
abbrev pub row_words : ℕ → ℕ
row_words size = size * 2
