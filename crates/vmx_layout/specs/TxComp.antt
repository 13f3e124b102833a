-- A transmit completion as two words of 64 bits.
use Rattle.std.specs.Prelude.{◌≡◌, ℕ, List, [], ◌∷◌, Option, slice_index}
use Rattle.vmx_layout.specs.Bits.{bit, field, stack}
use Rattle.vmx_layout.specs.Fault.{first_reserved, other_kind}
use Rattle.vmx_layout.specs.declared.fault.FieldFault.{FieldFault}
use Rattle.vmx_layout.specs.declared.tx_comp.TheConstants.{TX_COMPLETION_TYPE, TXD_IDX, UNNAMED_PART0, UNNAMED_PART1, UNNAMED_PART2, UNNAMED_PART3, KIND, GENERATION, TXD_IDX_WIDTH, UNNAMED_PART0_WIDTH, UNNAMED_PART1_WIDTH, UNNAMED_PART2_WIDTH, UNNAMED_PART3_WIDTH, KIND_WIDTH}
use Rattle.vmx_layout.specs.declared.tx_comp.TxComp.{TxComp}

-- the numbers in the second word; a truth value is the number 0 or 1
pub record Second : Type 0 where
  pub kind : ℕ
  pub generation : ℕ

-- parts 0 and 1, from the lowest bit up; a field without a name is 0
abbrev pub first_fields : ℕ → List (ℕ × ℕ)
first_fields txd_idx =
    (TXD_IDX_WIDTH, txd_idx) ∷ (UNNAMED_PART0_WIDTH, 0) ∷ (UNNAMED_PART1_WIDTH, 0) ∷ []

-- parts 2 and 3
abbrev pub second_fields : Second → List (ℕ × ℕ)
second_fields s =
    (UNNAMED_PART2_WIDTH, 0) ∷ (UNNAMED_PART3_WIDTH, 0) ∷ (KIND_WIDTH, s.kind) ∷ (1, s.generation) ∷ []

-- the first word of this index
abbrev pub first_word : ℕ → ℕ
first_word txd_idx = stack (first_fields txd_idx)

-- the second word of these numbers
abbrev pub second_word : Second → ℕ
second_word s = stack (second_fields s)

-- the numbers of a completion
abbrev pub second_of : TxComp → Second
second_of d = record { kind = d.kind; generation = bit d.generation }

abbrev pub words_of : TxComp → List ℕ
words_of d = first_word d.txd_idx ∷ second_word (second_of d) ∷ []

-- the bits without a name, from the lowest part up, and then the type
abbrev pub fault : List ℕ → Option FieldFault
fault words =
    first_reserved
    ((0, field (slice_index words 0) UNNAMED_PART0 UNNAMED_PART0_WIDTH) ∷ (1, field (slice_index words 0) UNNAMED_PART1 UNNAMED_PART1_WIDTH)
    ∷ (2, field (slice_index words 1) UNNAMED_PART2 UNNAMED_PART2_WIDTH) ∷ (3, field (slice_index words 1) UNNAMED_PART3 UNNAMED_PART3_WIDTH) ∷ [])
    (other_kind TX_COMPLETION_TYPE (field (slice_index words 1) KIND KIND_WIDTH))

-- where the index stands in the first word: its lowest bit and its width
abbrev pub TellsIndex : ℕ → ℕ → Type 0
TellsIndex word txd_idx = txd_idx ≡ field word TXD_IDX TXD_IDX_WIDTH

-- where each number stands in the second word: its lowest bit and its width, part 3 from bit 32 on
pub record Tells (word : ℕ) (s : Second) : Type 0 where
  pub kind : s.kind ≡ field word KIND KIND_WIDTH
  pub generation : s.generation ≡ field word GENERATION 1

-- where each field stands in the words
pub record HasFields (words : List ℕ) (d : TxComp) : Type 0 where
  pub first : TellsIndex (slice_index words 0) d.txd_idx
  pub second : Tells (slice_index words 1) (second_of d)
