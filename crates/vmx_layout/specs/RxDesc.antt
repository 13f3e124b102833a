-- A receive descriptor as two words of 64 bits.
use Rattle.std.specs.Prelude.{◌≡◌, ℕ, List, [], ◌∷◌, Option, None, slice_index}
use Rattle.vmx_layout.specs.Bits.{bit, field, stack}
use Rattle.vmx_layout.specs.BufferType.{btype_bit}
use Rattle.vmx_layout.specs.Fault.{first_reserved}
use Rattle.vmx_layout.specs.declared.fault.FieldFault.{FieldFault}
use Rattle.vmx_layout.specs.declared.rx_desc.TheConstants.{LEN, BTYPE, DTYPE, UNNAMED, GENERATION, UNNAMED_PART3, LEN_WIDTH, UNNAMED_WIDTH, UNNAMED_PART3_WIDTH}
use Rattle.vmx_layout.specs.declared.rx_desc.RxDesc.{RxDesc}

-- the numbers in the second word; a truth value is the number 0 or 1, and so is a head or a body
pub record Second : Type 0 where
  pub len : ℕ
  pub btype : ℕ
  pub dtype : ℕ
  pub generation : ℕ

-- parts 2 and 3, from the lowest bit up; a field without a name is 0
abbrev pub second_fields : Second → List (ℕ × ℕ)
second_fields s =
    (LEN_WIDTH, s.len) ∷ (1, s.btype) ∷ (1, s.dtype) ∷ (UNNAMED_WIDTH, 0) ∷ (1, s.generation) ∷ (UNNAMED_PART3_WIDTH, 0)
    ∷ []

-- the second word of these numbers
abbrev pub second_word : Second → ℕ
second_word s = stack (second_fields s)

-- the numbers of a descriptor
abbrev pub second_of : RxDesc → Second
second_of d = record { len = d.len; btype = btype_bit d.btype; dtype = bit d.dtype; generation = bit d.generation }

abbrev pub words_of : RxDesc → List ℕ
words_of d = d.addr ∷ second_word (second_of d) ∷ []

-- the bits without a name, from the lowest part up
abbrev pub fault : List ℕ → Option FieldFault
fault words =
    first_reserved
    ((2, field (slice_index words 1) UNNAMED UNNAMED_WIDTH) ∷ (3, field (slice_index words 1) UNNAMED_PART3 UNNAMED_PART3_WIDTH) ∷ [])
    None

-- where each number stands in the second word: its lowest bit and its width
pub record Tells (word : ℕ) (s : Second) : Type 0 where
  pub len : s.len ≡ field word LEN LEN_WIDTH
  pub btype : s.btype ≡ field word BTYPE 1
  pub dtype : s.dtype ≡ field word DTYPE 1
  pub generation : s.generation ≡ field word GENERATION 1

-- where each field stands in the words
pub record HasFields (words : List ℕ) (d : RxDesc) : Type 0 where
  pub addr : d.addr ≡ slice_index words 0
  pub second : Tells (slice_index words 1) (second_of d)
