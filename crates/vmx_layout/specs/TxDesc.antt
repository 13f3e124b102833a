-- A transmit descriptor as two words of 64 bits.
use Rattle.std.specs.Prelude.{◌≡◌, ℕ, List, [], ◌∷◌, Option, None, slice_index}
use Rattle.vmx_layout.specs.Bits.{bit, field, stack}
use Rattle.vmx_layout.specs.Fault.{first_reserved}
use Rattle.vmx_layout.specs.declared.fault.FieldFault.{FieldFault}
use Rattle.vmx_layout.specs.declared.tx_desc.TheConstants.{LEN, GENERATION, UNNAMED, DTYPE, EXT1, MSSCOF, HLEN, OM, EOP, CQ, EXT2, TI, TCI, LEN_WIDTH, MSSCOF_WIDTH, HLEN_WIDTH, OM_WIDTH, TCI_WIDTH}
use Rattle.vmx_layout.specs.declared.tx_desc.TxDesc.{TxDesc}

-- the numbers in the second word; a truth value is the number 0 or 1
pub record Second : Type 0 where
  pub len : ℕ
  pub generation : ℕ
  pub dtype : ℕ
  pub ext1 : ℕ
  pub msscof : ℕ
  pub hlen : ℕ
  pub om : ℕ
  pub eop : ℕ
  pub cq : ℕ
  pub ext2 : ℕ
  pub ti : ℕ
  pub tci : ℕ

-- parts 2 and 3, from the lowest bit up; bit 15 has no name
abbrev pub second_fields : Second → List (ℕ × ℕ)
second_fields s =
    (LEN_WIDTH, s.len) ∷ (1, s.generation) ∷ (1, 0) ∷ (1, s.dtype) ∷ (1, s.ext1) ∷ (MSSCOF_WIDTH, s.msscof)
    ∷ (HLEN_WIDTH, s.hlen) ∷ (OM_WIDTH, s.om) ∷ (1, s.eop) ∷ (1, s.cq) ∷ (1, s.ext2) ∷ (1, s.ti) ∷ (TCI_WIDTH, s.tci) ∷ []

-- the second word of these numbers
abbrev pub second_word : Second → ℕ
second_word s = stack (second_fields s)

-- the numbers of a descriptor
abbrev pub second_of : TxDesc → Second
second_of d = record {
  len = d.len;
  generation = bit d.generation;
  dtype = bit d.dtype;
  ext1 = bit d.ext1;
  msscof = d.msscof;
  hlen = d.hlen;
  om = d.om;
  eop = bit d.eop;
  cq = bit d.cq;
  ext2 = bit d.ext2;
  ti = bit d.ti;
  tci = d.tci;
}

abbrev pub words_of : TxDesc → List ℕ
words_of d = d.addr ∷ second_word (second_of d) ∷ []

-- the one bit without a name
abbrev pub fault : List ℕ → Option FieldFault
fault words = first_reserved ((2, field (slice_index words 1) UNNAMED 1) ∷ []) None

-- where each number stands in the second word: its lowest bit and its width, part 3 from bit 32 on
pub record Tells (word : ℕ) (s : Second) : Type 0 where
  pub len : s.len ≡ field word LEN LEN_WIDTH
  pub generation : s.generation ≡ field word GENERATION 1
  pub dtype : s.dtype ≡ field word DTYPE 1
  pub ext1 : s.ext1 ≡ field word EXT1 1
  pub msscof : s.msscof ≡ field word MSSCOF MSSCOF_WIDTH
  pub hlen : s.hlen ≡ field word HLEN HLEN_WIDTH
  pub om : s.om ≡ field word OM OM_WIDTH
  pub eop : s.eop ≡ field word EOP 1
  pub cq : s.cq ≡ field word CQ 1
  pub ext2 : s.ext2 ≡ field word EXT2 1
  pub ti : s.ti ≡ field word TI 1
  pub tci : s.tci ≡ field word TCI TCI_WIDTH

-- where each field stands in the words
pub record HasFields (words : List ℕ) (d : TxDesc) : Type 0 where
  pub addr : d.addr ≡ slice_index words 0
  pub second : Tells (slice_index words 1) (second_of d)
