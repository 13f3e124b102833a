-- A frame as its pieces, and these as the entries of a ring of descriptors.
use Rattle.std.specs.Prelude.{◌≡◌, ℕ, zero, suc, ◌%◌, ◌^◌, ◌<◌, ◌==◌, if◌then◌else◌, List, [], ◌∷◌, ◌++◌, length, take, drop, Bool, true, false, Option, Some, None}
use Rattle.vmx_layout.specs.Bits.{bit, field}
use Rattle.vmx_layout.specs.Addresses.{tx_buffer, tx_data_entry}
use Rattle.vmx_layout.specs.TxDesc.{Second, second_word}
use Rattle.vmx_layout.specs.declared.addresses.TheConstants.{DATA_ENTRY_SIZE}
use Rattle.vmx_layout.specs.declared.tx_desc.TheConstants.{LEN, MSSCOF, HLEN, OM, EOP, TI, TCI, LEN_WIDTH, MSSCOF_WIDTH, HLEN_WIDTH, OM_WIDTH, TCI_WIDTH}
use Rattle.vmx_genring.specs.Rings.{generation_bit, Entry, Contents}
use Rattle.vmx_ends.specs.declared.made.TxMade.{TxMade}
use Rattle.vmx_ends.specs.declared.meta.TxMark.{TxMark}
use Rattle.vmx_ends.specs.declared.meta.TheConstants.{OM_BOUND, HLEN_BOUND, MSSCOF_BOUND}
use Rattle.vmx_ends.specs.declared.frames.Sent.{Sent}
use Rattle.vmx_ends.specs.Transmit.{need, descriptors}
use Rattle.vmx_tx_ring.specs.declared.known.MarkNumbers.{MarkNumbers}
use Rattle.vmx_tx_ring.specs.declared.known.TxPiece.{TxPiece}
use Rattle.vmx_tx_ring.specs.declared.known.TxBuffer.{TxBuffer}

abbrev pub is_zero : ℕ → Bool
is_zero zero = true
is_zero (suc k) = false

-- the numbers of a mark, and those of no mark
abbrev pub numbers_of : TxMark → MarkNumbers
numbers_of k = record { tci = k.tci; om = k.om; hlen = k.hlen; msscof = k.msscof }

abbrev pub no_numbers : MarkNumbers
no_numbers = record { tci = None; om = 0; hlen = 0; msscof = 0 }

-- the first bytes in so many pieces of this size, of which the last one ends the frame
abbrev pub cut : ℕ → ℕ → List ℕ → List TxPiece
cut size zero bytes = []
cut size (suc k) bytes = record { bytes = take size bytes; last = is_zero k; in_data = false; numbers = no_numbers } ∷ cut size k (drop size bytes)

-- the most bytes of a frame's first piece
abbrev pub first_size : TxMade → ℕ
first_size m = if m.with_data then DATA_ENTRY_SIZE else m.piece

-- a frame's first piece has its mark, and lies in the data ring where there is one; so many follow
abbrev pub first_piece : TxMade → ℕ → Sent → TxPiece
first_piece m more s = record { bytes = take (first_size m) s.frame; last = is_zero more; in_data = m.with_data; numbers = numbers_of s.mark }

-- a frame in so many pieces
abbrev pub cut_frame : TxMade → ℕ → Sent → List TxPiece
cut_frame m zero s = []
cut_frame m (suc k) s = first_piece m k s ∷ cut m.piece k (drop (first_size m) s.frame)

-- the pieces of a frame, and those of these frames
abbrev pub chain : TxMade → Sent → List TxPiece
chain m s = cut_frame m (need m (length s.frame)) s

abbrev pub pieces : TxMade → List Sent → List TxPiece
pieces m [] = []
pieces m (s ∷ ss) = chain m s ++ pieces m ss

abbrev pub joined : List TxPiece → List ℕ
joined [] = []
joined (x ∷ xs) = x.bytes ++ joined xs

-- The last piece alone ends its frame, and none behind the first lies in the data ring.
abbrev pub Closes : List TxPiece → Type 0
Closes [] = Unit {0}
Closes (x ∷ []) = x.last ≡ true
Closes (x ∷ y ∷ r) = (x.last ≡ false) × (y.in_data ≡ false) × Closes (y ∷ r)

-- a piece of which only that is told
abbrev pub ending : Bool → TxPiece
ending b = record { bytes = []; last = b; in_data = false; numbers = no_numbers }

-- where a piece lies: in the data entry, or in the buffer
abbrev pub lies : Bool → TxBuffer → List ℕ
lies true b = b.entry.items
lies false b = b.bytes.items

-- a buffer, or its data entry, begins with a piece's bytes
abbrev pub Shows : TxPiece → TxBuffer → Type 0
Shows x b = take (length x.bytes) (lies x.in_data b) ≡ x.bytes

-- the next piece is the first one of its frame, and there is a data ring
abbrev pub next_in_data : TxMade → List TxPiece → Bool
next_in_data m [] = m.with_data
next_in_data m (x ∷ xs) = false

-- the guest address of the data entry, or of the buffer, of the descriptor with this index
abbrev pub address : ℕ → Bool → ℕ → ℕ
address queue true i = tx_data_entry queue i
address queue false i = tx_buffer queue i

-- whether a tag is to be put in, and its two bytes
abbrev pub tag_there : Option ℕ → ℕ
tag_there None = 0
tag_there (Some tci) = 1

abbrev pub tag_bytes : Option ℕ → ℕ
tag_bytes None = 0
tag_bytes (Some tci) = tci

abbrev pub TagFits : Option ℕ → Type 0
TagFits None = Unit {0}
TagFits (Some tci) = tci < 2 ^ TCI_WIDTH

-- the numbers fit into their fields
pub record NumbersFit (n : MarkNumbers) : Type 0 where
  pub tci : TagFits n.tci
  pub om : n.om < OM_BOUND
  pub hlen : n.hlen < HLEN_BOUND
  pub msscof : n.msscof < MSSCOF_BOUND

-- what the second word of a piece's descriptor tells, with this generation
abbrev pub told_of : ℕ → TxPiece → Second
told_of g x = record {
  len = length x.bytes;
  generation = g;
  dtype = 0;
  ext1 = 0;
  msscof = x.numbers.msscof;
  hlen = x.numbers.hlen;
  om = x.numbers.om;
  eop = bit x.last;
  cq = bit x.last;
  ext2 = 0;
  ti = tag_there x.numbers.tci;
  tci = tag_bytes x.numbers.tci;
}

-- the descriptor of a piece at a position
abbrev pub descriptor : TxMade → ℕ → TxPiece → Entry
descriptor m p x = record { first = address m.name.queue x.in_data (p % m.size); second = second_word (told_of (generation_bit m.size p) x) }

-- the entries of these pieces, from a position on
abbrev pub entries : TxMade → ℕ → List TxPiece → List Entry
entries m p [] = []
entries m p (x ∷ xs) = descriptor m p x ∷ entries m (suc p) xs

abbrev pub word_if : Bool → ℕ → Option ℕ
word_if true w = Some w
word_if false w = None

-- what the ring of descriptors holds: the pieces of the frames that were sent are published, and those of the next one are staged
abbrev pub descriptor_ring : TxMade → List Sent → List TxPiece → Bool → ℕ → Contents
descriptor_ring m sent staged opened reaped = record {
  entries = entries m 0 (pieces m sent ++ staged);
  next = word_if opened (address m.name.queue (next_in_data m staged) (length (pieces m sent ++ staged) % m.size));
  published = descriptors m sent;
  consumed = descriptors m (take reaped sent);
}

-- the numbers of a mark that a second word tells
abbrev pub numbers_in : ℕ → MarkNumbers
numbers_in word = record { tci = if field word TI 1 == 1 then Some (field word TCI TCI_WIDTH) else None; om = field word OM OM_WIDTH; hlen = field word HLEN HLEN_WIDTH; msscof = field word MSSCOF MSSCOF_WIDTH }

-- the piece that a second word and a buffer tell, by where it lies
abbrev pub piece_in : Bool → ℕ → TxBuffer → TxPiece
piece_in in_data word b = record { bytes = take (field word LEN LEN_WIDTH) (lies in_data b); last = field word EOP 1 == 1; in_data = in_data; numbers = numbers_in word }
