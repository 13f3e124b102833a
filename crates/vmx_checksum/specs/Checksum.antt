-- TCP checksums (RFC 9293, 3.1), and how driver and device share their making.
use Rattle.std.specs.Prelude.{◌≡◌, ◌≢◌, ℕ, ◌+◌, ◌-◌, ◌==◌, Bool, false, List, length, slice_index, slice_range, Option, Some, None}
use Rattle.vmx_frame.specs.Internet.{flow_of}
use Rattle.vmx_frame.specs.declared.kinds.Flow.{Flow}
use Rattle.vmx_frame.specs.declared.kinds.Flow.TheVariants.{NonIp, V4, V6}
use Rattle.vmx_ends.specs.declared.meta.TxMark.{TxMark}
use Rattle.vmx_checksum.specs.declared.words.TheConstants.{ALL_ONES}
use Rattle.vmx_checksum.specs.declared.segments.TheConstants.{CHECKSUM_AT}
use Rattle.vmx_checksum.specs.declared.marks.TheConstants.{OM_CHECKSUM}
use Rattle.vmx_checksum.specs.declared.filling.TheConstants.{TCP}
use Rattle.vmx_checksum.specs.declared.answer.Segment.{Segment}
use Rattle.vmx_checksum.specs.Words.{word_sum, ones, put_word}
use Rattle.vmx_checksum.specs.Segment.{segment}

-- the words of both addresses
abbrev pub address_sum : Flow → ℕ
address_sum NonIp = 0
address_sum (V4 source target ports) = word_sum source + word_sum target
address_sum (V6 source target ports) = word_sum source + word_sum target

-- the pseudo header: both addresses, the protocol, and the segment's length (RFC 9293, 3.1; over IPv6 RFC 8200, 8.1)
abbrev pub pseudo_sum : Flow → ℕ → ℕ
pseudo_sum flow len = address_sum flow + TCP + len

-- the sum of a segment's pseudo header
abbrev pub pseudo_of : List ℕ → Segment → ℕ
pseudo_of frame s = pseudo_sum (flow_of frame) (s.end - s.l4)

-- the sum of a segment's words, with what stands in its checksum field
abbrev pub segment_sum : List ℕ → Segment → ℕ
segment_sum frame s = word_sum (slice_range frame s.l4 s.end)

-- a checksum is right where pseudo header and segment sum up to all ones (RFC 1071, 1 (3))
abbrev pub is_right : List ℕ → Segment → Bool
is_right frame s = ones (pseudo_of frame s + segment_sum frame s) == ALL_ONES

-- a frame has a segment, and its checksum is right
abbrev pub is_right_at : List ℕ → Option Segment → Bool
is_right_at frame None = false
is_right_at frame (Some s) = is_right frame s

-- a frame with this word in its segment's checksum field
abbrev pub with_field : List ℕ → Segment → ℕ → List ℕ
with_field frame s word = put_word frame (s.l4 + CHECKSUM_AT) word

-- the ones' complement of a sum (RFC 1071, 1 (2))
abbrev pub complement : ℕ → ℕ
complement sum = ALL_ONES - ones sum

-- the frame with its checksum: the complement of the sum over pseudo header and segment, the field taken as 0 (RFC 1071, 1 (2))
abbrev pub filled_at : List ℕ → Option Segment → List ℕ
filled_at frame None = frame
filled_at frame (Some s) = with_field frame s (complement (pseudo_of frame s + segment_sum (with_field frame s 0) s))

unfoldable pub filled : List ℕ → List ℕ
filled frame = filled_at frame (segment frame)

-- what a driver leaves: the sum of the pseudo header in the field
abbrev pub seeded_at : List ℕ → Option Segment → List ℕ
seeded_at frame None = frame
seeded_at frame (Some s) = with_field frame s (ones (pseudo_of frame s))

unfoldable pub seeded : List ℕ → List ℕ
seeded frame = seeded_at frame (segment frame)

-- what a device makes of it: the complement of the segment's sum, the field as it stands
abbrev pub completed_at : List ℕ → Option Segment → List ℕ
completed_at frame None = frame
completed_at frame (Some s) = with_field frame s (complement (segment_sum frame s))

unfoldable pub completed : List ℕ → List ℕ
completed frame = completed_at frame (segment frame)

-- a mark that asks for a segment's checksum: summed from the segment's begin, stored in its field
pub record AsksChecksum (mark : TxMark) (s : Segment) : Type 0 where
  pub tci : mark.tci ≡ None
  pub om : mark.om ≡ OM_CHECKSUM
  pub hlen : mark.hlen ≡ s.l4
  pub msscof : mark.msscof ≡ s.l4 + CHECKSUM_AT

-- a mark is the one for the segment
abbrev pub IsMarkOf : Option Segment → TxMark → Type 0
IsMarkOf None mark = ⊥
IsMarkOf (Some s) mark = AsksChecksum mark s

-- no mark where there is no segment, else the one for it
abbrev pub Marks : Option Segment → Option TxMark → Type 0
Marks found None = found ≡ None
Marks found (Some mark) = IsMarkOf found mark

-- as long as before, and every byte but the two of the checksum field is the one from before
abbrev pub KeepsAllBut : Option Segment → List ℕ → List ℕ → Type 0
KeepsAllBut None old new = new ≡ old
KeepsAllBut (Some s) old new = (length new ≡ length old) × ((i : ℕ) → i ≢ s.l4 + CHECKSUM_AT → i ≢ s.l4 + CHECKSUM_AT + 1 → slice_index new i ≡ slice_index old i)
