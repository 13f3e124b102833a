-- What becomes of the records of a capture, and which of their frames are sent.
use Rattle.std.specs.Prelude.{◌≡◌, ℕ, ◌+◌, nat_le, Bool, not, ◌&&◌, if◌then◌else◌, List, [], ◌∷◌, ◌++◌, length, filter, count_by, Option, Some, None, is_some}
use Rattle.vmx_io.specs.declared.buffer.TheConstants.{MIN_FRAME, MAX_FRAME}
use Rattle.vmx_pcap.specs.declared.records.Stamped.{Stamped}
use Rattle.vmx_ends.specs.declared.meta.TxMark.{TxMark}
use Rattle.vmx_ends.specs.declared.frames.Sent.{Sent}
use Rattle.vmx_ends.specs.Frames.{sent_as}
use Rattle.vmx_checksum.specs.declared.answer.Segment.{Segment}
use Rattle.vmx_checksum.specs.Segment.{segment}
use Rattle.vmx_checksum.specs.Checksum.{filled, seeded, is_right_at, IsMarkOf, AsksChecksum, KeepsAllBut}
use Rattle.vmx_offload_queue.specs.declared.counts.Counts.{Counts}

-- the TCP segment of a frame that a queue carries, 14 to 9,022 bytes; other frames have none
abbrev pub segment_in : List ℕ → Option Segment
segment_in frame = if nat_le MIN_FRAME (length frame) && nat_le (length frame) MAX_FRAME then segment frame else None

-- the fates of records: filled in, left as they are, too long to be written
abbrev pub is_filled : Stamped → Bool
is_filled r = is_some (segment_in r.frame)

abbrev pub stays : Stamped → Bool
stays r = nat_le (length r.frame) MAX_FRAME

abbrev pub is_left : Stamped → Bool
is_left r = stays r && not (is_filled r)

abbrev pub is_long : Stamped → Bool
is_long r = not (stays r)

-- a frame as it is written: from 14 bytes on with its checksum filled in
abbrev pub filled_frame : List ℕ → List ℕ
filled_frame frame = if nat_le MIN_FRAME (length frame) then filled frame else frame

-- a record as it is written: its stamp stays, no byte changes but the two of the checksum, and where there is a segment, its checksum is right
pub record IsWritten (r out : Stamped) : Type 0 where
  pub seconds : out.seconds ≡ r.seconds
  pub micros : out.micros ≡ r.micros
  pub frame : out.frame ≡ filled_frame r.frame
  pub alone : KeepsAllBut (segment_in r.frame) r.frame out.frame
  pub right : is_right_at out.frame (segment_in out.frame) ≡ is_some (segment_in r.frame)

-- record by record
abbrev pub AreWritten : List Stamped → List Stamped → Type 0
AreWritten [] [] = Unit {0}
AreWritten (r ∷ rs) (out ∷ outs) = IsWritten r out × AreWritten rs outs
AreWritten rs outs = ⊥

-- the records that stay are written in order, and each record is counted under its fate
pub record FilledFrom (records out : List Stamped) (counts : Counts) : Type 0 where
  pub written : AreWritten (filter stays records) out
  pub filled : counts.filled ≡ count_by is_filled records
  pub left : counts.left ≡ count_by is_left records
  pub long : counts.long ≡ count_by is_long records

-- a record's frame as it is sent: seeded, with its mark
pub record IsSeeded (r : Stamped) (sent : Sent) : Type 0 where
  pub frame : sent.frame ≡ seeded r.frame
  pub mark : IsMarkOf (segment r.frame) sent.mark

-- record by record
abbrev pub AreSeeded : List Stamped → List Sent → Type 0
AreSeeded [] [] = Unit {0}
AreSeeded (r ∷ rs) (sent ∷ more) = IsSeeded r sent × AreSeeded rs more
AreSeeded rs more = ⊥

-- the frames of the records with a segment were sent in order, and no others
abbrev pub SentFor : List Stamped → List Sent → Type 0
SentFor records sent = AreSeeded (filter is_filled records) sent

-- ------------------------------------------------------------ one record

-- what one record adds to those that are written
abbrev pub written_of : Stamped → List Stamped
written_of r = if stays r then record r { frame = filled_frame r.frame } ∷ [] else []

-- what one frame adds to those that are sent
abbrev pub Sends : Option Segment → List ℕ → List Sent → List Sent → Type 0
Sends None frame old new = new ≡ old
Sends (Some s) frame old new = (mark : TxMark) × AsksChecksum mark s × (new ≡ old ++ sent_as (seeded frame) mark ∷ [])

abbrev pub one_if : Bool → ℕ
one_if b = if b then 1 else 0

-- and to the counts
abbrev pub counted : Stamped → Counts → Counts
counted r c = record { filled = c.filled + one_if (is_filled r); left = c.left + one_if (is_left r); long = c.long + one_if (is_long r) }

abbrev pub total : Counts → ℕ
total c = c.filled + c.left + c.long
