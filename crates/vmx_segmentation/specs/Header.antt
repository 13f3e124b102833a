-- Where the TCP header of a frame ends (RFC 9293, 3.1).
use Rattle.std.specs.Prelude.{ℕ, ◌+◌, ◌*◌, ◌/◌, nat_le, ◌&&◌, if◌then◌else◌, List, slice_index, Option, Some, None}
use Rattle.vmx_checksum.specs.declared.segments.TheConstants.{TCP_HEADER_LEN}
use Rattle.vmx_checksum.specs.declared.answer.Segment.{Segment}
use Rattle.vmx_checksum.specs.Segment.{segment}
use Rattle.vmx_segmentation.specs.declared.header.TheConstants.{DATA_OFFSET_AT, WORD_LEN}

-- the end of the header by its own count, the high half of byte 12 in words of four bytes (RFC 9293, 3.1, Data Offset)
abbrev pub header_end : List ℕ → Segment → ℕ
header_end frame s = s.l4 + slice_index frame (s.l4 + DATA_OFFSET_AT) / 16 * WORD_LEN

-- there, where the header has 20 bytes at least and ends within the segment
abbrev pub header_at : List ℕ → Segment → Option ℕ
header_at frame s = if nat_le (s.l4 + TCP_HEADER_LEN) (header_end frame s) && nat_le (header_end frame s) s.end then Some (header_end frame s) else None

abbrev pub header_in : List ℕ → Option Segment → Option ℕ
header_in frame None = None
header_in frame (Some s) = header_at frame s

-- the end of the TCP header of a frame that has a segment with a lawful one
abbrev pub header : List ℕ → Option ℕ
header frame = header_in frame (segment frame)
