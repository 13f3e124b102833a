-- The segments into which a frame is cut (RFC 9293, 3.1; RFC 791, 3.1; RFC 8200, 3). Identification and flags are own to this project.
use Rattle.std.specs.Prelude.{◌≡◌, ℕ, zero, suc, ◌+◌, ◌-◌, ◌*◌, ◌/◌, ◌%◌, ◌^◌, ◌==◌, nat_lt, ◌<◌, ◌≤◌, Bool, true, false, if◌then◌else◌, List, [], ◌∷◌, ◌++◌, length, take, drop, slice_index, slice_set, slice_range, Option, Some, None}
use Rattle.std.specs.List.{flat_map}
use Rattle.vmx_io.specs.declared.buffer.TheConstants.{MAX_FRAME}
use Rattle.vmx_frame.specs.Bytes.{u16_at}
use Rattle.vmx_frame.specs.Internet.{flow_of}
use Rattle.vmx_frame.specs.declared.kinds.Flow.{Flow}
use Rattle.vmx_frame.specs.declared.kinds.Flow.TheVariants.{NonIp, V4, V6}
use Rattle.vmx_ends.specs.declared.meta.TxMark.{TxMark}
use Rattle.vmx_checksum.specs.declared.answer.Segment.{Segment}
use Rattle.vmx_checksum.specs.declared.segments.TheConstants.{V4_TOTAL_LEN_AT, V6_HEADER_LEN, V6_PAYLOAD_LEN_AT, TCP_HEADER_LEN}
use Rattle.vmx_checksum.specs.Words.{word_sum, put_word}
use Rattle.vmx_checksum.specs.Segment.{segment, packet_at}
use Rattle.vmx_checksum.specs.Checksum.{complement, filled}
use Rattle.vmx_segmentation.specs.Header.{header}
use Rattle.vmx_segmentation.specs.declared.marks.TheConstants.{OM_SEGMENTATION, MIN_MSS, MAX_MSS}
use Rattle.vmx_segmentation.specs.declared.headers.TheConstants.{V4_IDENTIFICATION_AT, V4_CHECKSUM_AT, SEQUENCE_AT, FLAGS_AT, FIN, PSH, CWR}

-- the payload behind the header is longer than so many bytes
abbrev pub is_longer : Option Segment → Option ℕ → ℕ → Bool
is_longer (Some s) (Some header_at) mss = nat_lt (header_at + mss) s.end
is_longer found ends mss = false

-- a frame has a payload, and that is longer than so many bytes
abbrev pub is_cut : List ℕ → ℕ → Bool
is_cut frame mss = is_longer (segment frame) (header frame) mss

-- a mark that asks to cut a frame, behind whose header a payload lies that is longer than what is asked for
pub record AsksSegments (frame : List ℕ) (mark : TxMark) : Type 0 where
  pub tci : mark.tci ≡ None
  pub om : mark.om ≡ OM_SEGMENTATION
  pub hlen : header frame ≡ Some mark.hlen
  pub least : MIN_MSS ≤ mark.msscof
  pub most : mark.msscof ≤ MAX_MSS
  pub longer : is_cut frame mark.msscof ≡ true

-- no mark where the frame is not to be cut, else the one for it
abbrev pub MarksCut : List ℕ → ℕ → Option TxMark → Type 0
MarksCut frame mss None = is_cut frame mss ≡ false
MarksCut frame mss (Some mark) = AsksSegments frame mark × (mark.msscof ≡ mss)

-- ------------------------------------------------------------ the payload in pieces

-- the payload: from the end of the TCP header to the end of the segment
abbrev pub payload : List ℕ → ℕ → Segment → List ℕ
payload frame header_at s = slice_range frame header_at s.end

-- how many pieces of so many bytes there are, the last being the rest
abbrev pub pieces : ℕ → ℕ → ℕ
pieces mss len = (len + (mss - 1)) / mss

-- the piece with this number
abbrev pub piece : ℕ → List ℕ → ℕ → List ℕ
piece mss bytes j = take mss (drop (j * mss) bytes)

-- ------------------------------------------------------------ what differs from segment to segment

-- four bytes as one number, big-endian, read and stored
abbrev pub u32_at : List ℕ → ℕ → ℕ
u32_at bytes at = u16_at bytes at * 65536 + u16_at bytes (at + 2)

abbrev pub put_double : List ℕ → ℕ → ℕ → List ℕ
put_double bytes at number = put_word (put_word bytes at (number / 65536)) (at + 2) (number % 65536)

-- an IPv4 header from one place to another with its checksum: the complement of its sum, the field taken as 0 (RFC 791, 3.1)
abbrev pub header_summed : List ℕ → ℕ → ℕ → List ℕ
header_summed bytes at l4 =
    put_word bytes (at + V4_CHECKSUM_AT) (complement (word_sum (slice_range (put_word bytes (at + V4_CHECKSUM_AT) 0) at l4)))

-- the IP header of segment j, whose packet has so many bytes: over IPv4 total length, identification and checksum, over IPv6 the payload length
abbrev pub packet_written : Flow → List ℕ → ℕ → ℕ → ℕ → ℕ → List ℕ
packet_written NonIp bytes at l4 len j = bytes
packet_written (V4 source target ports) bytes at l4 len j =
    header_summed (put_word (put_word bytes (at + V4_TOTAL_LEN_AT) len) (at + V4_IDENTIFICATION_AT) ((u16_at bytes (at + V4_IDENTIFICATION_AT) + j) % 65536)) at l4
packet_written (V6 source target ports) bytes at l4 len j = put_word bytes (at + V6_PAYLOAD_LEN_AT) (len - V6_HEADER_LEN)

-- a byte without the bit of this value
abbrev pub without : ℕ → ℕ → ℕ
without byte bit = if byte / bit % 2 == 1 then byte - bit else byte

-- FIN and PSH stay in the last segment alone (RFC 9293, 3.1)
abbrev pub ended : ℕ → ℕ → ℕ → ℕ
ended byte j n = if nat_lt (j + 1) n then without (without byte FIN) PSH else byte

-- the flags of segment j of n: CWR stays in the first alone (RFC 3168, 6.1.2)
abbrev pub flags : ℕ → ℕ → ℕ → ℕ
flags byte j n = if nat_lt 0 j then without (ended byte j n) CWR else ended byte j n

-- the TCP header of segment j of n, before which so many bytes of the payload lie: the sequence number rises by them, modulo 2^32
abbrev pub segment_written : List ℕ → ℕ → ℕ → ℕ → ℕ → List ℕ
segment_written bytes l4 before j n =
    slice_set (put_double bytes (l4 + SEQUENCE_AT) ((u32_at bytes (l4 + SEQUENCE_AT) + before) % 2 ^ 32)) (l4 + FLAGS_AT) (flags (slice_index bytes (l4 + FLAGS_AT)) j n)

-- ------------------------------------------------------------ the segments

-- a frame that is cut: its segment, where its header ends, and how many segments it is cut into
pub record IsWhole (frame : List ℕ) (header_at : ℕ) (s : Segment) (mss count : ℕ) : Type 0 where
  pub bytes : length frame ≤ MAX_FRAME
  pub inside : packet_at frame + 20 ≤ s.l4
  pub room : s.l4 + TCP_HEADER_LEN ≤ header_at
  pub longer : header_at + mss < s.end
  pub end : s.end ≤ length frame
  pub least : MIN_MSS ≤ mss
  pub most : mss ≤ MAX_MSS
  pub count_is : count ≡ pieces mss (s.end - header_at)
  pub few : count ≤ MAX_FRAME

-- the headers of a frame, and behind them this piece of its payload
abbrev pub parted : List ℕ → ℕ → List ℕ → List ℕ
parted frame header_at part = take header_at frame ++ part

-- bytes that begin with the headers of a frame, as segment j of n before which so many bytes of the payload lie: what differs is written anew, and the checksum is filled in
abbrev pub headers_written : List ℕ → Segment → List ℕ → ℕ → ℕ → ℕ → List ℕ
headers_written frame s bytes before j n =
    filled (segment_written (packet_written (flow_of frame) bytes (packet_at frame) s.l4 (length bytes - packet_at frame) j) s.l4 before j n)

-- segment j of n with this piece
abbrev pub cut_part : List ℕ → ℕ → Segment → List ℕ → ℕ → ℕ → ℕ → List ℕ
cut_part frame header_at s part before j n = headers_written frame s (parted frame header_at part) before j n

-- segment j of n
abbrev pub cut_one : List ℕ → ℕ → Segment → ℕ → ℕ → ℕ → List ℕ
cut_one frame header_at s mss j n = cut_part frame header_at s (piece mss (payload frame header_at s) j) (j * mss) j n

-- those from number j on, so many
abbrev pub cuts_from : List ℕ → ℕ → Segment → ℕ → ℕ → ℕ → ℕ → List (List ℕ)
cuts_from frame header_at s mss n j zero = []
cuts_from frame header_at s mss n j (suc more) = cut_one frame header_at s mss j n ∷ cuts_from frame header_at s mss n (j + 1) more

-- all segments of a frame whose header ends there
abbrev pub cuts_at : List ℕ → ℕ → Option Segment → ℕ → List (List ℕ)
cuts_at frame header_at None mss = []
cuts_at frame header_at (Some s) mss = cuts_from frame header_at s mss (pieces mss (s.end - header_at)) 0 (pieces mss (s.end - header_at))

abbrev pub cuts : List ℕ → ℕ → ℕ → List (List ℕ)
cuts frame header_at mss = cuts_at frame header_at (segment frame) mss

-- ------------------------------------------------------------ what they carry

-- the bytes of segments behind headers that end there, joined
abbrev pub joined : ℕ → List (List ℕ) → List ℕ
joined header_at segments = flat_map (drop header_at) segments

-- the payload of a frame with this segment
abbrev pub payload_in : List ℕ → ℕ → Option Segment → List ℕ
payload_in frame header_at None = []
payload_in frame header_at (Some s) = payload frame header_at s
