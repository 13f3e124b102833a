-- Where the TCP segment of a frame lies (RFC 791, RFC 8200, RFC 9293).
use Rattle.std.specs.Prelude.{ℕ, ◌+◌, ◌≤◌, nat_le, ◌&&◌, Bool, false, if◌then◌else◌, List, length, drop, Option, Some, None, is_some}
use Rattle.vmx_frame.specs.Bytes.{u16_at}
use Rattle.vmx_frame.specs.Ethernet.{is_tagged}
use Rattle.vmx_frame.specs.Internet.{v4_header_len, flow_of}
use Rattle.vmx_frame.specs.declared.ethernet.TheConstants.{HEADER_LEN, TAGGED_HEADER_LEN}
use Rattle.vmx_frame.specs.declared.kinds.Flow.{Flow}
use Rattle.vmx_frame.specs.declared.kinds.Flow.TheVariants.{NonIp, V4, V6}
use Rattle.vmx_checksum.specs.declared.segments.TheConstants.{V4_TOTAL_LEN_AT, V6_HEADER_LEN, V6_PAYLOAD_LEN_AT, TCP_HEADER_LEN}
use Rattle.vmx_checksum.specs.declared.answer.Segment.{Segment}

-- the place of the IP header: behind the Ethernet header, or behind its tag
abbrev pub packet_at : List ℕ → ℕ
packet_at frame = if is_tagged frame then TAGGED_HEADER_LEN else HEADER_LEN

-- a flow with TCP ports
abbrev pub has_ports : Flow → Bool
has_ports NonIp = false
has_ports (V4 source target ports) = is_some ports
has_ports (V6 source target ports) = is_some ports

-- bytes of the IP header, which IPv4 counts in words of four (RFC 791, 3.1, IHL); IPv6 has 40 (RFC 8200, 3)
abbrev pub header_len : Flow → List ℕ → ℕ
header_len NonIp packet = V6_HEADER_LEN
header_len (V4 source target ports) packet = v4_header_len packet
header_len (V6 source target ports) packet = V6_HEADER_LEN

-- bytes of the packet: the total length (RFC 791, 3.1), or 40 and the payload length (RFC 8200, 3)
abbrev pub packet_len : Flow → List ℕ → ℕ
packet_len NonIp packet = V6_HEADER_LEN + u16_at packet V6_PAYLOAD_LEN_AT
packet_len (V4 source target ports) packet = u16_at packet V4_TOTAL_LEN_AT
packet_len (V6 source target ports) packet = V6_HEADER_LEN + u16_at packet V6_PAYLOAD_LEN_AT

-- the packet ends within the frame, and has room for a TCP header behind its IP header (RFC 9293, 3.1)
abbrev pub is_whole : ℕ → ℕ → ℕ → Bool
is_whole l4 end len = nat_le end len && nat_le (l4 + TCP_HEADER_LEN) end

-- from the end of the IP header to the end of the packet
abbrev pub segment_between : ℕ → ℕ → ℕ → Option Segment
segment_between l4 end len = if is_whole l4 end len then Some (record { l4 = l4; end = end }) else None

-- the same of a packet that begins at a place
abbrev pub segment_from : Flow → ℕ → List ℕ → ℕ → Option Segment
segment_from flow at packet len = segment_between (at + header_len flow packet) (at + packet_len flow packet) len

-- the TCP segment of a frame of this flow
unfoldable pub segment_by : Flow → List ℕ → Option Segment
segment_by flow frame =
    if has_ports flow then segment_from flow (packet_at frame) (drop (packet_at frame) frame) (length frame) else None

-- the TCP segment of a frame: where its flow has ports, and its packet is whole
abbrev pub segment : List ℕ → Option Segment
segment frame = segment_by (flow_of frame) frame

-- a segment within a frame of this length, behind an Ethernet header and an IP header of at most 60 bytes
pub record IsWithin (s : Segment) (len : ℕ) : Type 0 where
  pub header : 34 ≤ s.l4
  pub low : s.l4 ≤ 78
  pub room : s.l4 + TCP_HEADER_LEN ≤ s.end
  pub end : s.end ≤ len
