-- The flow of a frame: its IP addresses, and its TCP ports where they count.
use Rattle.std.specs.Prelude.{ℕ, ◌+◌, ◌*◌, ◌/◌, ◌%◌, ◌==◌, nat_le, ◌&&◌, Bool, if◌then◌else◌, List, length, slice_index, slice_range, drop, Option, Some, None}
use Rattle.vmx_frame.specs.Bytes.{u16_at}
use Rattle.vmx_frame.specs.Ethernet.{is_tagged}
use Rattle.vmx_frame.specs.declared.ethernet.TheConstants.{TYPE_AT, HEADER_LEN, TAGGED_TYPE_AT, TAGGED_HEADER_LEN}
use Rattle.vmx_frame.specs.declared.internet.TheConstants.{V4_TYPE, V6_TYPE, V4_VERSION, V6_VERSION, V4_HEADER_LEN, V6_HEADER_LEN, V4_WORD_LEN, V4_FRAGMENT_AT, FRAGMENT_MODULUS, V4_PROTOCOL_AT, V4_SOURCE_AT, V4_TARGET_AT, V6_NEXT_HEADER_AT, V6_SOURCE_AT, V6_TARGET_AT, TCP, TCP_HEADER_LEN}
use Rattle.vmx_frame.specs.declared.kinds.Ports.{Ports}
use Rattle.vmx_frame.specs.declared.kinds.Flow.{Flow}
use Rattle.vmx_frame.specs.declared.kinds.Flow.TheVariants.{NonIp, V4, V6}

-- source and target port, where they count (RFC 9293)
abbrev pub ports_of : Bool → List ℕ → ℕ → Option Ports
ports_of counts p at =
    if counts then Some (record { source = u16_at p at; target = u16_at p (at + 2) }) else None

-- the header length in bytes, from the second half byte in words of four (RFC 791)
abbrev pub v4_header_len : List ℕ → ℕ
v4_header_len p = slice_index p 0 % 16 * V4_WORD_LEN

-- version 4, and a header of 20 bytes at least that is whole (RFC 791)
abbrev pub is_v4 : List ℕ → Bool
is_v4 p =
    nat_le V4_HEADER_LEN (length p) && slice_index p 0 / 16 == V4_VERSION
    && nat_le V4_HEADER_LEN (v4_header_len p) && nat_le (v4_header_len p) (length p)

-- TCP, no more fragments and no offset (the lower 14 bits of bytes 6 and 7), and a whole TCP header
abbrev pub has_v4_ports : List ℕ → Bool
has_v4_ports p =
    slice_index p V4_PROTOCOL_AT == TCP && u16_at p V4_FRAGMENT_AT % FRAGMENT_MODULUS == 0
    && nat_le (v4_header_len p + TCP_HEADER_LEN) (length p)

-- the source address of an IPv4 packet (RFC 791)
abbrev pub v4_source : List ℕ → List ℕ
v4_source p = slice_range p V4_SOURCE_AT (V4_SOURCE_AT + 4)

-- the destination address of an IPv4 packet (RFC 791)
abbrev pub v4_target : List ℕ → List ℕ
v4_target p = slice_range p V4_TARGET_AT (V4_TARGET_AT + 4)

-- an IPv4 packet (RFC 791)
abbrev pub v4_of : List ℕ → Flow
v4_of p =
    if is_v4 p
    then V4 (v4_source p) (v4_target p) (ports_of (has_v4_ports p) p (v4_header_len p))
    else NonIp

-- TCP with no extension header between, and a whole TCP header (RFC 8200)
abbrev pub has_v6_ports : List ℕ → Bool
has_v6_ports p = slice_index p V6_NEXT_HEADER_AT == TCP && nat_le (V6_HEADER_LEN + TCP_HEADER_LEN) (length p)

-- an IPv6 packet: a whole header of version 6 (RFC 8200)
abbrev pub v6_of : List ℕ → Flow
v6_of p =
    if nat_le V6_HEADER_LEN (length p) && slice_index p 0 / 16 == V6_VERSION
    then V6 (slice_range p V6_SOURCE_AT (V6_SOURCE_AT + 16)) (slice_range p V6_TARGET_AT (V6_TARGET_AT + 16)) (ports_of (has_v6_ports p) p V6_HEADER_LEN)
    else NonIp

-- the packet of a payload, by its Ethernet type
unfoldable pub payload_flow : ℕ → List ℕ → Flow
payload_flow kind p = if kind == V4_TYPE then v4_of p else if kind == V6_TYPE then v6_of p else NonIp

-- type and payload stand behind the addresses, or behind one tag
unfoldable pub flow_of : List ℕ → Flow
flow_of frame =
    if is_tagged frame then payload_flow (u16_at frame TAGGED_TYPE_AT) (drop TAGGED_HEADER_LEN frame)
    else payload_flow (u16_at frame TYPE_AT) (drop HEADER_LEN frame)
