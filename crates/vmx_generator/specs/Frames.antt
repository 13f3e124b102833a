-- The frames of the generator (own to this project): TCP over IPv4 (RFC 9293, RFC 791) over Ethernet, without checksums.
use Rattle.std.specs.Prelude.{ℕ, ◌+◌, ◌-◌, ◌/◌, ◌%◌, ◌==◌, if◌then◌else◌, List, [], ◌∷◌, ◌++◌, map, replicate}
use Rattle.std.specs.List.{range_with_len}
use Rattle.std.specs.Int.{bytes_high_first}
use Rattle.vmx_pcap.specs.declared.records.Stamped.{Stamped}
use Rattle.vmx_generator.specs.declared.draws.Draws.{Draws}
use Rattle.vmx_generator.specs.Draws.{draws_of}

-- 00:50:56:00:01:00 and on, by the guest's number
abbrev pub address_of : ℕ → List ℕ
address_of g = 0x00 ∷ 0x50 ∷ 0x56 ∷ 0x00 ∷ 0x01 ∷ g ∷ []

-- of ten draws one goes to all, one to an address that no guest has, and each other to a guest
unfoldable pub destination_of : ℕ → List ℕ
destination_of d =
    if d % 10 == 0 then replicate 6 0xFF
    else if d % 10 == 1 then 0x00 ∷ 0x50 ∷ 0x56 ∷ 0x00 ∷ 0x02 ∷ 0x00 ∷ []
    else address_of (d / 10 % 8)

-- 60 to 1,514 bytes
abbrev pub length_of : ℕ → ℕ
length_of d = 60 + d % 1455

-- version 4 and a header of 20 bytes, the packet's length, the frame's number, in one piece, 64 hops, TCP; from 10.0.0.g to 10.0.1.(d mod 16)
unfoldable pub ipv4_header : ℕ → ℕ → ℕ → ℕ → List ℕ
ipv4_header g n length d =
    (0x45 ∷ 0x00 ∷ []) ++ bytes_high_first 2 (length - 14) ++ bytes_high_first 2 n ++ (0x40 ∷ 0x00 ∷ 0x40 ∷ 0x06 ∷ 0x00 ∷ 0x00 ∷ [])
    ++ (10 ∷ 0 ∷ 0 ∷ g ∷ []) ++ (10 ∷ 0 ∷ 1 ∷ d % 16 ∷ [])

-- from port 1,024 + d mod 64 to port 80, the frame's number as sequence number, a header of 20 bytes, ACK
unfoldable pub tcp_header : ℕ → ℕ → List ℕ
tcp_header n d =
    bytes_high_first 2 (1024 + d % 64) ++ bytes_high_first 2 80 ++ bytes_high_first 4 n
    ++ (0x00 ∷ 0x00 ∷ 0x00 ∷ 0x00 ∷ 0x50 ∷ 0x10 ∷ 0x00 ∷ 0x00 ∷ 0x00 ∷ 0x00 ∷ 0x00 ∷ 0x00 ∷ [])

-- byte j, counted from 0, is n + j modulo 256
unfoldable pub body : ℕ → ℕ → List ℕ
body n count = map (λ j. (n + j) % 256) (range_with_len 0 count)

-- frame n of guest g by its draws: the type is that of IPv4, and 54 bytes are headers
unfoldable pub frame_of : ℕ → ℕ → Draws → List ℕ
frame_of g n d =
    destination_of d.destination ++ address_of g ++ (0x08 ∷ 0x00 ∷ [])
    ++ ipv4_header g n (length_of d.size) d.flow ++ tcp_header n d.flow ++ body n (length_of d.size - 54)

-- frame n of guest g, at n seconds and g microseconds
abbrev pub stamped_of : ℕ → ℕ → ℕ → Stamped
stamped_of number g n = record { seconds = n; micros = g; frame = frame_of g n (draws_of number g n) }

-- the first frames of guest g, so many
unfoldable pub first_frames : ℕ → ℕ → ℕ → List Stamped
first_frames number g count = map (stamped_of number g) (range_with_len 0 count)
