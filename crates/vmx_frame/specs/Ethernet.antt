-- The Ethernet header: the class of the destination, and the tag.
use Rattle.std.specs.Prelude.{ℕ, ◌%◌, ◌==◌, nat_le, ◌&&◌, Bool, true, false, if◌then◌else◌, List, length, slice_index, slice_range, Option, Some, None}
use Rattle.std.specs.List.{list_all}
use Rattle.vmx_frame.specs.Bytes.{u16_at}
use Rattle.vmx_frame.specs.declared.kinds.Class.{Class}
use Rattle.vmx_frame.specs.declared.kinds.Class.TheVariants.{Broadcast, Multicast, Unicast}
use Rattle.vmx_frame.specs.declared.ethernet.TheConstants.{ADDRESS_LEN, TYPE_AT, TCI_AT, TAGGED_HEADER_LEN, TAG_TYPE, VLAN_COUNT}

-- the destination address, the first six bytes (IEEE 802.3)
abbrev pub destination : List ℕ → List ℕ
destination frame = slice_range frame 0 ADDRESS_LEN

-- broadcast is all ones; else the lowest bit of the first byte marks a group (IEEE 802.3)
unfoldable pub class_of : List ℕ → Class
class_of frame =
    if list_all (λ b. b == 0xff) (destination frame) then Broadcast
    else if slice_index frame 0 % 2 == 1 then Multicast else Unicast

-- broadcast and multicast name a group of stations
abbrev pub names_group : Class → Bool
names_group Broadcast = true
names_group Multicast = true
names_group Unicast = false

-- the type of a tag behind the addresses, where a tag and a type fit (IEEE 802.1Q; the least length is own)
unfoldable pub is_tagged : List ℕ → Bool
is_tagged frame = nat_le TAGGED_HEADER_LEN (length frame) && u16_at frame TYPE_AT == TAG_TYPE

-- the VLAN of a tag's two control bytes, their lower 12 bits (IEEE 802.1Q)
abbrev pub vlan_of : ℕ → ℕ
vlan_of tci = tci % VLAN_COUNT

-- the VLAN of a frame, where it has a tag
unfoldable pub tag_of : List ℕ → Option ℕ
tag_of frame = if is_tagged frame then Some (vlan_of (u16_at frame TCI_AT)) else None
