-- The ports of a switch, and the ports that a frame goes to.
use Rattle.std.specs.Prelude.{ℕ, ◌%◌, ◌==◌, nat_le, Bool, true, false, not, ◌&&◌, ◌||◌, List, [], ◌∷◌, length, slice_index, slice_index_or, bytes_eq, filter}
use Rattle.std.specs.List.{list_all, list_any, range_with_len}
use Rattle.vmx_switch.specs.declared.answer.TheConstants.{MAX_PORTS}
use Rattle.vmx_frame.specs.Ethernet.{destination, class_of, names_group}

-- what each port owns and is, by its number
pub record Wiring : Type 0 where
  pub macs : List (List ℕ)
  pub sniffers : List Bool

-- no address names a group: the lowest bit of its first byte is 0 (IEEE 802.3)
abbrev pub all_unicast : List (List ℕ) → Bool
all_unicast macs = list_all (λ mac. slice_index mac 0 % 2 == 0) macs

-- no address stands twice
abbrev pub are_distinct : List (List ℕ) → Bool
are_distinct [] = true
are_distinct (mac ∷ macs) = not (list_any (bytes_eq mac) macs) && are_distinct macs

-- what a switch can be made of
abbrev pub is_wiring : List (List ℕ) → List Bool → Bool
is_wiring macs sniffers =
    length macs == length sniffers && nat_le 1 (length macs) && nat_le (length macs) MAX_PORTS
    && all_unicast macs && are_distinct macs

-- the port has this address
abbrev pub owns : Wiring → ℕ → List ℕ → Bool
owns w port address = bytes_eq (slice_index_or w.macs port []) address

-- the port is given every frame
abbrev pub sniffs : Wiring → ℕ → Bool
sniffs w port = slice_index_or w.sniffers port false

-- another port than the sender, that owns the destination, or any such port at a group address, or a sniffer
unfoldable pub is_target : Wiring → ℕ → List ℕ → ℕ → Bool
is_target w from frame port =
    not (port == from) && (names_group (class_of frame) || owns w port (destination frame) || sniffs w port)

-- the targets, in port order
unfoldable pub target_ports : Wiring → ℕ → List ℕ → List ℕ
target_ports w from frame = filter (is_target w from frame) (range_with_len 0 (length w.macs))
