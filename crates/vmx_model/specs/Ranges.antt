-- The ranges of a configuration (own to this project), as tests.
use Rattle.std.specs.Prelude.{ℕ, ◌%◌, ◌==◌, Bool, true, false, not, ◌&&◌, ◌||◌, nat_le, nat_lt, List, [], ◌∷◌, length, take, drop, slice_index, Option, Some, None}
use Rattle.std.specs.List.{list_all}
use Rattle.vmx_ends.specs.declared.limits.TheConstants.{MAX_PIECE}
use Rattle.vmx_ends.specs.Queues.{least_piece}
use Rattle.vmx_shared_area.specs.declared.filter.MacTable.{MacTable}
use Rattle.vmx_shared_area.specs.declared.setup.Setup.{Setup}
use Rattle.vmx_shared_area.specs.declared.offsets.TheConstants.{RX_MODE_END, TABLE_SIZE}
use Rattle.vmx_device_state.specs.SetupView.{mac_list}
use Rattle.vmx_model.specs.declared.limits.TheConstants.{MAX_NAME, MAX_PREFIX, MAX_VLAN, MAX_NUMBER}
use Rattle.vmx_model.specs.declared.deeds.Action.{Action}
use Rattle.vmx_model.specs.declared.deeds.Deed.{Deed}
use Rattle.vmx_model.specs.declared.deeds.Deed.TheVariants as deed
use Rattle.vmx_model.specs.Deeds.{quiet_after}

-- from low to high, both included
abbrev pub is_within : ℕ → ℕ → ℕ → Bool
is_within low high n = nat_le low n && nat_le n high

-- a to z, 0 to 9 and _ in ASCII
abbrev pub is_name_byte : ℕ → Bool
is_name_byte b = is_within 0x61 0x7A b || is_within 0x30 0x39 b || b == 0x5F

-- 1 to 16 bytes
abbrev pub is_name : List ℕ → Bool
is_name name = is_within 1 MAX_NAME (length name) && list_all is_name_byte name

-- besides, A to Z, a point and a stroke
abbrev pub is_prefix_byte : ℕ → Bool
is_prefix_byte b = is_name_byte b || is_within 0x41 0x5A b || b == 0x2E || b == 0x2F

-- 1 to 64 bytes, the first no point and no stroke
abbrev pub is_prefix : List ℕ → Bool
is_prefix prefix = is_within 1 MAX_PREFIX (length prefix) && list_all is_prefix_byte prefix && not (slice_index prefix 0 == 0x2E || slice_index prefix 0 == 0x2F)

-- the entries of an indirection table name so many queues; those behind them are 0
abbrev pub fits_table : ℕ → ℕ → List ℕ → Bool
fits_table queues size table = list_all (λ entry. nat_lt entry queues) (take size table) && list_all (λ entry. entry == 0) (drop size table)

-- the address of a group of stations: the lowest bit of its first byte is 1 (IEEE 802.3)
abbrev pub is_group : List ℕ → Bool
is_group mac = slice_index mac 0 % 2 == 1

-- all addresses of a multicast table are
abbrev pub are_groups : MacTable → Bool
are_groups t = list_all is_group (mac_list t)

-- the bytes of a transmit buffer, with a data ring or without
abbrev pub fits_piece : Bool → ℕ → Bool
fits_piece with_data piece = is_within (least_piece with_data) MAX_PIECE piece

-- interrupts mask themselves and no checksums are checked; all moderation levels are 0, and the multicast table has groups alone
abbrev pub fits_setup : Setup → Bool
fits_setup s = (s.auto_mask && not s.csum) && (list_all (λ level. level == 0) s.levels && are_groups s.filter.multicast)

-- a deed of a guest with so many receive queues, with RSS or without
abbrev pub fits_deed : ℕ → Bool → Deed → Bool
fits_deed queues rss deed.Quiesce = true
fits_deed queues rss deed.Activate = true
fits_deed queues rss deed.Reset = true
fits_deed queues rss (deed.Mode m) = nat_lt m RX_MODE_END
fits_deed queues rss (deed.Multicast t) = are_groups t
fits_deed queues rss (deed.Vlans t) = true
fits_deed queues rss (deed.Rss size table) = rss && (is_within 1 TABLE_SIZE size && fits_table queues size table)

-- a quiet guest is activated, any other quiesced or reset
abbrev pub is_in_turn : Bool → Deed → Bool
is_in_turn quiet deed.Quiesce = not quiet
is_in_turn quiet deed.Activate = quiet
is_in_turn quiet deed.Reset = not quiet
is_in_turn quiet (deed.Mode m) = true
is_in_turn quiet (deed.Multicast t) = true
is_in_turn quiet (deed.Vlans t) = true
is_in_turn quiet (deed.Rss size table) = true

-- there is none, or it is 1 to 4,094
abbrev pub fits_vlan : Option ℕ → Bool
fits_vlan None = true
fits_vlan (Some id) = is_within 1 MAX_VLAN id

-- the actions behind one at the number `at`
abbrev pub fits_from : ℕ → Bool → Bool → ℕ → List Action → Bool
fits_from queues rss quiet at [] = true
fits_from queues rss quiet at (a ∷ rest) =
    is_within at MAX_NUMBER a.at && (fits_deed queues rss a.deed && (is_in_turn quiet a.deed && fits_from queues rss (quiet_after quiet a.deed) a.at rest))

-- a guest begins active
abbrev pub fits_script : ℕ → Bool → List Action → Bool
fits_script queues rss script = fits_from queues rss false 0 script
