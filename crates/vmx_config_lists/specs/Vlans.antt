-- VLANs by their numbers: VID v is bit v mod 32 of word v div 32 (Linux's vmxnet3_defs.h).
use Rattle.std.specs.Prelude.{ℕ, replicate, ◌/◌, ◌%◌, ◌^◌, nat_le, if◌then◌else◌, pos, negsuc, ℤ, List, codes, slice_index, slice_set, bit_or, Result, Ok, Err}
use Rattle.toml.specs.Data.{Data, Items, no_items, item, as_integer, as_array}
use Rattle.vmx_config_rows.specs.declared.spot.Spot.{Spot}
use Rattle.vmx_config_rows.specs.declared.fault.ConfigFault.{ConfigFault}
use Rattle.vmx_config_rows.specs.declared.fault.ConfigFault.TheVariants.{Range}
use Rattle.vmx_config_rows.specs.Reading.{◌>>=◌, or_kind}
use Rattle.vmx_config_lists.specs.Counts.{at_most}

-- 0 to 4,095
abbrev pub ranged_vid : Spot → ℤ → Result ℕ ConfigFault
ranged_vid spot (pos n) = if nat_le n 4095 then Ok n else Err (Range spot (codes "vlans") (pos n))
ranged_vid spot (negsuc n) = Err (Range spot (codes "vlans") (negsuc n))

abbrev pub vid_in : Spot → Data → Result ℕ ConfigFault
vid_in spot d = or_kind spot (codes "vlans") (as_integer d) >>= ranged_vid spot

-- a table of no VLAN
unfoldable pub no_vlans : List ℕ
no_vlans = replicate 128 0

-- a table with one VLAN more
unfoldable pub with_vid : List ℕ → ℕ → List ℕ
with_vid table vid = slice_set table (vid / 32) (bit_or (slice_index table (vid / 32)) (2 ^ (vid % 32)))

-- the VLANs of the items, besides those before
abbrev pub vlans_from : Spot → List ℕ → Items → Result (List ℕ) ConfigFault
vlans_from spot table no_items = Ok table
vlans_from spot table (item d ds) = vid_in spot d >>= λ vid. vlans_from spot (with_vid table vid) ds

-- at most 4,096 VIDs
abbrev pub vlan_list : Spot → Items → Result (List ℕ) ConfigFault
vlan_list spot ds = at_most spot (codes "vlans") 4096 ds (vlans_from spot no_vlans ds)

abbrev pub vlans_in : Spot → Data → Result (List ℕ) ConfigFault
vlans_in spot d = or_kind spot (codes "vlans") (as_array d) >>= vlan_list spot
