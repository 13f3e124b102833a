-- Multicast addresses.
use Rattle.std.specs.Prelude.{ℕ, Bool, if◌then◌else◌, List, [], ◌∷◌, ◌++◌, codes, Option, Some, None, Result, Ok}
use Rattle.std.specs.List.{list_any}
use Rattle.std.specs.Str.{bytes_eq}
use Rattle.toml.specs.Data.{Data, Items, no_items, item, as_str, as_array}
use Rattle.vmx_config_rows.specs.declared.spot.Spot.{Spot}
use Rattle.vmx_config_rows.specs.declared.fault.ConfigFault.{ConfigFault}
use Rattle.vmx_config_rows.specs.Reading.{◌>>=◌, or_kind, or_form}
use Rattle.vmx_config_rows.specs.Texts.{◌>=>◌, mac_from, is_group}
use Rattle.vmx_config_lists.specs.Counts.{at_most}

-- an address, where it is a group's
abbrev pub group_only : List ℕ → Option (List ℕ)
group_only mac = if is_group mac then Some mac else None

abbrev pub group_in : Spot → Data → Result (List ℕ) ConfigFault
group_in spot d = or_kind spot (codes "multicast") (as_str d) >>= λ s. or_form spot (codes "multicast") (mac_from s >=> group_only)

abbrev pub is_there : List (List ℕ) → List ℕ → Bool
is_there macs mac = list_any (λ m. bytes_eq m mac) macs

-- the addresses, and one more unless it is there
abbrev pub with_group : List (List ℕ) → List ℕ → List (List ℕ)
with_group macs mac = if is_there macs mac then macs else macs ++ mac ∷ []

-- the addresses of the items, behind those before
abbrev pub groups_from : Spot → List (List ℕ) → Items → Result (List (List ℕ)) ConfigFault
groups_from spot macs no_items = Ok macs
groups_from spot macs (item d ds) = group_in spot d >>= λ mac. groups_from spot (with_group macs mac) ds

-- at most 256 addresses
abbrev pub group_list : Spot → Items → Result (List (List ℕ)) ConfigFault
group_list spot ds = at_most spot (codes "multicast") 256 ds (groups_from spot [] ds)

abbrev pub multicast_in : Spot → Data → Result (List (List ℕ)) ConfigFault
multicast_in spot d = or_kind spot (codes "multicast") (as_array d) >>= group_list spot
