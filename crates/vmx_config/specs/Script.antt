-- A guest's script (own to this project).
use Rattle.std.specs.Prelude.{ℕ, ◌+◌, Bool, true, false, not, ◌&&◌, is_some, if◌then◌else◌, List, [], ◌∷◌, ◌++◌, codes, Option, Some, None, Result, Ok, Err}
use Rattle.std.specs.Str.{bytes_eq}
use Rattle.toml.specs.Data.{Data, Members, Items, no_items, item, get_member, as_str, as_array, as_table}
use Rattle.vmx_model.specs.declared.limits.TheConstants.{MAX_ACTIONS}
use Rattle.vmx_config_rows.specs.declared.spot.Spot.{Spot}
use Rattle.vmx_config_rows.specs.declared.rows.NumberKey.TheVariants.{At}
use Rattle.vmx_config_rows.specs.declared.fault.ConfigFault.{ConfigFault}
use Rattle.vmx_config_rows.specs.declared.fault.ConfigFault.TheVariants as fault
use Rattle.vmx_config_rows.specs.Reading.{◌>>=◌, required, or_kind, or_form, known_only}
use Rattle.vmx_config_rows.specs.Table.{number_row, number_at}
use Rattle.vmx_config_lists.specs.Counts.{at_most}
use Rattle.vmx_config_lists.specs.Masks.{mode_in}
use Rattle.vmx_config_lists.specs.Addresses.{multicast_in}
use Rattle.vmx_config_lists.specs.Vlans.{vlans_in}
use Rattle.vmx_config_lists.specs.Entries.{entries_in}
use Rattle.vmx_config.specs.declared.parts.ActionSettings.{ActionSettings}
use Rattle.vmx_config.specs.declared.parts.DeedSettings.{DeedSettings}
use Rattle.vmx_config.specs.declared.parts.DeedSettings.TheVariants as deed
use Rattle.vmx_config.specs.declared.script.DeedKind.{DeedKind}
use Rattle.vmx_config.specs.declared.script.DeedKind.TheVariants as kind

abbrev pub kind_of : List ℕ → Option DeedKind
kind_of s =
    if bytes_eq s (codes "quiesce") then Some kind.Quiesce
    else if bytes_eq s (codes "activate") then Some kind.Activate
    else if bytes_eq s (codes "reset") then Some kind.Reset
    else if bytes_eq s (codes "mode") then Some kind.Mode
    else if bytes_eq s (codes "multicast") then Some kind.Multicast
    else if bytes_eq s (codes "vlans") then Some kind.Vlans
    else if bytes_eq s (codes "rss") then Some kind.Rss
    else None

-- the deed of an action, by name
unfoldable pub kind_at : Spot → Members → Result DeedKind ConfigFault
kind_at spot ms = do
  d ← required spot (codes "do") (get_member (codes "do") ms)
  s ← or_kind spot (codes "do") (as_str d)
  or_form spot (codes "do") (kind_of s)

-- the keys of an action
abbrev pub action_keys : DeedKind → List (List ℕ)
action_keys kind.Quiesce = codes "at" ∷ codes "do" ∷ []
action_keys kind.Activate = codes "at" ∷ codes "do" ∷ []
action_keys kind.Reset = codes "at" ∷ codes "do" ∷ []
action_keys kind.Mode = codes "at" ∷ codes "do" ∷ codes "mode" ∷ []
action_keys kind.Multicast = codes "at" ∷ codes "do" ∷ codes "multicast" ∷ []
action_keys kind.Vlans = codes "at" ∷ codes "do" ∷ codes "vlans" ∷ []
action_keys kind.Rss = codes "at" ∷ codes "do" ∷ codes "table" ∷ []

abbrev pub needed : Spot → List ℕ → Members → Result Data ConfigFault
needed spot key ms = required spot key (get_member key ms)

-- what the deed needs, from the key of its name, or `table`
abbrev pub deed_at : Spot → ℕ → DeedKind → Members → Result DeedSettings ConfigFault
deed_at spot queues kind.Quiesce ms = Ok deed.Quiesce
deed_at spot queues kind.Activate ms = Ok deed.Activate
deed_at spot queues kind.Reset ms = Ok deed.Reset
deed_at spot queues kind.Mode ms = (needed spot (codes "mode") ms >>= mode_in spot) >>= λ m. Ok (deed.Mode m)
deed_at spot queues kind.Multicast ms = (needed spot (codes "multicast") ms >>= multicast_in spot) >>= λ g. Ok (deed.Multicast g)
deed_at spot queues kind.Vlans ms = (needed spot (codes "vlans") ms >>= vlans_in spot) >>= λ t. Ok (deed.Vlans t)
deed_at spot queues kind.Rss ms = (needed spot (codes "table") ms >>= entries_in spot (codes "table") queues) >>= λ e. Ok (deed.Rss e)

abbrev pub action_table : Spot → ℕ → ℕ → Members → Result ActionSettings ConfigFault
action_table spot queues from ms = do
  kind ← kind_at spot ms
  known ← known_only spot [] (action_keys kind) ms
  at ← number_at spot (number_row (At from)) ms
  deed ← deed_at spot queues kind ms
  Ok (record { at = at; deed = deed })

-- an action: its deed before unknown keys, and then key by key
unfoldable pub action_at : Spot → ℕ → ℕ → Data → Result ActionSettings ConfigFault
action_at spot queues from d = or_kind spot (codes "script") (as_table d) >>= action_table spot queues from

-- a quiet guest is activated, any other quiesced or reset; a table is for a guest with RSS
abbrev pub is_in_turn : Bool → Bool → DeedSettings → Bool
is_in_turn quiet rss deed.Quiesce = not quiet
is_in_turn quiet rss deed.Activate = quiet
is_in_turn quiet rss deed.Reset = not quiet
is_in_turn quiet rss (deed.Mode m) = true
is_in_turn quiet rss (deed.Multicast g) = true
is_in_turn quiet rss (deed.Vlans t) = true
is_in_turn quiet rss (deed.Rss e) = rss

abbrev pub quiet_after : Bool → DeedSettings → Bool
quiet_after quiet deed.Quiesce = true
quiet_after quiet deed.Activate = false
quiet_after quiet deed.Reset = false
quiet_after quiet (deed.Mode m) = quiet
quiet_after quiet (deed.Multicast g) = quiet
quiet_after quiet (deed.Vlans t) = quiet
quiet_after quiet (deed.Rss e) = quiet

-- the action with this index
abbrev pub action_spot : Spot → ℕ → Spot
action_spot spot i = record { guest = spot.guest; action = Some i }

abbrev pub in_turn : Spot → Bool → Bool → ActionSettings → Result ActionSettings ConfigFault
in_turn spot quiet rss a = if is_in_turn quiet rss a.deed then Ok a else Err (fault.Script spot)

-- the actions of the items behind those before, from an index and a captured number on, of a guest that is quiet or not
abbrev pub actions_from : Spot → ℕ → Bool → Bool → ℕ → ℕ → List ActionSettings → Items → Result (List ActionSettings) ConfigFault
actions_from spot queues rss quiet from i before no_items = Ok before
actions_from spot queues rss quiet from i before (item d ds) =
    (action_at (action_spot spot i) queues from d >>= in_turn (action_spot spot i) quiet rss)
    >>= λ a. actions_from spot queues rss (quiet_after quiet a.deed) a.at (i + 1) (before ++ a ∷ []) ds

abbrev pub all_tables : Items → Bool
all_tables no_items = true
all_tables (item d ds) = is_some (as_table d) && all_tables ds

-- what is read of elements that are all tables
abbrev pub of_tables : {A : Type 0} → Spot → List ℕ → Items → Result A ConfigFault → Result A ConfigFault
of_tables spot key ds read = if all_tables ds then read else Err (fault.Kind spot key)

-- at most 256 actions; a guest begins active
abbrev pub script_list : Spot → ℕ → Bool → Items → Result (List ActionSettings) ConfigFault
script_list spot queues rss ds = at_most spot (codes "script") MAX_ACTIONS ds (of_tables spot (codes "script") ds (actions_from spot queues rss false 0 0 [] ds))

abbrev pub script_in : Spot → ℕ → Bool → Option Data → Result (List ActionSettings) ConfigFault
script_in spot queues rss None = Ok []
script_in spot queues rss (Some d) = or_kind spot (codes "script") (as_array d) >>= script_list spot queues rss

-- a guest's script, empty where it is not there
unfoldable pub script_at : Spot → ℕ → Bool → Members → Result (List ActionSettings) ConfigFault
script_at spot queues rss ms = script_in spot queues rss (get_member (codes "script") ms)
