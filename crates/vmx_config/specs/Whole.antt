-- A whole configuration (own to this project).
use Rattle.std.specs.Prelude.{ℕ, ◌+◌, ◌*◌, Bool, nat_le, if◌then◌else◌, List, [], ◌∷◌, ◌++◌, codes, Option, Some, None, Result, Ok, Err}
use Rattle.std.specs.List.{list_any}
use Rattle.std.specs.Str.{is_utf8, bytes_eq}
use Rattle.toml.specs.Data.{Data, Members, Items, no_items, item, get_member, as_array, as_table}
use Rattle.toml.specs.Parse.{parse_document}
use Rattle.vmx_config_rows.specs.declared.spot.Spot.{Spot}
use Rattle.vmx_config_rows.specs.declared.rows.NumberKey.TheVariants.{PollEvery}
use Rattle.vmx_config_rows.specs.declared.fault.ConfigFault.{ConfigFault}
use Rattle.vmx_config_rows.specs.declared.fault.ConfigFault.TheVariants as fault
use Rattle.vmx_config_rows.specs.Reading.{◌>>=◌, required, or_kind, known_only}
use Rattle.vmx_config_rows.specs.Table.{number_row, number_at}
use Rattle.vmx_config_rows.specs.Texts.{output_at}
use Rattle.vmx_config_lists.specs.Counts.{one_to}
use Rattle.vmx_switch.specs.declared.answer.TheConstants.{MAX_PORTS}
use Rattle.vmx_model.specs.declared.limits.TheConstants.{MAX_ALL_DESCRIPTORS}
use Rattle.vmx_config.specs.declared.parts.RingSettings.{RingSettings}
use Rattle.vmx_config.specs.declared.parts.GuestSettings.{GuestSettings}
use Rattle.vmx_config.specs.declared.parts.Settings.{Settings}
use Rattle.vmx_config.specs.Script.{of_tables}
use Rattle.vmx_config.specs.Guest.{guest_at}

-- the top table
abbrev pub top : Spot
top = record { guest = None; action = None }

-- the table of the guest with this index
abbrev pub guest_spot : ℕ → Spot
guest_spot i = record { guest = Some i; action = None }

abbrev pub guest_in : ℕ → Data → Result GuestSettings ConfigFault
guest_in i d = or_kind top (codes "guest") (as_table d) >>= guest_at (guest_spot i)

-- the guests of the items, behind those before
abbrev pub guests_from : ℕ → List GuestSettings → Items → Result (List GuestSettings) ConfigFault
guests_from i before no_items = Ok before
guests_from i before (item d ds) = guest_in i d >>= λ g. guests_from (i + 1) (before ++ g ∷ []) ds

-- 1 to 16 guests, all tables
abbrev pub guest_list : Items → Result (List GuestSettings) ConfigFault
guest_list ds = one_to top (codes "guest") MAX_PORTS ds (of_tables top (codes "guest") ds (guests_from 0 [] ds))

unfoldable pub guests_at : Members → Result (List GuestSettings) ConfigFault
guests_at ms = do
  d ← required top (codes "guest") (get_member (codes "guest") ms)
  ds ← or_kind top (codes "guest") (as_array d)
  guest_list ds

abbrev pub has_name : List GuestSettings → List ℕ → Bool
has_name gs name = list_any (λ g. bytes_eq g.port.name name) gs

abbrev pub has_mac : List GuestSettings → List ℕ → Bool
has_mac gs mac = list_any (λ g. bytes_eq g.port.mac mac) gs

-- no guest has the name or the address of one before it: the first that has a name, or else an address
abbrev pub twice_from : List GuestSettings → ℕ → List GuestSettings → Result (Unit {0}) ConfigFault
twice_from before i [] = Ok tt
twice_from before i (g ∷ gs) =
    if has_name before g.port.name then Err (fault.Twice i (codes "name"))
    else if has_mac before g.port.mac then Err (fault.Twice i (codes "mac"))
    else twice_from (before ++ g ∷ []) (i + 1) gs

-- the descriptors of a guest's rings
abbrev pub descriptors_of : RingSettings → ℕ
descriptors_of r = r.tx_queues * r.tx_ring + r.rx_queues * (r.rx_ring1 + r.rx_ring2)

abbrev pub total_of : List GuestSettings → ℕ
total_of [] = 0
total_of (g ∷ gs) = descriptors_of g.rings + total_of gs

-- at most 65,536 descriptors
abbrev pub total_within : ℕ → Result (Unit {0}) ConfigFault
total_within n = if nat_le n MAX_ALL_DESCRIPTORS then Ok tt else Err (fault.Total n)

-- the guests beside one another: their names and addresses, then their descriptors
unfoldable pub together : List GuestSettings → Result (Unit {0}) ConfigFault
together gs = twice_from [] 0 gs >>= λ apart. total_within (total_of gs)

-- a top table: unknown keys, key by key, then the guests beside one another
unfoldable pub top_at : Members → Result Settings ConfigFault
top_at ms = do
  known ← known_only top [] (codes "output" ∷ codes "poll_every" ∷ codes "guest" ∷ []) ms
  output ← output_at top ms
  poll_every ← number_at top (number_row PollEvery) ms
  guests ← guests_at ms
  beside ← together guests
  Ok (record { output = output; poll_every = poll_every; guests = guests })

abbrev pub top_or_text : Option Members → Result Settings ConfigFault
top_or_text None = Err fault.Text
top_or_text (Some ms) = top_at ms

-- what a text says: `Text` where its bytes are no UTF-8 or no TOML
unfoldable pub settings_at : List ℕ → Result Settings ConfigFault
settings_at bytes = top_or_text (if is_utf8 bytes then parse_document bytes else None)
