-- The entries of an indirection table.
use Rattle.std.specs.Prelude.{ℕ, replicate, ◌+◌, nat_lt, if◌then◌else◌, pos, negsuc, ℤ, List, slice_set, Result, Ok, Err}
use Rattle.toml.specs.Data.{Data, Items, no_items, item, as_integer, as_array}
use Rattle.vmx_config_rows.specs.declared.spot.Spot.{Spot}
use Rattle.vmx_config_rows.specs.declared.fault.ConfigFault.{ConfigFault}
use Rattle.vmx_config_rows.specs.declared.fault.ConfigFault.TheVariants.{Range}
use Rattle.vmx_config_rows.specs.Reading.{◌>>=◌, or_kind}
use Rattle.vmx_config_lists.specs.Counts.{one_to}
use Rattle.vmx_config_lists.specs.declared.entries.Entries.{Entries}

-- below the number of queues
abbrev pub ranged_entry : Spot → List ℕ → ℕ → ℤ → Result ℕ ConfigFault
ranged_entry spot key queues (pos n) = if nat_lt n queues then Ok n else Err (Range spot key (pos n))
ranged_entry spot key queues (negsuc n) = Err (Range spot key (negsuc n))

abbrev pub entry_in : Spot → List ℕ → ℕ → Data → Result ℕ ConfigFault
entry_in spot key queues d = or_kind spot key (as_integer d) >>= ranged_entry spot key queues

unfoldable pub no_table : List ℕ
no_table = replicate 128 0

-- no entry yet
abbrev pub no_entries : Entries
no_entries = record { size = 0; table = no_table }

-- one entry more
abbrev pub with_entry : Entries → ℕ → Entries
with_entry t n = record { size = t.size + 1; table = slice_set t.table t.size n }

-- the entries of the items, behind those before
abbrev pub entries_from : Spot → List ℕ → ℕ → Entries → Items → Result Entries ConfigFault
entries_from spot key queues t no_items = Ok t
entries_from spot key queues t (item d ds) = entry_in spot key queues d >>= λ n. entries_from spot key queues (with_entry t n) ds

-- 1 to 128 entries
abbrev pub entry_list : Spot → List ℕ → ℕ → Items → Result Entries ConfigFault
entry_list spot key queues ds = one_to spot key 128 ds (entries_from spot key queues no_entries ds)

abbrev pub entries_in : Spot → List ℕ → ℕ → Data → Result Entries ConfigFault
entries_in spot key queues d = or_kind spot key (as_array d) >>= entry_list spot key queues
