-- Arrays of TOML: their count, and a count within its range.
use Rattle.std.specs.Prelude.{ℕ, suc, ◌&&◌, nat_le, if◌then◌else◌, pos, List, Result, Err}
use Rattle.toml.specs.Data.{Items, no_items, item}
use Rattle.vmx_config_rows.specs.declared.spot.Spot.{Spot}
use Rattle.vmx_config_rows.specs.declared.fault.ConfigFault.{ConfigFault}
use Rattle.vmx_config_rows.specs.declared.fault.ConfigFault.TheVariants.{Range}

abbrev pub count_of : Items → ℕ
count_of no_items = 0
count_of (item d ds) = suc (count_of ds)

-- what is read of an array of at most so many, else its count is out of range
abbrev pub at_most : {A : Type 0} → Spot → List ℕ → ℕ → Items → Result A ConfigFault → Result A ConfigFault
at_most spot key most ds read = if nat_le (count_of ds) most then read else Err (Range spot key (pos (count_of ds)))

-- the same for an array of at least one
abbrev pub one_to : {A : Type 0} → Spot → List ℕ → ℕ → Items → Result A ConfigFault → Result A ConfigFault
one_to spot key most ds read = if nat_le 1 (count_of ds) && nat_le (count_of ds) most then read else Err (Range spot key (pos (count_of ds)))
