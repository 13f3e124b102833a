-- The ports to which a journal says that frames were given.
use Rattle.std.specs.Prelude.{ℕ, List, Option, Some, None, drop}
use Rattle.std.specs.List.{filter_map}
use Rattle.vmx_model.specs.declared.journal.Entry.{Entry}
use Rattle.vmx_model.specs.declared.journal.Entry.TheVariants as entry

abbrev pub target_in : Entry → Option ℕ
target_in (entry.Out tag target way) = Some target
target_in (entry.Lost tag) = None
target_in (entry.In from place fate) = None
target_in (entry.Setting number answer setup) = None

-- of the entries behind the first so many
abbrev pub targets_behind : ℕ → List Entry → List ℕ
targets_behind n es = filter_map target_in (drop n es)
