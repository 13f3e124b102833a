use Rattle.std.proofs.Common.{◌≡◌, drop}
use Rattle.toml.specs.View.{items_view}
use Rattle.vmx_config_lists.specs.Entries.{entries_from, no_entries}
use Rattle.vmx_config_lists.proofs.entries.read_entries.Given as goal

abbrev pub invariant-loop-i : goal.invariant-loop-i
invariant-loop-i l = entries_from l.spot l.key l.queues (record { size = l.i; table = l.table }) (items_view (drop l.i l.numbers)) ≡ entries_from l.spot l.key l.queues no_entries (items_view l.numbers)
