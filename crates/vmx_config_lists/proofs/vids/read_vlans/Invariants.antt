use Rattle.std.proofs.Common.{◌≡◌, drop}
use Rattle.toml.specs.View.{items_view}
use Rattle.vmx_config_lists.specs.Vlans.{vlans_from, no_vlans}
use Rattle.vmx_config_lists.proofs.vids.read_vlans.Given as goal

abbrev pub invariant-loop-value : goal.invariant-loop-value
invariant-loop-value l = vlans_from l.spot l.table (items_view (drop l.value-index l.numbers)) ≡ vlans_from l.spot no_vlans (items_view l.numbers)
