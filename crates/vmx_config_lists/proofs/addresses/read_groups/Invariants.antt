use Rattle.std.proofs.Common.{◌≡◌, drop, []}
use Rattle.toml.specs.View.{items_view}
use Rattle.vmx_config_lists.specs.Addresses.{groups_from}
use Rattle.vmx_config_lists.proofs.addresses.read_groups.Given as goal

abbrev pub invariant-loop-value : goal.invariant-loop-value
invariant-loop-value l = groups_from l.spot l.groups.items (items_view (drop l.value-index l.texts)) ≡ groups_from l.spot [] (items_view l.texts)
