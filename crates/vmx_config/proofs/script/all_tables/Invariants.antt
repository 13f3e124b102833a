use Rattle.std.proofs.Common.{◌≡◌, drop}
use Rattle.toml.specs.View.{items_view}
use Rattle.vmx_config.specs.Script.{all_tables}
use Rattle.vmx_config.proofs.script.all_tables.Given as goal

abbrev pub invariant-loop-value : goal.invariant-loop-value
invariant-loop-value l = all_tables (items_view (drop l.value-index l.values)) ≡ all_tables (items_view l.values)
