use Rattle.std.proofs.Common.{◌≡◌, drop}
use Rattle.toml.specs.View.{items_view}
use Rattle.vmx_config_lists.specs.Masks.{type_words}
use Rattle.vmx_config_lists.proofs.masks.type_bits.Given as goal

abbrev pub invariant-loop-value : goal.invariant-loop-value
invariant-loop-value l = type_words l.spot l.types (items_view (drop l.value-index l.words)) ≡ type_words l.spot 0 (items_view l.words)
