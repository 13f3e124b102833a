use Rattle.std.proofs.Common.{◌≡◌, drop}
use Rattle.toml.specs.View.{items_view}
use Rattle.vmx_config_lists.specs.Masks.{mode_words}
use Rattle.vmx_config_lists.proofs.masks.mode_bits.Given as goal

abbrev pub invariant-loop-value : goal.invariant-loop-value
invariant-loop-value l = mode_words l.spot l.mode (items_view (drop l.value-index l.words)) ≡ mode_words l.spot 0 (items_view l.words)
