use Rattle.std.proofs.Common.{◌≡◌, ◌≤◌, take, vec_capacity}
use Rattle.std.specs.Mem.Slots.{slots_items}
use Rattle.vmx_closing.proofs.put_words.Given as goal

abbrev pub invariant-loop-index : goal.invariant-loop-index
invariant-loop-index g l = (l.words.items ≡ take l.index (slots_items l.closed.words)) × (l.count ≤ vec_capacity l.words)
