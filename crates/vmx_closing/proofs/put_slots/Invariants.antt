use Rattle.std.proofs.Common.{◌≡◌, ℕ, ◌-◌, ◌*◌, ◌<◌, ◌≤◌, take, false, get_or, vec_capacity}
use Rattle.std.specs.List.{flat_map}
use Rattle.std.specs.Mem.Slots.{slots_items, slots_filled, slots_len}
use Rattle.std.specs.Mem.Slots.Ownership.{Filled}
use Rattle.vmx_closing.proofs.put_slots.Given as goal

abbrev pub invariant-loop-index : goal.invariant-loop-index
invariant-loop-index g l =
    (l.bytes.items ≡ flat_map g.W.WritesDown.bytes (take l.index (slots_items l.closed.slots)))
    × (slots_items l.closed.slots ≡ slots_items l.fn.closed.slots)
    × (slots_len l.closed.slots ≡ slots_len l.fn.closed.slots)
    × (slots_len l.closed.slots * g.W.WritesDown.most ≤ vec_capacity l.bytes)
    × (l.index ≤ slots_len l.closed.slots)
    × Filled (slots_filled l.closed.slots) l.index (slots_len l.closed.slots)
    × ((k : ℕ) → k < l.index → get_or (slots_filled l.closed.slots) k false ≡ false)

abbrev pub decreases-loop-index : goal.decreases-loop-index
decreases-loop-index g l = slots_len l.closed.slots - l.index
