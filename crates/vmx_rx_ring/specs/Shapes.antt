-- The sizes of a queue, and the table that it has.
use Rattle.std.specs.Prelude.{Bool, ◌≡◌, ◌+◌, ◌<◌, ◌≤◌}
use Rattle.atomic_table.specs.Seated.{TableId}
use Rattle.vmx_ends.specs.ReceiveClauses.{made_of}
use Rattle.vmx_ends.specs.declared.made.RxShape.{RxShape}
use Rattle.vmx_rx_ring.specs.Words.{count, more_words}
use Rattle.vmx_layout.specs.declared.addresses.TheConstants.{MAX_RING_SIZE}
use Rattle.vmx_layout.specs.declared.register.TheConstants.{MAX_QUEUES}
use Rattle.vmx_ends.specs.declared.limits.TheConstants.{RING_STEP, MAX_BODIES}

-- the sizes of a queue
abbrev pub IsShape : RxShape → Type 0
IsShape s = (RING_STEP ≤ s.size1) × (s.size1 ≤ MAX_RING_SIZE) × (RING_STEP ≤ s.size2) × (s.size2 ≤ MAX_RING_SIZE) × (s.bodies ≤ MAX_BODIES) × (1 ≤ s.queues) × (s.queues ≤ MAX_QUEUES) × (s.name.queue < s.queues)

-- the table of a queue of this shape, whose completions are counted or not
abbrev pub IsTable : Bool → TableId → TableId → RxShape → Type 0
IsTable counted seat shared s = (seat ≡ shared) × (seat.words ≡ count (made_of s) + count (made_of s) + count (made_of s) + count (made_of s) + more_words counted) × IsShape s
