-- The place of a doorbell among the doorbells: those of transmit queues first, then those of the two rings of each receive queue.
use Rattle.std.specs.Prelude.{ℕ, ◌+◌, ◌*◌, ◌-◌, ◌<◌, ◌≤◌}
use Rattle.vmx_layout.specs.declared.register.TheConstants.{MAX_QUEUES}
use Rattle.vmx_regs.specs.declared.places.TheConstants.{TX_BELLS}
use Rattle.vmx_regs.specs.declared.ends.bells.Bell.{Bell}
use Rattle.vmx_regs.specs.declared.ends.bells.Bell.TheVariants.{Tx, Rx}

-- a doorbell's place, from 0
abbrev pub bell_number : Bell → ℕ
bell_number (Tx queue) = queue
bell_number (Rx queue ring) = TX_BELLS + 2 * queue + (ring - 1)

-- a queue below 8, and ring 1 or 2 of a receive queue
abbrev pub IsBell : Bell → Type 0
IsBell (Tx queue) = queue < MAX_QUEUES
IsBell (Rx queue ring) = (queue < MAX_QUEUES) × (1 ≤ ring) × (ring ≤ 2)
