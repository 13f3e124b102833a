-- A buffer and its data entry have at most the bytes of a slot.
use Rattle.std.proofs.Common.{◌≤◌, length, arith, length-append}
use Rattle.vmx_rx_ring.specs.declared.known.Buffer.{Buffer}
use Rattle.vmx_rxq.specs.declared.shown.TheConstants.{MAX_SLOT_SIZE}
use Rattle.vmx_rx_ends.specs.Standing.{bytes_of}

pub bytes_few : (b : Buffer) → length (bytes_of b) ≤ MAX_SLOT_SIZE
bytes_few b = let l = length-append b.bytes.items b.entry.items in let room = b.room in let entry = b.entry_room in let n = b.bytes.ok in let k = b.entry.ok in omega arith
