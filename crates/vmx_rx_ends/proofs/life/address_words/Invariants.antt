use Rattle.std.proofs.Common.{◌≡◌}
use Rattle.vmx_ends.specs.ReceiveClauses.{made_of}
use Rattle.vmx_rx_ring.specs.Words.{address}
use Rattle.vmx_rx_ends.specs.Opening.{row}
use Rattle.vmx_rx_ends.proofs.life.address_words.Given as goal

abbrev pub invariant-loop-slot : goal.invariant-loop-slot
invariant-loop-slot l = l.words.items ≡ row (address (made_of l.shape)) l.slot
