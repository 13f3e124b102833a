use Rattle.std.proofs.Common.{◌≡◌}
use Rattle.vmx_ends.specs.ReceiveClauses.{made_of}
use Rattle.vmx_rx_ring.specs.Words.{second1}
use Rattle.vmx_rx_ends.specs.Opening.{row}
use Rattle.vmx_rx_ends.proofs.life.ring1_words.Given as goal

abbrev pub invariant-loop-position : goal.invariant-loop-position
invariant-loop-position l = l.words.items ≡ row (second1 (made_of l.shape)) l.position
