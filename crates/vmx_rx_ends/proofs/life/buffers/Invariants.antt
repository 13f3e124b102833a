use Rattle.std.proofs.Common.{◌≡◌, vec_len}
use Rattle.vmx_ends.specs.ReceiveClauses.{made_of}
use Rattle.vmx_rx_ends.specs.Opening.{HaveRoom}
use Rattle.vmx_rx_ends.proofs.life.buffers.Given as goal

abbrev pub invariant-loop-slot : goal.invariant-loop-slot
invariant-loop-slot l = (vec_len l.buffers ≡ l.slot) × HaveRoom (made_of l.shape) l.buffers.items
