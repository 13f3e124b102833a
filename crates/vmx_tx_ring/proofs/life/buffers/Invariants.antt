use Rattle.std.proofs.Common.{◌≡◌, vec_len}
use Rattle.vmx_tx_ring.proofs.life.buffers.Given as goal

abbrev pub invariant-loop : goal.invariant-loop
invariant-loop l = vec_len l.buffers ≡ l.counter
