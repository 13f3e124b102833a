use Rattle.std.proofs.Common.{◌≡◌, vec_len}
use Rattle.vmx_lists.proofs.tx.life.parcels.Given as goal

abbrev pub invariant-loop : goal.invariant-loop
invariant-loop l = vec_len l.parcels ≡ l.counter
