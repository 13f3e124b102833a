use Rattle.std.proofs.Common.{◌≡◌, ◌+◌, ◌*◌, vec_len}
use Rattle.vmx_bench.proofs.place.put_each.Given as goal

abbrev pub invariant-loop-place : goal.invariant-loop-place
invariant-loop-place l = vec_len l.samples ≡ vec_len l.fn.samples + 3 * l.place-index

abbrev pub invariant-loop-value : goal.invariant-loop-value
invariant-loop-value l = vec_len l.samples ≡ vec_len l.initial.samples + l.value-index
