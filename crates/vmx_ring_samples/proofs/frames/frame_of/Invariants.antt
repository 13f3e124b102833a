use Rattle.std.proofs.Common.{◌≡◌, vec_len}
use Rattle.vmx_ring_samples.proofs.frames.frame_of.Given as goal

abbrev pub invariant-loop-place : goal.invariant-loop-place
invariant-loop-place l = vec_len l.frame ≡ l.count
