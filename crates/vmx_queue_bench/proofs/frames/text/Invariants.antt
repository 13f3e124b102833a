use Rattle.std.proofs.Common.{◌≡◌, length}
use Rattle.vmx_queue_bench.specs.declared.frames.TheConstants.{TEXT}
use Rattle.vmx_queue_bench.proofs.frames.text.Given as goal

abbrev pub invariant-loop-place : goal.invariant-loop-place
invariant-loop-place l = length l.text.items ≡ TEXT
