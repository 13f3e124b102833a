use Rattle.std.proofs.Common.{◌≡◌, ◌++◌}
use Rattle.vmx_generator.specs.Frames.{body}
use Rattle.vmx_generator.proofs.frames.fill.Given as goal

abbrev pub invariant-loop-place : goal.invariant-loop-place
invariant-loop-place l = l.frame.items ≡ l.initial.frame.items ++ body l.number l.place
