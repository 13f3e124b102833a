use Rattle.std.proofs.Common.{◌≡◌}
use Rattle.vmx_generator.specs.Frames.{first_frames}
use Rattle.vmx_generator.proofs.frames.capture.Given as goal

abbrev pub invariant-loop-number : goal.invariant-loop-number
invariant-loop-number l = l.records.items ≡ first_frames l.draws.number l.guest l.number
