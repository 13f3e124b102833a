use Rattle.std.proofs.Common.{◌≤◌, length}
use Rattle.vmx_link.specs.Ends.{out_view}
use Rattle.vmx_bench.proofs.link.fill.Given as goal

abbrev pub invariant-loop-filled : goal.invariant-loop-filled
invariant-loop-filled l = (length (out_view l.output).pushed ≤ l.filled) × (length (out_view l.output).full ≤ l.filled)
