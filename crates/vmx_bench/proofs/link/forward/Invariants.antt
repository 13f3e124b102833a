use Rattle.std.proofs.Common.{◌+◌, ◌≤◌, length}
use Rattle.vmx_link.specs.Ends.{out_view, in_view}
use Rattle.vmx_bench.proofs.link.forward.Given as goal

abbrev pub invariant-loop-tries : goal.invariant-loop-tries
invariant-loop-tries l = (length (out_view l.output).pushed ≤ 64 + l.tries) × (length (out_view l.output).full ≤ 64 + l.tries) × (length (in_view l.input).pulled ≤ 64 + l.tries) × (l.moved ≤ l.count)
