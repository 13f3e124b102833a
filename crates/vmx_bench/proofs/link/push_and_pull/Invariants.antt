use Rattle.std.proofs.Common.{◌+◌, ◌≤◌, length}
use Rattle.vmx_link.specs.Ends.{out_view, in_view}
use Rattle.vmx_bench.proofs.link.push_and_pull.Given as goal

abbrev pub invariant-loop-done : goal.invariant-loop-done
invariant-loop-done l = (length (out_view l.output).pushed ≤ 64 + l.done) × (length (out_view l.output).full ≤ 64 + l.done) × (length (in_view l.input).pulled ≤ 64 + l.done)
