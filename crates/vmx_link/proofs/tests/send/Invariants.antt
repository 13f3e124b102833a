use Rattle.std.proofs.Common.{◌≡◌, ◌≤◌, length}
use Rattle.vmx_link.specs.Ends.{out_view}
use Rattle.vmx_link.proofs.tests.send.Given as goal

abbrev pub invariant-loop-tries : goal.invariant-loop-tries
invariant-loop-tries l = ((out_view l.output).key ≡ (out_view l.initial.output).key) × ((out_view l.output).notes_given ≡ (out_view l.initial.output).notes_given) × ((out_view l.output).notes_heard ≡ (out_view l.initial.output).notes_heard)
    × (length (out_view l.output).pushed ≤ l.tries) × (length (out_view l.output).full ≤ l.tries) × (l.number ≤ l.tries)
