use Rattle.std.proofs.Common.{◌≡◌, ◌≤◌, length}
use Rattle.vmx_link.specs.Ends.{in_view}
use Rattle.vmx_link.proofs.tests.receive.Given as goal

abbrev pub invariant-loop-tries : goal.invariant-loop-tries
invariant-loop-tries l = ((in_view l.input).key ≡ (in_view l.initial.input).key) × ((in_view l.input).notes_given ≡ (in_view l.initial.input).notes_given) × ((in_view l.input).notes_heard ≡ (in_view l.initial.input).notes_heard)
    × (length (in_view l.input).pulled ≤ l.tries) × (l.number ≤ l.tries) × (l.same ≤ l.tries)
