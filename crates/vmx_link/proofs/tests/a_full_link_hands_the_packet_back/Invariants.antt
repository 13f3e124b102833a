use Rattle.std.proofs.Common.{◌≡◌, ◌≤◌, length}
use Rattle.vmx_link.specs.Ends.{out_view}
use Rattle.vmx_link.proofs.tests.a_full_link_hands_the_packet_back.Given as goal

abbrev pub invariant-loop-number : goal.invariant-loop-number
invariant-loop-number g l = ((out_view l.output).key ≡ (out_view l.initial.output).key) × ((out_view l.output).notes_given ≡ (out_view l.initial.output).notes_given) × ((out_view l.output).notes_heard ≡ (out_view l.initial.output).notes_heard)
    × (length (out_view l.output).pushed ≤ l.number-counter) × (length (out_view l.output).full ≤ l.number-counter)
