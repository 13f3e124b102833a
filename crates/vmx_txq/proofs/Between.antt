-- The law of the ring of completions, between any two steps.
use Rattle.std.proofs.Common.{arith}
use Rattle.vmx_ring_laws.specs.Moves.{elsewhere}
use Rattle.vmx_tx_ring.specs.Rule.{Story}
use Rattle.vmx_txq.specs.Laws.{OneCompletion}
use Rattle.vmx_txq.proofs.CompletionMoves.{completions-length, completion_second, completion_first}

pub one_completion : OneCompletion
one_completion s q p low less = let y : Story = q.story in let r = q.kept.ring in let room = r.words_are.told.stand.room in let long = completions-length y.made y.d.at.sent y.e.at.completed in
    (completion_second y.made y.d.at y.e.at s.words s.homes r p low less, completion_first y.made y.d.at y.e.at s.words s.homes r p low less, (λ z above below. elsewhere y.made.size p z above (omega arith)))
