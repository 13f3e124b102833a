-- What holds of the ring of completions between any two steps, of each state that the rule allows.
use Rattle.std.specs.Prelude.{◌≡◌, ◌≢◌, ℕ, ◌+◌, ◌%◌, ◌<◌, ◌≤◌, slice_index}
use Rattle.atomic_table.specs.Table.{State}
use Rattle.vmx_tx_ring.specs.declared.known.TxKnown.{TxKnown}
use Rattle.vmx_tx_ring.specs.declared.known.TxBuffer.{TxBuffer}
use Rattle.vmx_tx_ring.specs.Rule.{Queue}
use Rattle.vmx_txq.specs.Completions.{completion, Rows}

-- a state of the table that the rule allows
abbrev pub IsAllowed : State TxBuffer TxKnown → Type 0
IsAllowed s = Queue Rows s

-- A completion that is visible and not read is that of the frame at its position, and no other one has its index.
abbrev pub OneCompletion : Type 0
OneCompletion = (s : State TxBuffer TxKnown) (q : IsAllowed s) (p : ℕ) → q.story.d.at.reaped ≤ p → p < q.story.e.at.completed
    → (slice_index s.words (q.story.made.size + (q.story.made.size + p % q.story.made.size)) ≡ (completion q.story.made q.story.d.at.sent p).second)
    × (slice_index s.words (q.story.made.size + (q.story.made.size + (q.story.made.size + p % q.story.made.size))) ≡ (completion q.story.made q.story.d.at.sent p).first)
    × ((r : ℕ) → p < r → r < q.story.e.at.completed → r % q.story.made.size ≢ p % q.story.made.size)
