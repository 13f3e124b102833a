-- What holds between any two steps, of each state that the rule of a transmit ring's table allows, whichever way completed frames are told.
use Rattle.std.specs.Prelude.{◌≡◌, ℕ, suc, ◌+◌, ◌%◌, ◌<◌, ◌≤◌, ◌⊎◌, length, take, true}
use mathlib.Core.List.{IsPrefix}
use mathlib.Core.Option.{none, some}
use lib.ListN.{get_elem?}
use Rattle.atomic_table.specs.Table.{State}
use Rattle.vmx_ends.specs.Frames.{sent_of}
use Rattle.vmx_ends.specs.Transmit.{descriptors}
use Rattle.vmx_tx_ring.specs.declared.known.TxKnown.{TxKnown}
use Rattle.vmx_tx_ring.specs.declared.known.TxBuffer.{TxBuffer}
use Rattle.vmx_tx_ring.specs.Rule.{Telling, Story, Queue, next_of, returned_of}

-- the driver fills the buffer with this index, and the device empties it
abbrev pub Fills : Story → ℕ → Type 0
Fills y i = (y.d.at.opened ≡ true) × (i ≡ next_of y.made y.d.at % y.made.size)

abbrev pub Empties : Story → ℕ → Type 0
Empties y i = (y.e.at.emptying ≡ true) × (i ≡ y.e.at.read % y.made.size)

-- A buffer that is out of its slot is out with one end: it is the one that the driver fills, or the one that the device empties, and not both.
abbrev pub OneOwner : Telling → Type 0
OneOwner Told = (s : State TxBuffer TxKnown) (q : Queue Told s) (i : ℕ) → i < q.story.made.size → get_elem? s.homes i ≡ some none
    → (Fills q.story i × (¬ (Empties q.story i))) ⊎ (Empties q.story i × (¬ (Fills q.story i)))

-- The taken frames begin the sent ones.
abbrev pub TakenBegins : Telling → Type 0
TakenBegins Told = (s : State TxBuffer TxKnown) (q : Queue Told s) → IsPrefix (sent_of q.story.e.at.taken) q.story.d.at.sent

-- Completed are the first so many of the taken frames, and reaped the first so many of those: each at most once, in the order of places.
abbrev pub AtMostOnce : Telling → Type 0
AtMostOnce Told = (s : State TxBuffer TxKnown) (q : Queue Told s) → (q.story.e.at.completed ≤ length q.story.e.at.taken) × (q.story.d.at.reaped ≤ q.story.e.at.completed)

-- the position of the first descriptor of the frame with this place, and the one behind its last
abbrev pub begin_of : Story → ℕ → ℕ
begin_of y place = descriptors y.made (take place y.d.at.sent)

abbrev pub end_of : Story → ℕ → ℕ
end_of y place = begin_of y (suc place)

-- Of two completed frames the earlier one's positions end before the later one's begin, and all are posted. Each post of a descriptor is a position of its own, so that it is completed at most once.
abbrev pub CompletedOnce : Telling → Type 0
CompletedOnce Told = (s : State TxBuffer TxKnown) (q : Queue Told s) (i j : ℕ) → i < j → j < q.story.e.at.completed
    → (begin_of q.story i < end_of q.story i) × (end_of q.story i ≤ begin_of q.story j) × (end_of q.story j ≤ descriptors q.story.made q.story.d.at.sent)

-- Completed frames are at most those that were reaped and the size of the ring.
abbrev pub NeverOverrun : Telling → Type 0
NeverOverrun Told = (s : State TxBuffer TxKnown) (q : Queue Told s) → q.story.e.at.completed ≤ q.story.d.at.reaped + q.story.made.size

-- Descriptors that are published or staged are at most those that were given back and the size of the ring.
abbrev pub NeverOverwritten : Telling → Type 0
NeverOverwritten Told = (s : State TxBuffer TxKnown) (q : Queue Told s) → next_of q.story.made q.story.d.at ≤ returned_of q.story.made q.story.d.at + q.story.made.size
