-- What holds between any two steps, of each state that the rule of a receive queue's table allows, where visible completions are counted by one word or told by their generation bits.
use Rattle.std.specs.Prelude.{true, false, ◌≡◌, ◌≢◌, ℕ, suc, ◌+◌, ◌%◌, ◌<◌, ◌≤◌, ◌⊎◌, List, ◌++◌, length, take, Bool, Some, slice_index}
use mathlib.Core.Option.{none, some}
use mathlib.Core.List.{IsPrefix}
use lib.ListN.{get_elem?}
use Rattle.atomic_table.specs.Table.{State}
use Rattle.vmx_genring.specs.Rings.{generation}
use Rattle.vmx_ends.specs.Words.{bit}
use Rattle.vmx_ends.specs.declared.made.RxMade.{RxMade}
use Rattle.vmx_rx_ring.specs.declared.known.Buffer.{Buffer}
use Rattle.vmx_rx_ring.specs.declared.known.Entry.{Entry}
use Rattle.vmx_rx_ring.specs.declared.known.Known.{Known}
use Rattle.vmx_rx_ring.specs.Words.{count, slot, slot_of, flat}
use Rattle.vmx_rx_ring.specs.Rule.{Between, Story, Queue}
use Rattle.vmx_layout.specs.declared.TheConstants.{COMPLETION_GENERATION_BIT}

-- the completions that are published or staged
abbrev pub log_of : Story → List Entry
log_of y = flat y.made y.e.delivered ++ y.e.staged

-- how many completions the first so many delivered frames have, and all of them
abbrev pub completions_of : Story → ℕ → ℕ
completions_of y frames = length (flat y.made (take frames y.e.delivered))

abbrev pub published : Story → ℕ
published y = length (flat y.made y.e.delivered)

-- a look at the word finds the completion at this position visible: the word that counts is above it, or the second word of its place has its generation
abbrev pub IsVisible : Bool → RxMade → List ℕ → ℕ → Type 0
IsVisible true m words p = p < slice_index words (count m + count m + count m + count m)
IsVisible false m words p = bit COMPLETION_GENERATION_BIT (slice_index words (count m + count m + p % count m)) ≡ generation (count m) p

-- the device fills the buffer of this slot: its descriptor is posted, and no completion names it
abbrev pub DeviceFills : Story → ℕ → Type 0
DeviceFills y k = (ring : ℕ) × (p : ℕ) × (y.e.filling ≡ Some (ring, p)) × (slot y.made ring p ≡ k) × Between y.e.gone1 y.e.gone2 ring p (y.made.size1 + y.d.back1) (y.made.size2 + y.d.back2)

-- the driver reads the buffer of this slot: its completion is published, and the next that is not read
abbrev pub DriverReads : Story → ℕ → Type 0
DriverReads y k = (x : Entry) × (y.d.reading ≡ true) × (get_elem? (log_of y) y.d.read ≡ some x) × (slot_of y.made x ≡ k) × (y.d.read < published y)

-- a buffer that is out of its slot is with one end, and never with both
abbrev pub OneOwner : Bool → Type 0
OneOwner counted = (s : State Buffer Known) (q : Queue counted s)
    → ((k : ℕ) → k < count q.story.made → get_elem? s.homes k ≡ some none → DeviceFills q.story k ⊎ DriverReads q.story k)
    × ((k j : ℕ) → DeviceFills q.story k → DriverReads q.story j → k ≢ j)

-- Of completions that are not read, in each ring a later one names a later position, and all are between what was posted back and what was posted. So no descriptor is completed twice for one post.
abbrev pub CompletedOnce : Bool → Type 0
CompletedOnce counted = (s : State Buffer Known) (q : Queue counted s) (i j : ℕ) (x y : Entry) → q.story.d.read ≤ i → i < j → get_elem? (log_of q.story) i ≡ some x → get_elem? (log_of q.story) j ≡ some y
    → Between q.story.d.back1 q.story.d.back2 x.ring x.position (q.story.made.size1 + q.story.d.back1) (q.story.made.size2 + q.story.d.back2)
    × (x.ring ≡ y.ring → x.position < y.position)

-- Each completion of a delivered frame that is not read is visible, and the one behind those of all delivered frames is not: a frame that is being delivered shows none, since completions are looked at in order.
abbrev pub VisibleAllOrNone : Bool → Type 0
VisibleAllOrNone counted = (s : State Buffer Known) (q : Queue counted s)
    → ((frame p : ℕ) → frame < length q.story.e.delivered → completions_of q.story frame ≤ p → p < completions_of q.story (suc frame) → q.story.d.read ≤ p → IsVisible counted q.story.made s.words p)
    × (¬ (IsVisible counted q.story.made s.words (published q.story)))

-- published completions are at most those that were read and the size of their ring
abbrev pub NeverOverrun : Bool → Type 0
NeverOverrun counted = (s : State Buffer Known) (q : Queue counted s) → published q.story ≤ q.story.d.read + count q.story.made

-- the received frames begin the delivered ones
abbrev pub ReceivedBegins : Bool → Type 0
ReceivedBegins counted = (s : State Buffer Known) (q : Queue counted s) → IsPrefix q.story.d.received q.story.e.delivered
