-- The rule of a transmit ring's table. With s descriptors, its words are the second words of the descriptors, their first words, and those that tell completions. Slot i has buffer i with its data entry.
use Rattle.std.specs.Prelude.{◌≡◌, ◌≢◌, ℕ, suc, ◌+◌, ◌%◌, ◌<◌, ◌≤◌, List, [], ◌∷◌, ◌++◌, length, take, drop, Bool, true, false, All, replicate}
use mathlib.Core.Option.{some}
use mathlib.Core.Option as maybe
use mathlib.Core.List.{IsPrefix}
use lib.ListN.{get_elem?}
use Rattle.atomic_table.specs.Table.{State}
use Rattle.vmx_ring_laws.specs.Views.{total}
use Rattle.vmx_ring_laws.specs.Views as seats
use Rattle.vmx_layout.specs.declared.TheConstants.{TX_DESC_GENERATION_BIT}
use Rattle.vmx_genring.specs.Rings.{StandFor}
use Rattle.vmx_ends.specs.declared.limits.TheConstants.{MAX_TAGLESS_FRAME}
use Rattle.vmx_ends.specs.declared.made.TxMade.{TxMade}
use Rattle.vmx_ends.specs.declared.frames.Sent.{Sent}
use Rattle.vmx_ends.specs.Frames.{IsFrame, IsSome, sent_of}
use Rattle.vmx_ends.specs.Transmit.{descriptors, found_in}
use Rattle.vmx_tx_ring.specs.declared.known.TxPiece.{TxPiece}
use Rattle.vmx_tx_ring.specs.declared.known.TxBuffer.{TxBuffer}
use Rattle.vmx_tx_ring.specs.declared.known.TxDriverAt.{TxDriverAt}
use Rattle.vmx_tx_ring.specs.declared.known.TxDeviceAt.{TxDeviceAt}
use Rattle.vmx_tx_ring.specs.declared.known.TxDriverKnows.{TxDriverKnows}
use Rattle.vmx_tx_ring.specs.declared.known.TxDeviceKnows.{TxDeviceKnows}
use Rattle.vmx_tx_ring.specs.declared.known.TxKnown.{TxKnown}
use Rattle.vmx_tx_ring.specs.Pieces.{pieces, descriptor_ring, Shows, TagFits}

abbrev pub one_if : Bool → ℕ
one_if true = 1
one_if false = 0

-- a slot's buffer is at home
abbrev pub AtHome : List (maybe.Option TxBuffer) → ℕ → Type 0
AtHome homes i = (b : TxBuffer) × (get_elem? homes i ≡ some (some b))

-- How the words behind the descriptors tell which frames are completed: by the queue, the frames sent, those completed, whether one more is begun, and those reaped.
abbrev pub Telling : Type 1
Telling = TxMade → List Sent → ℕ → Bool → ℕ → List ℕ → Type 0

-- what is told stays as it is when a further frame is sent
abbrev pub IsStable : Telling → Type 0
IsStable Told = (m : TxMade) (sent : List Sent) (s : Sent) (completed : ℕ) (closing : Bool) (reaped : ℕ) (words : List ℕ) → completed ≤ length sent → (closing ≡ true → completed < length sent)
    → Told m sent completed closing reaped words → Told m (sent ++ s ∷ []) completed closing reaped words

-- so many zeros tell that none is completed
abbrev pub Begins : Telling → (ℕ → ℕ) → Type 0
Begins Told count = (m : TxMade) → 0 < m.size → Told m [] 0 false 0 (replicate (count m.size) 0)

-- the position behind all pieces that are published or staged, and the first one that is not given back
abbrev pub next_of : TxMade → TxDriverAt → ℕ
next_of m d = length (pieces m d.sent ++ d.staged)

abbrev pub returned_of : TxMade → TxDriverAt → ℕ
returned_of m d = descriptors m (take d.reaped d.sent)

-- the words stand for what the ring of descriptors holds, and tell what is completed
pub record Words (Told : Telling) (m : TxMade) (d : TxDriverAt) (e : TxDeviceAt) (words : List ℕ) : Type 0 where
  pub firsts : List ℕ
  pub seconds : List ℕ
  pub others : List ℕ
  pub are : words ≡ seconds ++ (firsts ++ others)
  pub stand : StandFor m.size TX_DESC_GENERATION_BIT firsts seconds (descriptor_ring m d.sent d.staged d.opened d.reaped)
  pub told : Told m d.sent e.completed e.closing d.reaped others

-- a mark that a descriptor can tell, and a frame that is no longer than it may be with it
abbrev pub HasLawfulMark : Sent → Type 0
HasLawfulMark s = (IsSome s.mark.tci → length s.frame ≤ MAX_TAGLESS_FRAME) × TagFits s.mark.tci

-- the numbers of the two ends in order
pub record Core (m : TxMade) (d : TxDriverAt) (e : TxDeviceAt) : Type 0 where
  pub some_slot : 0 < m.size
  pub full : m.full ≡ true
  pub piece : 0 < m.piece
  pub reaped_first : d.reaped + one_if d.checking ≤ e.completed
  pub completed_first : e.completed ≤ length e.taken
  pub one_ahead : length e.taken ≤ suc e.completed
  pub taken_first : length e.taken ≤ length d.sent
  pub taken_is : sent_of e.taken ≡ take (length e.taken) d.sent
  pub exact : found_in e.taken ≡ descriptors m (sent_of e.taken)
  pub frames : All (λ s. IsFrame s.frame) d.sent
  pub marks : All HasLawfulMark d.sent
  -- the pieces of the taken frame that are not read; where there are some, it is not completed
  pub read_is : e.read + one_if e.emptying + length e.ahead ≡ found_in e.taken
  pub ahead_is : drop (e.read + one_if e.emptying) (pieces m d.sent) ≡ e.ahead ++ pieces m (drop (length e.taken) d.sent)
  -- the piece whose buffer is out
  pub hand_is : e.emptying ≡ true → get_elem? (pieces m d.sent) e.read ≡ some e.at_hand
  pub begun : descriptors m (take e.completed d.sent) ≤ e.read
  pub closing_taken : e.closing ≡ true → e.completed < length e.taken

-- Each buffer is at home but the one that the driver fills and the one that the device empties. That of a piece that is published or staged, and not given back, begins with its bytes, in its data entry where the piece lies there.
pub record Slots (m : TxMade) (d : TxDriverAt) (e : TxDeviceAt) (homes : List (maybe.Option TxBuffer)) : Type 0 where
  pub as_many : length homes ≡ m.size
  pub at_home : (i : ℕ) → i < m.size → (d.opened ≡ true → i ≢ next_of m d % m.size) → (e.emptying ≡ true → i ≢ e.read % m.size) → AtHome homes i
  pub shows : (p : ℕ) (x : TxPiece) → returned_of m d ≤ p → get_elem? (pieces m d.sent ++ d.staged) p ≡ some x → (p ≡ e.read → e.emptying ≡ false)
      → (b : TxBuffer) × (get_elem? homes (p % m.size) ≡ some (some b)) × Shows x b

pub record Ring (Told : Telling) (m : TxMade) (d : TxDriverAt) (e : TxDeviceAt) (words : List ℕ) (homes : List (maybe.Option TxBuffer)) : Type 0 where
  pub words_are : Words Told m d e words
  pub core : Core m d e
  pub slots : Slots m d e homes

-- all that was done, and by which seats
pub record Story : Type 0 where
  pub made : TxMade
  pub driver_seat : ℕ
  pub device_seat : ℕ
  pub d : TxDriverKnows
  pub e : TxDeviceKnows

-- what a seat knows is so
pub record Fits (y : Story) (seat : ℕ) (v : TxKnown) : Type 0 where
  pub driver's : v.drives ≡ true → (seat ≡ y.driver_seat) × (v.made ≡ y.made) × (v.news.made ≡ y.made) × (v.driver ≡ y.d)
  pub device's : v.serves ≡ true → (seat ≡ y.device_seat) × (v.made ≡ y.made) × (v.news.made ≡ y.made) × (v.device ≡ y.e)
  pub frames : IsPrefix v.news.frames y.d.at.sent
  pub done : v.news.done ≤ y.e.at.completed
  pub note : (v.of_driver ≡ true → v.news.made ≡ y.made) × (v.of_device ≡ true → v.news.made ≡ y.made)

-- a view that is a note which was not heard
abbrev pub by_driver : TxKnown → ℕ
by_driver v = one_if v.of_driver

abbrev pub by_device : TxKnown → ℕ
by_device v = one_if v.of_device

pub record Kept (Told : Telling) (y : Story) (s : State TxBuffer TxKnown) : Type 0 where
  pub ring : Ring Told y.made y.d.at y.e.at s.words s.homes
  -- what the ends heard of each other
  pub driver_heard : y.d.heard ≤ y.e.at.completed
  pub device_heard : IsPrefix y.e.heard y.d.at.sent
  pub each : seats.All (Fits y) s.views
  -- each note that was given is out, or was heard
  pub driver_notes : total by_driver s.views + y.e.notes_heard ≡ y.d.notes_given
  pub device_notes : total by_device s.views + y.d.notes_heard ≡ y.e.notes_given

-- the rule
pub record Queue (Told : Telling) (s : State TxBuffer TxKnown) : Type 0 where
  pub story : Story
  pub kept : Kept Told story s
