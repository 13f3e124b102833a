-- What each call of a receive queue's ends answers and does to what contracts see.
use Rattle.std.specs.Prelude.{ℕ, Bool, suc, ◌+◌, ◌≡◌, ◌<◌, ◌≤◌, ◌⊎◌, List, [], ◌∷◌, ◌++◌, length, true, false, if◌then◌else◌, nat_lt, Option, Some, None, All}
use mathlib.Core.List.{IsPrefix}
use Rattle.vmx_io.specs.declared.buffer.TheConstants.{MAX_FRAME}
use Rattle.vmx_layout.specs.declared.TheConstants.{RX_DESC_GENERATION_BIT, COMPLETION_GENERATION_BIT}
use Rattle.vmx_layout.specs.declared.addresses.TheConstants.{MAX_RING_SIZE}
use Rattle.vmx_ends.specs.declared.limits.TheConstants.{MAX_DESCRIPTORS, HEAD_SIZE, BODY_SIZE}
use Rattle.vmx_ends.specs.Words.{IsMissed}
use Rattle.vmx_ends.specs.RxFaults.{desc_fault}
use Rattle.vmx_ends.specs.Frames.{IsFrame, IsComparable, longer}
use Rattle.vmx_ends.specs.Receive.{RxDeviceView, RxDriverView, RxNoteView, RxView, is_body, used, took1, took2, pieces_of, posted1, posted2, consumed1, consumed2}
use Rattle.vmx_ends.specs.Walk.{Stand, at_head, walk, pieces, AreBodies, IsHead}
use Rattle.vmx_ends.specs.declared.made.RxMade.{RxMade}
use Rattle.vmx_ends.specs.declared.made.RxShape.{RxShape}
use Rattle.vmx_ends.specs.declared.packet.QueueName.{QueueName}
use Rattle.vmx_ends.specs.declared.made.Bodies.TheVariants.{Every}
use Rattle.vmx_ends.specs.declared.meta.RxMeta.{RxMeta}
use Rattle.vmx_ends.specs.declared.answers.EndFault.{EndFault}
use Rattle.vmx_ends.specs.declared.answers.Deliver.{Deliver}
use Rattle.vmx_ends.specs.declared.answers.Deliver.TheVariants.{Done, NoBuffer, Bad}
use Rattle.vmx_ends.specs.declared.answers.Receive.{Receive}
use Rattle.vmx_ends.specs.declared.answers.Receive.TheVariants.{Frame, NotYet}

-- a look at a ring for a piece: no note told its position as posted, and over a queue made full it is not below the size
abbrev pub IsLook1 : RxDeviceView → ℕ × ℕ → Type 0
IsLook1 v look = IsMissed RX_DESC_GENERATION_BIT v.made.size1 look.0 look.1 × (posted1 v.made v.heard ≤ look.0)

abbrev pub IsLook2 : RxDeviceView → ℕ × ℕ → Type 0
IsLook2 v look = IsMissed RX_DESC_GENERATION_BIT v.made.size2 look.0 look.1 × (posted2 v.made v.heard ≤ look.0)

-- a frame is delivered: its head is the first of ring 1, and its further pieces are the walk's
pub record DeliversFrame (old : RxDeviceView) (frame : List ℕ) (meta : RxMeta) (new : RxDeviceView) : Type 0 where
  pub fine : old.bad ≡ None
  pub passed : ℕ
  pub found : List (Option ℕ)
  pub as_many : suc (length found) ≡ pieces (length frame)
  pub head : IsHead old.made (consumed1 old) (consumed1 old + passed)
  pub end : Stand
  pub walked : end ≡ walk old.made (at_head (consumed1 old + passed) (consumed2 old)) found
  pub few : old.given ≡ false → passed + length end.chain ≤ MAX_DESCRIPTORS
  pub looked : All (IsLook1 old) end.looks
  pub was : (old.seen1 ≤ new.seen1) × (old.seen2 ≤ new.seen2)
  pub seen : (end.next1 ≤ new.seen1) × (end.next2 ≤ new.seen2)
  pub is : new ≡ record old {
    delivered = old.delivered ++ record { frame = frame; meta = meta; passed = passed; chain = end.chain } ∷ [];
    looks = old.looks ++ end.looks;
    seen1 = new.seen1;
    seen2 = new.seen2;
  }

-- the search for a head missed the position of ring 1
pub record MissesHead (old : RxDeviceView) (position word : ℕ) (new : RxDeviceView) : Type 0 where
  pub bodies : AreBodies old.made (consumed1 old) position
  pub missed : IsLook1 old (position, word)
  pub seen : position ≤ new.seen1

-- a further piece missed the position of ring 2: it is the walk's last
pub record MissesBody (old : RxDeviceView) (bytes position word : ℕ) (looks : List (ℕ × ℕ)) (new : RxDeviceView) : Type 0 where
  pub passed : ℕ
  pub found : List (Option ℕ)
  pub not_all : length found < pieces bytes
  pub head : IsHead old.made (consumed1 old) (consumed1 old + passed)
  pub end : Stand
  pub walked : end ≡ walk old.made (at_head (consumed1 old + passed) (consumed2 old)) found
  pub needed : (front : List (ℕ × ℕ)) × (end.chain ≡ front ++ (2, position) ∷ [])
  pub looks_are : looks ≡ end.looks
  pub looked : All (IsLook1 old) looks
  pub missed : IsLook2 old (position, word)
  pub seen : (end.next1 ≤ new.seen1) × (position ≤ new.seen2)

-- a frame is refused at a descriptor that the walk needed and a look found the driver's; nothing is consumed
pub record Refuses (old : RxDeviceView) (bytes ring position word look : ℕ) (new : RxDeviceView) : Type 0 where
  pub fine : old.bad ≡ None
  pub looks : List (ℕ × ℕ)
  pub where_ : ((ring ≡ 1) × (looks ≡ []) × MissesHead old position word new) ⊎ ((ring ≡ 2) × MissesBody old bytes position word looks new)
  pub number : look ≡ length old.refused
  pub was : (old.seen1 ≤ new.seen1) × (old.seen2 ≤ new.seen2)
  pub is : new ≡ record old { refused = old.refused ++ (ring, position, word) ∷ []; looks = old.looks ++ looks; seen1 = new.seen1; seen2 = new.seen2 }

abbrev pub ring_size : RxMade → ℕ → ℕ
ring_size m ring = if nat_lt ring 2 then m.size1 else m.size2

-- the bytes that a descriptor's buffer must have: 2,048 for a HEAD of ring 1, and else 4,096
abbrev pub wanted : RxMade → ℕ → ℕ → ℕ
wanted m ring position = if nat_lt ring 2 then (if is_body m position then BODY_SIZE else HEAD_SIZE) else BODY_SIZE

-- where the pieces of a frame with its head at a position begin in a ring
abbrev pub begins_at : RxDeviceView → ℕ → ℕ → ℕ
begins_at v head ring = if nat_lt ring 2 then head else consumed2 v

-- The given words of a descriptor of a frame's pieces show the fault, and nothing is consumed and no look made: the end answers so from now on. Nothing is posted back, so each position is its index.
pub record ShowsFault (old : RxDeviceView) (words : List ℕ) (fault : EndFault) (new : RxDeviceView) : Type 0 where
  pub given : old.given ≡ true
  pub same : (old.bad ≡ None) ⊎ (old.bad ≡ Some (words, fault))
  pub head : ℕ
  pub head_is : IsHead old.made (consumed1 old) head
  pub ring : ℕ
  pub ring_is : (ring ≡ 1) ⊎ (ring ≡ 2)
  pub position : ℕ
  pub behind : begins_at old head ring ≤ position
  pub near : position < begins_at old head ring + pieces MAX_FRAME
  pub within : position < ring_size old.made ring
  pub tells : desc_fault old.made.name.queue ring position (wanted old.made ring position) words ≡ Some fault
  pub is : new ≡ record old { bad = Some (words, fault) }

abbrev pub Delivers : RxDeviceView → List ℕ → RxMeta → Deliver → RxDeviceView → Type 0
Delivers old frame meta (Done place) new = (place ≡ length old.delivered) × DeliversFrame old frame meta new
Delivers old frame meta (NoBuffer ring position word look) new = Refuses old (length frame) ring position word look new
Delivers old frame meta (Bad words fault) new = ShowsFault old words fault new

-- the next delivered frame is received, and its buffers are posted back with those passed over before it
pub record ReceivesFrame (old : RxDriverView) (into : List ℕ) (place : ℕ) (meta : RxMeta) (count : ℕ) (new : RxDriverView) : Type 0 where
  pub place_is : place ≡ length old.received
  pub frame : IsFrame into
  pub passed : ℕ
  pub chain : List (ℕ × ℕ)
  pub count_is : count ≡ passed + length chain
  pub few : old.made.full ≡ true → passed + length chain ≤ MAX_DESCRIPTORS
  pub is : new ≡ record old { received = old.received ++ record { frame = into; meta = meta; passed = passed; chain = chain } ∷ [] }
  pub comparable : IsComparable new.received new.heard

-- a look found no completion, at a position that no note told
pub record FindsNone (old : RxDriverView) (word : ℕ) (new : RxDriverView) : Type 0 where
  pub missed : IsMissed COMPLETION_GENERATION_BIT (old.made.size1 + old.made.size2) (used pieces_of old.received) word
  pub unheard : length old.heard ≤ length old.received
  pub is : new ≡ record old { looks = old.looks ++ (used pieces_of old.received, word) ∷ [] }

abbrev pub Receives : RxDriverView → List ℕ → Receive → RxDriverView → Type 0
Receives old into (Frame place meta count) new = ReceivesFrame old into place meta count new
Receives old into (NotYet word) new = (into ≡ []) × FindsNone old word new

-- how much a call adds at most, whatever it answers: where a driver stands behind the words at most 16 positions, and over given words nothing is posted back
pub record GrowsDelivered (old new : RxDeviceView) : Type 0 where
  pub delivered : length new.delivered ≤ length old.delivered + 1
  pub refused : length new.refused ≤ length old.refused + 1
  pub positions : old.given ≡ false → (consumed1 new ≤ consumed1 old + MAX_DESCRIPTORS) × (consumed2 new ≤ consumed2 old + MAX_DESCRIPTORS)
  pub within : old.given ≡ true → (consumed1 new ≤ MAX_RING_SIZE) × (consumed2 new ≤ MAX_RING_SIZE)

pub record GrowsReceived (old new : RxDriverView) : Type 0 where
  pub received : length new.received ≤ length old.received + 1
  pub looks : length new.looks ≤ length old.looks + 1
  pub positions : old.made.full ≡ true → used pieces_of new.received ≤ used pieces_of old.received + MAX_DESCRIPTORS

-- what an end that no driver stands behind is made with, as a note of no table shows it
abbrev pub no_made : RxMade
no_made = record { name = record { guest = 0; activation = 0; queue = 0 }; queues = 0; size1 = 0; size2 = 0; bodies = Every 0; with_data = false; full = false }

-- what the notes of the two ends tell
abbrev pub device_note : RxDeviceView → RxNoteView
device_note v = record { key = v.key; made = v.made; of_driver = false; frames = v.delivered; seen1 = v.seen1; seen2 = v.seen2 }

abbrev pub driver_note : RxDriverView → RxNoteView
driver_note v = record { key = v.key; made = v.made; of_driver = true; frames = v.received; seen1 = 0; seen2 = 0 }

-- the note of an end over given words: of no table, so it fits no end, and it tells nothing
abbrev pub no_note : RxNoteView
no_note = record { key = []; made = no_made; of_driver = false; frames = []; seen1 = 0; seen2 = 0 }

-- a note of the device: over given words it tells nothing, and the end stays as it was
abbrev pub NotesDevice : RxDeviceView → RxNoteView → RxDeviceView → Type 0
NotesDevice old note new =
    (old.given ≡ false → (note ≡ device_note old) × (new ≡ record old { notes_given = suc old.notes_given }))
    × (old.given ≡ true → (note ≡ no_note) × (new ≡ old))

-- The device hears a note of the driver, which no end over given words does: what that had received begins what this has delivered.
pub record DeviceHears (old : RxDeviceView) (note : RxNoteView) (new : RxDeviceView) : Type 0 where
  pub fine : old.given ≡ false
  pub is : new ≡ record old { heard = longer old.heard note.frames; notes_heard = suc old.notes_heard }
  pub made_is : note.made ≡ old.made
  pub received : IsPrefix note.frames old.delivered
  pub within : IsPrefix new.heard old.delivered
  pub heard : length note.frames ≤ length new.heard

-- The driver hears a note of the device: of that one's delivered list and this one's received list one begins the other, and that one used and knew no more positions than this one has posted.
pub record DriverHears (old : RxDriverView) (note : RxNoteView) (new : RxDriverView) : Type 0 where
  pub is : new ≡ record old { heard = longer old.heard note.frames; notes_heard = suc old.notes_heard }
  pub made_is : note.made ≡ old.made
  pub delivered : IsComparable note.frames old.received
  pub comparable : IsComparable new.heard old.received
  pub heard : length note.frames ≤ length new.heard
  pub consumed : (used took1 note.frames ≤ posted1 old.made old.received) × (used took2 note.frames ≤ posted2 old.made old.received)
  pub seen : (note.seen1 ≤ posted1 old.made old.received) × (note.seen2 ≤ posted2 old.made old.received)

-- what is left of the two ends when they have met
abbrev pub facts_of : RxDriverView → RxDeviceView → RxView
facts_of d e = record { key = d.key; made = d.made; delivered = e.delivered; received = d.received; refused = e.refused }

-- what a refused look shows: a word whose bit 31 is not the position's generation and, over a queue made full, a position not below the ring's size
abbrev pub IsRefusal : RxMade → ℕ × ℕ × ℕ → Type 0
IsRefusal m look = IsMissed RX_DESC_GENERATION_BIT (ring_size m look.0) look.1 look.2 × (m.full ≡ true → ring_size m look.0 ≤ look.1)

-- the numbers of a receive queue in order
pub record IsOrdered (f : RxView) : Type 0 where
  pub received : IsPrefix f.received f.delivered
  pub within1 : used took1 f.delivered ≤ posted1 f.made f.received
  pub within2 : used took2 f.delivered ≤ posted2 f.made f.received
  pub refused : All (IsRefusal f.made) f.refused

-- what a queue that is made full is made with
abbrev pub made_rx : QueueName → ℕ → ℕ → ℕ → ℕ → Bool → RxMade
made_rx name size1 size2 bodies queues with_data = record { name = name; queues = queues; size1 = size1; size2 = size2; bodies = Every bodies; with_data = with_data; full = true }

-- the same of a shape
abbrev pub made_of : RxShape → RxMade
made_of s = record { name = s.name; queues = s.queues; size1 = s.size1; size2 = s.size2; bodies = Every s.bodies; with_data = s.with_data; full = true }

-- the two ends that a maker gives
abbrev pub new_driver : List ℕ → RxMade → RxDriverView
new_driver key made = record { key = key; made = made; received = []; looks = []; heard = []; notes_given = 0; notes_heard = 0 }

abbrev pub new_device : List ℕ → RxMade → RxDeviceView
new_device key made = record {
  key = key;
  made = made;
  delivered = [];
  refused = [];
  looks = [];
  seen1 = posted1 made [];
  seen2 = posted2 made [];
  heard = [];
  given = false;
  bad = None;
  notes_given = 0;
  notes_heard = 0;
}

abbrev pub AreNew : RxMade → RxDriverView → RxDeviceView → Type 0
AreNew made d e = (d ≡ new_driver e.key made) × (e ≡ new_device e.key made)

-- each end heard as many notes as it gave
abbrev pub AreEven : RxDriverView → RxDeviceView → Type 0
AreEven d e = (d.notes_given ≡ d.notes_heard) × (e.notes_given ≡ e.notes_heard)
