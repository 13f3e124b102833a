-- What each call of a transmit queue's ends answers and does to what contracts see.
use Rattle.std.specs.Prelude.{ℕ, suc, ◌+◌, ◌%◌, ◌≡◌, ◌<◌, ◌≤◌, ◌⊎◌, List, [], ◌∷◌, ◌++◌, length, take, true, false, Some, None}
use mathlib.Core.List.{IsPrefix}
use mathlib.Core.Option.{some}
use lib.ListN.{get_elem?}
use Rattle.vmx_layout.specs.declared.TheConstants.{TX_DESC_GENERATION_BIT, COMPLETION_GENERATION_BIT}
use Rattle.vmx_ends.specs.declared.limits.TheConstants.{MAX_DESCRIPTORS}
use Rattle.vmx_ends.specs.Words.{IsMissed}
use Rattle.vmx_ends.specs.TxFaults.{Tells}
use Rattle.vmx_ends.specs.Frames.{IsMarked, IsComparable, longer, larger, sent_as, sent_of}
use Rattle.vmx_ends.specs.Transmit.{TxDriverView, TxDeviceView, TxNoteView, TxView, need, descriptors, found_in, posted, used}
use Rattle.vmx_ends.specs.declared.meta.TxMark.{TxMark}
use Rattle.vmx_ends.specs.declared.frames.Sent.{Sent}
use Rattle.vmx_ends.specs.declared.made.TxMade.{TxMade}
use Rattle.vmx_ends.specs.declared.answers.EndFault.{EndFault}
use Rattle.vmx_ends.specs.declared.answers.Post.{Post}
use Rattle.vmx_ends.specs.declared.answers.Post.TheVariants.{Done as Posted_, Full}
use Rattle.vmx_ends.specs.declared.answers.Reap.{Reap}
use Rattle.vmx_ends.specs.declared.answers.Reap.TheVariants.{Done as Reaped_, NotYet}
use Rattle.vmx_ends.specs.declared.answers.Take.{Take}
use Rattle.vmx_ends.specs.declared.answers.Take.TheVariants.{Frame, Empty, Bad}

-- a frame goes last in the sent list, where its descriptors fit into the ring
abbrev pub Posts : TxDriverView → List ℕ → TxMark → Post → TxDriverView → Type 0
Posts old frame mark (Posted_ place) new =
    (place ≡ length old.sent) × (used old + need old.made (length frame) ≤ old.made.size)
    × (new ≡ record old { sent = old.sent ++ sent_as frame mark ∷ [] })
Posts old frame mark (Full in_use needed) new =
    (in_use ≡ used old) × (needed ≡ need old.made (length frame)) × (old.made.size < in_use + needed) × (new ≡ old)

-- the next completed frame's descriptors come back, or a look found no completion at a position that no note told
abbrev pub Reaps : TxDriverView → Reap → TxDriverView → Type 0
Reaps old (Reaped_ place count) new =
    (place ≡ old.reaped) × (frame : Sent) × (get_elem? old.sent place ≡ some frame) × (count ≡ need old.made (length frame.frame))
    × (new ≡ record old { reaped = suc old.reaped })
Reaps old (NotYet word) new =
    (new ≡ record old { looks = old.looks ++ (old.reaped, word) ∷ [] }) × IsMissed COMPLETION_GENERATION_BIT old.made.size old.reaped word × (old.heard ≤ old.reaped)

-- the next sent frame is taken
pub record TakesFrame (old : TxDeviceView) (into : List ℕ) (place : ℕ) (mark : TxMark) (new : TxDeviceView) : Type 0 where
  pub fine : old.bad ≡ None
  pub place_is : place ≡ length old.taken
  pub frame : IsMarked into mark
  pub count : ℕ
  pub exact : old.given ≡ false → count ≡ need old.made (length into)
  pub few : count ≤ MAX_DESCRIPTORS
  pub is : new ≡ record old { taken = old.taken ++ record { sent = sent_as into mark; descriptors = count } ∷ [] }
  pub comparable : IsComparable (sent_of new.taken) new.heard

-- a look found no descriptor. Where a driver stands behind the words, it is the one behind the last frame taken.
pub record FindsNone (old : TxDeviceView) (word : ℕ) (new : TxDeviceView) : Type 0 where
  pub fine : old.bad ≡ None
  pub position : ℕ
  pub behind : found_in old.taken ≤ position
  pub exact : old.given ≡ false → position ≡ found_in old.taken
  pub missed : IsMissed TX_DESC_GENERATION_BIT old.made.size position word
  pub unheard : length old.heard ≤ length old.taken
  pub is : new ≡ record old { looks = old.looks ++ (position, word) ∷ [] }

-- The given words of a descriptor of the next frame show the fault, and no look is made: the end answers so from now on.
pub record ShowsFault (old : TxDeviceView) (words : List ℕ) (fault : EndFault) (new : TxDeviceView) : Type 0 where
  pub given : old.given ≡ true
  pub same : (old.bad ≡ None) ⊎ (old.bad ≡ Some (words, fault))
  pub position : ℕ
  pub behind : found_in old.taken ≤ position
  pub near : position < found_in old.taken + MAX_DESCRIPTORS
  pub tells : Tells old.made.name.queue (position % old.made.size) words fault
  pub is : new ≡ record old { bad = Some (words, fault) }

abbrev pub Takes : TxDeviceView → List ℕ → Take → TxDeviceView → Type 0
Takes old into (Frame place mark) new = TakesFrame old into place mark new
Takes old into (Empty word) new = (into ≡ []) × FindsNone old word new
Takes old into (Bad words fault) new = (into ≡ []) × ShowsFault old words fault new

abbrev pub Completes : TxDeviceView → TxDeviceView → Type 0
Completes old new = new ≡ record old { completed = suc old.completed }

-- how much a call adds at most, whatever it answers
abbrev pub GrowsPosted : TxDriverView → TxDriverView → Type 0
GrowsPosted old new = (length new.sent ≤ length old.sent + 1) × (posted new ≤ posted old + MAX_DESCRIPTORS)

abbrev pub GrowsReaped : TxDriverView → TxDriverView → Type 0
GrowsReaped old new = (new.reaped ≤ old.reaped + 1) × (length new.looks ≤ length old.looks + 1)

-- a frame has at most 16 descriptors; over given words nothing is posted back
abbrev pub GrowsTaken : TxDeviceView → TxDeviceView → Type 0
GrowsTaken old new =
    (length new.taken ≤ length old.taken + 1) × (found_in new.taken ≤ found_in old.taken + MAX_DESCRIPTORS)
    × (old.given ≡ true → found_in new.taken ≤ old.made.size)

-- what an end that no driver stands behind is made with, as a note of no table shows it
abbrev pub no_made : TxMade
no_made = record { name = record { guest = 0; activation = 0; queue = 0 }; size = 0; piece = 0; with_data = false; full = false }

-- what the notes of the two ends tell
abbrev pub driver_note : TxDriverView → TxNoteView
driver_note v = record { key = v.key; made = v.made; of_driver = true; frames = v.sent; done = v.reaped }

abbrev pub device_note : TxDeviceView → TxNoteView
device_note v = record { key = v.key; made = v.made; of_driver = false; frames = sent_of v.taken; done = v.completed }

-- the note of an end over given words: of no table, so it fits no end, and it tells nothing
abbrev pub no_note : TxNoteView
no_note = record { key = []; made = no_made; of_driver = false; frames = []; done = 0 }

-- a note of the device: over given words it tells nothing, and the end stays as it was
abbrev pub NotesDevice : TxDeviceView → TxNoteView → TxDeviceView → Type 0
NotesDevice old note new =
    (old.given ≡ false → (note ≡ device_note old) × (new ≡ record old { notes_given = suc old.notes_given }))
    × (old.given ≡ true → (note ≡ no_note) × (new ≡ old))

-- The driver hears a note of the device: what that had taken begins what this has sent, and it completed no more.
pub record DriverHears (old : TxDriverView) (note : TxNoteView) (new : TxDriverView) : Type 0 where
  pub is : new ≡ record old { heard = larger old.heard note.done; notes_heard = suc old.notes_heard }
  pub made_is : note.made ≡ old.made
  pub taken : IsPrefix note.frames old.sent
  pub done : note.done ≤ length old.sent
  pub heard : note.done ≤ new.heard

-- The device hears a note of the driver, which no end over given words does: what that had reaped is completed, and its sent list begins this taken list or begins with it.
pub record DeviceHears (old : TxDeviceView) (note : TxNoteView) (new : TxDeviceView) : Type 0 where
  pub fine : old.given ≡ false
  pub is : new ≡ record old { heard = longer old.heard note.frames; notes_heard = suc old.notes_heard }
  pub made_is : note.made ≡ old.made
  pub done : note.done ≤ old.completed
  pub sent : IsComparable note.frames (sent_of old.taken)
  pub comparable : IsComparable (sent_of new.taken) new.heard
  pub heard : length note.frames ≤ length new.heard

-- what is left of the two ends when they have met
abbrev pub facts_of : TxDriverView → TxDeviceView → TxView
facts_of d e = record { key = d.key; made = d.made; sent = d.sent; taken = e.taken; completed = e.completed; reaped = d.reaped }

-- the numbers of a transmit queue in order
pub record IsOrdered (f : TxView) : Type 0 where
  pub taken : IsPrefix (sent_of f.taken) f.sent
  pub reaped : f.reaped ≤ f.completed
  pub completed : f.completed ≤ length f.taken
  pub within : descriptors f.made f.sent ≤ descriptors f.made (take f.reaped f.sent) + f.made.size

-- the two ends that a maker gives
abbrev pub new_driver : List ℕ → TxMade → TxDriverView
new_driver key made = record { key = key; made = made; sent = []; reaped = 0; looks = []; heard = 0; notes_given = 0; notes_heard = 0 }

abbrev pub new_device : List ℕ → TxMade → TxDeviceView
new_device key made = record { key = key; made = made; taken = []; completed = 0; looks = []; heard = []; given = false; bad = None; notes_given = 0; notes_heard = 0 }

abbrev pub AreNew : TxMade → TxDriverView → TxDeviceView → Type 0
AreNew made d e = (d ≡ new_driver e.key made) × (e ≡ new_device e.key made)

-- no frame is taken and not completed
abbrev pub IsIdle : TxDeviceView → Type 0
IsIdle v = v.completed ≡ length v.taken

-- each end heard as many notes as it gave
abbrev pub AreEven : TxDriverView → TxDeviceView → Type 0
AreEven d e = (d.notes_given ≡ d.notes_heard) × (e.notes_given ≡ e.notes_heard)
