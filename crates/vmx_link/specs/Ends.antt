-- What a clause sees of the two ends of a link, of notes and of facts, and what each call does to it.
use Rattle.std.specs.Prelude.{◌≡◌, ℕ, suc, ◌+◌, ◌*◌, ◌/◌, ◌≤◌, List, [], ◌∷◌, ◌++◌, length, true, false}
use Rattle.vmx_ring_laws.specs.Keys.{key_of}
use Rattle.vmx_ring_laws.specs.Lists.{longer}
use Rattle.vmx_ends.specs.LinkView.{LinkView}
use Rattle.vmx_ends.specs.declared.packet.Packet.{Packet}
use Rattle.vmx_link.specs.declared.ends.LinkOut.{LinkOut}
use Rattle.vmx_link.specs.declared.ends.LinkIn.{LinkIn}
use Rattle.vmx_link.specs.declared.ends.LinkNote.{LinkNote}
use Rattle.vmx_link.specs.declared.ends.LinkFacts.{LinkFacts}
use Rattle.vmx_link.specs.declared.ends.Push.{Push}
use Rattle.vmx_link.specs.declared.ends.Push.TheVariants as push
use Rattle.vmx_link.specs.declared.ends.Pull.{Pull}
use Rattle.vmx_link.specs.declared.ends.Pull.TheVariants as pull
use Rattle.vmx_link.specs.Seats.{known}
use Rattle.vmx_link.specs.Views.{LinkOutView, LinkInView, LinkNoteView}

abbrev pub out_view : LinkOut → LinkOutView
out_view o = let v = o.seat.me.0 in record { key = key_of o.seat.table_id; capacity = o.seat.table_id.slots; from = o.from; to = o.to; pushed = v.pushed; full = v.full; freed = v.heard_pulled; notes_given = v.sender_gave; notes_heard = v.sender_heard }

abbrev pub in_view : LinkIn → LinkInView
in_view i = let v = i.seat.me.0 in record { key = key_of i.seat.table_id; capacity = i.seat.table_id.slots; from = i.from; to = i.to; pulled = v.pulled; empty = v.empty; filled = v.heard_pushed; notes_given = v.receiver_gave; notes_heard = v.receiver_heard }

abbrev pub note_view : LinkNote → LinkNoteView
note_view n = let v = n.seat.me.0 in record { key = key_of n.seat.table_id; of_sender = v.tells_pushed; pushed = v.heard_pushed; pulled = v.heard_pulled }

abbrev pub facts_view : LinkFacts → LinkView
facts_view f = let v = known f.badge.views in record { from = f.from; to = f.to; pushed = v.pushed; pulled = v.pulled; full = v.full }

abbrev pub facts_key : LinkFacts → List ℕ
facts_key f = key_of f.badge.table_id

-- a sender and a receiver that have done nothing yet
abbrev pub new_out : List ℕ → ℕ → ℕ → ℕ → LinkOutView
new_out key capacity from to = record { key = key; capacity = capacity; from = from; to = to; pushed = []; full = []; freed = []; notes_given = 0; notes_heard = 0 }

abbrev pub new_in : List ℕ → ℕ → ℕ → ℕ → LinkInView
new_in key capacity from to = record { key = key; capacity = capacity; from = from; to = to; pulled = []; empty = []; filled = []; notes_given = 0; notes_heard = 0 }

-- the two ends of a new link: they have one key
abbrev pub IsNewPair : ℕ → ℕ → ℕ → LinkOutView → LinkInView → Type 0
IsNewPair from to capacity o i = (o ≡ new_out i.key capacity from to) × (i ≡ new_in o.key capacity from to)

-- the packet is pushed last, or comes back and a look is added
abbrev pub Pushes : LinkOutView → Packet → Push → LinkOutView → Type 0
Pushes old x (push.Done place) new = (place ≡ length old.pushed) × (new ≡ record old { pushed = old.pushed ++ x ∷ [] })
Pushes old x (push.Full packet word look) new = (packet ≡ x) × (look ≡ length old.full) × (new ≡ record old { full = old.full ++ (length old.pushed, word) ∷ [] })

-- Full comes only where the word found is the one before the free one of this position, and never where a note told that the entry was freed
abbrev pub WasFull : LinkOutView → Push → Type 0
WasFull old (push.Done place) = Unit {0}
WasFull old (push.Full packet word look) = (word + 1 ≡ 2 * (length old.pushed / old.capacity)) × (length old.freed + old.capacity ≤ length old.pushed)

-- the packet is the one after those pulled, or a look is added
abbrev pub Pulls : LinkInView → Pull → LinkInView → Type 0
Pulls old (pull.Packet place x) new = (place ≡ length old.pulled) × (new ≡ record old { pulled = old.pulled ++ x ∷ [] })
Pulls old (pull.Empty word) new = new ≡ record old { empty = old.empty ++ (length old.pulled, word) ∷ [] }

-- Empty comes only where the word found is the free one of this position, and never where a note told that the packet was pushed
abbrev pub WasEmpty : LinkInView → Pull → Type 0
WasEmpty old (pull.Packet place x) = Unit {0}
WasEmpty old (pull.Empty word) = (word ≡ 2 * (length old.pulled / old.capacity)) × (length old.filled ≤ length old.pulled)

-- what a note of the sender tells, and one of the receiver
abbrev pub sender's_note : LinkOutView → LinkNoteView
sender's_note o = record { key = o.key; of_sender = true; pushed = o.pushed; pulled = o.freed }

abbrev pub receiver's_note : LinkInView → LinkNoteView
receiver's_note i = record { key = i.key; of_sender = false; pushed = i.filled; pulled = i.pulled }

-- the sender after it heard a note, and the receiver
abbrev pub out_after : LinkOutView → LinkNoteView → LinkOutView
out_after o n = record o { freed = longer o.freed n.pulled; notes_heard = suc o.notes_heard }

abbrev pub in_after : LinkInView → LinkNoteView → LinkInView
in_after i n = record i { filled = longer i.filled n.pushed; notes_heard = suc i.notes_heard }

-- what is known of a link whose ends have met
abbrev pub met_view : LinkOutView → LinkInView → LinkView
met_view o i = record { from = o.from; to = o.to; pushed = o.pushed; pulled = i.pulled; full = o.full }
