-- What a look at a link does to its view, and to a journal.
use Rattle.std.specs.Prelude.{◌≡◌, ◌≤◌, ◌<◌, ◌+◌, ◌*◌, ◌/◌, ℕ, List, [], ◌∷◌, ◌++◌, length, Some, slice_get, slice_set}
use Rattle.vmx_ends.specs.declared.packet.Packet.{Packet}
use Rattle.vmx_ends.specs.declared.packet.Tag.{Tag}
use Rattle.vmx_link.specs.Views.{LinkOutView, LinkInView}
use Rattle.vmx_model.specs.declared.journal.Entry.{Entry}
use Rattle.vmx_model.specs.declared.journal.Way.{Way}
use Rattle.vmx_model.specs.declared.journal.Entry.TheVariants as entry
use Rattle.vmx_model.specs.declared.journal.Way.TheVariants as way
use Rattle.vmx_device_looks.specs.Ports.{other}

-- the packet is pushed last, or a look that found the link full is added: by its word the entry was not freed, so as many packets as the link has entries were pushed before
abbrev pub Pushed : LinkOutView → Packet → Way → LinkOutView → Type 0
Pushed old x (way.Link place) new = (place ≡ length old.pushed) × (new ≡ record old { pushed = old.pushed ++ x ∷ [] })
Pushed old x (way.Full look) new = (look ≡ length old.full)
    × ((word : ℕ) × (word + 1 ≡ 2 * (length old.pushed / old.capacity)) × (length old.freed + old.capacity ≤ length old.pushed) × (new ≡ record old { full = old.full ++ (length old.pushed, word) ∷ [] }))

-- one packet with this tag and this frame was given to the link to a port
pub record SendsTo (port : ℕ) (tag : Tag) (frame : List ℕ) (to : ℕ) (w : Way) (old new : List LinkOutView) : Type 0 where
  pub number : ℕ
  pub target : to ≡ other port number
  pub link : LinkOutView
  pub at : slice_get old number ≡ Some link
  pub packet : Packet
  pub tagged : packet.tag ≡ tag
  pub holds : packet.frame ≡ frame
  pub after : LinkOutView
  pub pushed : Pushed link packet w after
  pub is : new ≡ slice_set old number after

-- to each of these ports in order, and an entry for each
abbrev pub PutsOut : ℕ → Tag → List ℕ → List ℕ → List Entry → List LinkOutView → List LinkOutView → Type 0
PutsOut port tag frame [] es old new = (es ≡ []) × (new ≡ old)
PutsOut port tag frame (to ∷ tos) es old new =
    (w : Way) × ((rest : List Entry) × ((mid : List LinkOutView) × (es ≡ entry.Out tag to w ∷ rest) × SendsTo port tag frame to w old mid × PutsOut port tag frame tos rest mid new))

-- what becomes of a frame that was taken: without a target it is lost, and else each target gets it
abbrev pub PutsFrame : ℕ → Tag → List ℕ → List ℕ → List Entry → List LinkOutView → List LinkOutView → Type 0
PutsFrame port tag frame [] es old new = (es ≡ entry.Lost tag ∷ []) × (new ≡ old)
PutsFrame port tag frame (to ∷ tos) es old new = PutsOut port tag frame (to ∷ tos) es old new

-- links with few packets and looks
abbrev pub AreFew : ℕ → List LinkOutView → Type 0
AreFew n links = (k : ℕ) (o : LinkOutView) → slice_get links k ≡ Some o → (length o.pushed < n) × (length o.full < n)

-- a link that has one packet more behind those that were pulled
abbrev pub pulled_one : LinkInView → Packet → LinkInView
pulled_one i x = record i { pulled = i.pulled ++ x ∷ [] }

-- the n-th link gave its next packet
pub record PullsOne (old : List LinkInView) (n place : ℕ) (x : Packet) (new : List LinkInView) : Type 0 where
  pub link : LinkInView
  pub at : slice_get old n ≡ Some link
  pub place_is : place ≡ length link.pulled
  pub is : new ≡ slice_set old n (pulled_one link x)

-- a look found nothing: by its word the entry was not filled, and no note told of a packet
pub record PullsNone (old : List LinkInView) (n : ℕ) (new : List LinkInView) : Type 0 where
  pub link : LinkInView
  pub at : slice_get old n ≡ Some link
  pub word : ℕ
  pub shows : word ≡ 2 * (length link.pulled / link.capacity)
  pub unheard : length link.filled ≤ length link.pulled
  pub is : new ≡ slice_set old n (record link { empty = link.empty ++ (length link.pulled, word) ∷ [] })
