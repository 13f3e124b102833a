-- Calls on notes of the links between a device and another port.
use Rattle.std.specs.Prelude.{◌≡◌, ◌≤◌, ℕ, suc, true, false, List, length, Some, slice_get, slice_set}
use mathlib.Core.List.{IsPrefix}
use Rattle.vmx_ring_laws.specs.Lists.{AreComparable}
use Rattle.vmx_link.specs.Views.{LinkOutView, LinkInView, LinkNoteView}
use Rattle.vmx_link.specs.Ends.{sender's_note, receiver's_note, out_after, in_after}
use Rattle.vmx_device_looks.specs.Ports.{other}
use Rattle.vmx_device_laws.specs.Views.{DeviceView}
use Rattle.vmx_device_laws.specs.declared.side.LinkSide.{LinkSide}
use Rattle.vmx_device_laws.specs.declared.side.LinkSide.TheVariants as side

-- the k-th link out gave a note
pub record NotesOut (k : ℕ) (note : LinkNoteView) (old new : List LinkOutView) : Type 0 where
  pub link : LinkOutView
  pub at : slice_get old k ≡ Some link
  pub tells : note ≡ sender's_note link
  pub is : new ≡ slice_set old k (record link { notes_given = suc link.notes_given })

-- the k-th link in gave one
pub record NotesIn (k : ℕ) (note : LinkNoteView) (old new : List LinkInView) : Type 0 where
  pub link : LinkInView
  pub at : slice_get old k ≡ Some link
  pub tells : note ≡ receiver's_note link
  pub is : new ≡ slice_set old k (record link { notes_given = suc link.notes_given })

-- a note of the receiver of the k-th link out
pub record FitsOut (k : ℕ) (note : LinkNoteView) (links : List LinkOutView) : Type 0 where
  pub link : LinkOutView
  pub at : slice_get links k ≡ Some link
  pub key : note.key ≡ link.key
  pub side : note.of_sender ≡ false

-- a note of the sender of the k-th link in
pub record FitsIn (k : ℕ) (note : LinkNoteView) (links : List LinkInView) : Type 0 where
  pub link : LinkInView
  pub at : slice_get links k ≡ Some link
  pub key : note.key ≡ link.key
  pub side : note.of_sender ≡ true

-- the k-th link out heard a note: what the receiver had pulled begins what was pushed
pub record HearsOut (k : ℕ) (note : LinkNoteView) (old new : List LinkOutView) : Type 0 where
  pub link : LinkOutView
  pub at : slice_get old k ≡ Some link
  pub pulled : IsPrefix note.pulled link.pushed
  pub as_long : length note.pulled ≤ length (out_after link note).freed
  pub is : new ≡ slice_set old k (out_after link note)

-- the k-th link in heard a note: of what the sender had pushed and what was pulled, one begins the other
pub record HearsIn (k : ℕ) (note : LinkNoteView) (old new : List LinkInView) : Type 0 where
  pub link : LinkInView
  pub at : slice_get old k ≡ Some link
  pub pushed : AreComparable note.pushed link.pulled
  pub as_long : length note.pushed ≤ length (in_after link note).filled
  pub is : new ≡ slice_set old k (in_after link note)

-- a note of the link to or from a port
abbrev pub NotesLink : LinkSide → ℕ → LinkNoteView → DeviceView → DeviceView → Type 0
NotesLink side.Out port note old new = (k : ℕ) × (out : List LinkOutView) × (port ≡ other old.port k) × NotesOut k note old.out out × (new ≡ record old { out = out })
NotesLink side.In port note old new = (k : ℕ) × (input : List LinkInView) × (port ≡ other old.port k) × NotesIn k note old.input input × (new ≡ record old { input = input })

-- a note that fits that link
abbrev pub FitsLink : LinkSide → ℕ → LinkNoteView → DeviceView → Type 0
FitsLink side.Out port note d = (k : ℕ) × (port ≡ other d.port k) × FitsOut k note d.out
FitsLink side.In port note d = (k : ℕ) × (port ≡ other d.port k) × FitsIn k note d.input

-- that link heard it
abbrev pub HearsLink : LinkSide → ℕ → LinkNoteView → DeviceView → DeviceView → Type 0
HearsLink side.Out port note old new = (k : ℕ) × (out : List LinkOutView) × (port ≡ other old.port k) × HearsOut k note old.out out × (new ≡ record old { out = out })
HearsLink side.In port note old new = (k : ℕ) × (input : List LinkInView) × (port ≡ other old.port k) × HearsIn k note old.input input × (new ≡ record old { input = input })
