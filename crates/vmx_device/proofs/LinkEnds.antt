-- One link of a list that gave a note, or heard one.
use Rattle.std.proofs.Common.{◌≡◌, ◌≤◌, ◌<◌, ℕ, suc, List, length, map, set, get_or, sym, ap, ◌∙◌, subst, Some}
use Rattle.std.specs.List.{slice_get}
use Rattle.std.proofs.lemmas.List.{map-set, length-map}
use mathlib.Core.List.{IsPrefix}
use Rattle.vmx_ring_laws.specs.Lists.{AreComparable}
use Rattle.vmx_io.specs.Views.{viewed}
use Rattle.vmx_link.specs.Views.{LinkOutView, LinkInView, LinkNoteView}
use Rattle.vmx_link.specs.declared.ends.LinkOut.{LinkOut}
use Rattle.vmx_link.specs.declared.ends.LinkIn.{LinkIn}
use Rattle.vmx_link.specs.Ends.{out_view, in_view, sender's_note, receiver's_note, out_after, in_after}
use Rattle.vmx_device_looks.specs.Queues.{get_at, get_lt}
use Rattle.vmx_device_laws.specs.LinkNotes.{NotesOut, NotesIn, FitsOut, FitsIn, HearsOut, HearsIn}

pub out_below : (out : List LinkOut) (i : ℕ) (note : LinkNoteView) → FitsOut i note (map out_view out) → i < length out
out_below out i note fits = subst (λ (n : ℕ). i < n) (length-map out out_view) (get_lt (map out_view out) i fits.link fits.at)

pub in_below : (input : List LinkIn) (i : ℕ) (note : LinkNoteView) → FitsIn i note (map in_view input) → i < length input
in_below input i note fits = subst (λ (n : ℕ). i < n) (length-map input in_view) (get_lt (map in_view input) i fits.link fits.at)

module _ (out : List LinkOut) (i : ℕ) (x : LinkOut) (lt : i < length out) (is : x ≡ get_or out i x) where
  out_at : slice_get (map out_view out) i ≡ Some (out_view x)
  out_at = get_at (map out_view out) i (out_view x) (rw length-map lt) (sym (viewed out_view out i x lt is))

  pub notes_out : (y : LinkOut) (note : LinkNoteView) → out_view y ≡ record (out_view x) { notes_given = suc (out_view x).notes_given } → note ≡ sender's_note (out_view x) → NotesOut i note (map out_view out) (map out_view (set out i y))
  notes_out y note same tells = record { link = out_view x; at = out_at; tells = tells; is = map-set out_view out i y ∙ ap (set (map out_view out) i) same }

  pub key_out : (note : LinkNoteView) → FitsOut i note (map out_view out) → note.key ≡ (out_view x).key
  key_out note fits = let same : Some fits.link ≡ Some (out_view x) = sym fits.at ∙ out_at in let link : fits.link ≡ out_view x = cc in fits.key ∙ ap (λ (o : LinkOutView). o.key) link

  pub hears_out : (y : LinkOut) (note : LinkNoteView) → out_view y ≡ out_after (out_view x) note → IsPrefix note.pulled (out_view x).pushed → length note.pulled ≤ length (out_view y).freed → HearsOut i note (map out_view out) (map out_view (set out i y))
  hears_out y note same pulled long = record {
    link = out_view x;
    at = out_at;
    pulled = pulled;
    as_long = subst (λ (o : LinkOutView). length note.pulled ≤ length o.freed) same long;
    is = map-set out_view out i y ∙ ap (set (map out_view out) i) same;
  }

module _ (input : List LinkIn) (i : ℕ) (x : LinkIn) (lt : i < length input) (is : x ≡ get_or input i x) where
  in_at : slice_get (map in_view input) i ≡ Some (in_view x)
  in_at = get_at (map in_view input) i (in_view x) (rw length-map lt) (sym (viewed in_view input i x lt is))

  pub notes_in : (y : LinkIn) (note : LinkNoteView) → in_view y ≡ record (in_view x) { notes_given = suc (in_view x).notes_given } → note ≡ receiver's_note (in_view x) → NotesIn i note (map in_view input) (map in_view (set input i y))
  notes_in y note same tells = record { link = in_view x; at = in_at; tells = tells; is = map-set in_view input i y ∙ ap (set (map in_view input) i) same }

  pub key_in : (note : LinkNoteView) → FitsIn i note (map in_view input) → note.key ≡ (in_view x).key
  key_in note fits = let same : Some fits.link ≡ Some (in_view x) = sym fits.at ∙ in_at in let link : fits.link ≡ in_view x = cc in fits.key ∙ ap (λ (o : LinkInView). o.key) link

  pub hears_in : (y : LinkIn) (note : LinkNoteView) → in_view y ≡ in_after (in_view x) note → AreComparable note.pushed (in_view x).pulled → length note.pushed ≤ length (in_view y).filled → HearsIn i note (map in_view input) (map in_view (set input i y))
  hears_in y note same pushed long = record {
    link = in_view x;
    at = in_at;
    pushed = pushed;
    as_long = subst (λ (o : LinkInView). length note.pushed ≤ length o.filled) same long;
    is = map-set in_view input i y ∙ ap (set (map in_view input) i) same;
  }
