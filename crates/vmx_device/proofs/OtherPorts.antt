-- The link of another port, by its number.
use Rattle.std.proofs.Common.{◌≡◌, ◌≤◌, ℕ, List, length, refl, sym, ◌∙◌, subst, arith}
use Rattle.vmx_link.specs.Views.{LinkOutView, LinkInView, LinkNoteView}
use Rattle.vmx_device_looks.specs.Ports.{other, IsOther}
use Rattle.vmx_device_looks.specs.PortLaws.{other_once}
use Rattle.vmx_device_laws.specs.Views.{DeviceView}
use Rattle.vmx_device_laws.specs.Keeps.{Keeps}
use Rattle.vmx_device_laws.specs.LinkNotes.{NotesOut, NotesIn, FitsOut, FitsIn, HearsOut, HearsIn, NotesLink, HearsLink}
use Rattle.vmx_device_laws.specs.declared.side.LinkSide.{LinkSide}
use Rattle.vmx_device_laws.specs.declared.side.LinkSide.TheVariants as side

other_within : (port n m to : ℕ) → n ≤ m → IsOther port n to → IsOther port m to
other_within port n m to le (k, lt, e) = (k, omega (arith, lt, le), e)

-- there are at most 15 of them
pub other_few : (d : DeviceView) → Keeps d → (to : ℕ) → IsOther d.port (length d.out) to → IsOther d.port 15 to
other_few d k to h = other_within d.port (length d.out) 15 to (omega (arith, k.ports.1, k.ports.3)) h

-- and as many links from them
pub other_in : (d : DeviceView) → Keeps d → (to : ℕ) → IsOther d.port (length d.out) to → IsOther d.port (length d.input) to
other_in d k to h = subst (λ (n : ℕ). IsOther d.port n to) (sym k.ports.2) h

-- a note that fits the link of that port
pub fits_out : (d : DeviceView) (to i : ℕ) (note : LinkNoteView) → to ≡ other d.port i → (k : ℕ) × (to ≡ other d.port k) × FitsOut k note d.out → FitsOut i note d.out
fits_out d to i note e (k, e', fits) = subst (λ (n : ℕ). FitsOut n note d.out) (other_once d.port k i (sym e' ∙ e)) fits

pub fits_in : (d : DeviceView) (to i : ℕ) (note : LinkNoteView) → to ≡ other d.port i → (k : ℕ) × (to ≡ other d.port k) × FitsIn k note d.input → FitsIn i note d.input
fits_in d to i note e (k, e', fits) = subst (λ (n : ℕ). FitsIn n note d.input) (other_once d.port k i (sym e' ∙ e)) fits

-- the link of that port gave a note, or heard one
module _ (d d' : DeviceView) (is : d ≡ d') (s : LinkSide) (to i : ℕ) (note : LinkNoteView) (at : to ≡ other d.port i) where
  pub noted_out : (links : List LinkOutView) → s ≡ side.Out → NotesOut i note d.out links → NotesLink s to note d' (record d { out = links })
  noted_out links side_is n = subst (λ (x : LinkSide × DeviceView). NotesLink x.0 to note x.1 (record d { out = links })) (λ j. (sym side_is j, is j)) (i, links, at, n, refl)

  pub noted_in : (links : List LinkInView) → s ≡ side.In → NotesIn i note d.input links → NotesLink s to note d' (record d { input = links })
  noted_in links side_is n = subst (λ (x : LinkSide × DeviceView). NotesLink x.0 to note x.1 (record d { input = links })) (λ j. (sym side_is j, is j)) (i, links, at, n, refl)

  pub heard_out : (links : List LinkOutView) → s ≡ side.Out → HearsOut i note d.out links → HearsLink s to note d' (record d { out = links })
  heard_out links side_is n = subst (λ (x : LinkSide × DeviceView). HearsLink x.0 to note x.1 (record d { out = links })) (λ j. (sym side_is j, is j)) (i, links, at, n, refl)

  pub heard_in : (links : List LinkInView) → s ≡ side.In → HearsIn i note d.input links → HearsLink s to note d' (record d { input = links })
  heard_in links side_is n = subst (λ (x : LinkSide × DeviceView). HearsLink x.0 to note x.1 (record d { input = links })) (λ j. (sym side_is j, is j)) (i, links, at, n, refl)
