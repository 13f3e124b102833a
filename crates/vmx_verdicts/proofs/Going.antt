-- A walk one frame on.
use Rattle.std.proofs.Common.{◌≡◌, ℕ, ◌+◌, ◌<◌, Bool, true, List, length, get_or, refl, ap, sym, ◌∙◌, subst, Some}
use Rattle.std.specs.List.{slice_get}
use Rattle.std.proofs.lemmas.Option.{slice_get_read, get_or_from_slice_get}
use Rattle.vmx_pcap.specs.declared.records.Stamped.{Stamped}
use Rattle.vmx_model.specs.declared.sending.Sending.{Sending}
use Rattle.vmx_model.specs.declared.guest.GuestPlan.{GuestPlan}
use Rattle.vmx_model.specs.Plan.{captured_as, verdict_on}
use Rattle.vmx_verdicts.specs.Ordered.{is_later}
use Rattle.vmx_verdicts.specs.Walks.{IsWalk, NextFound, finish}

pub goes_both : (g : GuestPlan) (next done : ℕ) (quiet : Bool) (activation : ℕ) (counts : List ℕ) (items : List Stamped) (x : Stamped) (frame : List ℕ) (counts' : List ℕ) (v : Sending)
    → IsWalk g next done quiet activation counts → is_later next (slice_get g.script done) ≡ true
    → items ≡ g.capture.records → x ≡ get_or items next x → frame ≡ x.frame → NextFound g frame quiet activation counts counts' v
    → (r : Stamped) → slice_get g.capture.records next ≡ Some r → (v ≡ verdict_on g (captured_as g next r)) × IsWalk g (next + 1) done quiet activation counts'
goes_both g next done quiet activation counts items x frame counts' v w later all is bytes found r there =
    finish g next done quiet activation counts w later r there counts' v (subst (λ (f : List ℕ). NextFound g f quiet activation counts counts' v) (bytes ∙ ap (λ (s : Stamped). s.frame) same) found)
  where
    same : x ≡ r
    same = is ∙ ap (λ (xs : List Stamped). get_or xs next x) all ∙ get_or_from_slice_get g.capture.records next r x there

pub goes_verdict : (g : GuestPlan) (next done : ℕ) (quiet : Bool) (activation : ℕ) (counts : List ℕ) (items : List Stamped) (x : Stamped) (frame : List ℕ) (counts' : List ℕ) (v : Sending)
    → IsWalk g next done quiet activation counts → is_later next (slice_get g.script done) ≡ true
    → items ≡ g.capture.records → x ≡ get_or items next x → frame ≡ x.frame → NextFound g frame quiet activation counts counts' v
    → (r : Stamped) → slice_get g.capture.records next ≡ Some r → v ≡ verdict_on g (captured_as g next r)
goes_verdict g next done quiet activation counts items x frame counts' v w later all is bytes found r there = (goes_both g next done quiet activation counts items x frame counts' v w later all is bytes found r there).0

pub goes_on_walk : (g : GuestPlan) (next done : ℕ) (quiet : Bool) (activation : ℕ) (counts : List ℕ) (items : List Stamped) (x : Stamped) (frame : List ℕ) (counts' : List ℕ) (v : Sending)
    → IsWalk g next done quiet activation counts → is_later next (slice_get g.script done) ≡ true
    → items ≡ g.capture.records → x ≡ get_or items next x → frame ≡ x.frame → NextFound g frame quiet activation counts counts' v
    → next < length g.capture.records → (done' : ℕ) (quiet' : Bool) (activation' : ℕ) → (done' ≡ done) × (quiet' ≡ quiet) × (activation' ≡ activation)
    → IsWalk g (next + 1) done' quiet' activation' counts'
goes_on_walk g next done quiet activation counts items x frame counts' v w later all is bytes found lt done' quiet' activation' same =
    subst (λ (d : ℕ). IsWalk g (next + 1) d quiet' activation' counts') (sym same.0)
    (subst (λ (q : Bool). IsWalk g (next + 1) done q activation' counts') (sym same.1)
    (subst (λ (a : ℕ). IsWalk g (next + 1) done quiet a counts') (sym same.2)
    (goes_both g next done quiet activation counts items x frame counts' v w later all is bytes found x there).1))
  where
    there : slice_get g.capture.records next ≡ Some x
    there = slice_get_read g.capture.records (length g.capture.records) next x refl lt (is ∙ ap (λ (xs : List Stamped). get_or xs next x) all)
