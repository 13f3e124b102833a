use Rattle.std.proofs.Common.{◌≡◌, List, ℕ, Ok, None, subst, sym, ap, ◌∙◌}
use Rattle.vmx_shared_area.specs.Checks.{fault}
use Rattle.vmx_shared_area.specs.Layout.{image_of}
use Rattle.vmx_shared_area.specs.ReadsBack.{image_reads}
use Rattle.vmx_shared_area.specs.Tells.{Tells, Reads}
use Rattle.vmx_shared_area.specs.Unique.{same_answer}
use Rattle.vmx_shared_area.specs.declared.setup.Setup.{Setup}
use Rattle.vmx_shared_area.proofs.reading.read.Goals as goal

reads : (bs : List ℕ) (s : Setup) → bs ≡ image_of s → Reads bs (Ok s)
reads bs s e = let Told : List ℕ → Type 0 = λ image. Reads image (Ok s) in subst Told (sym e) (image_reads s)

pub returns-in_err-check_image-clause-round_trip : goal.returns-in_err-check_image-clause-round_trip
returns-in_err-check_image-clause-round_trip c s e =
    let found = ap fault (sym c.bytes-bytes.ensures.value) ∙ sym c.in_err-check_image.ensures.first_fault in
    let none = (reads c.args.image.now s e).0 in
    let no = sym none ∙ found in
    absurd (cc no)

pub returns-clause-unique : goal.returns-clause-unique
returns-clause-unique c answer h =
    let none : fault c.args.image.now ≡ None = ap fault (sym c.bytes-bytes.ensures.value) ∙ sym c.in_ok-check_image.ensures.first_fault in
    let told : Tells c.args.image.now c.setup_at.result = rw (← c.bytes-bytes.ensures.value) c.setup_at.ensures.told in
    same_answer c.args.image.now (Ok c.setup_at.result) answer (none, told) h

pub returns-clause-round_trip : goal.returns-clause-round_trip
returns-clause-round_trip c s e =
    let none : fault c.args.image.now ≡ None = ap fault (sym c.bytes-bytes.ensures.value) ∙ sym c.in_ok-check_image.ensures.first_fault in
    let told : Tells c.args.image.now c.setup_at.result = rw (← c.bytes-bytes.ensures.value) c.setup_at.ensures.told in
    same_answer c.args.image.now (Ok c.setup_at.result) (Ok s) (none, told) (reads c.args.image.now s e)
