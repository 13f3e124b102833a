use Rattle.std.proofs.Common.{length, subst, ap, ◌∙◌, arith, refl, true, false, None}
use Rattle.vmx_frame.specs.TagLaws.{strip_least}
use Rattle.vmx_model.specs.Meta.{Arrival}
use Rattle.vmx_device_looks.specs.Looks.{DeliversAs}
use Rattle.vmx_device_looks.proofs.Forms.{form_is}
use Rattle.vmx_device_looks.proofs.arrivals.deliver_form.Goals as goal

pub deliver_as-requires-clause-frame : goal.deliver_as-requires-clause-frame
deliver_as-requires-clause-frame g c κs within =
    let bytes = ap length (c.as_slice.ensures.value ∙ c.strip-tci.ensures.bytes) in
    let least = strip_least c.args.frame.now c.requires.frame.0 in
    let few = c.strip-tci.ensures.few in
    let same = ap length c.strip-tci.ensures.bytes in
    (omega (arith, bytes, least), omega (arith, bytes, few, same, c.as_slice.ensures.len, c.requires.frame.1))

pub returns-then-terms-clause-delivers : goal.returns-then-terms-clause-delivers
returns-then-terms-clause-delivers g c s are =
    subst (λ (what : Arrival). DeliversAs c.args.terms.now.queue what c.deliver_as.result c.args.machine.now c.deliver_as.new.machine)
    (form_is s c.args.frame.now c.args.terms.now true are c.if-terms.true c.as_slice.result.now c.strip-tci.result c.meta_with-meta.result (c.as_slice.ensures.value ∙ c.strip-tci.ensures.bytes) c.strip-tci.ensures.tci
    c.meta_with-meta.ensures.hash c.meta_with-meta.ensures.kind c.meta_with-meta.ensures.tci) c.deliver_as.ensures.delivers

pub returns-clause-delivers : goal.returns-clause-delivers
returns-clause-delivers g c s are =
    subst (λ (what : Arrival). DeliversAs c.args.terms.now.queue what c.deliver_as-2.result c.args.machine.now c.deliver_as-2.new.machine)
    (form_is s c.args.frame.now c.args.terms.now false are c.if-terms.false c.args.frame.now None c.meta_with-meta-2.result refl refl
    c.meta_with-meta-2.ensures.hash c.meta_with-meta-2.ensures.kind c.meta_with-meta-2.ensures.tci) c.deliver_as-2.ensures.delivers
