use Rattle.std.proofs.Common.{None, Option, sym, ◌∙◌, subst}
use Rattle.vmx_checksum.specs.declared.answer.Segment.{Segment}
use Rattle.vmx_checksum.specs.Checksum.{IsMarkOf}
use Rattle.vmx_checksum.specs.ChecksumLaws.{seeded_is, filled_is}
use Rattle.vmx_segmentation.proofs.cutting.fill_in.Goals as goal

pub returns-in-None : goal.returns-in-None
returns-in-None c =
    let f = c.args.frame.now in
    record { frame = c.in-None.ensures.frame ∙ seeded_is f None c.in-None.ensures.mark ∙ sym (filled_is f None c.in-None.ensures.mark) }

pub fill-requires-clause-mark : goal.fill-requires-clause-mark
fill-requires-clause-mark c = subst (λ (o : Option Segment). IsMarkOf o c.in-Some.mark) (sym c.in-Some.ensures.segment) c.in-Some.ensures.mark

pub returns-in-Some : goal.returns-in-Some
returns-in-Some c = record { frame = c.fill.ensures.filled c.args.frame.now c.in-Some.ensures.frame }
