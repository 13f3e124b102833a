use Rattle.std.proofs.Common.{Option, ap, ◌∙◌}
use Rattle.vmx_checksum.specs.declared.answer.Segment.{Segment}
use Rattle.vmx_segmentation.specs.Header.{header_in}
use Rattle.vmx_segmentation.proofs.header.header_of.Goals as goal

pub returns-in-None-clause-header : goal.returns-in-None-clause-header
returns-in-None-clause-header c = let f = c.args.frame.now in ap (λ (o : Option Segment). header_in f o) c.in-None.ensures.segment

pub returns-in-Some-clause-header : goal.returns-in-Some-clause-header
returns-in-Some-clause-header c = let f = c.args.frame.now in c.header_at.ensures.header ∙ ap (λ (o : Option Segment). header_in f o) c.in-Some.ensures.segment
