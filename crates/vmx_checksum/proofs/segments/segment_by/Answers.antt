use Rattle.std.proofs.Common.{ap, ◌∙◌}
use Rattle.vmx_frame.specs.declared.kinds.Flow.{Flow}
use Rattle.vmx_checksum.specs.Segment.{segment_by}
use Rattle.vmx_checksum.specs.SegmentLaws.{within_of}
use Rattle.vmx_checksum.proofs.segments.segment_by.Goals as goal

pub returns-clause-within : goal.returns-clause-within
returns-clause-within c =
    within_of c.found.result c.args.frame.now (c.found.ensures.segment ∙ ap (λ (x : Flow). segment_by x c.args.frame.now) c.requires.flow)
