use Rattle.std.proofs.Common.{sym}
use Rattle.vmx_segmentation.proofs.Lawful.{no_segment}
use Rattle.vmx_segmentation.proofs.marks.mark_behind.Goals as goal

pub returns-in-None : goal.returns-in-None
returns-in-None c = record { mark = no_segment c.args.frame.now c.args.mss (sym c.in-None.ensures.segment) }
