use Rattle.std.proofs.Common.{sym}
use Rattle.vmx_segmentation.proofs.Lawful.{no_header}
use Rattle.vmx_segmentation.proofs.marks.cut_mark.Goals as goal

pub returns-in-None : goal.returns-in-None
returns-in-None c = record { mark = no_header c.args.frame.now c.args.mss (sym c.in-None.ensures.header) }
