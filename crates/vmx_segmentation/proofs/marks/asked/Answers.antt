use Rattle.std.proofs.Common.{refl, arith}
use Rattle.vmx_segmentation.proofs.Lawful.{not_longer, longer}
use Rattle.vmx_segmentation.proofs.marks.asked.Goals as goal

pub returns-then-longer : goal.returns-then-longer
returns-then-longer c =
    let r = c.requires in
    record {
      mark = (
        record {
          tci = refl;
          om = refl;
          hlen = r.header;
          least = r.least;
          most = r.most;
          longer = longer c.args.frame.now c.args.mss c.args.header c.args.segment r.segment r.header (omega arith);
        },
        refl,
      );
    }

pub returns-else-longer : goal.returns-else-longer
returns-else-longer c =
    let r = c.requires in
    record { mark = not_longer c.args.frame.now c.args.mss c.args.header c.args.segment r.segment r.header (omega arith) }
