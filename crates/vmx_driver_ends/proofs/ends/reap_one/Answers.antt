use Rattle.std.proofs.Common.{length, ap, arith}
use Rattle.vmx_driver_ends.proofs.Reaping.{one_more}
use Rattle.vmx_driver_ends.proofs.ends.reap_one.Goals as goal

pub loop-count-smaller : goal.loop-count-smaller
loop-count-smaller g c = let view = g.F.TxDriver.TxDriver.view in
    let m = one_more (view c.args.end.now) (view c.loop-count.end) (view c.reap.new.self) c.in-Done.place c.in-Done.descriptors c.loop-count.invariant.is c.loop-count.invariant.fine c.in-Done.ensures.reaps in
    let up = m.up in let len = ap length m.sent in let below = m.below in omega arith

pub loop-count-preserved : goal.loop-count-preserved
loop-count-preserved g c = let view = g.F.TxDriver.TxDriver.view in
    let m = one_more (view c.args.end.now) (view c.loop-count.end) (view c.reap.new.self) c.in-Done.place c.in-Done.descriptors c.loop-count.invariant.is c.loop-count.invariant.fine c.in-Done.ensures.reaps in
    let up = m.up in let more = c.loop-count.invariant.more in let n = c.loop-count.invariant.count in record { is = m.is; fine = m.fine; more = omega arith; count = omega arith }
