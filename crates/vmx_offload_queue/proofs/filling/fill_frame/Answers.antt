use Rattle.std.proofs.Common.{Option, refl, sym, subst, arith}
use Rattle.vmx_checksum.specs.declared.answer.Segment.{Segment}
use Rattle.vmx_checksum.specs.Checksum.{IsMarkOf}
use Rattle.vmx_txq.specs.Ends.{driver_view}
use Rattle.vmx_offload_queue.proofs.Records.{done_short, done_none, done_some}
use Rattle.vmx_offload_queue.proofs.filling.fill_frame.Goals as goal

pub returns-then-frame-lt-MIN_FRAME : goal.returns-then-frame-lt-MIN_FRAME
returns-then-frame-lt-MIN_FRAME c =
    let d = done_short c.args.frame.now (driver_view c.args.driver.now).sent (omega arith) in
    record { told = d.told_is; frame = d.frame; sent = d.sent; made = refl; rest = c.requires.rest; room = omega arith }

pub returns-in-None : goal.returns-in-None
returns-in-None c =
    let d = done_none c.args.frame.now c.seed.new.frame (driver_view c.args.driver.now).sent (omega arith) c.requires.short c.in-None.ensures.frame c.in-None.ensures.mark in
    record { told = d.told_is; frame = d.frame; sent = d.sent; made = refl; rest = c.requires.rest; room = omega arith }

pub complete_frame-requires-clause-mark : goal.complete_frame-requires-clause-mark
complete_frame-requires-clause-mark c = subst (λ (o : Option Segment). IsMarkOf o c.in-Some.mark) (sym c.in-Some.ensures.segment) c.in-Some.ensures.mark

pub returns-in-Some : goal.returns-in-Some
returns-in-Some c =
    let k = c.complete_frame.ensures in
    let d = done_some c.args.frame.now c.seed.new.frame c.complete_frame.new.frame c.in-Some.mark (driver_view c.args.driver.now).sent (driver_view c.complete_frame.new.driver).sent (omega arith) c.requires.short c.in-Some.ensures.frame c.in-Some.ensures.mark k.frame k.sent in
    record { told = d.told_is; frame = d.frame; sent = d.sent; made = k.made; rest = k.rest; room = k.room }
