use Rattle.std.proofs.Common.{refl, sym, ◌∙◌, arith}
use Rattle.vmx_txq.specs.Ends.{driver_view}
use Rattle.vmx_offload_queue.specs.Records.{segment_in}
use Rattle.vmx_offload_queue.proofs.Records.{counted_long, counted_filled, counted_left, written_long, written_kept, sends_none, sends_one}
use Rattle.vmx_offload_queue.proofs.writing.write_one.Goals as goal

pub returns-then-len-gt-MAX_FRAME : goal.returns-then-len-gt-MAX_FRAME
returns-then-len-gt-MAX_FRAME c =
    let r = c.args.stamped in
    record {
      counts = counted_long r c.args.counts (omega arith);
      most = omega arith;
      written = written_long r c.args.written.now.items (omega arith);
      sent = sends_none r.frame (driver_view c.args.driver.now).sent (omega arith);
      grows = omega arith;
      made = refl;
      rest = c.requires.rest;
      room = omega arith;
    }

pub returns-then-has_segment : goal.returns-then-has_segment
returns-then-has_segment c =
    let r = c.args.stamped in
    let k = c.fill_bytes-frame.ensures in
    record {
      counts = counted_filled r c.args.counts (omega arith) (sym k.told ∙ c.if-has_segment.true);
      most = omega arith;
      written = written_kept r _ c.args.written.now.items _ (omega arith) refl refl k.frame c.in_ok-push.ensures.items;
      sent = k.sent;
      grows = sends_one (segment_in r.frame) r.frame _ _ k.sent;
      made = k.made;
      rest = k.rest;
      room = k.room;
    }

pub returns-else-has_segment : goal.returns-else-has_segment
returns-else-has_segment c =
    let r = c.args.stamped in
    let k = c.fill_bytes-frame.ensures in
    record {
      counts = counted_left r c.args.counts (omega arith) (sym k.told ∙ c.if-has_segment.false);
      most = omega arith;
      written = written_kept r _ c.args.written.now.items _ (omega arith) refl refl k.frame c.in_ok-push.ensures.items;
      sent = k.sent;
      grows = sends_one (segment_in r.frame) r.frame _ _ k.sent;
      made = k.made;
      rest = k.rest;
      room = k.room;
    }
