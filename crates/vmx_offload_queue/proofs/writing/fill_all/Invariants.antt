use Rattle.std.proofs.Common.{◌≡◌, ◌≤◌, ◌+◌, ◌++◌, List, length, vec_capacity}
use Rattle.std.specs.Prelude.{filter, count_by}
use Rattle.std.specs.VecDeque.{deque_len}
use Rattle.vmx_io.specs.declared.buffer.TheConstants.{MAX_FRAME}
use Rattle.vmx_pcap.specs.declared.records.Stamped.{Stamped}
use Rattle.vmx_ends.specs.declared.frames.Sent.{Sent}
use Rattle.vmx_txq.specs.Ends.{driver_view, device_view}
use Rattle.vmx_offload_queue.specs.declared.counts.TheConstants.{MAX_RECORDS}
use Rattle.vmx_offload_queue.specs.Rest.{AreAtRest}
use Rattle.vmx_offload_queue.specs.Records.{is_filled, is_left, is_long, stays, total, AreWritten, AreSeeded}
use Rattle.vmx_offload_queue.proofs.writing.fill_all.Given as goal

abbrev pub invariant-loop-stamped : goal.invariant-loop-stamped
invariant-loop-stamped l = record {
  rest : AreAtRest (driver_view l.driver) (device_view l.device);
  made : (driver_view l.driver).made ≡ (driver_view l.fn.driver).made;
  room : MAX_FRAME ≤ vec_capacity l.room;
  sent_few : length (driver_view l.driver).sent + length l.waiting.items ≤ MAX_RECORDS;
  counted_few : total l.counts + length l.waiting.items ≤ MAX_RECORDS;
  written : (outs : List Stamped) → AreWritten (filter stays l.waiting.items) outs → AreWritten (filter stays l.fn.records) (l.written.items ++ outs);
  sent : (more : List Sent) → AreSeeded (filter is_filled l.waiting.items) more → AreSeeded (filter is_filled l.fn.records) ((driver_view l.driver).sent ++ more);
  filled : l.counts.filled + count_by is_filled l.waiting.items ≡ count_by is_filled l.fn.records;
  left : l.counts.left + count_by is_left l.waiting.items ≡ count_by is_left l.fn.records;
  long : l.counts.long + count_by is_long l.waiting.items ≡ count_by is_long l.fn.records;
}

abbrev pub decreases-loop-stamped : goal.decreases-loop-stamped
decreases-loop-stamped l = deque_len l.waiting
