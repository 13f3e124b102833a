use Rattle.std.proofs.Common.{◌≡◌, ◌≤◌, ◌+◌, ◌++◌, length}
use Rattle.std.specs.Prelude.{filter}
use Rattle.std.specs.VecDeque.{deque_len}
use Rattle.vmx_pair_plan.specs.Lengths.{is_sent}
use Rattle.vmx_pair_plan.proofs.Verdicts.{fates_from}
use Rattle.vmx_pair.proofs.transfer.send.Given as goal

abbrev pub invariant-loop-stamped : goal.invariant-loop-stamped
invariant-loop-stamped l =
    (l.fates.items ++ fates_from l.mtu l.place l.waiting.items ≡ fates_from l.mtu 0 l.fn.sender.capture.records)
    × (l.queue.items ++ filter (is_sent l.mtu) l.waiting.items ≡ filter (is_sent l.mtu) l.fn.sender.capture.records)
    × (l.place + length l.waiting.items ≤ length l.fn.sender.capture.records)

abbrev pub decreases-loop-stamped : goal.decreases-loop-stamped
decreases-loop-stamped l = deque_len l.waiting
