use Rattle.std.proofs.Common.{◌≡◌, ◌++◌}
use Rattle.std.specs.VecDeque.{deque_len}
use Rattle.vmx_pair.proofs.transfer.receive.Given as goal

abbrev pub invariant-loop-stamped : goal.invariant-loop-stamped
invariant-loop-stamped l = l.arrived.items ++ l.queue.items ≡ l.fn.queue.items

abbrev pub decreases-loop-stamped : goal.decreases-loop-stamped
decreases-loop-stamped l = deque_len l.queue
