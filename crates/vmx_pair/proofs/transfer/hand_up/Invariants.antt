use Rattle.std.proofs.Common.{◌≡◌, ◌≤◌, ◌+◌, ◌++◌, length, map}
use Rattle.std.specs.VecDeque.{deque_len}
use Rattle.vmx_pair_plan.specs.Fates.{handed_up}
use Rattle.vmx_pair.proofs.transfer.hand_up.Given as goal

abbrev pub invariant-loop-stamped : goal.invariant-loop-stamped
invariant-loop-stamped l =
    (l.received.items ++ handed_up l.place (map (λ r. r.frame) l.waiting.items) ≡ handed_up 0 (map (λ r. r.frame) l.fn.arrived.items)) × (l.place + length l.waiting.items ≤ length l.fn.arrived.items)

abbrev pub decreases-loop-stamped : goal.decreases-loop-stamped
decreases-loop-stamped l = deque_len l.waiting
