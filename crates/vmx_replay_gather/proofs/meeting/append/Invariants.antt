use Rattle.std.proofs.Common.{◌≡◌, ◌++◌, length}
use Rattle.vmx_replay_gather.proofs.meeting.append.Given as goal

abbrev pub invariant-loop-end : goal.invariant-loop-end
invariant-loop-end l = l.ends ++ l.more ≡ l.fn.ends ++ l.fn.more

abbrev pub decreases-loop-end : goal.decreases-loop-end
decreases-loop-end l = length l.more
