use Rattle.std.proofs.Common.{◌-◌, length}
use Rattle.vmx_verdicts.specs.Walks.{IsWalk}
use Rattle.vmx_verdicts.proofs.walk.pass.Given as goal

abbrev pub invariant-loop-standing : goal.invariant-loop-standing
invariant-loop-standing l = IsWalk l.guest l.next l.standing.done l.standing.quiet l.standing.activation l.standing.counts

abbrev pub decreases-loop-standing : goal.decreases-loop-standing
decreases-loop-standing l = length l.guest.script - l.standing.done
