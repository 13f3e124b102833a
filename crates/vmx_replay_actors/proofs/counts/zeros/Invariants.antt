use Rattle.std.proofs.Common.{◌≡◌, replicate}
use Rattle.vmx_replay_actors.proofs.counts.zeros.Given as goal

abbrev pub invariant-loop-index : goal.invariant-loop-index
invariant-loop-index l = l.numbers ≡ replicate l._index 0
