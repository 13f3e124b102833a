use Rattle.std.proofs.Common.{◌-◌, drop}
use Rattle.vmx_replay_chains.proofs.Targeting.{AreFound}
use Rattle.vmx_replay_chains.proofs.targets.targets_from.Given as goal

abbrev pub invariant-loop-index : goal.invariant-loop-index
invariant-loop-index l = record { found : AreFound (drop l.from l.entries) (l.index - l.from) l.count l.ports }
