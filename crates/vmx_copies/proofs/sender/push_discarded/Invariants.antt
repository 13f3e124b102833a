use Rattle.std.proofs.Common.{◌≡◌, ◌++◌, map, take}
use Rattle.vmx_copies.specs.Join.{discarded_for}
use Rattle.vmx_copies.proofs.sender.push_discarded.Given as goal

abbrev pub invariant-loop-target : goal.invariant-loop-target
invariant-loop-target l = l.rows ≡ l.fn.rows ++ map (discarded_for l.sender.port l.number) (take l.target-index l.targets)
