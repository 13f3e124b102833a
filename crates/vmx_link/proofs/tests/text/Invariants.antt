use Rattle.std.proofs.Common.{◌≡◌, length}
use Rattle.vmx_link.specs.declared.tests.TheConstants.{TEXT}
use Rattle.vmx_link.proofs.tests.text.Given as goal

abbrev pub invariant-loop-i : goal.invariant-loop-i
invariant-loop-i l = length l.text.items ≡ TEXT
