use Rattle.std.proofs.Common.{◌≡◌, length}
use Rattle.vmx_rxq_tests.proofs.tests.text.Given as goal

abbrev pub invariant-loop-i : goal.invariant-loop-i
invariant-loop-i l = length l.text.items ≡ 9265
