use Rattle.std.proofs.Common.{◌≡◌, drop}
use Rattle.vmx_switch.specs.Ports.{are_distinct}
use Rattle.vmx_switch.proofs.table.have_no_repeat.Given as goal

abbrev pub invariant-loop-i : goal.invariant-loop-i
invariant-loop-i l = are_distinct (drop l.i l.macs) ≡ are_distinct l.macs
