use Rattle.std.proofs.Common.{◌≡◌, drop}
use Rattle.vmx_switch.specs.Ports.{are_distinct}
use Rattle.vmx_model.specs.Totals.{names_of}
use Rattle.vmx_model.proofs.plan_checks.names_differ.Given as goal

-- all turns on the guests that are left
abbrev pub invariant-loop-i : goal.invariant-loop-i
invariant-loop-i l = are_distinct (names_of (drop l.i l.guests)) ≡ are_distinct (names_of l.guests)
