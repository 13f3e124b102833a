use Rattle.std.proofs.Common.{◌≡◌, take, drop, []}
use Rattle.vmx_config.specs.Whole.{twice_from}
use Rattle.vmx_config.proofs.checks.all_differ.Given as goal

abbrev pub invariant-loop-i : goal.invariant-loop-i
invariant-loop-i l = twice_from (take l.i l.guests) l.i (drop l.i l.guests) ≡ twice_from [] 0 l.guests
