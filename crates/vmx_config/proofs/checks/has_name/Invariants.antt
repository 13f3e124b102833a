use Rattle.std.proofs.Common.{◌≡◌, drop}
use Rattle.vmx_config.specs.Whole.{has_name}
use Rattle.vmx_config.proofs.checks.has_name.Given as goal

abbrev pub invariant-loop-guest : goal.invariant-loop-guest
invariant-loop-guest l = has_name (drop l.guest-index l.guests) l.name ≡ has_name l.guests l.name
