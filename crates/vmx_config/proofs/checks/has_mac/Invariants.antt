use Rattle.std.proofs.Common.{◌≡◌, drop}
use Rattle.vmx_config.specs.Whole.{has_mac}
use Rattle.vmx_config.proofs.checks.has_mac.Given as goal

abbrev pub invariant-loop-guest : goal.invariant-loop-guest
invariant-loop-guest l = has_mac (drop l.guest-index l.guests) l.mac ≡ has_mac l.guests l.mac
