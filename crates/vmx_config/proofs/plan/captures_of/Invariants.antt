use Rattle.std.proofs.Common.{◌≡◌, take}
use Rattle.vmx_config.specs.Plans.{captures_of}
use Rattle.vmx_config.proofs.plan.captures_of.Given as goal

abbrev pub invariant-loop-guest : goal.invariant-loop-guest
invariant-loop-guest l = l.names.items ≡ captures_of (take l.guest-index l.guests)
