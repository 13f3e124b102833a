use Rattle.std.proofs.Common.{take}
use Rattle.std.specs.List.{AllZip}
use Rattle.vmx_config.specs.Plans.{IsGuest}
use Rattle.vmx_config.proofs.plan.guests_of.Given as goal

abbrev pub invariant-loop-guest : goal.invariant-loop-guest
invariant-loop-guest l = AllZip IsGuest l.guests.items (take l.guest-index l.settings)
