use Rattle.std.proofs.Common.{ap, sym, subst}
use Rattle.vmx_driver_steps.specs.Driver.{DriverView}
use Rattle.vmx_driver.specs.Stocked.{AreEven}
use Rattle.vmx_two_guests.proofs.There.{there}
use Rattle.vmx_two_guests.proofs.driven.driver_of.Goals as goal

-- a new driver has no ends
pub invariant_of-result : goal.invariant_of-result
invariant_of-result c = let p = there c.args.plan.now.guests c.args.port c.requires.guest in
    record { even = subst AreEven (sym (c.in_ok-driver.ensures.new p.0 p.1)) (record { tx = tt; rx = tt }) }

pub returns : goal.returns
returns c = let p = there c.args.plan.now.guests c.args.port c.requires.guest in
    record { guest = ap (λ (v : DriverView). v.guest) (c.in_ok-driver.ensures.new p.0 p.1) }
