use Rattle.std.proofs.Common.{sym, subst}
use Rattle.vmx_plan_bounds.specs.Numbers.{AreEarly}
use Rattle.vmx_plan_bounds.proofs.Scripts.{script_early}
use Rattle.vmx_plan_bounds.proofs.last.last_of.Goals as goal

pub last_at-requires : goal.last_at-requires
last_at-requires c = record { early = subst AreEarly (sym c.as_slice.ensures.items) (script_early c.args.guest.now) }
