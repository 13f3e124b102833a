use Rattle.vmx_plan_bounds.proofs.Scripts.{script_in_order, script_early}
use Rattle.vmx_plan_bounds.proofs.laws.scripts_are_in_order.Goals as goal

pub returns : goal.returns
returns c = record { order = script_in_order; early = script_early }
