use Rattle.vmx_plan_bounds.proofs.Few.{guests_few, targets_few, ports_of_targets}
use Rattle.vmx_plan_bounds.proofs.laws.plans_are_small.Goals as goal

pub returns : goal.returns
returns c = record { guests = guests_few; targets = targets_few; ports = ports_of_targets }
