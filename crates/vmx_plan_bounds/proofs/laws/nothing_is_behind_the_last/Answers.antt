use Rattle.vmx_plan_bounds.proofs.Lasts.{last_behind}
use Rattle.vmx_plan_bounds.proofs.laws.nothing_is_behind_the_last.Goals as goal

pub returns : goal.returns
returns c = record { behind = last_behind }
