use Rattle.vmx_model.proofs.Left.{nothing_left}
use Rattle.vmx_model.proofs.laws.nothing_is_left.Goals as goal

pub returns : goal.returns
returns c = record { left = nothing_left }
