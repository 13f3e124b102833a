use Rattle.vmx_model.proofs.Ends.{in_order}
use Rattle.vmx_model.proofs.laws.runs_in_order.Goals as goal

pub returns : goal.returns
returns c = record { order = in_order }
