use Rattle.vmx_model.proofs.Returned.{guest_leaves}
use Rattle.vmx_model.proofs.laws.bags_tell.Goals as goal

pub returns : goal.returns
returns c = record { leaves = guest_leaves }
