use Rattle.vmx_model.proofs.Linked.{premises_of}
use Rattle.vmx_model.proofs.laws.links_tell.Goals as goal

pub returns : goal.returns
returns c = record { premises = premises_of }
