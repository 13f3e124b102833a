use Rattle.vmx_model.proofs.Parts.{the_law}
use Rattle.vmx_model.proofs.laws.law_of_parts.Goals as goal

pub returns : goal.returns
returns c = record { accounts = the_law }
