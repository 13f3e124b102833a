use Rattle.vmx_genring.specs.RingLaws.{stages_first}
use Rattle.vmx_genring.proofs.laws.first_is_staged.Goals as goal

pub returns : goal.returns
returns c = record { law = stages_first }
