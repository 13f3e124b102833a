use Rattle.vmx_genring.specs.RingLaws.{stages}
use Rattle.vmx_genring.proofs.laws.later_is_staged.Goals as goal

pub returns : goal.returns
returns c = record { law = stages }
