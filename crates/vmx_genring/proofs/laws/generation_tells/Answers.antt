use Rattle.vmx_genring.specs.RingLaws.{generation_tells}
use Rattle.vmx_genring.proofs.laws.generation_tells.Goals as goal

pub returns : goal.returns
returns c = record { law = generation_tells }
