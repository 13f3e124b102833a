use Rattle.vmx_genring.specs.RingLaws.{generation_is_bit}
use Rattle.vmx_genring.proofs.laws.generation_is_bit.Goals as goal

pub returns : goal.returns
returns c = record { law = generation_is_bit }
