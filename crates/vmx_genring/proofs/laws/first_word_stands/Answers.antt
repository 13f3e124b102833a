use Rattle.vmx_genring.specs.RingLaws.{first_stands}
use Rattle.vmx_genring.proofs.laws.first_word_stands.Goals as goal

pub returns : goal.returns
returns c = record { law = first_stands }
