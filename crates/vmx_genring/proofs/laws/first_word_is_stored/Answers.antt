use Rattle.vmx_genring.specs.RingLaws.{stores_first}
use Rattle.vmx_genring.proofs.laws.first_word_is_stored.Goals as goal

pub returns : goal.returns
returns c = record { law = stores_first }
