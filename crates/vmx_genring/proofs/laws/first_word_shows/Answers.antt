use Rattle.vmx_genring.specs.RingLaws.{first_shows}
use Rattle.vmx_genring.proofs.laws.first_word_shows.Goals as goal

pub returns : goal.returns
returns c = record { law = first_shows }
