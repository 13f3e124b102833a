use Rattle.vmx_genring.specs.RingLaws.{publishes_one}
use Rattle.vmx_genring.proofs.laws.one_is_published.Goals as goal

pub returns : goal.returns
returns c = record { law = publishes_one }
