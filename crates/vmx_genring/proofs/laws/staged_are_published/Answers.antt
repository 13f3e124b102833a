use Rattle.vmx_genring.specs.RingLaws.{publishes}
use Rattle.vmx_genring.proofs.laws.staged_are_published.Goals as goal

pub returns : goal.returns
returns c = record { law = publishes }
