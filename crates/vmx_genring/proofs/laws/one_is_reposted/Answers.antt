use Rattle.vmx_genring.specs.RingLaws.{reposts}
use Rattle.vmx_genring.proofs.laws.one_is_reposted.Goals as goal

pub returns : goal.returns
returns c = record { law = reposts }
