use Rattle.vmx_ring_laws.specs.Lists.{beside}
use Rattle.vmx_ring_laws.proofs.laws.prefixes_compare.Goals as goal

pub returns : goal.returns
returns g c = record { law = beside }
