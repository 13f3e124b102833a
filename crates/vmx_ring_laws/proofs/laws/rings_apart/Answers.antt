use Rattle.vmx_ring_laws.specs.Windows.{ring1_leaves_ring2}
use Rattle.vmx_ring_laws.proofs.laws.rings_apart.Goals as goal

pub returns : goal.returns
returns g c = record { law = ring1_leaves_ring2 }
