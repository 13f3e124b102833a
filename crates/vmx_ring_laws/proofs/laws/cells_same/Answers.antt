use Rattle.vmx_ring_laws.specs.Moves.{cells_same}
use Rattle.vmx_ring_laws.proofs.laws.cells_same.Goals as goal

pub returns : goal.returns
returns g c = record { law = λ n cell new log from r same. cells_same n cell new _ _ log from r same }
