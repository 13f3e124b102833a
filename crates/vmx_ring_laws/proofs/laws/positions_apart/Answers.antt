use Rattle.vmx_ring_laws.specs.Moves.{elsewhere}
use Rattle.vmx_ring_laws.proofs.laws.positions_apart.Goals as goal

pub returns : goal.returns
returns c = record { law = elsewhere }
