use Rattle.vmx_ring_laws.specs.Moves.{forgets}
use Rattle.vmx_ring_laws.proofs.laws.many_leave.Goals as goal

pub returns : goal.returns
returns g c = record { law = λ n cell log from to r up down law. forgets n cell _ _ log from to r up down law }
