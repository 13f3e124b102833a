use Rattle.vmx_ring_laws.specs.Moves.{leaves}
use Rattle.vmx_ring_laws.proofs.laws.first_leaves.Goals as goal

pub returns : goal.returns
returns g c = record { law = λ n cell new log from r some_in same waits. leaves n cell new _ _ _ _ log from r some_in same waits (λ p z w more at f. f) (λ p w le less f. f) }
