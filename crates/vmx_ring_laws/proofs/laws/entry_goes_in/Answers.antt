use Rattle.vmx_ring_laws.specs.Moves.{puts}
use Rattle.vmx_ring_laws.proofs.laws.entry_goes_in.Goals as goal

pub returns : goal.returns
returns g c = record { law = λ n cell new log from e r room same shows. puts n cell new _ _ _ _ log from e r room same shows (λ p z w le at f. f) (λ p w more less f. f) }
