use Rattle.vmx_ring_laws.specs.Keys.{same_table}
use Rattle.vmx_ring_laws.proofs.laws.keys_tell.Goals as goal

pub returns : goal.returns
returns c = record { law = same_table }
