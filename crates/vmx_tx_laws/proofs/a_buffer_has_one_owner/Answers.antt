use Rattle.vmx_tx_laws.proofs.Between.{one_owner}
use Rattle.vmx_tx_laws.proofs.a_buffer_has_one_owner.Goals as goal

pub returns : goal.returns
returns g c = record { law = one_owner g.C.TellsCompletions.told }
