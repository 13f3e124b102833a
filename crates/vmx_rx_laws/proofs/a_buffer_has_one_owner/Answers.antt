use Rattle.vmx_rx_laws.proofs.Between.{one_owner}
use Rattle.vmx_rx_laws.proofs.a_buffer_has_one_owner.Goals as goal

pub returns : goal.returns
returns g c = record { law = one_owner g.C.TellsVisible.counted }
