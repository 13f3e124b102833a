use Rattle.vmx_rx_laws.proofs.Between.{received_begins}
use Rattle.vmx_rx_laws.proofs.received_begins_delivered.Goals as goal

pub returns : goal.returns
returns g c = record { law = received_begins g.C.TellsVisible.counted }
