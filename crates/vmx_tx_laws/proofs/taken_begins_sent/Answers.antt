use Rattle.vmx_tx_laws.proofs.Between.{taken_begins}
use Rattle.vmx_tx_laws.proofs.taken_begins_sent.Goals as goal

pub returns : goal.returns
returns g c = record { law = taken_begins g.C.TellsCompletions.told }
