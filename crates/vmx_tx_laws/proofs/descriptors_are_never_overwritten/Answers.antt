use Rattle.vmx_tx_laws.proofs.Between.{never_overwritten}
use Rattle.vmx_tx_laws.proofs.descriptors_are_never_overwritten.Goals as goal

pub returns : goal.returns
returns g c = record { law = never_overwritten g.C.TellsCompletions.told }
