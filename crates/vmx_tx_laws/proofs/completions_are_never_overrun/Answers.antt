use Rattle.vmx_tx_laws.proofs.Between.{never_overrun}
use Rattle.vmx_tx_laws.proofs.completions_are_never_overrun.Goals as goal

pub returns : goal.returns
returns g c = record { law = never_overrun g.C.TellsCompletions.told }
