use Rattle.vmx_tx_laws.proofs.Between.{at_most_once}
use Rattle.vmx_tx_laws.proofs.a_frame_is_completed_and_reaped_at_most_once.Goals as goal

pub returns : goal.returns
returns g c = record { law = at_most_once g.C.TellsCompletions.told }
