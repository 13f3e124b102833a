use Rattle.vmx_tx_laws.proofs.Between.{completed_once}
use Rattle.vmx_tx_laws.proofs.a_descriptor_is_completed_at_most_once_a_post.Goals as goal

pub returns : goal.returns
returns g c = record { law = completed_once g.C.TellsCompletions.told }
