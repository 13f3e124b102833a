use Rattle.vmx_txq.proofs.Between.{one_completion}
use Rattle.vmx_txq.proofs.laws.completions_tell_one_frame_each.Goals as goal

pub returns : goal.returns
returns c = record { law = one_completion }
