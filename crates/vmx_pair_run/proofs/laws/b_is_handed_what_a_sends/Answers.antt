use Rattle.vmx_pair_run.proofs.Plans.{received_here}
use Rattle.vmx_pair_run.proofs.Records.{handed_here}
use Rattle.vmx_pair_run.proofs.laws.b_is_handed_what_a_sends.Goals as goal

pub returns : goal.returns
returns c = record { run = received_here; told = handed_here }
