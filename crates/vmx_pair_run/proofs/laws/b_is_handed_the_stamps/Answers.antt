use Rattle.vmx_pair_run.proofs.Stamps.{stamps_here}
use Rattle.vmx_pair_run.proofs.laws.b_is_handed_the_stamps.Goals as goal

pub returns : goal.returns
returns c = record { stamps = stamps_here }
