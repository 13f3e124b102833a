use Rattle.vmx_pair_run.proofs.Records.{fates_here}
use Rattle.vmx_pair_run.proofs.laws.each_frame_has_its_fate.Goals as goal

pub returns : goal.returns
returns c = record { fates = fates_here }
