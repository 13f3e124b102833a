use Rattle.vmx_device_laws.proofs.Pairwise.{turn_pairs}
use Rattle.vmx_device_laws.proofs.laws.turns_pair_ends.Goals as goal

pub returns : goal.returns
returns c = record { pairs = turn_pairs }
