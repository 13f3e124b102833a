use Rattle.vmx_device_laws.proofs.Kept.{keeps_turn}
use Rattle.vmx_device_laws.proofs.News.{keeps_new}
use Rattle.vmx_device_laws.proofs.laws.turns_keep.Goals as goal

pub returns : goal.returns
returns c = record { new = keeps_new; turn = keeps_turn }
