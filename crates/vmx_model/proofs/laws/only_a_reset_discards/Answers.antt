use Rattle.vmx_model.proofs.Discarded.{none_discarded}
use Rattle.vmx_model.proofs.laws.only_a_reset_discards.Goals as goal

pub returns : goal.returns
returns c = record { kept = none_discarded }
