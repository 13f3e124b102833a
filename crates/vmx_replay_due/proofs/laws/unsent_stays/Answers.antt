use Rattle.vmx_replay_due.proofs.Due.{stays_by}
use Rattle.vmx_replay_due.proofs.laws.unsent_stays.Goals as goal

pub returns : goal.returns
returns c = record { stays = λ plan port posted s w. stays_by plan port posted s w }
