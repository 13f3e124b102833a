use Rattle.vmx_model.proofs.Ready.{ready_start, ready_turn}
use Rattle.vmx_model.proofs.steps.stays_ready.Goals as goal

pub returns : goal.returns
returns c = record { start = ready_start; turn = ready_turn }
