use Rattle.vmx_trusted_turns.proofs.Trust.{handles_trusted}
use Rattle.vmx_trusted_turns.proofs.Looked.{looks_tx}
use Rattle.vmx_trusted_turns.proofs.laws.trusted_devices_look_at_each_queue.Goals as goal

pub returns : goal.returns
returns c = record { frames = λ found d d' s t. (looks_tx found d d' s t).0; packet = handles_trusted }
