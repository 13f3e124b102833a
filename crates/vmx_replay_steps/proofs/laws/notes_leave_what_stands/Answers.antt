use Rattle.vmx_replay_steps.proofs.Stands.{near_tx, near_rx, through_on, sent_before, trusted_on}
use Rattle.vmx_replay_steps.proofs.laws.notes_leave_what_stands.Goals as goal

pub returns : goal.returns
returns c = record { near_tx = near_tx; near_rx = near_rx; through_ = through_on; sent = sent_before; trusted = trusted_on }
