use Rattle.vmx_replay_worlds.proofs.Started.{new_world, next_started, last_started}
use Rattle.vmx_replay_worlds.proofs.laws.guests_start.Goals as goal

pub returns : goal.returns
returns c = record { new = new_world; next = next_started; last = last_started }
