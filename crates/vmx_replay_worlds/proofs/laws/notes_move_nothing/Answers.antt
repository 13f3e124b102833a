use Rattle.vmx_replay_worlds.proofs.Noted.{driver_notes, device_notes}
use Rattle.vmx_replay_worlds.proofs.laws.notes_move_nothing.Goals as goal

pub returns : goal.returns
returns c = record { driver = driver_notes; device = device_notes }
