use Rattle.vmx_replay_worlds.proofs.Moved.{guest_moves, guest_same}
use Rattle.vmx_replay_worlds.proofs.laws.a_guest_moves.Goals as goal

pub returns : goal.returns
returns c = record { moves = guest_moves; same = guest_same }
