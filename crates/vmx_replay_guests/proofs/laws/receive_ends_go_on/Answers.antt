use Rattle.vmx_replay_guests.proofs.GoOn.{poll_goes_on, turn_goes_on, fresh_behind}
use Rattle.vmx_replay_guests.proofs.laws.receive_ends_go_on.Goals as goal

pub returns : goal.returns
returns c = record { polls = poll_goes_on; turns = turn_goes_on; fresh = fresh_behind }
