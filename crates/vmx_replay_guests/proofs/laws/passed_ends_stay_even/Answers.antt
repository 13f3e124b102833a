use Rattle.vmx_replay_guests.proofs.Even.{stays_even, stays_whole}
use Rattle.vmx_replay_guests.proofs.laws.passed_ends_stay_even.Goals as goal

pub returns : goal.returns
returns c = record { driver = stays_even; device = stays_whole }
