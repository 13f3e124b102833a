use Rattle.vmx_replay_runs.proofs.Counts.{more_here, more_other}
use Rattle.vmx_replay_runs.proofs.laws.a_count_is_of_one_port.Goals as goal

pub returns : goal.returns
returns c = record { here = more_here; others = more_other }
