use Rattle.vmx_replay_steps.proofs.Stopped.{was_stopped}
use Rattle.vmx_replay_steps.proofs.Updated.{was_updated, stands_updated, behind_updated}
use Rattle.vmx_replay_steps.proofs.Activated.{was_activated, stands_activated, behind_activated}
use Rattle.vmx_replay_steps.proofs.laws.a_command_is_answered.Goals as goal

pub returns : goal.returns
returns c = record { stops = was_stopped; updates = was_updated; activates = was_activated; updated = stands_updated; activated_ = stands_activated; behind = behind_activated; still_behind = behind_updated }
