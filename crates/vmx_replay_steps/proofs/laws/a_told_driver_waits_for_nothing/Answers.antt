use Rattle.vmx_replay_steps.proofs.Waits.{has_room, reaps_whole, has_answer}
use Rattle.vmx_replay_steps.proofs.laws.a_told_driver_waits_for_nothing.Goals as goal

pub returns : goal.returns
returns c = record { room = has_room; reaped = reaps_whole; answer = has_answer }
