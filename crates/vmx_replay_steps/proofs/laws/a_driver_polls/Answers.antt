use Rattle.vmx_replay_steps.proofs.Polled.{poll_seat, poll_count, poll_idle}
use Rattle.vmx_replay_steps.proofs.laws.a_driver_polls.Goals as goal

pub returns : goal.returns
returns c = record { seat = poll_seat; count = poll_count; idle = poll_idle }
