use Rattle.vmx_replay_steps.proofs.Standing.{is_on, is_off}
use Rattle.vmx_replay_steps.proofs.laws.a_device_is_active_as_its_driver.Goals as goal

pub returns : goal.returns
returns c = record { on = is_on; off = is_off }
