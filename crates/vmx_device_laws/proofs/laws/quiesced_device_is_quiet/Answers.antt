use Rattle.vmx_device_laws.proofs.Quiets.{quiesced, stays_quiet}
use Rattle.vmx_device_laws.proofs.laws.quiesced_device_is_quiet.Goals as goal

pub returns : goal.returns
returns c = record { stopped = quiesced; quiet = stays_quiet }
