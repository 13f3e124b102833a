use Rattle.vmx_config.proofs.reading.read.Goals as goal

pub config_of-requires : goal.config_of-requires
config_of-requires c = record { range = c.in_ok-settings.ensures.range }
