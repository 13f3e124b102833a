use Rattle.vmx_device_state.specs.SetupView.{setup_view}
use Rattle.vmx_device_looks.proofs.Forms.{state_from_setup}
use Rattle.vmx_device_looks.proofs.commands.show_setup.Goals as goal

pub returns-in-Some-clause-shows : goal.returns-in-Some-clause-shows
returns-in-Some-clause-shows g c = record { shows = (c.len-index.ensures.len, (c.in-Some.setup.now, c.push.ensures.items, state_from_setup c.args.machine.now.active (setup_view c.in-Some.setup.now) c.in-Some.ensures.setup)) }
