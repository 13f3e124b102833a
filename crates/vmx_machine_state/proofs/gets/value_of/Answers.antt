use Rattle.std.proofs.Common.{sym}
use Rattle.vmx_machine_state.proofs.NoValue.{no_value}
use Rattle.vmx_machine_state.proofs.gets.value_of.Goals as goal

pub returns-in-None : goal.returns-in-None
returns-in-None c = record { value = sym (no_value c.args.mac.now c.args.number c.in-None.ensures.none) }
