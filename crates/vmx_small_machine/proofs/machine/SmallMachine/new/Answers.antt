use Rattle.std.proofs.Common.{sym, refl}
use Rattle.vmx_small_machine.proofs.machine.SmallMachine.new.Goals as goal

pub returns : goal.returns
returns g c = record { new = record { state = sym c.new.ensures.idle; held = refl; whole = tt } }
