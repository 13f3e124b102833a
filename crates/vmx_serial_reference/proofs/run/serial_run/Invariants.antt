use Rattle.std.proofs.Common.{◌≡◌}
use Rattle.vmx_model.specs.Serial.{rounds, start}
use Rattle.vmx_serial_reference.specs.Worlds.{world_of}
use Rattle.vmx_serial_reference.proofs.run.serial_run.Given as goal

abbrev pub invariant-loop-number : goal.invariant-loop-number
invariant-loop-number l = world_of l.world ≡ rounds l.plan l.number (start l.plan)
