use Rattle.std.proofs.Common.{◌≡◌}
use Rattle.vmx_model.specs.Serial.{turns}
use Rattle.vmx_serial_reference.specs.Worlds.{world_of}
use Rattle.vmx_serial_reference.proofs.run.round.Given as goal

abbrev pub invariant-loop-port : goal.invariant-loop-port
invariant-loop-port l = world_of l.world ≡ turns l.plan l.number l.port (world_of l.fn.world)
