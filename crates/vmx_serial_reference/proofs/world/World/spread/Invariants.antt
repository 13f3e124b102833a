use Rattle.std.proofs.Common.{◌≡◌, take, fold}
use Rattle.vmx_model.specs.Serial.{reaches}
use Rattle.vmx_serial_reference.specs.Worlds.{world_of}
use Rattle.vmx_serial_reference.proofs.world.World.spread.Given as goal

abbrev pub invariant-loop-to : goal.invariant-loop-to
invariant-loop-to l = world_of l.self ≡ fold (reaches l.plan l.tag l.frame) (world_of l.fn.self) (take l.to-index l.targets)
