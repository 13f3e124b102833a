use Rattle.std.proofs.Common.{◌≡◌, map, drop, find}
use Rattle.vmx_model.specs.Serial.{is_wire}
use Rattle.vmx_serial_reference.specs.Worlds.{wire_of}
use Rattle.vmx_serial_reference.proofs.world.pushed_on.Given as goal

abbrev pub invariant-loop-wire : goal.invariant-loop-wire
invariant-loop-wire l = find (is_wire l.from l.to) (map wire_of l.wires) ≡ find (is_wire l.from l.to) (map wire_of (drop l.wire-index l.wires))
