use Rattle.std.proofs.Common.{map}
use Rattle.vmx_model.specs.Serial.{is_wire, carried}
use Rattle.vmx_serial_reference.specs.Worlds.{wire_of}
use Rattle.vmx_serial_queues.proofs.Places.{Changed}
use Rattle.vmx_serial_reference.proofs.world.carry.Given as goal

abbrev pub invariant-loop-i : goal.invariant-loop-i
invariant-loop-i l = Changed wire_of (is_wire l.tag.guest l.to) (carried (record { tag = l.tag; frame = l.frame })) (map wire_of l.fn.wires) l.i l.wires
