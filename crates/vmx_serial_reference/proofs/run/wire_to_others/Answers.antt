use Rattle.std.proofs.Common.{map}
use Rattle.vmx_serial_reference.specs.Worlds.{wire_of}
use Rattle.vmx_serial_reference.proofs.Begins.{wires_next}
use Rattle.vmx_serial_reference.proofs.run.wire_to_others.Goals as goal

pub loop-to-preserved : goal.loop-to-preserved
loop-to-preserved c = let a = c.args in wires_next a.from c.loop-to.to (map wire_of a.wires.now) (map wire_of c.loop-to.wires) (map wire_of c.wire_if_other.new.wires) c.loop-to.invariant c.in_ok-wire_if_other.ensures.wire
