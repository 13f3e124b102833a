use Rattle.std.proofs.Common.{map}
use Rattle.vmx_model.specs.Serial.{wires_from}
use Rattle.vmx_serial_reference.specs.Worlds.{wire_of}
use Rattle.vmx_serial_reference.proofs.Begins.{flat_next}
use Rattle.vmx_serial_reference.proofs.run.begin.Goals as goal

pub loop-from-preserved : goal.loop-from-preserved
loop-from-preserved c = let l = c.loop-from in flat_next (wires_from c.len-guests.result) l.from (map wire_of l.wires) (map wire_of c.wire_to_others.new.wires) l.invariant c.in_ok-wire_to_others.ensures.wires
