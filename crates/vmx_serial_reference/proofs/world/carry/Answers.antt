use Rattle.std.proofs.Common.{map, arith}
use Rattle.std.proofs.lemmas.List.{length-map}
use Rattle.vmx_model.specs.Serial.{Carried, is_wire, carried}
use Rattle.vmx_serial_reference.specs.Worlds.{wire_of}
use Rattle.vmx_serial_queues.proofs.Places.{changed_next, changed_length}
use Rattle.vmx_serial_reference.proofs.world.carry.Goals as goal

pub loop-i-preserved : goal.loop-i-preserved
loop-i-preserved c = let a = c.args in let l = c.loop-i in let p : Carried = record { tag = a.tag; frame = a.frame.now } in let len = changed_length wire_of (is_wire a.tag.guest a.to) (carried p) (map wire_of a.wires.now) l.i l.wires l.invariant in
    changed_next wire_of (is_wire a.tag.guest a.to) (carried p) (map wire_of a.wires.now) l.i l.wires c.at_mut.result.now c.carry_if.new.wire l.invariant (omega (arith, length-map a.wires.now wire_of)) c.at_mut.ensures.value c.in_ok-carry_if.ensures.carried
