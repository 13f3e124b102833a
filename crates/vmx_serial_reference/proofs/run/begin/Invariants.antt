use Rattle.std.proofs.Common.{◌≡◌, map}
use Rattle.std.specs.List.{flat_map}
use Rattle.vmx_model.specs.Lists.{upto}
use Rattle.vmx_model.specs.Serial.{wires_from}
use Rattle.vmx_serial_reference.specs.Worlds.{wire_of}
use Rattle.vmx_serial_reference.proofs.run.begin.Given as goal

abbrev pub invariant-loop-from : goal.invariant-loop-from
invariant-loop-from l = map wire_of l.wires ≡ flat_map (wires_from l.guests) (upto 0 l.from)
