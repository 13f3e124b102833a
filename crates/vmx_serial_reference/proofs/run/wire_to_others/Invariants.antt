use Rattle.std.proofs.Common.{◌≡◌, ◌++◌, map}
use Rattle.vmx_serial_reference.specs.Worlds.{wire_of}
use Rattle.vmx_serial_reference.proofs.Begins.{wires_up_to}
use Rattle.vmx_serial_reference.proofs.run.wire_to_others.Given as goal

abbrev pub invariant-loop-to : goal.invariant-loop-to
invariant-loop-to l = map wire_of l.wires ≡ map wire_of l.fn.wires ++ wires_up_to l.from l.to
