use Rattle.std.proofs.Common.{◌≡◌, ◌≤◌, length}
use Rattle.std.specs.Prelude.{None, option_map}
use Rattle.vmx_device_state.specs.Plain.{state_of}
use Rattle.vmx_regs.specs.Ends.{device_view, device_key}
use Rattle.vmx_small_machine.specs.Machine.{machine, Tracks}
use Rattle.vmx_regs_tests.proofs.tests.attend.Given as goal

abbrev pub invariant-loop-tries : goal.invariant-loop-tries
invariant-loop-tries g l = (device_key l.device ≡ device_key l.initial.device) × ((device_view l.device).serving ≡ None) × (length (device_view l.device).served ≤ l.tries)
    × Tracks (machine (state_of l.machine.plain) (option_map g.E.Handed.handed l.machine.held)) (device_view l.device).served
