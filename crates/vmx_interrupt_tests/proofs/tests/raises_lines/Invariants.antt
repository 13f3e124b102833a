use Rattle.std.proofs.Common.{◌≡◌}
use Rattle.vmx_regs.specs.Ends.{device_view, device_key}
use Rattle.vmx_interrupt_tests.proofs.tests.raises_lines.Given as goal

abbrev pub invariant-loop-tries : goal.invariant-loop-tries
invariant-loop-tries g l = (device_key l.device ≡ device_key l.initial.device) × (device_view l.device ≡ device_view l.initial.device)
