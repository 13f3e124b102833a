use Rattle.std.proofs.Common.{◌≡◌}
use Rattle.vmx_regs.specs.Ends.{driver_view, driver_key}
use Rattle.vmx_interrupt_tests.proofs.tests.unmask_all.Given as goal

abbrev pub invariant-loop-i : goal.invariant-loop-i
invariant-loop-i l = (driver_key l.driver ≡ driver_key l.initial.driver) × (driver_view l.driver ≡ driver_view l.initial.driver)
