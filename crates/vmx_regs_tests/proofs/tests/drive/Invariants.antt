use Rattle.std.proofs.Common.{◌≡◌, ◌≤◌, length}
use Rattle.std.specs.Prelude.{is_some, is_none}
use Rattle.vmx_regs.specs.Ends.{driver_view, driver_key}
use Rattle.vmx_regs_tests.proofs.tests.drive.Given as goal

abbrev pub invariant-loop-tries : goal.invariant-loop-tries
invariant-loop-tries l = (driver_key l.driver ≡ driver_key l.initial.driver) × (is_some l.kept ≡ is_none (driver_view l.driver).asked) × (length (driver_view l.driver).turns ≤ l.tries)
