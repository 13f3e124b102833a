use Rattle.std.proofs.Common.{◌≡◌}
use Rattle.vmx_regs.specs.Ends.{driver_key, driver_view, driver_masks}
use Rattle.vmx_driver_steps.specs.Hints.{unmasked}
use Rattle.vmx_driver_ends.proofs.ends.unmask_all.Given as goal

abbrev pub invariant-loop-i : goal.invariant-loop-i
invariant-loop-i g l = record {
  key : driver_key l.regs ≡ driver_key l.fn.regs;
  calls : driver_view l.regs ≡ driver_view l.fn.regs;
  masks : driver_masks l.regs ≡ unmasked l.i (driver_masks l.fn.regs);
}
