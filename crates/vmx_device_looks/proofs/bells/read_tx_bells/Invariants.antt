use Rattle.std.proofs.Common.{◌≡◌}
use Rattle.vmx_regs.specs.Ends.{device_key, device_view, device_masks, device_interrupts}
use Rattle.vmx_device_looks.specs.Bells.{ReadsTxBells}
use Rattle.vmx_device_looks.proofs.bells.read_tx_bells.Given as goal

abbrev pub invariant-loop-queue : goal.invariant-loop-queue
invariant-loop-queue g l = record {
  key : device_key l.regs ≡ device_key l.fn.regs;
  calls : device_view l.regs ≡ device_view l.fn.regs;
  bells : ReadsTxBells (device_interrupts l.fn.regs) l.queue (device_masks l.fn.regs) (device_masks l.regs);
}
