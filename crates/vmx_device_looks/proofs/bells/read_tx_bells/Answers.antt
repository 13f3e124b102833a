use Rattle.std.proofs.Common.{ℕ, add-one, ap, ◌∙◌}
use Rattle.vmx_regs.specs.Ends.{device_masks}
use Rattle.vmx_regs.specs.declared.known.Calls.{Calls}
use Rattle.vmx_regs.specs.declared.ends.bells.Bell.TheVariants.{Tx}
use Rattle.vmx_device_looks.specs.Bells.{read_bell}
use Rattle.vmx_device_looks.proofs.bells.read_tx_bells.Goals as goal

pub loop-queue-preserved : goal.loop-queue-preserved
loop-queue-preserved g c =
    let inv = c.loop-queue.invariant in
    let interrupts = ap (λ (v : Calls). v.interrupts) inv.calls in record {
      key = c.doorbell.ensures.key ∙ inv.key;
      calls = c.doorbell.ensures.calls ∙ inv.calls;
      bells = rw add-one (device_masks c.loop-queue.regs, (c.doorbell.result, c.doorbell.ensures.view ∙ ap (λ (n : ℕ). read_bell n (Tx c.loop-queue.queue) c.doorbell.result (device_masks c.loop-queue.regs)) interrupts), inv.bells);
    }
