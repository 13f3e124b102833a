use Rattle.std.proofs.Common.{ℕ, add-one, ap, ◌∙◌}
use Rattle.vmx_regs.specs.Ends.{device_masks, device_interrupts}
use Rattle.vmx_regs.specs.declared.known.Calls.{Calls}
use Rattle.vmx_regs.specs.declared.ends.bells.Bell.TheVariants.{Rx}
use Rattle.vmx_device_looks.specs.Bells.{read_bell}
use Rattle.vmx_device_looks.proofs.bells.read_rx_bells.Goals as goal

pub loop-queue-preserved : goal.loop-queue-preserved
loop-queue-preserved g c =
    let inv = c.loop-queue.invariant in
    let interrupts = ap (λ (v : Calls). v.interrupts) inv.calls in
    let interrupts2 = ap (λ (v : Calls). v.interrupts) (c.doorbell.ensures.calls ∙ inv.calls) in
    let first = c.doorbell.ensures.view ∙ ap (λ (n : ℕ). read_bell n (Rx c.loop-queue.queue 1) c.doorbell.result (device_masks c.loop-queue.regs)) interrupts in
    let second = c.doorbell-in-loop-queue.ensures.view ∙ ap (λ (n : ℕ). read_bell n (Rx c.loop-queue.queue 2) c.doorbell-in-loop-queue.result (device_masks c.doorbell.new.self)) interrupts2 in record {
      key = c.doorbell-in-loop-queue.ensures.key ∙ c.doorbell.ensures.key ∙ inv.key;
      calls = c.doorbell-in-loop-queue.ensures.calls ∙ c.doorbell.ensures.calls ∙ inv.calls;
      bells = rw add-one (device_masks c.loop-queue.regs, (c.doorbell.result, c.doorbell-in-loop-queue.result, second ∙ ap (read_bell (device_interrupts c.args.regs.now) (Rx c.loop-queue.queue 2) c.doorbell-in-loop-queue.result) first), inv.bells);
    }
