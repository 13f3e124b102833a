use Rattle.std.proofs.Common.{ℕ, false, ap, sym, ◌∙◌, add-one}
use Rattle.vmx_regs.specs.declared.known.Masks.{Masks}
use Rattle.vmx_regs.specs.Ends.{driver_masks}
use Rattle.vmx_regs.specs.Masks.{mask_word, writing}
use Rattle.vmx_driver_steps.specs.Hints.{unmasked}
use Rattle.vmx_driver_ends.proofs.ends.unmask_all.Goals as goal

pub loop-i-preserved : goal.loop-i-preserved
loop-i-preserved g c = let inv = c.loop-i.invariant in record {
  key = c.unmask.ensures.key ∙ inv.key;
  calls = c.unmask.ensures.calls ∙ inv.calls;
  masks = c.unmask.ensures.view ∙ ap (λ (m : Masks). writing m (mask_word c.loop-i.i) false) inv.masks ∙ sym (ap (λ (k : ℕ). unmasked k (driver_masks c.args.regs.now)) (add-one c.loop-i.i));
}
