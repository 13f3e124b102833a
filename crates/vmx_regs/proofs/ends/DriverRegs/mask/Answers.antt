use Rattle.std.proofs.Common.{rules, ◌+◌, ◌*◌, ℕ, min, length, inl, true, sym, refl, ap, ◌∙◌, arith}
use Rattle.vmx_regs.specs.Masks.{mask_word, capped, writes_to}
use Rattle.vmx_regs.proofs.MaskSteps.{mask_looks, mask_stores}
use Rattle.vmx_regs.specs.declared.places.TheConstants.{LAST_COUNT}
use Rattle.vmx_regs.proofs.ends.DriverRegs.mask.Goals as goal

pub load-word-requires : goal.load-word-requires
load-word-requires g c = let me = c.args.self.now in let n = ap (λ q. q.shared.key) c.deref.ensures ∙ me.seated.1 in let less = c.requires.low in let same = me.numbered.0 in (search rules, search rules, mask_looks _ _ _ _ _ _ (omega arith) (omega arith) me.mask_role.0)

pub store-requires : goal.store-requires
store-requires g c = let me = c.args.self.now in let n = ap (λ q. q.shared.key) c.deref.ensures ∙ me.seated.1 in let less = c.requires.low in let same = me.numbered.0 in let looked = c.load-word.ensures.2.1 in (
  search rules,
  search rules,
  mask_stores _ _ _ _ _ _ (omega arith) (omega arith) (ap (λ m. m.0.drives) looked.0 ∙ me.mask_role.0) (ap (λ m. m.0.serves) looked.0 ∙ me.mask_role.1) true 1 _ (inl (refl, refl))
      (ap (λ (z : ℕ). z + 1) (c.next.ensures.next ∙ ap (λ (z : ℕ). 2 * min (z + 1) LAST_COUNT) (looked.1 ∙ ap (λ m. capped (length (writes_to (mask_word c.args.i) m.writes))) (sym (ap (λ m. m.0) looked.0))))),
)
