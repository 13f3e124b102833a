use Rattle.std.proofs.Common.{rules, refl, ap, ◌∙◌, arith}
use Rattle.vmx_regs.proofs.MaskSteps.{raise_looks, line_ors, auto_sets}
use Rattle.vmx_regs.proofs.ends.DeviceRegs.raise.Goals as goal

pub load-word-requires : goal.load-word-requires
load-word-requires g c = let me = c.args.self.now in let n = ap (λ q. q.shared.key) c.deref.ensures ∙ me.seated.1 in let less = c.requires.low in let same = me.numbered.0 in (search rules, search rules, raise_looks _ _ _ _ _ _ (omega arith) (omega arith) me.mask_role.1)

pub fetch_or-requires : goal.fetch_or-requires
fetch_or-requires g c = (search rules, search rules, line_ors _ _ _ _ _ _ _ refl)

pub fetch_or-requires-then-auto : goal.fetch_or-requires-then-auto
fetch_or-requires-then-auto g c = let me = c.args.self.now in let n = ap (λ q. q.shared.key) c.deref.ensures ∙ me.seated.1 in let less = c.requires.low in let same = me.numbered.0 in let is = ap (λ m. m.0) c.fetch_or.ensures.2.1 in let was = ap (λ m. m.0) c.load-word.ensures.2.1.0 in
    (search rules, search rules, auto_sets _ _ _ _ _ _ (omega arith) (omega arith) (ap (λ m. m.serves) is ∙ ap (λ m. m.serves) was ∙ me.mask_role.1) (ap (λ m. m.drives) is ∙ ap (λ m. m.drives) was ∙ me.mask_role.0))
