use Rattle.std.proofs.Common.{rules, sym, ap, ◌∙◌, subst, arith}
use Rattle.vmx_driver_steps.specs.Dues.{FrameDue}
use Rattle.vmx_driver_steps.specs.Starting.{all_small}
use Rattle.std.proofs.lemmas.List.{length-map}
use Rattle.vmx_driver.specs.Stocked.{Stocked}
use Rattle.vmx_driver.specs.Seeing.{posts_so, few_unreaped}
use Rattle.vmx_driver.specs.Holding.{posts_hold, few_tx}
use Rattle.vmx_driver.proofs.driver.Driver.post.Goals as goal

pub post_next-requires-clause-due : goal.post_next-requires-clause-due
post_next-requires-clause-due g c κs within = subst (λ (v : Stocked). FrameDue v.driver.plan v.driver.at) (sym c.self.view_is) c.requires.due

pub post_next-requires-clause-small : goal.post_next-requires-clause-small
post_next-requires-clause-small g c κs within = all_small _ _ c.self.invariant.runs

pub overflow_add-self : goal.overflow_add-self
overflow_add-self g c = let few = few_unreaped _ (all_small _ _ c.self.invariant.runs) in let is = c.self.invariant.left_is in let many = few_tx _ _ _ _ _ _ c.self.invariant in omega (arith, few, is, many)

pub invariant_of-self-2 : goal.invariant_of-self-2
invariant_of-self-2 g c = posts_hold _ _ _ _ _ _ c.self.invariant _ _ _ _ _ (subst (λ (v : Stocked). FrameDue v.driver.plan v.driver.at) (sym c.self.view_is) c.requires.due) (c.post_next.ensures.posts (search rules)) c.post_next.ensures.regs.1
    (length-map c.post_next.new.tx g.F.TxDriver.TxDriver.view ∙ c.post_next.ensures.count ∙ sym (length-map c.self.inside.tx g.F.TxDriver.TxDriver.view))

pub returns-clause-posts : goal.returns-clause-posts
returns-clause-posts g c e = posts_so _ _ _ _ _ _ _ (ap (λ (x : Stocked). x.driver) c.self.view_is) (subst (λ (v : Stocked). FrameDue v.driver.plan v.driver.at) (sym c.self.view_is) c.requires.due) c.post_next.ensures.regs.0 c.post_next.ensures.regs.1 (c.post_next.ensures.posts (search rules))
