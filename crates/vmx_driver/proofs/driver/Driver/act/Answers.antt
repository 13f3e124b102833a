use Rattle.std.proofs.Common.{rules}
use Rattle.vmx_driver_steps.specs.declared.progress.Then.TheVariants.{End}
use Rattle.vmx_driver.specs.declared.driver.Act.{Act}
use Rattle.vmx_driver.specs.declared.driver.Act.TheVariants.{Worked}
use Rattle.vmx_driver.specs.Acts.{Acts, ActsAtMeeting, ActsAtQuiesce}
use Rattle.vmx_driver.proofs.Evenness.{at_answer, at_meeting, at_quiesce, acts_even, even_or}
use Rattle.vmx_driver.proofs.driver.Driver.act.Goals as goal

pub returns-then-take_answer-clause-even : goal.returns-then-take_answer-clause-even
returns-then-take_answer-clause-even g c = at_answer Worked c.args.self.now.driver _ (c.take_answer.ensures.takes (search rules)) c.requires.even

pub returns-in-Held-clause-even : goal.returns-in-Held-clause-even
returns-in-Held-clause-even g c = even_or (λ (a : Act). ActsAtMeeting c.in-Held.then c.args.self.now.driver a c.empty.new.self.driver) c.empty.result c.args.self.now.driver c.empty.new.self.driver c.empty.ensures.err c.empty.ensures.acts (λ a h. at_meeting c.in-Held.then a _ _ h c.requires.even) c.requires.even

pub returns-in-Active-clause-even : goal.returns-in-Active-clause-even
returns-in-Active-clause-even g c = even_or (λ (a : Act). ActsAtQuiesce End c.self.inside.at.done c.args.self.now.driver a c.quiesce.new.self.driver) c.quiesce.result c.args.self.now.driver c.quiesce.new.self.driver c.quiesce.ensures.err c.quiesce.ensures.acts (λ a h. at_quiesce End _ a _ _ h c.requires.even) c.requires.even

pub returns-in-Active-2-clause-even : goal.returns-in-Active-2-clause-even
returns-in-Active-2-clause-even g c = even_or (λ (a : Act). Acts c.args.self.now.driver a c.act_next.new.self.driver) c.act_next.result c.args.self.now.driver c.act_next.new.self.driver c.act_next.ensures.err c.act_next.ensures.acts (λ a h. acts_even _ a _ h c.requires.even) c.requires.even
