use Rattle.std.proofs.Common.{sym, ap, ◌∙◌}
use Rattle.vmx_txq_tests.proofs.tests.generations_flip_at_the_wrap.Goals as goal

pub word_at-second-requires-clause-one : goal.word_at-second-requires-clause-one
word_at-second-requires-clause-one g c = c.post_plain-posted.ensures.same.0 ∙ c.reaps-none.ensures.same.0 ∙ c.goes_round-all.ensures.one.0 ∙ ap (λ z. z.key) c.in_ok-driver.ensures.made.0 ∙ sym c.goes_round-all.ensures.one.2 ∙ sym c.looks-none.ensures.same.0

pub word_at-second-requires-clause-size : goal.word_at-second-requires-clause-size
word_at-second-requires-clause-size g c = ap (λ z. z.size) (c.post_plain-posted.ensures.same.1 ∙ c.reaps-none.ensures.same.1 ∙ c.goes_round-all.ensures.one.1 ∙ ap (λ z. z.made) c.in_ok-driver.ensures.made.0)
