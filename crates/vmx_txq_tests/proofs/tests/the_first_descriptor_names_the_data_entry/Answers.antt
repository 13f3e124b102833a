use Rattle.std.proofs.Common.{ap, ◌∙◌}
use Rattle.vmx_txq_tests.proofs.tests.the_first_descriptor_names_the_data_entry.Goals as goal

pub word_at-first-requires-clause-one : goal.word_at-first-requires-clause-one
word_at-first-requires-clause-one g c = c.post_plain-posted.ensures.same.0 ∙ ap (λ z. z.key) c.in_ok-driver.ensures.made.0

pub word_at-first-requires-clause-size : goal.word_at-first-requires-clause-size
word_at-first-requires-clause-size g c = ap (λ z. z.size) (c.post_plain-posted.ensures.same.1 ∙ ap (λ z. z.made) c.in_ok-driver.ensures.made.0)

pub word_at-second-requires-clause-one : goal.word_at-second-requires-clause-one
word_at-second-requires-clause-one g c = ap (λ z. z.key) c.word_at-first.ensures.same ∙ c.post_plain-posted.ensures.same.0 ∙ ap (λ z. z.key) c.in_ok-driver.ensures.made.0

pub word_at-second-requires-clause-size : goal.word_at-second-requires-clause-size
word_at-second-requires-clause-size g c = ap (λ z. z.made.size) c.word_at-first.ensures.same ∙ ap (λ z. z.size) (c.post_plain-posted.ensures.same.1 ∙ ap (λ z. z.made) c.in_ok-driver.ensures.made.0)
