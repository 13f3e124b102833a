use Rattle.std.proofs.Common.{ap, ◌∙◌}
use Rattle.vmx_txq_tests.proofs.tests.a_mark_stands_in_the_first_descriptor_and_comes_out_as_posted.Goals as goal

pub word_at-first-requires-clause-one : goal.word_at-first-requires-clause-one
word_at-first-requires-clause-one g c = c.posts-posted.ensures.same.0 ∙ ap (λ z. z.key) c.in_ok-driver.ensures.made.0

pub word_at-first-requires-clause-size : goal.word_at-first-requires-clause-size
word_at-first-requires-clause-size g c = ap (λ z. z.size) (c.posts-posted.ensures.same.1 ∙ ap (λ z. z.made) c.in_ok-driver.ensures.made.0)

pub word_at-middle-requires-clause-one : goal.word_at-middle-requires-clause-one
word_at-middle-requires-clause-one g c = ap (λ z. z.key) c.word_at-first.ensures.same ∙ c.posts-posted.ensures.same.0 ∙ ap (λ z. z.key) c.in_ok-driver.ensures.made.0

pub word_at-middle-requires-clause-size : goal.word_at-middle-requires-clause-size
word_at-middle-requires-clause-size g c = ap (λ z. z.made.size) c.word_at-first.ensures.same ∙ ap (λ z. z.size) (c.posts-posted.ensures.same.1 ∙ ap (λ z. z.made) c.in_ok-driver.ensures.made.0)

pub word_at-last-requires-clause-one : goal.word_at-last-requires-clause-one
word_at-last-requires-clause-one g c = ap (λ z. z.key) (c.word_at-middle.ensures.same ∙ c.word_at-first.ensures.same) ∙ c.posts-posted.ensures.same.0 ∙ ap (λ z. z.key) c.in_ok-driver.ensures.made.0

pub word_at-last-requires-clause-size : goal.word_at-last-requires-clause-size
word_at-last-requires-clause-size g c = ap (λ z. z.made.size) (c.word_at-middle.ensures.same ∙ c.word_at-first.ensures.same) ∙ ap (λ z. z.size) (c.posts-posted.ensures.same.1 ∙ ap (λ z. z.made) c.in_ok-driver.ensures.made.0)
