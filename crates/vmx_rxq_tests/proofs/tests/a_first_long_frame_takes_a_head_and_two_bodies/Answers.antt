use Rattle.std.proofs.Common.{sym, ap, ◌∙◌}
use Rattle.vmx_rxq_tests.proofs.Keys.{key_stays}
use Rattle.vmx_rxq_tests.proofs.tests.a_first_long_frame_takes_a_head_and_two_bodies.Goals as goal

pub part_0-requires-clause-keys : goal.part_0-requires-clause-keys
part_0-requires-clause-keys g c = ap (λ z. z.key) c.in_ok-driver.ensures.made.0 ∙ sym (key_stays _ _ _ _ _ c.deliver-done.ensures.delivers)

pub part_0-requires-2-clause-keys : goal.part_0-requires-2-clause-keys
part_0-requires-2-clause-keys g c = ap (λ z. z.key) (c.part_0.ensures.same ∙ c.in_ok-driver.ensures.made.0) ∙ sym (key_stays _ _ _ _ _ c.deliver-done.ensures.delivers)

pub part_0-requires-3-clause-keys : goal.part_0-requires-3-clause-keys
part_0-requires-3-clause-keys g c = ap (λ z. z.key) (c.part_0-2.ensures.same ∙ c.part_0.ensures.same ∙ c.in_ok-driver.ensures.made.0) ∙ sym (key_stays _ _ _ _ _ c.deliver-done.ensures.delivers)
