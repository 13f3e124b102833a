use Rattle.std.proofs.Common.{sym, ap, ◌∙◌}
use Rattle.vmx_rxq_tests.proofs.Keys.{key_stays}
use Rattle.vmx_rxq_tests.proofs.tests.fourth_part_0.Goals as goal

pub part_0-requires-clause-keys : goal.part_0-requires-clause-keys
part_0-requires-clause-keys c = ap (λ z. z.key) c.in_ok-driver.ensures.made.0 ∙ sym c.delivers_all.ensures.key ∙ sym (key_stays _ _ _ _ _ c.deliver.ensures.delivers)
