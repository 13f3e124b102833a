use Rattle.std.proofs.Common.{Some, ap, sym, ◌∙◌}
use Rattle.vmx_layout.specs.RegisterLaws.{only_mask, only_tx_doorbell, only_rx_doorbell, only_rx_doorbell2, no_register}
use Rattle.vmx_layout.proofs.register.Register.of_bar0.Goals as goal

pub returns-in-Some-clause-unique : goal.returns-in-Some-clause-unique
returns-in-Some-clause-unique c r bar e = ap Some (only_mask _ r bar (e ∙ sym c.in-Some.ensures.found))

pub returns-in-Some-at-clause-unique : goal.returns-in-Some-at-clause-unique
returns-in-Some-at-clause-unique c r bar e = ap Some (only_tx_doorbell _ r bar (e ∙ sym c.in-Some-at.ensures.found))

pub returns-in-Some-at-2-clause-unique : goal.returns-in-Some-at-2-clause-unique
returns-in-Some-at-2-clause-unique c r bar e = ap Some (only_rx_doorbell _ r bar (e ∙ sym c.in-Some-at-2.ensures.found))

pub returns-in-Some-at-3-clause-unique : goal.returns-in-Some-at-3-clause-unique
returns-in-Some-at-3-clause-unique c r bar e = ap Some (only_rx_doorbell2 _ r bar (e ∙ sym c.in-Some-at-3.ensures.found))

pub returns-clause-none : goal.returns-clause-none
returns-clause-none c = no_register _ c.in_default.ensures.none c.in_default-at.ensures.none c.in_default-at-2.ensures.none c.in_default-at-3.ensures.none

pub returns-clause-unique : goal.returns-clause-unique
returns-clause-unique c r bar e = absurd (no_register _ c.in_default.ensures.none c.in_default-at.ensures.none c.in_default-at-2.ensures.none c.in_default-at-3.ensures.none r bar e)
