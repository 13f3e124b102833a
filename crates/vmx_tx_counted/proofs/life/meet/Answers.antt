use Rattle.std.proofs.Common.{sym, subst}
use Rattle.vmx_ring_laws.specs.Keys.{key_of, same_table}
use Rattle.vmx_ends.specs.TransmitClauses.{IsOrdered}
use Rattle.vmx_tx_counted.proofs.life.meet.Goals as goal

pub meet_ring-meeting-requires : goal.meet_ring-meeting-requires
meet_ring-meeting-requires c = record { one = sym (same_table _ _ c.requires.keys) }

pub returns-clause-facts : goal.returns-clause-facts
returns-clause-facts c = let k = c.meet_ring-meeting.ensures.key in let b = c.meet_ring-meeting.ensures.both in
    λ i. record { key = key_of (k i); made = (b i).made; sent = (b i).driver.at.sent; taken = (b i).device.at.taken; completed = (b i).device.at.completed; reaped = (b i).driver.at.reaped }

pub returns-clause-ordered : goal.returns-clause-ordered
returns-clause-ordered c = let k = c.meet_ring-meeting.ensures.key in let b = c.meet_ring-meeting.ensures.both in let m = c.meet_ring-meeting.ensures in
    subst IsOrdered (λ i. record { key = key_of (sym k i); made = (sym b i).made; sent = (sym b i).driver.at.sent; taken = (sym b i).device.at.taken; completed = (sym b i).device.at.completed; reaped = (sym b i).driver.at.reaped })
    (record { taken = m.taken; reaped = m.numbers.0; completed = m.numbers.1; within = m.within })
