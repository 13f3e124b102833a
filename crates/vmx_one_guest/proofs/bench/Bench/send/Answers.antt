use Rattle.std.proofs.Common.{◌∙◌}
use Rattle.vmx_one_guest.proofs.bench.Bench.send.Goals as goal

-- the packet that was made has the bytes of the sample
pub returns-clause-sent : goal.returns-clause-sent
returns-clause-sent c = λ yes. (c.in_ok-packet.packet, c.send.ensures.sent yes, c.in_ok-packet.ensures.frame ∙ c.as_slice.ensures.value ∙ c.in_ok-bytes.ensures.bytes)
