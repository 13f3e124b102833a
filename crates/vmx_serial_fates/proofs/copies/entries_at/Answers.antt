use Rattle.std.proofs.Common.{◌∙◌, sym, ap, arith}
use Rattle.vmx_model.specs.Fates.{entries_or_none}
use Rattle.vmx_serial_fates.proofs.FateLaws.{facts_there, facts_past}
use Rattle.vmx_serial_fates.proofs.copies.entries_at.Goals as goal

pub returns-then-port-len : goal.returns-then-port-len
returns-then-port-len c = let a = c.args in record { entries = c.as_slice.ensures.items ∙ sym (ap entries_or_none (facts_there a.world.now.seats a.port c.at.result.now (omega arith) c.at.ensures.value)) }

pub returns : goal.returns
returns c = let a = c.args in record { entries = sym (ap entries_or_none (facts_past a.world.now.seats a.port (omega arith))) }
