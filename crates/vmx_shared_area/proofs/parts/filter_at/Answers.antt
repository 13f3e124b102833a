use Rattle.std.proofs.Common.{rules}
use Rattle.vmx_shared_area.specs.Sound.{mode_none}
use Rattle.vmx_shared_area.proofs.parts.filter_at.Goals as goal

pub invariant_of-result : goal.invariant_of-result
invariant_of-result c =
    record { mode_fits = rw c.u32_at.ensures.number (mode_none c.args.bytes.now c.requires.mode); vlans_length = search rules; vlans_fit = c.vlans_at.ensures.fit }
