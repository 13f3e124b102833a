use Rattle.std.proofs.Common.{rules}
use Rattle.vmx_config.proofs.plan.filter_of.Goals as goal

pub invariant_of-result : goal.invariant_of-result
invariant_of-result c = record { mode_fits = c.requires.range.mode; vlans_length = search rules; vlans_fit = c.vlans_of.ensures.fit }
