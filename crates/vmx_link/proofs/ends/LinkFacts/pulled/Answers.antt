use Rattle.std.proofs.Common.{sym, subst}
use mathlib.Core.List.{IsPrefix}
use Rattle.vmx_ring_laws.specs.Lists.{take_prefix}
use Rattle.vmx_link.specs.Seats.{known}
use Rattle.vmx_link.proofs.ends.LinkFacts.pulled.Goals as goal

pub returns-clause-prefix : goal.returns-clause-prefix
returns-clause-prefix c = let f = c.args.self.now in let v = known f.badge.views in subst (λ xs. IsPrefix xs v.pushed) (sym f.met) (take_prefix f.pulled v.pushed)
