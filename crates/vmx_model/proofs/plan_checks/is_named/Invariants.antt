use Rattle.std.proofs.Common.{◌≡◌, drop, bytes_eq}
use Rattle.std.specs.List.{list_any}
use Rattle.vmx_model.specs.Totals.{names_of}
use Rattle.vmx_model.proofs.plan_checks.is_named.Given as goal

-- all turns on the guests that are left
abbrev pub invariant-loop-guest : goal.invariant-loop-guest
invariant-loop-guest l = list_any (bytes_eq l.name) (names_of (drop l.guest-index l.guests)) ≡ list_any (bytes_eq l.name) (names_of l.guests)
