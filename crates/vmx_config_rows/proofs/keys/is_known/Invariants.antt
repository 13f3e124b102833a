use Rattle.std.proofs.Common.{◌≡◌, drop, map}
use Rattle.vmx_config_rows.specs.Reading.{is_known}
use Rattle.vmx_config_rows.proofs.keys.is_known.Given as goal

abbrev pub invariant-loop-name : goal.invariant-loop-name
invariant-loop-name l = is_known (map (λ k. k.now) (drop l.name-index l.known)) l.key ≡ is_known (map (λ k. k.now) l.known) l.key
