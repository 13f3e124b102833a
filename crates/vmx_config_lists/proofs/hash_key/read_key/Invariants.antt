use Rattle.std.proofs.Common.{◌≡◌, ◌-◌}
use Rattle.vmx_config_lists.specs.Keys.{key_from, no_key}
use Rattle.vmx_config_lists.proofs.hash_key.read_key.Given as goal

abbrev pub invariant-loop-i : goal.invariant-loop-i
invariant-loop-i l = key_from l.digits l.key l.i (40 - l.i) ≡ key_from l.digits no_key 0 40
