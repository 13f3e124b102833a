use Rattle.std.proofs.Common.{◌≡◌, ◌≤◌, ◌+◌, ◌*◌, ◌^◌, drop}
use Rattle.vmx_config.specs.Whole.{total_of}
use Rattle.vmx_config.proofs.checks.total.Given as goal

abbrev pub invariant-loop-guest : goal.invariant-loop-guest
invariant-loop-guest l = record {
  total : l.sum + total_of (drop l.guest-index l.guests) ≡ total_of l.guests;
  low : l.sum ≤ l.guest-index * 2 ^ 42;
}
