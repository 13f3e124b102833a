use Rattle.std.proofs.Common.{◌≡◌, ℕ, [], length}
use Rattle.vmx_buckets.specs.Buckets.{at_key}
use Rattle.vmx_buckets.proofs.keys.empty_lists.Given as goal

abbrev pub invariant-loop : goal.invariant-loop
invariant-loop g l = record { long : length l.lists ≡ l.counter; empty : (k : ℕ) → at_key l.lists k ≡ [] }
