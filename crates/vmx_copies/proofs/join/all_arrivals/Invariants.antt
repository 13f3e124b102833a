use Rattle.std.proofs.Common.{◌≡◌, ◌<◌, ℕ, map, length}
use Rattle.vmx_buckets.specs.Buckets.{HasArrivals, at_key}
use Rattle.vmx_copies.specs.Join.{entries_in}
use Rattle.vmx_copies.proofs.join.all_arrivals.Given as goal

abbrev pub invariant-loop-journal : goal.invariant-loop-journal
invariant-loop-journal l = record {
  long : length l.arrivals ≡ l.journal-index;
  each : (port : ℕ) → port < l.journal-index → HasArrivals (entries_in (map (λ j. j.now) l.journals) port) (length l.journals) (at_key l.arrivals port);
}
