use Rattle.std.proofs.Common.{◌≡◌, ℕ, ◌+◌, ◌*◌, ◌<◌, length, get_or}
use Rattle.vmx_shared_area.specs.Bytes.{number_at}
use Rattle.vmx_shared_area.proofs.numbers.counts_at.Given as goal
use Rattle.vmx_shared_area.specs.declared.offsets.TheConstants.{STATISTICS_COUNT}

abbrev pub invariant-loop-i : goal.invariant-loop-i
invariant-loop-i l = record {
  len : length l.counts ≡ STATISTICS_COUNT;
  each : (k : ℕ) → k < l.i → get_or l.counts k 0 ≡ number_at 8 (l.start + 8 * k) l.bytes;
}
