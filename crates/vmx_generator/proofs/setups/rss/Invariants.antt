use Rattle.std.proofs.Common.{◌≡◌, ◌<◌, ◌%◌, ℕ, length, get_or}
use Rattle.vmx_shared_area.specs.declared.offsets.TheConstants.{TABLE_SIZE}
use Rattle.vmx_generator.proofs.setups.rss.Given as goal

abbrev pub invariant-loop-i : goal.invariant-loop-i
invariant-loop-i l = record {
  size : length l.table ≡ TABLE_SIZE;
  filled : (k : ℕ) → k < l.i → get_or l.table k 0 ≡ k % 4;
  below : (k : ℕ) → get_or l.table k 0 < 4;
}
