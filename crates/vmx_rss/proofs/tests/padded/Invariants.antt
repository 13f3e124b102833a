use Rattle.std.proofs.Common.{◌≡◌, ◌≤◌, ℕ, length, slice_index}
use Rattle.vmx_rss.proofs.tests.padded.Given as goal

abbrev pub invariant-loop-i : goal.invariant-loop-i
invariant-loop-i l = record {
  long : length l.table ≡ 128;
  rest : (k : ℕ) → l.i ≤ k → slice_index l.table k ≡ 0;
}
