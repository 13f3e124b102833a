use Rattle.std.proofs.Common.{◌+◌, ◌*◌}
use Rattle.vmx_rss.specs.Toeplitz.{IsHashOf}
use Rattle.vmx_rss.proofs.Windows.{IsWindow}
use Rattle.vmx_rss.proofs.hash.over_windows.Given as goal

abbrev pub invariant-loop-k : goal.invariant-loop-k
invariant-loop-k l = record {
  hash : IsHashOf l.key l.input (8 * l.i + l.k) l.hash;
  window : IsWindow l.key (8 * l.i + l.k) l.window;
}

abbrev pub invariant-loop-i : goal.invariant-loop-i
invariant-loop-i l = record {
  hash : IsHashOf l.key l.input (8 * l.i) l.hash;
  window : IsWindow l.key (8 * l.i) l.window;
}
