use Rattle.std.proofs.Common.{◌≡◌, ◌+◌, ◌*◌, ◌≤◌, drop}
use Rattle.vmx_checksum.specs.Words.{word_sum}
use Rattle.vmx_checksum.proofs.words.word_sum.Given as goal

-- what is left of the bytes completes the sum
abbrev pub invariant-loop-i : goal.invariant-loop-i
invariant-loop-i l = record {
  sum : l.sum + word_sum (drop (2 * l.i) l.bytes) ≡ word_sum l.bytes;
  most : l.sum ≤ 65535 * l.i;
}
