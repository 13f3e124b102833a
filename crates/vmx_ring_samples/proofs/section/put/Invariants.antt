use Rattle.std.proofs.Common.{◌≡◌, ◌+◌, ◌*◌, ◌++◌, ◌∷◌, length, take, vec_len}
use Rattle.vmx_ring_samples.specs.Sections.{numbers, long_numbers}
use Rattle.vmx_ring_samples.proofs.section.put.Given as goal

abbrev pub invariant-loop-number : goal.invariant-loop-number
invariant-loop-number l = record {
  is : l.into.items ≡ l.fn.into.items ++ numbers (take l.number-index l.head);
  long : vec_len l.into ≡ vec_len l.fn.into + 4 * l.number-index;
}

abbrev pub invariant-loop-word : goal.invariant-loop-word
invariant-loop-word l = record {
  is : l.into.items ≡ l.fn.into.items ++ numbers l.head ++ long_numbers (length l.words ∷ length l.buffers ∷ take l.word-index l.words);
  long : vec_len l.into ≡ vec_len l.fn.into + 48 + 8 * l.word-index;
}
