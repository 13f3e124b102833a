-- Which owner the generation bit of a second word names.
use Rattle.std.specs.Prelude.{ℕ, ◌/◌, ◌%◌, ◌^◌, ◌≡◌, Bool, not, ◌==◌, if◌then◌else◌}
use Rattle.vmx_genring.specs.Rings.{generation}

-- the bit k of a word, counted from the lowest from 0
abbrev pub bit : ℕ → ℕ → Bool
bit k word = word / 2 ^ k % 2 == 1

-- The bit k of the word is not the generation of the position p: no entry is published there. The bit is 14 in a transmit descriptor, 31 in a receive descriptor, 63 in a completion.
abbrev pub IsMissed : ℕ → ℕ → ℕ → ℕ → Type 0
IsMissed k size p word = bit k word ≡ not (generation size p)

-- the word of a look in a form that keeps no descriptors: the bit k alone, and it is not the position's generation
abbrev pub missed_word : ℕ → ℕ → ℕ → ℕ
missed_word k size p = if generation size p then 0 else 2 ^ k
