-- How the words and buffers of a queue lie in a section.
use Rattle.std.specs.Prelude.{ℕ, ◌++◌, List, ◌∷◌, length}
use Rattle.std.specs.Int.{w32, w64, to_le_bytes}
use Rattle.std.specs.List.{flat_map}

-- numbers of 32 bits and of 64 bits, one behind the other, the lowest byte of each first
unfoldable pub numbers : List ℕ → List ℕ
numbers xs = flat_map (to_le_bytes w32) xs

unfoldable pub long_numbers : List ℕ → List ℕ
long_numbers xs = flat_map (to_le_bytes w64) xs

-- a section: the numbers of its head; how many words and how many bytes follow, and the words; and the bytes of all slots
abbrev pub section : List ℕ → List ℕ → List ℕ → List ℕ
section head words buffers = numbers head ++ long_numbers (length words ∷ length buffers ∷ words) ++ buffers
