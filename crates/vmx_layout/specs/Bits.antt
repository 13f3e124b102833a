-- Words as fields of bits.
use Rattle.std.specs.Prelude.{ℕ, ◌+◌, ◌*◌, ◌/◌, ◌%◌, ◌^◌, Bool, true, false, List, [], ◌∷◌}

-- a truth value as a bit
abbrev pub bit : Bool → ℕ
bit true = 1
bit false = 0

-- the word whose fields, from the lowest bit up, have these widths and values
abbrev pub stack : List (ℕ × ℕ) → ℕ
stack [] = 0
stack (f ∷ fs) = f.1 + 2 ^ f.0 * stack fs

-- the field of this width from the bit `low` up
abbrev pub field : ℕ → ℕ → ℕ → ℕ
field word low width = word / 2 ^ low % 2 ^ width
