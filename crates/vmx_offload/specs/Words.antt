-- The words of a command line that have a meaning.
use Rattle.std.specs.Prelude.{ℕ, Bool, not, false, ◌&&◌, ◌==◌, nat_le, if◌then◌else◌, List, [], ◌∷◌, length, Option, Some, None, codes}
use Rattle.std.specs.Str.{bytes_eq}

-- a file's name: 1 to 255 bytes, the first of which is no dash
abbrev pub is_name : List ℕ → Bool
is_name [] = false
is_name (c ∷ cs) = nat_le (length (c ∷ cs)) 255 && not (c == 45)

-- the names IN and OUT of the words `fill IN OUT`; no other words have a meaning
unfoldable pub fill_of : List (List ℕ) → Option (List ℕ × List ℕ)
fill_of (word ∷ from ∷ to ∷ []) = if bytes_eq word (codes "fill") && (is_name from && is_name to) then Some (from, to) else None
fill_of _ = None
