-- Numbers as bytes, the lowest byte first, and what stands in bytes at an offset.
use Rattle.std.specs.Prelude.{ℕ, zero, suc, ◌+◌, ◌*◌, List, [], ◌∷◌, ◌++◌, replicate, drop, take}
use Rattle.std.specs.List.{flat_map}
use Rattle.byteorder.specs.Endian.{little_bytes, little_number}

-- the bytes of a number of a width
unfoldable pub le : ℕ → ℕ → List ℕ
le width n = little_bytes width n

unfoldable pub zero_bytes : ℕ → List ℕ
zero_bytes n = replicate n 0

-- numbers of four bytes, one after another
unfoldable pub le_words : List ℕ → List ℕ
le_words ws = flat_map (little_bytes 4) ws

-- the number of a width at an offset
unfoldable pub number_at : ℕ → ℕ → List ℕ → ℕ
number_at width at bytes = little_number width (drop at bytes)

-- so many bytes from an offset on
unfoldable pub bytes_at : ℕ → ℕ → List ℕ → List ℕ
bytes_at width at bytes = take width (drop at bytes)

-- so many numbers of four bytes from an offset on
unfoldable pub words_at : ℕ → ℕ → List ℕ → List ℕ
words_at zero at bytes = []
words_at (suc n) at bytes = number_at 4 at bytes ∷ words_at n (at + 4) bytes

-- a part of bytes is its width and what stands there
abbrev pub number : ℕ → ℕ → ℕ × List ℕ
number width n = (width, le width n)

abbrev pub zeros : ℕ → ℕ × List ℕ
zeros width = (width, zero_bytes width)

abbrev pub bytes : ℕ → List ℕ → ℕ × List ℕ
bytes width bs = (width, bs)

abbrev pub words : ℕ → List ℕ → ℕ × List ℕ
words n ws = (4 * n, le_words ws)

-- the parts, one after another
abbrev pub spell : List (ℕ × List ℕ) → List ℕ
spell [] = []
spell (p ∷ ps) = p.1 ++ spell ps
