-- Sums of words of 16 bits in ones' complement (RFC 1071).
use Rattle.std.specs.Prelude.{ℕ, zero, suc, ◌+◌, ◌*◌, ◌/◌, ◌%◌, List, [], ◌∷◌, slice_set}

-- the sum of the words, big-endian; an odd last byte is the high half of a word whose low half is 0 (RFC 1071, 1)
abbrev pub word_sum : List ℕ → ℕ
word_sum [] = 0
word_sum (high ∷ []) = high * 256
word_sum (high ∷ low ∷ rest) = high * 256 + low + word_sum rest

-- with all carries added back: one remainder by 65,535, in which 0 stands for no sum but 0 (RFC 1071, 1, "end around carry")
abbrev pub ones : ℕ → ℕ
ones zero = 0
ones (suc n) = n % 65535 + 1

-- a word stored at a place, big-endian
abbrev pub put_word : List ℕ → ℕ → ℕ → List ℕ
put_word bytes at word = slice_set (slice_set bytes at (word / 256)) (at + 1) (word % 256)
