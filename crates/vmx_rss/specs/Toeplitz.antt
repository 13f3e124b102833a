-- The Toeplitz hash (Microsoft, "RSS Hashing Functions"), by parities.
use Rattle.std.specs.Prelude.{◌≡◌, ℕ, zero, suc, ◌+◌, ◌-◌, ◌*◌, ◌/◌, ◌%◌, ◌<◌, List, length, slice_index}
use Rattle.std.specs.Int.{bit_at}

-- bit i of some bytes, counted from the left
abbrev pub left_bit : List ℕ → ℕ → ℕ
left_bit bytes i = bit_at (slice_index bytes (i / 8)) (7 - i % 8)

-- how many of the first n input bits are 1 where the key bit j places on is 1 too
abbrev pub both : List ℕ → List ℕ → ℕ → ℕ → ℕ
both key input j zero = 0
both key input j (suc n) = both key input j n + left_bit input n * left_bit key (n + j)

-- bit j of the hash of the first n input bits, from the left, is the parity of that number
abbrev pub IsHashOf : List ℕ → List ℕ → ℕ → ℕ → Type 0
IsHashOf key input n hash = (j : ℕ) → j < 32 → bit_at hash (31 - j) ≡ both key input j n % 2

-- the number of n bits, the first of them the highest
abbrev pub number_of : (ℕ → ℕ) → ℕ → ℕ
number_of bit zero = 0
number_of bit (suc n) = number_of bit n * 2 + bit n

-- the hash: 32 parities as one number
unfoldable pub hash_of : List ℕ → List ℕ → ℕ
hash_of key input = number_of (λ j. both key input j (8 * length input) % 2) 32
