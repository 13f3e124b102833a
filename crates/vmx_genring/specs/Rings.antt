-- Rings that tell by a generation bit what was published.
use Rattle.std.specs.Prelude.{◌≡◌, ◌≢◌, ℕ, ◌+◌, ◌-◌, ◌/◌, ◌%◌, ◌^◌, ◌<◌, ◌≤◌, ◌==◌, Bool, Option, Some, None, List, length, slice_index, slice_index_or, bit_xor}
use Rattle.std.specs.Int.{bit_at}

-- the index of a position's entry
abbrev pub index_of : ℕ → ℕ → ℕ
index_of size p = p % size

-- the generation of a position: true in the first lap of a ring, false in the second, and so on
abbrev pub generation : ℕ → ℕ → Bool
generation size p = p / size % 2 == 0

-- the same as a bit
abbrev pub generation_bit : ℕ → ℕ → ℕ
generation_bit size p = 1 - p / size % 2

-- a word with its bit k flipped
abbrev pub flipped : ℕ → ℕ → ℕ
flipped k word = bit_xor word (2 ^ k)

-- a descriptor or a completion as its two words; the generation bit stands in the second
pub record Entry : Type 0 where
  pub first : ℕ
  pub second : ℕ

-- What a ring holds: the entries that were published or staged, from position 0 on; how many are published, and
-- how many of these consumed; and the first word of the next entry, where it is stored already.
pub record Contents : Type 0 where
  pub entries : List Entry
  pub next : Option ℕ
  pub published : ℕ
  pub consumed : ℕ

abbrev pub entry_at : List Entry → ℕ → Entry
entry_at entries p = slice_index_or entries p (record { first = 0; second = 0 })

-- The first and the second words of a ring of this size stand for its contents; k is the generation's bit.
-- Position p shows as long as no later one of its index is in the ring, that is, as long as the length is at most p + size.
pub record StandFor (size k : ℕ) (firsts seconds : List ℕ) (c : Contents) : Type 0 where
  pub as_many_firsts : length firsts ≡ size
  pub as_many_seconds : length seconds ≡ size
  pub in_order : c.consumed ≤ c.published
  pub staged_last : c.published ≤ length c.entries
  pub room : length c.entries ≤ c.consumed + size
  -- each entry has the generation of its position
  pub own : (p : ℕ) → p < length c.entries → bit_at (entry_at c.entries p).second k ≡ generation_bit size p
  -- the second word of an entry shows as it is, but that of the first staged one with the generation inverted
  pub second : (p : ℕ) → p < length c.entries → length c.entries ≤ p + size → p ≢ c.published → slice_index seconds (p % size) ≡ (entry_at c.entries p).second
  pub inverted : c.published < length c.entries → slice_index seconds (c.published % size) ≡ flipped k (entry_at c.entries c.published).second
  -- an index that had no entry yet has generation 0
  pub never : (p : ℕ) → length c.entries ≤ p → p < size → bit_at (slice_index seconds p) k ≡ 0
  -- the first word shows as it is, unless the next entry's stands there already
  pub first : (p : ℕ) → p < length c.entries → length c.entries ≤ p + size → (p + size ≡ length c.entries → c.next ≡ None) → slice_index firsts (p % size) ≡ (entry_at c.entries p).first
  pub next_room : (word : ℕ) → c.next ≡ Some word → length c.entries < c.consumed + size
  pub next_first : (word : ℕ) → c.next ≡ Some word → slice_index firsts (length c.entries % size) ≡ word
