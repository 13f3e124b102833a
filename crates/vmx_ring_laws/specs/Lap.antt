-- A ring of n cells, said by positions. It holds the entries of a log from the position `from` on; the entry of position p has the cell p % n.
-- A cell is whatever lies at one index of the ring: a word, a slot, or both. W is what it shows.
use Rattle.std.specs.Prelude.{◌≡◌, ◌≢◌, ℕ, ◌+◌, ◌%◌, ◌<◌, ◌≤◌, List, length, slice_index}
use mathlib.Core.Option.{some}
use lib.ListN.{get_elem?}

-- In p e w: the cell of position p, which shows w, has the entry e. Free p w: it is free for the entry of position p.
pub record Lap {W E : Type 0} (n : ℕ) (cell : ℕ → W) (In : ℕ → E → W → Type 0) (Free : ℕ → W → Type 0) (log : List E) (from : ℕ) : Type 0 where
  pub some_cell : 0 < n
  pub behind : from ≤ length log
  pub within : length log ≤ from + n
  pub full : (p : ℕ) (e : E) → from ≤ p → get_elem? log p ≡ some e → In p e (cell (p % n))
  pub free : (p : ℕ) → length log ≤ p → p < from + n → Free p (cell (p % n))

-- of n cells, only the one at index i may have changed
abbrev pub SameBut : {W : Type 0} → ℕ → ℕ → (ℕ → W) → (ℕ → W) → Type 0
SameBut n i old new = (j : ℕ) → j < n → j ≢ i → new j ≡ old j

-- the words of one ring, where several lie in one row: the ring begins at `base`
abbrev pub window : List ℕ → ℕ → ℕ → ℕ
window words base i = slice_index words (base + i)
