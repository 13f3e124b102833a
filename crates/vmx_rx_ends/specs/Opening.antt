-- The words of a queue at the start: both descriptor rings are posted full, and no completion is there.
use mathlib.Core.Option.{some}
use lib.ListN.{get_elem?}
use Rattle.std.specs.Prelude.{◌≡◌, vec_len, Bool, ℕ, zero, suc, ◌+◌, List, [], ◌∷◌, ◌++◌, replicate}
use Rattle.vmx_ends.specs.declared.made.RxMade.{RxMade}
use Rattle.vmx_rx_ring.specs.declared.known.Buffer.{Buffer}
use Rattle.vmx_rx_ring.specs.Words.{count, more_words, room_at, second1, second2, address}

-- the values of a function at the first so many numbers
abbrev pub row : (ℕ → ℕ) → ℕ → List ℕ
row f zero = []
row f (suc n) = row f n ++ f n ∷ []

-- the second words of both rings, their first words, and the completions' words
abbrev pub opening_words : Bool → RxMade → List ℕ
opening_words counted m = ((row (second1 m) m.size1 ++ row (second2 m) m.size2) ++ row (address m) (count m)) ++ replicate (count m + count m + more_words counted) 0

-- each buffer has the bytes of its descriptor
abbrev pub HaveRoom : RxMade → List Buffer → Type 0
HaveRoom m buffers = (k : ℕ) (x : Buffer) → get_elem? buffers k ≡ some x → vec_len x.bytes ≡ room_at m k
