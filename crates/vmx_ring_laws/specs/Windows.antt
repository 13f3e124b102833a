-- Two rings in one row, of words or of slots: ring 1 has the first n1 indices, and ring 2 the n2 behind them.
use Rattle.std.specs.Prelude.{◌≡◌, ◌≢◌, ℕ, ◌+◌, ◌<◌, List, length, slice_set}
use Rattle.std.proofs.Common.{arith}
use mathlib.Core.Option.{some}
use mathlib.Core.Option as maybe
use lib.ListN.{get_elem?}
use Rattle.atomic_table.proofs.Lists.{set_here, set_else}
use Rattle.vmx_ring_laws.specs.Lap.{SameBut}

-- the slots of one ring, where several rings lie in one row: the ring begins at `base`. A slot is at home, or out with a seat.
abbrev pub slot_window : {S : Type 0} → List (maybe.Option S) → ℕ → ℕ → maybe.Option (maybe.Option S)
slot_window slots base i = get_elem? slots (base + i)

-- no index of ring 1 is one of ring 2, and the reverse
pub before_ring2 : (n1 i : ℕ) → i < n1 → (j : ℕ) → n1 + j ≢ i
before_ring2 n1 i low j e = omega arith

pub behind_ring1 : (n1 i j : ℕ) → j < n1 → j ≢ n1 + i
behind_ring1 n1 i j low e = omega arith

module _ {S : Type 0} (slots : List (maybe.Option S)) (base n : ℕ) (x : maybe.Option S) where
  -- a slot changed outside a window leaves the window's cells
  pub slot_outside : (k : ℕ) → ((i : ℕ) → i < n → base + i ≢ k) → (j : ℕ) → j < n → slot_window (slice_set slots k x) base j ≡ slot_window slots base j
  slot_outside k apart j less = set_else slots k (base + j) x (apart j less)

  -- a slot changed inside it changes one cell
  pub slot_inside : (i : ℕ) → SameBut n i (slot_window slots base) (slot_window (slice_set slots (base + i) x) base)
  slot_inside i j less other = set_else slots (base + i) (base + j) x (λ e. other (omega arith))

  -- and that cell has the new slot
  pub slot_inside_here : (i : ℕ) → base + i < length slots → slot_window (slice_set slots (base + i) x) base i ≡ some x
  slot_inside_here i less = set_here slots (base + i) x less

module _ {S : Type 0} (slots : List (maybe.Option S)) (n1 n2 : ℕ) (x : maybe.Option S) where
  -- a slot of ring 1 changed leaves ring 2, and one of ring 2 leaves ring 1
  pub ring1_leaves_ring2 : (i : ℕ) → i < n1 → (j : ℕ) → j < n2 → slot_window (slice_set slots i x) n1 j ≡ slot_window slots n1 j
  ring1_leaves_ring2 i low = slot_outside slots n1 n2 x i (λ j less. before_ring2 n1 i low j)

  pub ring2_leaves_ring1 : (i : ℕ) → (j : ℕ) → j < n1 → get_elem? (slice_set slots (n1 + i) x) j ≡ get_elem? slots j
  ring2_leaves_ring1 i j low = set_else slots (n1 + i) j x (behind_ring1 n1 i j low)
