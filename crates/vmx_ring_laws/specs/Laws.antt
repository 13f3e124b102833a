-- The main laws as statements, which the functions of `laws.rt` carry.
use Rattle.std.specs.Prelude.{◌≡◌, ◌≢◌, ℕ, suc, ◌+◌, ◌%◌, ◌<◌, ◌≤◌, List, [], ◌∷◌, ◌++◌, length, slice_index, slice_set}
use mathlib.Core.List.{IsPrefix}
use mathlib.Core.Option.{some}
use mathlib.Core.Option as maybe
use lib.ListN.{get_elem?}
use Rattle.atomic_table.specs.Seated.{TableId}
use Rattle.vmx_ring_laws.specs.Lap.{Lap, SameBut}
use Rattle.vmx_ring_laws.specs.Keys.{key_of}
use Rattle.vmx_ring_laws.specs.Lists.{AreComparable}
use Rattle.vmx_ring_laws.specs.Windows.{slot_window}

-- two positions less than one lap apart have different cells
abbrev pub PositionsApart : Type 0
PositionsApart = (n p q : ℕ) → p < q → q < p + n → q % n ≢ p % n

-- tables with one key are one table
abbrev pub KeysTell : Type 0
KeysTell = (y z : TableId) → key_of y ≡ key_of z → y ≡ z

-- two prefixes of one list are comparable
abbrev pub PrefixesCompare : Type 0 → Type 0
PrefixesCompare A = (xs ys l : List A) → IsPrefix xs l → IsPrefix ys l → AreComparable xs ys

-- a word read or set behind the n words of a row's first part is read or set in the second part
abbrev pub RowsCut : Type 0
RowsCut = (n : ℕ) (a b : List ℕ) (i x : ℕ) → length a ≡ n
    → (slice_index (a ++ b) (n + i) ≡ slice_index b i) × (slice_set (a ++ b) (n + i) x ≡ a ++ slice_set b i x)

-- where two rings of slots lie in one row, a slot of ring 1 that changes leaves those of ring 2
abbrev pub RingsApart : Type 0 → Type 0
RingsApart S = (slots : List (maybe.Option S)) (n1 n2 : ℕ) (x : maybe.Option S) (i : ℕ) → i < n1
    → (j : ℕ) → j < n2 → slot_window (slice_set slots i x) n1 j ≡ slot_window slots n1 j

module _ {W E : Type 0} (In : ℕ → E → W → Type 0) (Free : ℕ → W → Type 0) where
  -- an entry put into its free cell stands behind the others
  abbrev pub EntryGoesIn : Type 0
  EntryGoesIn = (n : ℕ) (cell new : ℕ → W) (log : List E) (from : ℕ) (e : E) → Lap n cell In Free log from → length log < from + n
      → SameBut n (length log % n) cell new → In (length log) e (new (length log % n)) → Lap n new In Free (log ++ e ∷ []) from

  -- the first entry leaves when its cell is made free for the position one lap on
  abbrev pub FirstLeaves : Type 0
  FirstLeaves = (n : ℕ) (cell new : ℕ → W) (log : List E) (from : ℕ) → Lap n cell In Free log from → from < length log
      → SameBut n (from % n) cell new → Free (from + n) (new (from % n)) → Lap n new In Free log (suc from)

  -- many entries leave at once where each of their cells is free already
  abbrev pub ManyLeave : Type 0
  ManyLeave = (n : ℕ) (cell : ℕ → W) (log : List E) (from to : ℕ) → Lap n cell In Free log from → from ≤ to → to ≤ length log
      → ((p : ℕ) (e : E) (w : W) → from ≤ p → p < to → get_elem? log p ≡ some e → In p e w → Free (p + n) w) → Lap n cell In Free log to

  -- where the cells are the same, the ring holds the same
  abbrev pub CellsSame : Type 0
  CellsSame = (n : ℕ) (cell new : ℕ → W) (log : List E) (from : ℕ) → Lap n cell In Free log from
      → ((i : ℕ) → i < n → new i ≡ cell i) → Lap n new In Free log from
