-- The moves of a ring, each proved once: an entry goes in, the first leaves, many leave unread, one cell is touched.
-- Beside the cells, what cells show of the other entries may change in the same step; it is given position by position.
use Rattle.std.specs.Prelude.{◌≡◌, ◌≢◌, ℕ, suc, ◌+◌, ◌-◌, ◌%◌, ◌<◌, ◌≤◌, List, [], ◌∷◌, ◌++◌, length, slice_set}
use Rattle.std.proofs.Common.{sym, subst, ⊎_elim, arith, mod-lt, length-append, get_or-set_other, get_or-set_same}
use mathlib.Core.Logic.{dite}
use mathlib.Core.Option.{some}
use native.Mathlib.Decide.{ℕ_discrete, dec_lt}
use native.Mathlib.Nat.{add-mod_right}
use lib.ListN.{get_elem?}
use Rattle.atomic_table.proofs.Lists.{one_turn}
use Rattle.vmx_ring_laws.specs.Lap.{Lap, SameBut, window}
use Rattle.vmx_ring_laws.specs.Lists.{at_below, there_below, snoc_cases}

-- two positions less than one lap apart have different cells
pub elsewhere : (n p q : ℕ) → p < q → q < p + n → q % n ≢ p % n
elsewhere n p q less near e = let same = one_turn p q n (omega arith) near (sym e) in omega arith

module _ {W E : Type 0} (n : ℕ) where
  -- nothing goes in or leaves: one cell may change
  pub touches : (cell cell' : ℕ → W) (In In' : ℕ → E → W → Type 0) (Free Free' : ℕ → W → Type 0) (log : List E) (from i : ℕ) → Lap n cell In Free log from → SameBut n i cell cell'
      → ((p : ℕ) (e : E) (w : W) → from ≤ p → get_elem? log p ≡ some e → p % n ≢ i → In p e w → In' p e w) → ((p : ℕ) (w : W) → length log ≤ p → p < from + n → p % n ≢ i → Free p w → Free' p w)
      → ((p : ℕ) (e : E) → from ≤ p → get_elem? log p ≡ some e → p % n ≡ i → In p e (cell i) → In' p e (cell' i)) → ((p : ℕ) → length log ≤ p → p < from + n → p % n ≡ i → Free p (cell i) → Free' p (cell' i))
      → Lap n cell' In' Free' log from
  touches cell cell' In In' Free Free' log from i r same a b c d = let pos = r.some_cell in record {
    some_cell = pos;
    behind = r.behind;
    within = r.within;
    full = λ p e le at. dite (ℕ_discrete (p % n) i)
        (λ here. subst (λ (j : ℕ). In' p e (cell' j)) (sym here) (c p e le at here (subst (λ (j : ℕ). In p e (cell j)) here (r.full p e le at))))
        (λ other. subst (In' p e) (sym (same (p % n) (mod-lt p pos) other)) (a p e (cell (p % n)) le at other (r.full p e le at)));
    free = λ p le less. dite (ℕ_discrete (p % n) i)
        (λ here. subst (λ (j : ℕ). Free' p (cell' j)) (sym here) (d p le less here (subst (λ (j : ℕ). Free p (cell j)) here (r.free p le less))))
        (λ other. subst (Free' p) (sym (same (p % n) (mod-lt p pos) other)) (b p (cell (p % n)) le less other (r.free p le less)));
  }

  -- nothing goes in or leaves, and the cells are the same
  pub cells_same : (cell cell' : ℕ → W) (In : ℕ → E → W → Type 0) (Free : ℕ → W → Type 0) (log : List E) (from : ℕ) → Lap n cell In Free log from → ((i : ℕ) → i < n → cell' i ≡ cell i) → Lap n cell' In Free log from
  cells_same cell cell' In Free log from r same = let pos = r.some_cell in record {
    some_cell = pos;
    behind = r.behind;
    within = r.within;
    full = λ p e le at. subst (In p e) (sym (same (p % n) (mod-lt p pos))) (r.full p e le at);
    free = λ p le less. subst (Free p) (sym (same (p % n) (mod-lt p pos))) (r.free p le less);
  }

  -- an entry goes behind the others, into the cell of its position
  pub puts : (cell cell' : ℕ → W) (In In' : ℕ → E → W → Type 0) (Free Free' : ℕ → W → Type 0) (log : List E) (from : ℕ) (e : E) → Lap n cell In Free log from → length log < from + n
      → SameBut n (length log % n) cell cell' → In' (length log) e (cell' (length log % n))
      → ((p : ℕ) (z : E) (w : W) → from ≤ p → get_elem? log p ≡ some z → In p z w → In' p z w) → ((p : ℕ) (w : W) → length log < p → p < from + n → Free p w → Free' p w)
      → Lap n cell' In' Free' (log ++ e ∷ []) from
  puts cell cell' In In' Free Free' log from e r room same shows a b = let pos = r.some_cell in let h : ℕ = length log in let longer : length (log ++ e ∷ []) ≡ h + 1 = length-append log (e ∷ []) in let f = r.behind in record {
    some_cell = pos;
    behind = omega arith;
    within = omega arith;
    full = λ p z le at. ⊎_elim
        (λ (c : (p ≡ h) × (e ≡ z)). subst (λ (y : ℕ × E). In' y.0 y.1 (cell' (y.0 % n))) (λ k. (sym c.0 k, c.1 k)) shows)
        (λ (c : (p < h) × (get_elem? log p ≡ some z)). let less = c.0 in
        subst (In' p z) (sym (same (p % n) (mod-lt p pos) (λ k. elsewhere n p h less (omega arith) (sym k)))) (a p z (cell (p % n)) le c.1 (r.full p z le c.1)))
        (snoc_cases log e z p at);
    free = λ p le less. subst (Free' p) (sym (same (p % n) (mod-lt p pos) (elsewhere n h p (omega arith) (omega arith)))) (b p (cell (p % n)) (omega arith) less (r.free p (omega arith) less));
  }

  -- the first entry leaves, and its cell is free for the position one lap on
  pub leaves : (cell cell' : ℕ → W) (In In' : ℕ → E → W → Type 0) (Free Free' : ℕ → W → Type 0) (log : List E) (from : ℕ) → Lap n cell In Free log from → from < length log
      → SameBut n (from % n) cell cell' → Free' (from + n) (cell' (from % n))
      → ((p : ℕ) (z : E) (w : W) → from < p → get_elem? log p ≡ some z → In p z w → In' p z w) → ((p : ℕ) (w : W) → length log ≤ p → p < from + n → Free p w → Free' p w)
      → Lap n cell' In' Free' log (suc from)
  leaves cell cell' In In' Free Free' log from r some_in same waits a b = let pos = r.some_cell in let w = r.within in record {
    some_cell = pos;
    behind = omega arith;
    within = omega arith;
    full = λ p e le at. let less = at_below log p e at in
        subst (In' p e) (sym (same (p % n) (mod-lt p pos) (elsewhere n from p (omega arith) (omega arith)))) (a p e (cell (p % n)) (omega arith) at (r.full p e (omega arith) at));
    free = λ p le less. dite (ℕ_discrete p (from + n))
        (λ here. subst (λ (q : ℕ). Free' q (cell' (q % n))) (sym here) (subst (λ (j : ℕ). Free' (from + n) (cell' j)) (sym (add-mod_right from n)) waits))
        (λ other. subst (Free' p) (sym (same (p % n) (mod-lt p pos) (elsewhere n from p (omega arith) (omega arith)))) (b p (cell (p % n)) le (omega arith) (r.free p le (omega arith))));
  }

  -- the entries before the position `to` leave and no cell changes: each of their cells is free already for the position one lap on
  pub forgets : (cell : ℕ → W) (In : ℕ → E → W → Type 0) (Free : ℕ → W → Type 0) (log : List E) (from to : ℕ) → Lap n cell In Free log from → from ≤ to → to ≤ length log
      → ((p : ℕ) (e : E) (w : W) → from ≤ p → p < to → get_elem? log p ≡ some e → In p e w → Free (p + n) w) → Lap n cell In Free log to
  forgets cell In Free log from to r up down law = let pos = r.some_cell in let w = r.within in record {
    some_cell = pos;
    behind = down;
    within = omega arith;
    full = λ p e le at. r.full p e (omega arith) at;
    free = λ p le less. dite (dec_lt p (from + n))
        (λ near. r.free p le near)
        (λ far. let q : ℕ = p - n in let k : p ≡ q + n = omega arith in let e = there_below log q (omega arith) in
        subst (λ (z : ℕ). Free z (cell (z % n))) (sym k) (subst (λ (j : ℕ). Free (q + n) (cell j)) (sym (add-mod_right q n)) (law q e.0 (cell (q % n)) (omega arith) (omega arith) e.1 (r.full q e.0 (omega arith) e.1))));
  }

  -- what the cell of the next entry shows where there is room for it
  pub next_free : (cell : ℕ → W) (In : ℕ → E → W → Type 0) (Free : ℕ → W → Type 0) (log : List E) (from : ℕ) → Lap n cell In Free log from → length log < from + n → Free (length log) (cell (length log % n))
  next_free cell In Free log from r room = r.free (length log) (omega arith) room

  -- the first entry and what its cell shows, where there is one
  pub first_in : (cell : ℕ → W) (In : ℕ → E → W → Type 0) (Free : ℕ → W → Type 0) (log : List E) (from : ℕ) → Lap n cell In Free log from → from < length log
      → (e : E) × (get_elem? log from ≡ some e) × In from e (cell (from % n))
  first_in cell In Free log from r some_in = let e = there_below log from some_in in (e.0, e.1, r.full from e.0 (omega arith) e.1)

-- a word set outside a window leaves the window's cells; set inside it, one cell changes
pub outside : (words : List ℕ) (base n k x : ℕ) → ((i : ℕ) → i < n → base + i ≢ k) → (j : ℕ) → j < n → window (slice_set words k x) base j ≡ window words base j
outside words base n k x apart j less = get_or-set_other words k (base + j) x 0 (apart j less)

pub inside : (words : List ℕ) (base n i x : ℕ) → SameBut n i (window words base) (window (slice_set words (base + i) x) base)
inside words base n i x j less other = get_or-set_other words (base + i) (base + j) x 0 (λ e. other (omega arith))

pub inside_here : (words : List ℕ) (base i x : ℕ) → base + i < length words → window (slice_set words (base + i) x) base i ≡ x
inside_here words base i x less = get_or-set_same words (base + i) x 0 less
