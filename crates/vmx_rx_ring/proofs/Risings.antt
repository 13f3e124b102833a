-- Entries whose positions rise in each ring.
use Rattle.std.proofs.Common.{◌≡◌, ℕ, zero, suc, ◌+◌, ◌-◌, ◌<◌, ◌≤◌, ◌⊎◌, List, [], ◌∷◌, ◌++◌, length, drop, inl, inr, sym, refl, ap, ◌∙◌, subst, ⊎_elim, arith}
use mathlib.Core.Option.{some, some-injective, some-ne-none}
use lib.ListN.{get_elem?}
use Rattle.atomic_table.proofs.Lists.{drop_at}
use Rattle.vmx_rx_ring.specs.declared.known.Entry.{Entry}
use Rattle.vmx_rx_ring.specs.Rule.{Rising, Between}

pub rising_ends : (a1 a2 : ℕ) (es : List Entry) (b1 b2 : ℕ) → Rising a1 a2 es b1 b2 → (a1 ≤ b1) × (a2 ≤ b2)
rising_ends a1 a2 [] b1 b2 r = r
rising_ends a1 a2 (e ∷ es) b1 b2 r = ⊎_elim
    (λ (z : (e.ring ≡ 1) × (a1 ≤ e.position) × Rising (suc e.position) a2 es b1 b2). let up = z.1 in let f = rising_ends (suc e.position) a2 es b1 b2 z.2 in ((let g = f.0 in omega arith), f.1))
    (λ (z : (e.ring ≡ 2) × (a2 ≤ e.position) × Rising a1 (suc e.position) es b1 b2). let up = z.1 in let f = rising_ends a1 (suc e.position) es b1 b2 z.2 in (f.0, (let g = f.1 in omega arith)))
    r

-- as many entries as there are positions, at most
pub rising_count : (a1 a2 : ℕ) (es : List Entry) (b1 b2 : ℕ) → Rising a1 a2 es b1 b2 → length es + a1 + a2 ≤ b1 + b2
rising_count a1 a2 [] b1 b2 r = let p = r.0 in let q = r.1 in omega arith
rising_count a1 a2 (e ∷ es) b1 b2 r = ⊎_elim
    (λ (z : (e.ring ≡ 1) × (a1 ≤ e.position) × Rising (suc e.position) a2 es b1 b2). let up = z.1 in let f = rising_count (suc e.position) a2 es b1 b2 z.2 in omega arith)
    (λ (z : (e.ring ≡ 2) × (a2 ≤ e.position) × Rising a1 (suc e.position) es b1 b2). let up = z.1 in let f = rising_count a1 (suc e.position) es b1 b2 z.2 in omega arith)
    r

-- a further entry of ring 1, and of ring 2
pub rising_one : (a1 a2 : ℕ) (es : List Entry) (b1 b2 : ℕ) (x : Entry) → Rising a1 a2 es b1 b2 → x.ring ≡ 1 → b1 ≤ x.position → Rising a1 a2 (es ++ x ∷ []) (suc x.position) b2
rising_one a1 a2 [] b1 b2 x r is up = let p = r.0 in inl (is, omega arith, (omega arith, r.1))
rising_one a1 a2 (e ∷ es) b1 b2 x r is up = ⊎_elim
    (λ (z : (e.ring ≡ 1) × (a1 ≤ e.position) × Rising (suc e.position) a2 es b1 b2). inl (z.0, z.1, rising_one (suc e.position) a2 es b1 b2 x z.2 is up))
    (λ (z : (e.ring ≡ 2) × (a2 ≤ e.position) × Rising a1 (suc e.position) es b1 b2). inr (z.0, z.1, rising_one a1 (suc e.position) es b1 b2 x z.2 is up))
    r

pub rising_two : (a1 a2 : ℕ) (es : List Entry) (b1 b2 : ℕ) (x : Entry) → Rising a1 a2 es b1 b2 → x.ring ≡ 2 → b2 ≤ x.position → Rising a1 a2 (es ++ x ∷ []) b1 (suc x.position)
rising_two a1 a2 [] b1 b2 x r is up = let p = r.1 in inr (is, omega arith, (r.0, omega arith))
rising_two a1 a2 (e ∷ es) b1 b2 x r is up = ⊎_elim
    (λ (z : (e.ring ≡ 1) × (a1 ≤ e.position) × Rising (suc e.position) a2 es b1 b2). inl (z.0, z.1, rising_two (suc e.position) a2 es b1 b2 x z.2 is up))
    (λ (z : (e.ring ≡ 2) × (a2 ≤ e.position) × Rising a1 (suc e.position) es b1 b2). inr (z.0, z.1, rising_two a1 (suc e.position) es b1 b2 x z.2 is up))
    r

-- each entry lies between the ends
pub rising_at : (a1 a2 : ℕ) (es : List Entry) (b1 b2 : ℕ) (j : ℕ) (x : Entry) → Rising a1 a2 es b1 b2 → get_elem? es j ≡ some x → Between a1 a2 x.ring x.position b1 b2
rising_at a1 a2 [] b1 b2 j x r at = absurd (some-ne-none x (sym at))
rising_at a1 a2 (e ∷ es) b1 b2 zero x r at = let same : e ≡ x = some-injective e x at in subst (λ (y : Entry). Between a1 a2 y.ring y.position b1 b2) same (⊎_elim
    (λ (z : (e.ring ≡ 1) × (a1 ≤ e.position) × Rising (suc e.position) a2 es b1 b2). let f = (rising_ends (suc e.position) a2 es b1 b2 z.2).0 in inl (z.0, z.1, omega arith))
    (λ (z : (e.ring ≡ 2) × (a2 ≤ e.position) × Rising a1 (suc e.position) es b1 b2). let f = (rising_ends a1 (suc e.position) es b1 b2 z.2).1 in inr (z.0, z.1, omega arith))
    r)
rising_at a1 a2 (e ∷ es) b1 b2 (suc j) x r at = ⊎_elim
    (λ (z : (e.ring ≡ 1) × (a1 ≤ e.position) × Rising (suc e.position) a2 es b1 b2). let up = z.1 in wider a1 a2 (suc e.position) a2 (omega arith) (omega arith) (rising_at (suc e.position) a2 es b1 b2 j x z.2 at))
    (λ (z : (e.ring ≡ 2) × (a2 ≤ e.position) × Rising a1 (suc e.position) es b1 b2). let up = z.1 in wider a1 a2 a1 (suc e.position) (omega arith) (omega arith) (rising_at a1 (suc e.position) es b1 b2 j x z.2 at))
    r
  where
    wider : (c1 c2 d1 d2 : ℕ) → c1 ≤ d1 → c2 ≤ d2 → Between d1 d2 x.ring x.position b1 b2 → Between c1 c2 x.ring x.position b1 b2
    wider c1 c2 d1 d2 p q b = ⊎_elim
        (λ (z : (x.ring ≡ 1) × (d1 ≤ x.position) × (x.position < b1)). let u = z.1 in inl (z.0, omega arith, z.2))
        (λ (z : (x.ring ≡ 2) × (d2 ≤ x.position) × (x.position < b2)). let u = z.1 in inr (z.0, omega arith, z.2))
        b

-- the entries behind the first
pub at_drop : (l : List Entry) (n q : ℕ) → n ≤ q → get_elem? (drop n l) (q - n) ≡ get_elem? l q
at_drop l zero q le = ap (λ (k : ℕ). get_elem? l k) (omega arith)
at_drop [] (suc n) (suc q) le = refl
at_drop [] (suc n) zero le = absurd (omega arith)
at_drop (x ∷ xs) (suc n) zero le = absurd (omega arith)
at_drop (x ∷ xs) (suc n) (suc q) le = ap (λ (k : ℕ). get_elem? (drop n xs) k) (omega arith) ∙ at_drop xs n q (omega arith)

pub rising_from : (a1 a2 : ℕ) (l : List Entry) (n b1 b2 q : ℕ) (x : Entry) → Rising a1 a2 (drop n l) b1 b2 → n ≤ q → get_elem? l q ≡ some x → Between a1 a2 x.ring x.position b1 b2
rising_from a1 a2 l n b1 b2 q x r le at = rising_at a1 a2 (drop n l) b1 b2 (q - n) x r (at_drop l n q le ∙ at)

-- the first entry leaves: those behind it begin above it
pub rising_first : (a1 a2 : ℕ) (l : List Entry) (n b1 b2 : ℕ) (x : Entry) → Rising a1 a2 (drop n l) b1 b2 → get_elem? l n ≡ some x
    → ((x.ring ≡ 1) × (a1 ≤ x.position) × Rising (suc x.position) a2 (drop (suc n) l) b1 b2) ⊎ ((x.ring ≡ 2) × (a2 ≤ x.position) × Rising a1 (suc x.position) (drop (suc n) l) b1 b2)
rising_first a1 a2 l n b1 b2 x r at = subst (λ (es : List Entry). Rising a1 a2 es b1 b2) (drop_at l n x at) r

-- a position of ring 1 below the first entry is posted back unread
pub rising_skip : (a1 a2 : ℕ) (l : List Entry) (n b1 b2 : ℕ) (x : Entry) → Rising a1 a2 (drop n l) b1 b2 → get_elem? l n ≡ some x → x.ring ≡ 1 → a1 < x.position → Rising (suc a1) a2 (drop n l) b1 b2
rising_skip a1 a2 l n b1 b2 x r at one less = subst (λ (es : List Entry). Rising (suc a1) a2 es b1 b2) (sym (drop_at l n x at)) (⊎_elim
    (λ (z : (x.ring ≡ 1) × (a1 ≤ x.position) × Rising (suc x.position) a2 (drop (suc n) l) b1 b2). inl (z.0, omega arith, z.2))
    (λ (z : (x.ring ≡ 2) × (a2 ≤ x.position) × Rising a1 (suc x.position) (drop (suc n) l) b1 b2). let two = z.0 in absurd (omega arith))
    (rising_first a1 a2 l n b1 b2 x r at))
