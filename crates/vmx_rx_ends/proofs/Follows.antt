-- A chain whose pieces take the next positions of their rings, one behind the other.
use Rattle.std.proofs.Common.{◌≡◌, ◌≢◌, ℕ, zero, suc, ◌+◌, ◌≤◌, ◌⊎◌, ◌==◌, inl, inr, List, [], ◌∷◌, ◌++◌, length, take, Bool, true, false, cond, Option, Some, None, sym, refl, ap, ◌∙◌, subst, ⊎_elim, arith, append-nil, append_assoc, eq-eqb, ne_eqb}
use mathlib.Core.Option.{some, some-injective, some-ne-none}
use lib.ListN.{get_elem?}
use Rattle.vmx_ends.specs.Receive.{is_body, in_ring}
use Rattle.vmx_ends.specs.Walk.{Stand, from_one, from_two, by_load, further, walk}
use Rattle.vmx_ends.specs.declared.made.RxMade.{RxMade}
use Rattle.vmx_rx_ring.specs.declared.known.DeviceKnows.{DeviceKnows}
use Rattle.vmx_rx_ring.specs.declared.known.Spot.{Spot}
use Rattle.vmx_rx_ring.specs.Words.{spot_of}
use Rattle.vmx_rx_walk.specs.Walking.{chain_of}
use Rattle.vmx_rx_walk.specs.Staging.{IsFor, moves, AreFor, moved}

abbrev pub at_ : ℕ → ℕ → ℕ × ℕ
at_ r p = (r, p)

abbrev pub Follows : ℕ → ℕ → List (ℕ × ℕ) → ℕ → ℕ → Type 0
Follows p q [] p' q' = (p ≡ p') × (q ≡ q')
Follows p q (s ∷ ss) p' q' = ((s ≡ at_ 1 p) × Follows (suc p) q ss p' q') ⊎ ((s ≡ at_ 2 q) × Follows p (suc q) ss p' q')

pub follows_up : (p q : ℕ) (ss : List (ℕ × ℕ)) (p' q' : ℕ) → Follows p q ss p' q' → (p ≤ p') × (q ≤ q')
follows_up p q [] p' q' f = let a = f.0 in let b = f.1 in (omega arith, omega arith)
follows_up p q (s ∷ ss) p' q' f = ⊎_elim
    (λ (z : (s ≡ at_ 1 p) × Follows (suc p) q ss p' q'). let r = follows_up (suc p) q ss p' q' z.1 in (let a = r.0 in omega arith, r.1))
    (λ (z : (s ≡ at_ 2 q) × Follows p (suc q) ss p' q'). let r = follows_up p (suc q) ss p' q' z.1 in (r.0, let a = r.1 in omega arith))
    f

pub in_one : (r : ℕ) (s : ℕ × ℕ) (ss : List (ℕ × ℕ)) → s.0 ≡ r → in_ring r (s ∷ ss) ≡ suc (in_ring r ss)
in_one r s ss e = ap (λ b. cond b (suc (in_ring r ss)) (in_ring r ss)) (eq-eqb s.0 r e)

pub in_other : (r : ℕ) (s : ℕ × ℕ) (ss : List (ℕ × ℕ)) → s.0 ≢ r → in_ring r (s ∷ ss) ≡ in_ring r ss
in_other r s ss e = ap (λ b. cond b (suc (in_ring r ss)) (in_ring r ss)) (ne_eqb s.0 r e)

pub follows_count : (p q : ℕ) (ss : List (ℕ × ℕ)) (p' q' : ℕ) → Follows p q ss p' q' → (p' ≡ p + in_ring 1 ss) × (q' ≡ q + in_ring 2 ss)
follows_count p q [] p' q' f = let a = f.0 in let b = f.1 in (omega arith, omega arith)
follows_count p q (s ∷ ss) p' q' f = ⊎_elim
    (λ (z : (s ≡ at_ 1 p) × Follows (suc p) q ss p' q'). let r = follows_count (suc p) q ss p' q' z.1 in let ring : s.0 ≡ 1 = ap (λ (x : ℕ × ℕ). x.0) z.0 in let a = r.0 in let b = r.1 in let c = in_one 1 s ss ring in let d = in_other 2 s ss (λ e. omega arith) in (omega arith, omega arith))
    (λ (z : (s ≡ at_ 2 q) × Follows p (suc q) ss p' q'). let r = follows_count p (suc q) ss p' q' z.1 in let ring : s.0 ≡ 2 = ap (λ (x : ℕ × ℕ). x.0) z.0 in let a = r.0 in let b = r.1 in let c = in_one 2 s ss ring in let d = in_other 1 s ss (λ e. omega arith) in (omega arith, omega arith))
    f

pub follows_sum : (p q : ℕ) (ss : List (ℕ × ℕ)) (p' q' : ℕ) → Follows p q ss p' q' → p' + q' ≡ p + q + length ss
follows_sum p q [] p' q' f = let a = f.0 in let b = f.1 in omega arith
follows_sum p q (s ∷ ss) p' q' f = ⊎_elim
    (λ (z : (s ≡ at_ 1 p) × Follows (suc p) q ss p' q'). let r = follows_sum (suc p) q ss p' q' z.1 in omega arith)
    (λ (z : (s ≡ at_ 2 q) × Follows p (suc q) ss p' q'). let r = follows_sum p (suc q) ss p' q' z.1 in omega arith)
    f

pub in_ring_few : (r : ℕ) (ss : List (ℕ × ℕ)) → in_ring r ss ≤ length ss
in_ring_few r [] = omega arith
in_ring_few r (s ∷ ss) = by_ring (s.0 == r) (in_ring_few r ss)
  where
    by_ring : (b : Bool) → in_ring r ss ≤ length ss → cond b (suc (in_ring r ss)) (in_ring r ss) ≤ suc (length ss)
    by_ring true le = omega arith
    by_ring false le = omega arith

-- where each piece lies
pub follows_at : (p q : ℕ) (ss : List (ℕ × ℕ)) (p' q' j : ℕ) (x : ℕ × ℕ) → Follows p q ss p' q' → get_elem? ss j ≡ some x → ((x.0 ≡ 1) × (x.1 ≡ p + in_ring 1 (take j ss))) ⊎ ((x.0 ≡ 2) × (x.1 ≡ q + in_ring 2 (take j ss)))
follows_at p q [] p' q' j x f e = absurd (some-ne-none x (sym e))
follows_at p q (s ∷ ss) p' q' zero x f e = let same : s ≡ x = some-injective s x e in subst (λ (y : ℕ × ℕ). ((y.0 ≡ 1) × (y.1 ≡ p + 0)) ⊎ ((y.0 ≡ 2) × (y.1 ≡ q + 0))) same (⊎_elim
    (λ (z : (s ≡ at_ 1 p) × Follows (suc p) q ss p' q'). inl (ap (λ (x : ℕ × ℕ). x.0) z.0, let a : s.1 ≡ p = ap (λ (x : ℕ × ℕ). x.1) z.0 in omega arith))
    (λ (z : (s ≡ at_ 2 q) × Follows p (suc q) ss p' q'). inr (ap (λ (x : ℕ × ℕ). x.0) z.0, let a : s.1 ≡ q = ap (λ (x : ℕ × ℕ). x.1) z.0 in omega arith))
    f)
follows_at p q (s ∷ ss) p' q' (suc j) x f e = ⊎_elim
    (λ (z : (s ≡ at_ 1 p) × Follows (suc p) q ss p' q'). let ring : s.0 ≡ 1 = ap (λ (x : ℕ × ℕ). x.0) z.0 in let c = in_one 1 s (take j ss) ring in let d = in_other 2 s (take j ss) (λ e. omega arith) in ⊎_elim
    (λ (y : (x.0 ≡ 1) × (x.1 ≡ suc p + in_ring 1 (take j ss))). let b = y.1 in inl (y.0, omega arith))
    (λ (y : (x.0 ≡ 2) × (x.1 ≡ q + in_ring 2 (take j ss))). let b = y.1 in inr (y.0, omega arith))
    (follows_at (suc p) q ss p' q' j x z.1 e))
    (λ (z : (s ≡ at_ 2 q) × Follows p (suc q) ss p' q'). let ring : s.0 ≡ 2 = ap (λ (x : ℕ × ℕ). x.0) z.0 in let c = in_one 2 s (take j ss) ring in let d = in_other 1 s (take j ss) (λ e. omega arith) in ⊎_elim
    (λ (y : (x.0 ≡ 1) × (x.1 ≡ p + in_ring 1 (take j ss))). let b = y.1 in inl (y.0, omega arith))
    (λ (y : (x.0 ≡ 2) × (x.1 ≡ suc q + in_ring 2 (take j ss))). let b = y.1 in inr (y.0, omega arith))
    (follows_at p (suc q) ss p' q' j x z.1 e))
    f

-- a walk's chain is such a one
pub record WalkFollows (a end : Stand) (count : ℕ) : Type 0 where
  pub more : List (ℕ × ℕ)
  pub chain_is : end.chain ≡ a.chain ++ more
  pub follows : Follows a.next1 a.next2 more end.next1 end.next2
  pub many : length more ≡ count

pub walk_follows : (m : RxMade) (a : Stand) (found : List (Option ℕ)) → WalkFollows a (walk m a found) (length found)
walk_follows m a [] = record { more = []; chain_is = sym (append-nil a.chain); follows = (refl, refl); many = refl }
walk_follows m a (f ∷ found) = by_body (is_body m a.next1) f (walk_follows m (further m a f) found)
  where
    one : (w : Stand) → WalkFollows (from_one a) w (length found) → WalkFollows a w (suc (length found))
    one w r = record { more = (1, a.next1) ∷ r.more; chain_is = r.chain_is ∙ append_assoc a.chain ((1, a.next1) ∷ []) r.more; follows = inl (refl, r.follows); many = ap suc r.many }

    two : (w : Stand) (looks : List (ℕ × ℕ)) → WalkFollows (from_two (record a { looks = looks })) w (length found) → WalkFollows a w (suc (length found))
    two w looks r = record { more = (2, a.next2) ∷ r.more; chain_is = r.chain_is ∙ append_assoc a.chain ((2, a.next2) ∷ []) r.more; follows = inr (refl, r.follows); many = ap suc r.many }

    by_body : (b : Bool) (g : Option ℕ) → WalkFollows (cond b (by_load a g) (from_two a)) (walk m (cond b (by_load a g) (from_two a)) found) (length found) → WalkFollows a (walk m (cond b (by_load a g) (from_two a)) found) (suc (length found))
    by_body true None r = one _ r
    by_body true (Some word) r = two _ (a.looks ++ (a.next1, word) ∷ []) r
    by_body false g r = two _ a.looks r

abbrev pub tail_of : ℕ → Spot → Spot → List (ℕ × ℕ)
tail_of zero b c = []
tail_of (suc zero) b c = spot_of b ∷ []
tail_of (suc (suc n)) b c = spot_of b ∷ spot_of c ∷ []

pub chain_tail : (n : ℕ) (a b c : Spot) → chain_of n a b c ≡ spot_of a ∷ tail_of n b c
chain_tail zero a b c = refl
chain_tail (suc zero) a b c = refl
chain_tail (suc (suc n)) a b c = refl

-- the device may stage it
next_for : (e : DeviceKnows) (b : Spot) (p q p' q' : ℕ) (ss : List (ℕ × ℕ)) → e.gone1 ≡ p → e.gone2 ≡ q → Follows p q (spot_of b ∷ ss) p' q' → p' ≤ e.seen1 → q' ≤ e.seen2 → IsFor e false b × Follows (moves e b).gone1 (moves e b).gone2 ss p' q'
next_for e b p q p' q' ss g1 g2 f up1 up2 = ⊎_elim
    (λ (z : (spot_of b ≡ at_ 1 p) × Follows (suc p) q ss p' q'). let ring : b.ring ≡ 1 = ap (λ (x : ℕ × ℕ). x.0) z.0 in let place : b.position ≡ p = ap (λ (x : ℕ × ℕ). x.1) z.0 in let u = (follows_up (suc p) q ss p' q' z.1).0 in (
      inl (ring, omega arith, omega arith),
      subst (λ (x : ℕ × ℕ). Follows x.0 x.1 ss p' q') (λ i. ((ap suc (sym place) ∙ sym (if_true b.ring (suc b.position) e.gone1 ring)) i, (sym g2 ∙ sym (if_true b.ring e.gone2 (suc b.position) ring)) i)) z.1,
    ))
    (λ (z : (spot_of b ≡ at_ 2 q) × Follows p (suc q) ss p' q'). let ring : b.ring ≡ 2 = ap (λ (x : ℕ × ℕ). x.0) z.0 in let place : b.position ≡ q = ap (λ (x : ℕ × ℕ). x.1) z.0 in let u = (follows_up p (suc q) ss p' q' z.1).1 in (
      inr (ring, omega arith, omega arith),
      subst (λ (x : ℕ × ℕ). Follows x.0 x.1 ss p' q') (λ i. ((sym g1 ∙ sym (if_false b.ring (suc b.position) e.gone1 ring)) i, (ap suc (sym place) ∙ sym (if_false b.ring e.gone2 (suc b.position) ring)) i)) z.1,
    ))
    f
  where
    if_true : (ring x y : ℕ) → ring ≡ 1 → cond (ring == 1) x y ≡ x
    if_true ring x y e = ap (λ (r : ℕ). cond (r == 1) x y) e

    if_false : (ring x y : ℕ) → ring ≡ 2 → cond (ring == 1) x y ≡ y
    if_false ring x y e = ap (λ (r : ℕ). cond (r == 1) x y) e

pub are_for : (e : DeviceKnows) (n : ℕ) (a b c : Spot) (p' q' : ℕ) → n ≤ 2 → a.ring ≡ 1 → a.position ≡ e.head → e.gone1 ≤ a.position → Follows (suc a.position) e.gone2 (tail_of n b c) p' q' → p' ≤ e.seen1 → q' ≤ e.seen2
    → AreFor e n a b c × ((moved e n a b c).gone1 ≡ p') × ((moved e n a b c).gone2 ≡ q')
are_for e n a b c p' q' few ring head low f up1 up2 = by_count n few f
  where
    first : Follows (suc a.position) e.gone2 (tail_of n b c) p' q' → IsFor e true a
    first f = let u = (follows_up (suc a.position) e.gone2 (tail_of n b c) p' q' f).0 in (ring, head, low, omega arith)

    g1 : (moves e a).gone1 ≡ suc a.position
    g1 = ap (λ (r : ℕ). cond (r == 1) (suc a.position) e.gone1) ring

    g2 : (moves e a).gone2 ≡ e.gone2
    g2 = ap (λ (r : ℕ). cond (r == 1) e.gone2 (suc a.position)) ring

    by_count : (k : ℕ) → k ≤ 2 → Follows (suc a.position) e.gone2 (tail_of k b c) p' q' → AreFor e k a b c × ((moved e k a b c).gone1 ≡ p') × ((moved e k a b c).gone2 ≡ q')
    by_count zero le r = (first f, g1 ∙ r.0, g2 ∙ r.1)
    by_count (suc zero) le r = let s = next_for (moves e a) b _ _ p' q' [] g1 g2 r up1 up2 in ((first f, s.0), s.1.0, s.1.1)
    by_count (suc (suc zero)) le r = let s = next_for (moves e a) b _ _ p' q' (spot_of c ∷ []) g1 g2 r up1 up2 in let t = next_for (moves (moves e a) b) c _ _ p' q' [] refl refl s.1 up1 up2 in ((first f, s.0, t.0), t.1.0, t.1.1)
    by_count (suc (suc (suc k))) le r = absurd (omega arith)
