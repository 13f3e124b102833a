-- How many buffers the walk takes, and how many the lists of frames took.
use Rattle.std.proofs.Common.{◌≡◌, ◌≢◌, ℕ, zero, suc, ◌+◌, ◌-◌, ◌<◌, ◌≤◌, List, [], ◌∷◌, ◌++◌, take, Bool, true, false, cond, sym, refl, ap, ◌∙◌, subst, arith, nat_lt, Some, None, ◌==◌}
use mathlib.Core.List.{IsPrefix}
use Rattle.std.proofs.lemmas.Bool.{ltb-true, ltb-false}
use Rattle.vmx_ends.specs.declared.made.RxMade.{RxMade}
use Rattle.vmx_ends.specs.declared.frames.Delivery.{Delivery}
use Rattle.vmx_ends.specs.Receive.{is_body, in_ring, used}
use Rattle.vmx_ends.specs.Walk.{Stand, at_head, from_one, from_two, by_load, further}
use Rattle.vmx_ends.specs.Core.{head_from, finding, goes, takes, misses, ended, outcome}

pub used-append : (f : Delivery → ℕ) (xs ys : List Delivery) → used f (xs ++ ys) ≡ used f xs + used f ys
used-append f [] ys = omega arith
used-append f (x ∷ xs) ys = let r = used-append f xs ys in omega arith

pub used_take_more : (f : Delivery → ℕ) (xs : List Delivery) (s t : ℕ) → s ≤ t → used f (take s xs) ≤ used f (take t xs)
used_take_more f [] zero t le = omega arith
used_take_more f [] (suc s) t le = omega arith
used_take_more f (x ∷ xs) zero t le = omega arith
used_take_more f (x ∷ xs) (suc s) zero le = absurd (omega arith)
used_take_more f (x ∷ xs) (suc s) (suc t) le = let r = used_take_more f xs s t (omega arith) in omega arith

pub used_prefix : (f : Delivery → ℕ) (xs ys : List Delivery) → IsPrefix xs ys → used f xs ≤ used f ys
used_prefix f xs ys p = omega (arith, sym (used-append f xs p.0) ∙ ap (used f) p.1)

pub in_ring-append : (r : ℕ) (xs ys : List (ℕ × ℕ)) → in_ring r (xs ++ ys) ≡ in_ring r xs + in_ring r ys
in_ring-append r [] ys = omega arith
in_ring-append r (x ∷ xs) ys = by_case (x.0 == r) (in_ring-append r xs ys)
  where
    by_case : (b : Bool) → in_ring r (xs ++ ys) ≡ in_ring r xs + in_ring r ys → cond b (suc (in_ring r (xs ++ ys))) (in_ring r (xs ++ ys)) ≡ cond b (suc (in_ring r xs)) (in_ring r xs) + in_ring r ys
    by_case true e = omega arith
    by_case false e = e

pub head_from_up : (m : RxMade) (fuel p : ℕ) → p ≤ head_from m fuel p
head_from_up m zero p = omega arith
head_from_up m (suc fuel) p = by_case (is_body m p) (head_from_up m fuel (suc p))
  where
    by_case : (b : Bool) → suc p ≤ head_from m fuel (suc p) → p ≤ cond b (head_from m fuel (suc p)) p
    by_case true le = omega arith
    by_case false le = omega arith

-- a walk that begins at the head h and at the position c2 of ring 2
pub record Counts (h c2 posted1 : ℕ) (a : Stand) : Type 0 where
  pub one : h + in_ring 1 a.chain ≡ a.next1
  pub two : c2 + in_ring 2 a.chain ≡ a.next2
  pub within : a.next1 ≤ posted1
  pub some : 0 < in_ring 1 a.chain

module _ (m : RxMade) (h c2 posted1 : ℕ) where
  pub counts_head : h < posted1 → Counts h c2 posted1 (at_head h c2)
  counts_head less = record { one = omega arith; two = omega arith; within = omega arith; some = omega arith }

  counts_one : (a : Stand) → Counts h c2 posted1 a → a.next1 < posted1 → Counts h c2 posted1 (from_one a)
  counts_one a c less = let p = in_ring-append 1 a.chain ((1, a.next1) ∷ []) in let q = in_ring-append 2 a.chain ((1, a.next1) ∷ []) in let one = c.one in let two = c.two in let some = c.some in
      record { one = omega arith; two = omega arith; within = omega arith; some = omega arith }

  counts_two : (a : Stand) (looks : List (ℕ × ℕ)) → Counts h c2 posted1 a → Counts h c2 posted1 (from_two (record a { looks = looks }))
  counts_two a looks c = let p = in_ring-append 1 a.chain ((2, a.next2) ∷ []) in let q = in_ring-append 2 a.chain ((2, a.next2) ∷ []) in let one = c.one in let two = c.two in let some = c.some in
      record { one = omega arith; two = omega arith; within = c.within; some = omega arith }

  pub counts_further : (a : Stand) → Counts h c2 posted1 a → Counts h c2 posted1 (further m a (finding m posted1 a))
  counts_further a c = by_body (is_body m a.next1)
    where
      by_load_ : (w : ℕ) (b : Bool) → nat_lt a.next1 posted1 ≡ b → Counts h c2 posted1 (by_load a (cond b None (Some w)))
      by_load_ w true e = counts_one a c (ltb-true _ _ e)
      by_load_ w false e = counts_two a _ c

      by_body : (b : Bool) → Counts h c2 posted1 (cond b (by_load a (finding m posted1 a)) (from_two a))
      by_body true = by_load_ _ (nat_lt a.next1 posted1) refl
      by_body false = counts_two a a.looks c

  pub counts_goes : (posted2 n : ℕ) (a : Stand) → Counts h c2 posted1 a → Counts h c2 posted1 (goes m posted1 posted2 n a)
  counts_goes posted2 zero a c = c
  counts_goes posted2 (suc n) a c = let d = counts_further a c in by_case (nat_lt posted2 (further m a (finding m posted1 a)).next2) d (counts_goes posted2 n _ d)
    where
      by_case : (b : Bool) {x y : Stand} → Counts h c2 posted1 x → Counts h c2 posted1 y → Counts h c2 posted1 (cond b x y)
      by_case true p q = p
      by_case false p q = q

-- what a walk that goes through takes of the two supplies
pub record Takes (c1 c2 posted1 posted2 passed : ℕ) (end : Stand) : Type 0 where
  pub one : c1 + (passed + in_ring 1 end.chain) ≤ posted1
  pub two : c2 + in_ring 2 end.chain ≤ posted2
  pub some : 0 < in_ring 1 end.chain

takes_is : {a b : ℕ} {x y : Stand} → takes a x ≡ takes b y → (a ≡ b) × (x ≡ y)
takes_is e = (cc (e), cc (e))

not_takes : {a b c : ℕ} {ls : List (ℕ × ℕ)} {y : Stand} → misses a b ls ≢ takes c y
not_takes e = cc (e)

pub takes_counts : (m : RxMade) (c1 c2 posted1 posted2 n passed : ℕ) (end : Stand) → outcome m c1 c2 posted1 posted2 n ≡ takes passed end → Takes c1 c2 posted1 posted2 passed end
takes_counts m c1 c2 posted1 posted2 n passed end = by_head (nat_lt h posted1) refl
  where
    h : ℕ
    h = head_from m m.size1 c1

    last : Stand
    last = goes m posted1 posted2 n (at_head h c2)

    by_end : (b : Bool) → nat_lt posted2 last.next2 ≡ b → h < posted1 → cond b (misses 2 posted2 last.looks) (takes (h - c1) last) ≡ takes passed end → Takes c1 c2 posted1 posted2 passed end
    by_end true e less is = absurd (not_takes is)
    by_end false e less is = let same = takes_is is in let c = counts_goes m h c2 posted1 posted2 n (at_head h c2) (counts_head m h c2 posted1 less) in let up = head_from_up m m.size1 c1 in
        let one = c.one in let two = c.two in let within = c.within in let some = c.some in let not_more : last.next2 ≤ posted2 = ltb-false _ _ e in
        subst (λ (z : ℕ × Stand). Takes c1 c2 posted1 posted2 z.0 z.1) (λ i. (same.0 i, same.1 i)) record { one = omega arith; two = omega arith; some = some }

    by_head : (b : Bool) → nat_lt h posted1 ≡ b → cond b (ended (h - c1) posted2 last) (misses 1 posted1 []) ≡ takes passed end → Takes c1 c2 posted1 posted2 passed end
    by_head true e is = by_end (nat_lt posted2 last.next2) refl (ltb-true _ _ e) is
    by_head false e is = absurd (not_takes is)
