-- The walk by numbers is the walk.
use Rattle.std.proofs.Common.{◌≡◌, ℕ, zero, suc, ◌+◌, ◌-◌, ◌<◌, ◌≤◌, Bool, true, false, cond, sym, refl, ap, ap₂, ◌∙◌, arith, subst, nat_lt, if◌then◌else◌, [], Some, None}
use Rattle.std.proofs.lemmas.Bool.{lt-ltb, le-ltb}
use Rattle.vmx_ends.specs.declared.made.RxMade.{RxMade}
use Rattle.vmx_ends.specs.Receive.{is_body}
use Rattle.vmx_ends.specs.Walk.{Stand, at_head, from_two, by_load, further}
use Rattle.vmx_ends.specs.Core.{head_from, finding, goes, takes, misses, ended, outcome}
use Rattle.vmx_ends.specs.declared.walk.WalkEnd.TheVariants.{Takes, Misses}
use Rattle.vmx_ends.specs.WalkNumbers.{next_of, ways, IsPlan}
use Rattle.vmx_ends.specs.WalkCounts.{head_from_up}

pub head_stop : (m : RxMade) (fuel p : ℕ) → is_body m p ≡ false → head_from m fuel p ≡ p
head_stop m zero p e = refl
head_stop m (suc fuel) p e = ap (λ b. cond b (head_from m fuel (suc p)) p) e

pub head_none : (m : RxMade) (fuel p : ℕ) → fuel ≡ 0 → head_from m fuel p ≡ p
head_none m zero p e = refl
head_none m (suc fuel) p e = absurd (omega arith)

pub head_on : (m : RxMade) (fuel p : ℕ) → 0 < fuel → is_body m p ≡ true → head_from m fuel p ≡ head_from m (fuel - 1) (p + 1)
head_on m zero p some e = absurd (omega arith)
head_on m (suc fuel) p some e = ap (λ b. cond b (head_from m fuel (suc p)) p) e ∙ (let f : fuel ≡ suc fuel - 1 = omega arith in let q : suc p ≡ p + 1 = omega arith in ap₂ (λ (a b : ℕ). head_from m a b) f q)

pub head_most : (m : RxMade) (fuel p : ℕ) → head_from m fuel p ≤ p + fuel
head_most m zero p = omega arith
head_most m (suc fuel) p = by_case (is_body m p) (head_most m fuel (suc p))
  where
    by_case : (b : Bool) → head_from m fuel (suc p) ≤ suc p + fuel → cond b (head_from m fuel (suc p)) p ≤ p + suc fuel
    by_case true le = omega arith
    by_case false le = omega arith

abbrev numbers : Stand → ℕ × ℕ
numbers a = (a.next1, a.next2)

further_next : (m : RxMade) (posted1 : ℕ) (a : Stand) → numbers (further m a (finding m posted1 a)) ≡ next_of m posted1 a.next1 a.next2
further_next m posted1 a = by_body (is_body m a.next1)
  where
    by_load_ : (w : ℕ) (b : Bool) → numbers (by_load a (cond b None (Some w))) ≡ cond b (suc a.next1, a.next2) (a.next1, suc a.next2)
    by_load_ w true = refl
    by_load_ w false = refl

    by_body : (b : Bool) → numbers (cond b (by_load a (finding m posted1 a)) (from_two a)) ≡ cond b (cond (nat_lt a.next1 posted1) (suc a.next1, a.next2) (a.next1, suc a.next2)) (a.next1, suc a.next2)
    by_body true = by_load_ _ (nat_lt a.next1 posted1)
    by_body false = refl

goes_ways : (m : RxMade) (posted1 posted2 n : ℕ) (a : Stand) → numbers (goes m posted1 posted2 n a) ≡ ways m posted1 posted2 n a.next1 a.next2
goes_ways m posted1 posted2 zero a = refl
goes_ways m posted1 posted2 (suc n) a = let b : Stand = further m a (finding m posted1 a) in
    by_case b (nat_lt posted2 b.next2) (goes_ways m posted1 posted2 n b) ∙ ap (λ (z : ℕ × ℕ). cond (nat_lt posted2 z.1) z (ways m posted1 posted2 n z.0 z.1)) (further_next m posted1 a)
  where
    by_case : (b : Stand) (c : Bool) → numbers (goes m posted1 posted2 n b) ≡ ways m posted1 posted2 n b.next1 b.next2 → numbers (cond c b (goes m posted1 posted2 n b)) ≡ cond c (numbers b) (ways m posted1 posted2 n b.next1 b.next2)
    by_case b true e = refl
    by_case b false e = e

pub head_up : (m : RxMade) (fuel p : ℕ) → p ≤ head_from m fuel p
head_up = head_from_up

abbrev the_pair : ℕ → ℕ → ℕ × ℕ
the_pair a b = (a, b)

module _ (m : RxMade) (c1 c2 posted1 posted2 n h : ℕ) (is : h ≡ head_from m m.size1 c1) where
  abbrev last : ℕ → Stand
  last h = goes m posted1 posted2 n (at_head h c2)

  reaches : h < posted1 → outcome m c1 c2 posted1 posted2 n ≡ ended (h - c1) posted2 (last h)
  reaches less = ap (λ (z : ℕ). if nat_lt z posted1 then ended (z - c1) posted2 (last z) else misses 1 posted1 []) (sym is) ∙ ap (λ b. cond b (ended (h - c1) posted2 (last h)) (misses 1 posted1 [])) (lt-ltb h posted1 less)

  next_is : (one two : ℕ) → the_pair one two ≡ ways m posted1 posted2 n (h + 1) c2 → the_pair one two ≡ numbers (last h)
  next_is one two e = e ∙ ap (λ (z : ℕ). ways m posted1 posted2 n z c2) (let q : h + 1 ≡ suc h = omega arith in q) ∙ sym (goes_ways m posted1 posted2 n (at_head h c2))

  pub plan_takes : (one two : ℕ) → h < posted1 → (the_pair one two) ≡ ways m posted1 posted2 n (h + 1) c2 → two ≤ posted2 → IsPlan (outcome m c1 c2 posted1 posted2 n) (Takes (h - c1) one two)
  plan_takes one two less e few = let far = next_is one two e in
      subst (λ o. IsPlan o (Takes (h - c1) one two)) (sym (reaches less ∙ ap (λ b. cond b (misses 2 posted2 (last h).looks) (takes (h - c1) (last h))) (le-ltb posted2 (last h).next2 (let t = ap (λ (z : ℕ × ℕ). z.1) far in omega arith)))) (refl, ap (λ (z : ℕ × ℕ). z.0) far, ap (λ (z : ℕ × ℕ). z.1) far)

  pub plan_misses2 : (one two : ℕ) → h < posted1 → (the_pair one two) ≡ ways m posted1 posted2 n (h + 1) c2 → posted2 < two → IsPlan (outcome m c1 c2 posted1 posted2 n) (Misses 2 posted2)
  plan_misses2 one two less e many = let far = next_is one two e in
      subst (λ o. IsPlan o (Misses 2 posted2)) (sym (reaches less ∙ ap (λ b. cond b (misses 2 posted2 (last h).looks) (takes (h - c1) (last h))) (lt-ltb posted2 (last h).next2 (let t = ap (λ (z : ℕ × ℕ). z.1) far in omega arith)))) (refl, refl)
