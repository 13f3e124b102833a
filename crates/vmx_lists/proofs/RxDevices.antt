-- What the device's numbers and its plan stand for.
use Rattle.std.proofs.Common.{◌≡◌, ℕ, zero, suc, ◌+◌, ◌-◌, ◌%◌, ◌≤◌, List, length, take, true, sym, refl, ap, ap₂, ◌∙◌, subst, arith, if◌then◌else◌, slice_index, cond, ne_eqb, drop, take-append-drop}
use Rattle.vmx_ends.specs.declared.made.RxMade.{RxMade}
use Rattle.vmx_ends.specs.declared.frames.Delivery.{Delivery}
use Rattle.vmx_ends.specs.Receive.{used, took1, took2, posted1, posted2}
use Rattle.vmx_ends.specs.Walk.{Stand}
use Rattle.vmx_ends.specs.Core.{Outcome, takes, misses, outcome}
use Rattle.vmx_ends.specs.declared.walk.WalkEnd.{WalkEnd}
use Rattle.vmx_ends.specs.declared.walk.WalkEnd.TheVariants.{Takes, Misses}
use Rattle.vmx_ends.specs.WalkNumbers.{IsPlan}
use Rattle.vmx_lists.specs.RxPlays.{Seated, sight, LooksBy, LooksAround}
use Rattle.vmx_ends.specs.WalkCounts.{used_prefix}
use Rattle.vmx_lists.specs.RxSums.{AreSums, sum_at}

pub sum1_is : (n : ℕ) (ds : List Delivery) (ones twos : List ℕ) (r : ℕ) → AreSums n ds ones twos → r ≤ length ds → length ds ≤ r + n → sum_at n ones r ≡ used took1 (take r ds)
sum1_is n ds ones twos zero sums le near = refl
sum1_is n ds ones twos (suc p) sums le near = let e : suc p - 1 ≡ p = omega arith in ap (λ b. cond b 0 (slice_index ones ((suc p - 1) % (n + 1)))) (ne_eqb (suc p) 0 (λ z. absurd (omega arith))) ∙ ap (λ (z : ℕ). slice_index ones (z % (n + 1))) e ∙ (sums p (omega arith) (omega arith)).0

pub sum2_is : (n : ℕ) (ds : List Delivery) (ones twos : List ℕ) (r : ℕ) → AreSums n ds ones twos → r ≤ length ds → length ds ≤ r + n → sum_at n twos r ≡ used took2 (take r ds)
sum2_is n ds ones twos zero sums le near = refl
sum2_is n ds ones twos (suc p) sums le near = let e : suc p - 1 ≡ p = omega arith in ap (λ b. cond b 0 (slice_index twos ((suc p - 1) % (n + 1)))) (ne_eqb (suc p) 0 (λ z. absurd (omega arith))) ∙ ap (λ (z : ℕ). slice_index twos (z % (n + 1))) e ∙ (sums p (omega arith) (omega arith)).1

-- the plan over the device's own numbers is the one over the lists
pub plan_seen : (m : Seated) (made : RxMade) (r n one two p1 p2 s1 s2 : ℕ) (ones twos : List ℕ) (plan : WalkEnd) → m.0.made ≡ made → made.full ≡ true → AreSums made.size1 m.0.delivered ones twos → LooksAround m r
    → one ≡ used took1 m.0.delivered → two ≡ used took2 m.0.delivered → s1 ≡ sum_at made.size1 ones r → s2 ≡ sum_at made.size1 twos r → p1 ≡ made.size1 + s1 → p2 ≡ made.size2 + s2
    → IsPlan (outcome made one two p1 p2 n) plan → IsPlan (sight n m.0 r) plan
plan_seen m made r n one two p1 p2 s1 s2 ones twos plan is full sums around one_is two_is s1_is s2_is p1_is p2_is told =
    let near : length m.0.delivered ≤ r + made.size1 = subst (λ (z : RxMade). length m.0.delivered ≤ r + z.size1) is around.within in
    let t1 = s1_is ∙ sum1_is made.size1 m.0.delivered ones twos r sums around.behind near in let t2 = s2_is ∙ sum2_is made.size1 m.0.delivered ones twos r sums around.behind near in
    let full1 : posted1 made (take r m.0.delivered) ≡ made.size1 + used took1 (take r m.0.delivered) = ap (λ b. (if b then made.size1 else 0) + used took1 (take r m.0.delivered)) full in
    let full2 : posted2 made (take r m.0.delivered) ≡ made.size2 + used took2 (take r m.0.delivered) = ap (λ b. (if b then made.size2 else 0) + used took2 (take r m.0.delivered)) full in
    let q1 : p1 ≡ posted1 made (take r m.0.delivered) = omega arith in let q2 : p2 ≡ posted2 made (take r m.0.delivered) = omega arith in
    subst (λ (w : RxMade). IsPlan (outcome w (used took1 m.0.delivered) (used took2 m.0.delivered) (posted1 w (take r m.0.delivered)) (posted2 w (take r m.0.delivered)) n) plan) (sym is)
    (subst (λ (z : ℕ × ℕ × ℕ × ℕ). IsPlan (outcome made z.0 z.1 z.2 z.3 n) plan) (λ i. (one_is i, two_is i, q1 i, q2 i)) told)

pub record Goes (o : Outcome) (p next1 next2 : ℕ) : Type 0 where
  pub end : Stand
  pub is : o ≡ takes p end
  pub next1_is : next1 ≡ end.next1
  pub next2_is : next2 ≡ end.next2

pub takes_plan : (o : Outcome) (p next1 next2 : ℕ) → IsPlan o (Takes p next1 next2) → Goes o p next1 next2
takes_plan (takes passed end) p next1 next2 e = record { end = end; is = ap (λ (z : ℕ). takes z end) (sym e.0); next1_is = e.1; next2_is = e.2 }
takes_plan (misses ring at looks) p next1 next2 e = absurd e

pub record Stops (o : Outcome) (ring position : ℕ) : Type 0 where
  pub looks : List (ℕ × ℕ)
  pub is : o ≡ misses ring position looks

pub misses_plan : (o : Outcome) (ring position : ℕ) → IsPlan o (Misses ring position) → Stops o ring position
misses_plan (takes passed end) ring position e = absurd e
misses_plan (misses r at looks) ring position e = record { looks = looks; is = ap₂ (λ (a b : ℕ). misses a b looks) (sym e.0) (sym e.1) }

module _ (m : Seated) (made : RxMade) (r n one two s1 s2 : ℕ) (ones twos ones' twos' : List ℕ) (plan : WalkEnd) (is : m.0.made ≡ made) (full : made.full ≡ true) (sums : AreSums made.size1 m.0.delivered ones twos) (around : LooksAround m r)
    (one_is : one ≡ used took1 m.0.delivered) (two_is : two ≡ used took2 m.0.delivered) (ones_is : ones' ≡ ones) (twos_is : twos' ≡ twos) (s1_is : s1 ≡ sum_at made.size1 ones' r) (s2_is : s2 ≡ sum_at made.size1 twos' r)
    (told : IsPlan (outcome made one two (made.size1 + s1) (made.size2 + s2) n) plan) where
  seen : IsPlan (sight n m.0 r) plan
  seen = plan_seen m made r n one two (made.size1 + s1) (made.size2 + s2) s1 s2 ones twos plan is full sums around one_is two_is (s1_is ∙ ap (λ l. sum_at made.size1 l r) ones_is) (s2_is ∙ ap (λ l. sum_at made.size1 l r) twos_is) refl refl told

  pub went : (p next1 next2 : ℕ) → plan ≡ Takes p next1 next2 → Goes (sight n m.0 r) p next1 next2
  went p next1 next2 e = takes_plan (sight n m.0 r) p next1 next2 (subst (IsPlan (sight n m.0 r)) e seen)

  pub stopped : (ring position : ℕ) → plan ≡ Misses ring position → Stops (sight n m.0 r) ring position
  stopped ring position e = misses_plan (sight n m.0 r) ring position (subst (IsPlan (sight n m.0 r)) e seen)

-- a sum of the first frames is at most that of all
pub sums_below : (m : Seated) (made : RxMade) (r s1 s2 : ℕ) (ones twos ones' twos' : List ℕ) → m.0.made ≡ made → AreSums made.size1 m.0.delivered ones twos → LooksAround m r → ones' ≡ ones → twos' ≡ twos
    → s1 ≡ sum_at made.size1 ones' r → s2 ≡ sum_at made.size1 twos' r → (s1 ≤ used took1 m.0.delivered) × (s2 ≤ used took2 m.0.delivered)
sums_below m made r s1 s2 ones twos ones' twos' is sums around ones_is twos_is s1_is s2_is =
    let near : length m.0.delivered ≤ r + made.size1 = subst (λ (z : RxMade). length m.0.delivered ≤ r + z.size1) is around.within in
    let t1 : s1 ≡ used took1 (take r m.0.delivered) = s1_is ∙ ap (λ l. sum_at made.size1 l r) ones_is ∙ sum1_is made.size1 m.0.delivered ones twos r sums around.behind near in
    let t2 : s2 ≡ used took2 (take r m.0.delivered) = s2_is ∙ ap (λ l. sum_at made.size1 l r) twos_is ∙ sum2_is made.size1 m.0.delivered ones twos r sums around.behind near in
    let u1 = used_prefix took1 (take r m.0.delivered) m.0.delivered (drop r m.0.delivered, take-append-drop r m.0.delivered) in let u2 = used_prefix took2 (take r m.0.delivered) m.0.delivered (drop r m.0.delivered, take-append-drop r m.0.delivered) in
    ((omega arith), (omega arith))

pub slot_of : (o p : Outcome) (n : ℕ) (m : Seated) (r : ℕ) (m' : Seated) → o ≡ p → LooksBy o n m r m' → LooksBy p n m r m'
slot_of o p n m r m' e l = subst (λ z. LooksBy z n m r m') e l
