-- The core's walk, piece by piece, as a walk over two supplies goes it.
use Rattle.std.proofs.Common.{◌≡◌, ℕ, zero, suc, ◌+◌, ◌-◌, ◌<◌, ◌≤◌, List, [], Bool, true, false, true≢false, cond, ◌&&◌, nat_lt, if◌then◌else◌, sym, refl, ap, ◌∙◌, subst, arith, Some, None}
use Rattle.std.proofs.lemmas.Bool.{lt-ltb, le-ltb}
use mathlib.Core.Logic.{dite}
use native.Mathlib.Decide.{dec_lt}
use Rattle.vmx_ends.specs.declared.made.RxMade.{RxMade}
use Rattle.vmx_ends.specs.declared.made.Bodies.TheVariants.{Every}
use Rattle.vmx_ends.specs.Receive.{is_body}
use Rattle.vmx_layout.specs.declared.TheConstants.{RX_DESC_GENERATION_BIT}
use Rattle.vmx_ends.specs.Words.{missed_word}
use Rattle.vmx_ends.specs.Walk.{Stand, at_head, from_one, from_two, by_load, further, IsHead}
use Rattle.vmx_ends.specs.Core.{head_from, finding, goes, takes, misses, ended, outcome}
use Rattle.vmx_ends.specs.WalkLaws.{head_is}
use Rattle.vmx_ends.specs.ExactWalk.{one_head}

abbrev pub second : Stand → List (ℕ × ℕ) → Stand
second a looks = from_two (record a { looks = looks })

-- the second supply gives a piece, after looks that the walk over supplies does not keep
pub record Seconds (a b : Stand) : Type 0 where
  pub looks : List (ℕ × ℕ)
  pub is : b ≡ second a looks

module _ (m : RxMade) (P1 P2 : ℕ) where
  one_on : (a : Stand) → (nat_lt a.next1 P1 && is_body m a.next1) ≡ true → further m a (finding m P1 a) ≡ from_one a
  one_on a = by_both (missed_word RX_DESC_GENERATION_BIT m.size1 a.next1) (nat_lt a.next1 P1) (is_body m a.next1)
    where
      by_both : (w : ℕ) (t b : Bool) → (t && b) ≡ true → cond b (by_load a (cond t None (Some w))) (from_two a) ≡ from_one a
      by_both w true true e = refl
      by_both w true false e = absurd (true≢false (sym e))
      by_both w false b e = absurd (true≢false (sym e))

  two_on : (a : Stand) → (nat_lt a.next1 P1 && is_body m a.next1) ≡ false → Seconds a (further m a (finding m P1 a))
  two_on a = by_both (missed_word RX_DESC_GENERATION_BIT m.size1 a.next1) (nat_lt a.next1 P1) (is_body m a.next1)
    where
      by_both : (w : ℕ) (t b : Bool) → (t && b) ≡ false → Seconds a (cond b (by_load a (cond t None (Some w))) (from_two a))
      by_both w true true e = absurd (true≢false e)
      by_both w true false e = record { looks = a.looks; is = refl }
      by_both w false true e = record { looks = _; is = refl }
      by_both w false false e = record { looks = a.looks; is = refl }

  step_of : (n : ℕ) (b : Stand) → b.next2 ≤ P2 → cond (nat_lt P2 b.next2) b (goes m P1 P2 n b) ≡ goes m P1 P2 n b
  step_of n b le = ap (λ t. cond t b (goes m P1 P2 n b)) (le-ltb P2 b.next2 le)

  pub goes_none : (n : ℕ) (a : Stand) → n ≡ 0 → goes m P1 P2 n a ≡ a
  goes_none zero a e = refl
  goes_none (suc n) a e = absurd (omega arith)

  pub goes_one : (n : ℕ) (a : Stand) → 0 < n → (nat_lt a.next1 P1 && is_body m a.next1) ≡ true → a.next2 ≤ P2 → goes m P1 P2 n a ≡ goes m P1 P2 (n - 1) (from_one a)
  goes_one zero a some there le = absurd (omega arith)
  goes_one (suc n) a some there le = let e : n ≡ suc n - 1 = omega arith in
      ap (λ (b : Stand). cond (nat_lt P2 b.next2) b (goes m P1 P2 n b)) (one_on a there) ∙ step_of n (from_one a) le ∙ ap (λ (k : ℕ). goes m P1 P2 k (from_one a)) e

  -- a piece goes to the second supply, which has its buffer
  pub record GoesTwo (n : ℕ) (a : Stand) : Type 0 where
    pub looks : List (ℕ × ℕ)
    pub is : goes m P1 P2 n a ≡ goes m P1 P2 (n - 1) (second a looks)

  pub goes_two : (n : ℕ) (a : Stand) → 0 < n → (nat_lt a.next1 P1 && is_body m a.next1) ≡ false → a.next2 < P2 → GoesTwo n a
  goes_two zero a some there less = absurd (omega arith)
  goes_two (suc n) a some there less = let t = two_on a there in let e : n ≡ suc n - 1 = omega arith in record {
    looks = t.looks;
    is = ap (λ (b : Stand). cond (nat_lt P2 b.next2) b (goes m P1 P2 n b)) t.is ∙ step_of n (second a t.looks) (omega arith) ∙ ap (λ (k : ℕ). goes m P1 P2 k (second a t.looks)) e;
  }

  -- the second supply has none
  pub goes_out : (n passed : ℕ) (a : Stand) → 0 < n → (nat_lt a.next1 P1 && is_body m a.next1) ≡ false → P2 ≡ a.next2 → (looks : List (ℕ × ℕ)) × (ended passed P2 (goes m P1 P2 n a) ≡ misses 2 P2 looks)
  goes_out zero passed a some there e = absurd (omega arith)
  goes_out (suc n) passed a some there e = let t = two_on a there in let b : Stand = second a t.looks in let far : P2 < b.next2 = omega arith in (
    t.looks,
    ap (λ (b : Stand). ended passed P2 (cond (nat_lt P2 b.next2) b (goes m P1 P2 n b))) t.is
        ∙ ap (λ c. ended passed P2 (cond c b (goes m P1 P2 n b))) (lt-ltb P2 b.next2 far)
        ∙ ap (λ c. cond c (misses 2 P2 b.looks) (takes passed b)) (lt-ltb P2 b.next2 far),
  )

  pub ended_well : (passed : ℕ) (a : Stand) → a.next2 ≤ P2 → ended passed P2 a ≡ takes passed a
  ended_well passed a le = ap (λ c. cond c (misses 2 P2 a.looks) (takes passed a)) (le-ltb P2 a.next2 le)

  -- the head is the first buffer that is not BODY
  pub head_found : (bodies c1 c2 n r : ℕ) → m.bodies ≡ Every bodies → 0 < m.size1 → ((k : ℕ) → k < r → is_body m (c1 + k) ≡ true) → is_body m (c1 + r) ≡ false → c1 + r < P1
      → outcome m c1 c2 P1 P2 n ≡ ended r P2 (goes m P1 P2 n (at_head (c1 + r) c2))
  head_found bodies c1 c2 n r every pos before here less =
      let is : IsHead m c1 (c1 + r) = ((omega arith, λ p le low. let e : c1 + (p - c1) ≡ p = omega arith in subst (λ (z : ℕ). is_body m z ≡ true) e (before (p - c1) (omega arith))), here) in
      let same = one_head m c1 (head_from m m.size1 c1) (c1 + r) (head_is m bodies c1 every pos) is in let back : (c1 + r) - c1 ≡ r = omega arith in
      ap (λ (h : ℕ). if nat_lt h P1 then ended (h - c1) P2 (goes m P1 P2 n (at_head h c2)) else misses 1 P1 []) same
      ∙ ap (λ t. cond t (ended ((c1 + r) - c1) P2 (goes m P1 P2 n (at_head (c1 + r) c2))) (misses 1 P1 [])) (lt-ltb (c1 + r) P1 less)
      ∙ ap (λ (z : ℕ). ended z P2 (goes m P1 P2 n (at_head (c1 + r) c2))) back

  -- the supply has BODY buffers alone
  pub head_missed : (bodies c1 c2 n r : ℕ) → m.bodies ≡ Every bodies → 0 < m.size1 → ((k : ℕ) → k < r → is_body m (c1 + k) ≡ true) → P1 ≤ c1 + r → outcome m c1 c2 P1 P2 n ≡ misses 1 P1 []
  head_missed bodies c1 c2 n r every pos before le =
      let h : ℕ = head_from m m.size1 c1 in let head = head_is m bodies c1 every pos in let up = head.0.0 in
      let beyond : P1 ≤ h = dite (dec_lt h P1) (λ less. let e : c1 + (h - c1) ≡ h = omega arith in absurd (true≢false (sym (subst (λ (z : ℕ). is_body m z ≡ true) e (before (h - c1) (omega arith))) ∙ head.1))) (λ more. omega arith) in
      ap (λ t. cond t (ended (h - c1) P2 (goes m P1 P2 n (at_head h c2))) (misses 1 P1 [])) (le-ltb h P1 beyond)
