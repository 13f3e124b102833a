-- Where both ends know all that the other did, the walk of the contract is the core's own: no choice is left to the loads.
use Rattle.std.proofs.Common.{◌≡◌, ℕ, zero, suc, ◌+◌, ◌<◌, ◌≤◌, List, [], ◌∷◌, ◌++◌, length, Bool, true, false, true≢false, cond, sym, refl, ap, ap₂, ◌∙◌, subst, arith, Option, Some, None, All}
use Rattle.std.proofs.lemmas.Bool.{lt-ltb, le-ltb}
use Rattle.std.proofs.lemmas.List.Elements.{All-nil, All-cons, All-head, All-tail}
use mathlib.Core.Logic.{dite}
use native.Mathlib.Decide.{dec_lt}
use Rattle.vmx_ends.specs.declared.made.RxMade.{RxMade}
use Rattle.vmx_ends.specs.declared.made.Bodies.TheVariants.{Every}
use Rattle.vmx_ends.specs.Receive.{is_body}
use Rattle.vmx_ends.specs.Words.{missed_word}
use Rattle.vmx_ends.specs.Walk.{Stand, at_head, from_one, from_two, by_load, further, walk, IsHead}
use Rattle.vmx_ends.specs.Core.{head_from, finding, goes}
use Rattle.vmx_ends.specs.WalkLaws.{head_is}

module _ {A : Type 0} (P : A → Type 0) where
  all_left : (xs ys : List A) → All P (xs ++ ys) → All P xs
  all_left [] ys all = All-nil P
  all_left (x ∷ xs) ys all = All-cons P x xs (All-head P x (xs ++ ys) all) (all_left xs ys (All-tail P x (xs ++ ys) all))

  all_last : (xs : List A) (x : A) → All P (xs ++ x ∷ []) → P x
  all_last [] x all = All-head P x [] all
  all_last (y ∷ ys) x all = all_last ys x (All-tail P y (ys ++ x ∷ []) all)

-- the same but for the words of looks
abbrev pub IsSameWalk : Stand → Stand → Type 0
IsSameWalk a b = (a.next1 ≡ b.next1) × (a.next2 ≡ b.next2) × (a.chain ≡ b.chain)

-- two searches find one head
pub one_head : (m : RxMade) (from g h : ℕ) → IsHead m from g → IsHead m from h → g ≡ h
one_head m from g h a b = let la = a.0.0 in let lb = b.0.0 in dite (dec_lt g h)
    (λ less. absurd (true≢false (sym (b.0.1 g la less) ∙ a.1)))
    (λ more. dite (dec_lt h g) (λ less. absurd (true≢false (sym (a.0.1 h lb less) ∙ b.1))) (λ other. omega arith))

module _ (m : RxMade) (posted1 posted2 : ℕ) where
  abbrev IsFar : ℕ × ℕ → Type 0
  IsFar look = posted1 ≤ look.0

  further_keeps : (a : Stand) (f : Option ℕ) → All IsFar (further m a f).looks → All IsFar a.looks
  further_keeps a f = by_body f (is_body m a.next1)
    where
      by_body : (f : Option ℕ) (c : Bool) → All IsFar (cond c (by_load a f) (from_two a)).looks → All IsFar a.looks
      by_body None true all = all
      by_body (Some w) true all = all_left IsFar a.looks _ all
      by_body f false all = all

  further_up : (a : Stand) (f : Option ℕ) → (a.next1 ≤ (further m a f).next1) × (a.next2 ≤ (further m a f).next2)
  further_up a f = by_body f (is_body m a.next1)
    where
      by_body : (f : Option ℕ) (c : Bool) → (a.next1 ≤ (cond c (by_load a f) (from_two a)).next1) × (a.next2 ≤ (cond c (by_load a f) (from_two a)).next2)
      by_body None true = ((omega arith), (omega arith))
      by_body (Some w) true = ((omega arith), (omega arith))
      by_body f false = ((omega arith), (omega arith))

  pub walk_keeps : (found : List (Option ℕ)) (a : Stand) → All IsFar (walk m a found).looks → All IsFar a.looks
  walk_keeps [] a all = all
  walk_keeps (f ∷ more) a all = further_keeps a f (walk_keeps more (further m a f) all)

  pub walk_up : (found : List (Option ℕ)) (a : Stand) → (a.next1 ≤ (walk m a found).next1) × (a.next2 ≤ (walk m a found).next2)
  walk_up [] a = ((omega arith), (omega arith))
  walk_up (f ∷ more) a = let one = further_up a f in let rest = walk_up more (further m a f) in let a1 = one.0 in let a2 = one.1 in let b1 = rest.0 in let b2 = rest.1 in ((omega arith), (omega arith))

  pub one_same : (a b : Stand) (f : Option ℕ) → IsSameWalk a b → All IsFar (further m a f).looks → (further m a f).next1 ≤ posted1 → IsSameWalk (further m a f) (further m b (finding m posted1 b))
  one_same a b f same = λ all few. subst (λ (z : ℕ). IsSameWalk (further m a f) (cond (is_body m z) (by_load b (finding m posted1 b)) (from_two b))) same.0 (by_body f (is_body m a.next1) all few)
    where
      second : IsSameWalk (from_two a) (from_two b)
      second = (same.0, ap suc same.1, ap₂ (λ (c : List (ℕ × ℕ)) (q : ℕ). c ++ (2, q) ∷ []) same.2 same.1)

      by_body : (f : Option ℕ) (c : Bool) → All IsFar (cond c (by_load a f) (from_two a)).looks → (cond c (by_load a f) (from_two a)).next1 ≤ posted1
          → IsSameWalk (cond c (by_load a f) (from_two a)) (cond c (by_load b (finding m posted1 b)) (from_two b))
      by_body None true all few = let e = same.0 in let less : b.next1 < posted1 = omega arith in
          subst (λ (t : Bool). IsSameWalk (from_one a) (by_load b (cond t None (Some (missed_word 31 m.size1 b.next1))))) (sym (lt-ltb b.next1 posted1 less)) (ap suc same.0, same.1, ap₂ (λ (c : List (ℕ × ℕ)) (q : ℕ). c ++ (1, q) ∷ []) same.2 same.0)
      by_body (Some w) true all few = let far = all_last IsFar a.looks (a.next1, w) all in let e = same.0 in let more : posted1 ≤ b.next1 = omega arith in
          subst (λ (t : Bool). IsSameWalk (from_two (record a { looks = a.looks ++ (a.next1, w) ∷ [] })) (by_load b (cond t None (Some (missed_word 31 m.size1 b.next1))))) (sym (le-ltb b.next1 posted1 more)) second
      by_body f false all few = second

  pub exact_goes : (n : ℕ) (found : List (Option ℕ)) (a b : Stand) → IsSameWalk a b → length found ≡ n → All IsFar (walk m a found).looks → (walk m a found).next1 ≤ posted1 → (walk m a found).next2 ≤ posted2
      → IsSameWalk (walk m a found) (goes m posted1 posted2 n b)
  exact_goes zero [] a b same long all few1 few2 = same
  exact_goes (suc n) [] a b same long all few1 few2 = absurd (omega arith)
  exact_goes zero (f ∷ more) a b same long all few1 few2 = absurd (omega arith)
  exact_goes (suc n) (f ∷ more) a b same long all few1 few2 =
      let a' : Stand = further m a f in let b' : Stand = further m b (finding m posted1 b) in let up = walk_up more a' in let u1 = up.0 in let u2 = up.1 in
      let next = one_same a b f same (walk_keeps more a' all) (omega arith) in let e2 = next.1 in let low : b'.next2 ≤ posted2 = omega arith in
      subst (λ (t : Bool). IsSameWalk (walk m a' more) (cond t b' (goes m posted1 posted2 n b'))) (sym (le-ltb posted2 b'.next2 low)) (exact_goes n more a' b' next (omega arith) all few1 few2)

  -- the walk of a delivery, where no look is below posted1 and nothing was taken past what is published
  pub exact_walk : (bodies c1 c2 passed n : ℕ) (found : List (Option ℕ)) (end : Stand) → m.bodies ≡ Every bodies → 0 < m.size1 → IsHead m c1 (c1 + passed) → length found ≡ n → end ≡ walk m (at_head (c1 + passed) c2) found
      → All IsFar end.looks → end.next1 ≤ posted1 → end.next2 ≤ posted2
      → (c1 + passed ≡ head_from m m.size1 c1) × IsSameWalk end (goes m posted1 posted2 n (at_head (head_from m m.size1 c1) c2))
  exact_walk bodies c1 c2 passed n found end every pos head long is far few1 few2 = let h = one_head m c1 (c1 + passed) (head_from m m.size1 c1) head (head_is m bodies c1 every pos) in (
    h,
    subst (λ (z : ℕ). IsSameWalk end (goes m posted1 posted2 n (at_head z c2))) h
        (subst (λ e. IsSameWalk e (goes m posted1 posted2 n (at_head (c1 + passed) c2))) (sym is)
        (exact_goes n found (at_head (c1 + passed) c2) (at_head (c1 + passed) c2) (refl, refl, refl) long (subst (λ e. All IsFar e.looks) is far) (subst (λ e. e.next1 ≤ posted1) is few1) (subst (λ e. e.next2 ≤ posted2) is few2))),
  )
