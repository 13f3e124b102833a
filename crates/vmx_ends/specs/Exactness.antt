-- Where both ends know all that the other did, a delivery and a refusal are the core's own: no choice is left to the loads.
use Rattle.std.proofs.Common.{◌≡◌, ◌≢◌, ℕ, zero, suc, ◌+◌, ◌-◌, ◌<◌, ◌≤◌, List, [], ◌∷◌, ◌++◌, length, Bool, true, false, true≢false, cond, sym, refl, ap, ap₂, ◌∙◌, subst, ⊎_elim, arith, length-append, Option, Some, None, All}
use Rattle.std.proofs.lemmas.Bool.{lt-ltb, le-ltb}
use mathlib.Core.Logic.{dite}
use native.Mathlib.Decide.{dec_lt}
use Rattle.vmx_ends.specs.declared.made.RxMade.{RxMade}
use Rattle.vmx_ends.specs.declared.made.Bodies.TheVariants.{Every}
use Rattle.vmx_ends.specs.declared.meta.RxMeta.{RxMeta}
use Rattle.vmx_ends.specs.Receive.{RxDeviceView, is_body, posted1, posted2, consumed1, consumed2}
use Rattle.vmx_ends.specs.Walk.{Stand, at_head, from_one, from_two, by_load, further, walk, further_pieces}
use Rattle.vmx_ends.specs.Core.{head_from, finding, goes, takes, misses, ended, outcome}
use Rattle.vmx_ends.specs.ReceiveClauses.{DeliversFrame, Refuses, MissesHead, MissesBody}
use Rattle.vmx_ends.specs.WalkLaws.{head_is}
use Rattle.vmx_ends.specs.ExactWalk.{IsSameWalk, one_head, exact_walk, one_same, walk_keeps, walk_up}

-- the core takes so many bodies over and the same pieces
pub record IsTaken (m : RxMade) (c1 c2 p1 p2 n passed : ℕ) (end : Stand) : Type 0 where
  pub core : Stand
  pub comes : outcome m c1 c2 p1 p2 n ≡ takes passed core
  pub same : IsSameWalk end core

-- a delivery, where the device was told of all that is posted and knows of nothing beyond
pub exact_delivery : (bodies p1 p2 : ℕ) (old : RxDeviceView) (frame : List ℕ) (meta : RxMeta) (new : RxDeviceView) (d : DeliversFrame old frame meta new) → old.made.bodies ≡ Every bodies → 0 < old.made.size1
    → posted1 old.made old.heard ≡ p1 → new.seen1 ≤ p1 → new.seen2 ≤ p2
    → IsTaken old.made (consumed1 old) (consumed2 old) p1 p2 (further_pieces (length frame)) d.passed d.end
exact_delivery bodies p1 p2 old frame meta new d every pos told1 few1 few2 =
    let m : RxMade = old.made in let c1 : ℕ = consumed1 old in let c2 : ℕ = consumed2 old in let n : ℕ = further_pieces (length frame) in let h : ℕ = head_from m m.size1 c1 in
    let s1 = d.seen.0 in let s2 = d.seen.1 in let as_many = d.as_many in
    let far : All (λ (look : ℕ × ℕ). p1 ≤ look.0) d.end.looks = λ k x less. let l = d.looked k x less in let e = told1 in let b = l.1 in omega arith in
    let low1 : d.end.next1 ≤ p1 = omega arith in let low2 : d.end.next2 ≤ p2 = omega arith in
    let both = exact_walk m p1 p2 bodies c1 c2 d.passed n d.found d.end every pos d.head (omega arith) d.walked far low1 low2 in
    let core : Stand = goes m p1 p2 n (at_head h c2) in let here = both.0 in
    let up = walk_up m p1 p2 d.found (at_head (c1 + d.passed) c2) in let up1 = up.0 in let end1 = ap (λ (a : Stand). a.next1) d.walked in
    let reached : h < p1 = omega arith in
    let same2 = both.1.1 in let few : core.next2 ≤ p2 = omega arith in let away : h - c1 ≡ d.passed = omega arith in
    record {
      core = core;
      comes = ap (λ b. cond b (ended (h - c1) p2 core) (misses 1 p1 [])) (lt-ltb h p1 reached) ∙ ap (λ b. cond b (misses 2 p2 core.looks) (takes (h - c1) core)) (le-ltb p2 core.next2 few) ∙ ap (λ (z : ℕ). takes z core) away;
      same = both.1;
    }

-- the core misses the same descriptor
pub record IsMissing (m : RxMade) (c1 c2 p1 p2 n ring position : ℕ) : Type 0 where
  pub looks : List (ℕ × ℕ)
  pub comes : outcome m c1 c2 p1 p2 n ≡ misses ring position looks

-- a walk with what its loads found, up to its last piece, is the core's where each of its looks is at a position that is not posted
module _ (m : RxMade) (p1 p2 : ℕ) where
  abbrev IsFar : ℕ × ℕ → Type 0
  IsFar look = p1 ≤ look.0

  -- a walk whose last piece is ring 2's first that is not posted: the core goes as far and ends with it
  misses_body : (n : ℕ) (found : List (Option ℕ)) (a b : Stand) → IsSameWalk a b → length found ≤ n → b.next2 ≤ p2 → All IsFar (walk m a found).looks → (walk m a found).next1 ≤ p1 → (walk m a found).next2 ≡ suc p2
      → p2 < (goes m p1 p2 n b).next2
  misses_body zero [] a b same le low all few1 last = let e = same.1 in absurd (omega arith)
  misses_body (suc n) [] a b same le low all few1 last = let e = same.1 in absurd (omega arith)
  misses_body zero (f ∷ more) a b same le low all few1 last = absurd (omega arith)
  misses_body (suc n) (f ∷ more) a b same le low all few1 last =
      let a' : Stand = further m a f in let b' : Stand = further m b (finding m p1 b) in let up = walk_up m p1 p2 more a' in let u1 = up.0 in
      let next = one_same m p1 p2 a b f same (walk_keeps m p1 p2 more a' all) (omega arith) in
      dite (dec_lt p2 b'.next2)
      (λ far. subst (λ (t : Bool). p2 < (cond t b' (goes m p1 p2 n b')).next2) (sym (lt-ltb p2 b'.next2 far)) far)
      (λ near. let close : b'.next2 ≤ p2 = omega arith in subst (λ (t : Bool). p2 < (cond t b' (goes m p1 p2 n b')).next2) (sym (le-ltb p2 b'.next2 close)) (misses_body n more a' b' next (omega arith) close all few1 last))

last_same : {A : Type 0} (xs ys : List A) (x y : A) → xs ++ x ∷ [] ≡ ys ++ y ∷ [] → x ≡ y
last_same [] [] x y e = cc
last_same [] (b ∷ ys) x y e = let l = ap length e in let m = length-append ys (y ∷ []) in absurd (omega arith)
last_same (a ∷ xs) [] x y e = let l = ap length e in let m = length-append xs (x ∷ []) in absurd (omega arith)
last_same (a ∷ xs) (b ∷ ys) x y e = let tail : xs ++ x ∷ [] ≡ ys ++ y ∷ [] = cc in last_same xs ys x y tail

-- where the last piece is ring 2's position p, its next is the one behind
abbrev pub EndsTwo : Stand → Type 0
EndsTwo a = (front : List (ℕ × ℕ)) (p : ℕ) → a.chain ≡ front ++ (2, p) ∷ [] → a.next2 ≡ suc p

abbrev spot : ℕ → ℕ → ℕ × ℕ
spot a b = (a, b)

not_one : (a b c : ℕ) → spot a b ≡ spot 2 c → a ≢ 1
not_one a b c e z = let t : a ≡ 2 = ap (λ (s : ℕ × ℕ). s.0) e in absurd (omega arith)

pub ends_head : (h c2 : ℕ) → EndsTwo (at_head h c2)
ends_head h c2 front p e = absurd (not_one 1 h p (last_same [] front (1, h) (2, p) e) refl)

ends_two : (a : Stand) (looks : List (ℕ × ℕ)) → EndsTwo (from_two (record a { looks = looks }))
ends_two a looks front p e = ap suc (ap (λ (s : ℕ × ℕ). s.1) (last_same a.chain front (2, a.next2) (2, p) e))

ends_one : (a : Stand) → EndsTwo (from_one a)
ends_one a front p e = absurd (not_one 1 a.next1 p (last_same a.chain front (1, a.next1) (2, p) e) refl)

ends_further : (m : RxMade) (a : Stand) (f : Option ℕ) → EndsTwo (further m a f)
ends_further m a f = by_body f (is_body m a.next1)
  where
    by_body : (f : Option ℕ) (c : Bool) → EndsTwo (cond c (by_load a f) (from_two a))
    by_body None true = ends_one a
    by_body (Some w) true = ends_two a (a.looks ++ (a.next1, w) ∷ [])
    by_body f false = ends_two a a.looks

pub ends_walk : (m : RxMade) (found : List (Option ℕ)) (a : Stand) → EndsTwo a → EndsTwo (walk m a found)
ends_walk m [] a e = e
ends_walk m (f ∷ more) a e = ends_walk m more (further m a f) (ends_further m a f)

-- a refusal, where the device was told of all that is posted and knows of nothing beyond
pub exact_refusal : (bodies p1 p2 bytes ring position word look : ℕ) (old new : RxDeviceView) (r : Refuses old bytes ring position word look new) → old.made.bodies ≡ Every bodies → 0 < old.made.size1
    → posted1 old.made old.heard ≡ p1 → posted2 old.made old.heard ≡ p2 → consumed2 old ≤ p2 → new.seen1 ≤ p1 → new.seen2 ≤ p2
    → IsMissing old.made (consumed1 old) (consumed2 old) p1 p2 (further_pieces bytes) ring position
exact_refusal bodies p1 p2 bytes ring position word look old new r every pos told1 told2 low2 few1 few2 = ⊎_elim
    (λ (c : (ring ≡ 1) × (r.looks ≡ []) × MissesHead old position word new). in_head c.0 c.2)
    (λ (c : (ring ≡ 2) × MissesBody old bytes position word r.looks new). in_body c.0 c.1)
    r.where_
  where
    m : RxMade
    m = old.made

    c1 : ℕ
    c1 = consumed1 old

    c2 : ℕ
    c2 = consumed2 old

    n : ℕ
    n = further_pieces bytes

    h : ℕ
    h = head_from m m.size1 c1

    in_head : ring ≡ 1 → MissesHead old position word new → IsMissing m c1 c2 p1 p2 n ring position
    in_head ring_is a =
        let s = a.seen in let far = a.missed.1 in let e = told1 in let same : p1 ≡ position = omega arith in let head = head_is m bodies c1 every pos in
        let beyond : p1 ≤ h = dite (dec_lt h p1) (λ less. let up = head.0.0 in absurd (true≢false (sym (a.bodies.1 h up (omega arith)) ∙ head.1))) (λ more. omega arith) in record {
          looks = [];
          comes = ap (λ b. cond b (ended (h - c1) p2 (goes m p1 p2 n (at_head h c2))) (misses 1 p1 [])) (le-ltb h p1 beyond) ∙ ap₂ (λ (a b : ℕ). misses a b []) (sym ring_is) same;
        }

    in_body : ring ≡ 2 → MissesBody old bytes position word r.looks new → IsMissing m c1 c2 p1 p2 n ring position
    in_body ring_is a =
        let s1 = a.seen.0 in let s2 = a.seen.1 in let far2 = a.missed.1 in let e2 = told2 in let same : p2 ≡ position = omega arith in let not_all = a.not_all in
        let head = one_head m c1 (c1 + a.passed) h a.head (head_is m bodies c1 every pos) in
        let walked = a.walked in
        let far : All (λ (x : ℕ × ℕ). p1 ≤ x.0) (walk m (at_head (c1 + a.passed) c2) a.found).looks = subst (λ (l : List (ℕ × ℕ)). All (λ (x : ℕ × ℕ). p1 ≤ x.0) l) (a.looks_are ∙ ap (λ (z : Stand). z.looks) walked) (λ k x less. let l = a.looked k x less in let e = told1 in let b = l.1 in omega arith) in
        let end1 = ap (λ (z : Stand). z.next1) walked in let up = walk_up m p1 p2 a.found (at_head (c1 + a.passed) c2) in let up1 = up.0 in
        let last = ends_walk m a.found (at_head (c1 + a.passed) c2) (ends_head (c1 + a.passed) c2) a.needed.0 position (sym (ap (λ (z : Stand). z.chain) walked) ∙ a.needed.1) in
        let core : Stand = goes m p1 p2 n (at_head h c2) in let reached : h < p1 = omega arith in
        let beyond : p2 < core.next2 = subst (λ (z : ℕ). p2 < (goes m p1 p2 n (at_head z c2)).next2) head (misses_body m p1 p2 n a.found (at_head (c1 + a.passed) c2) (at_head (c1 + a.passed) c2) (refl, refl, refl) (omega arith) low2 far (omega arith) (last ∙ ap suc (sym same))) in record {
          looks = core.looks;
          comes = ap (λ b. cond b (ended (h - c1) p2 core) (misses 1 p1 [])) (lt-ltb h p1 reached) ∙ ap (λ b. cond b (misses 2 p2 core.looks) (takes (h - c1) core)) (lt-ltb p2 core.next2 beyond) ∙ ap₂ (λ (a b : ℕ). misses a b core.looks) (sym ring_is) same;
        }
