-- A queue whose two ends are caught up has room: all descriptors of a transmit queue are free, and a receive queue that was made full refuses no frame.
use Rattle.std.proofs.Common.{◌≡◌, ℕ, ◌+◌, ◌<◌, ◌≤◌, List, [], ◌∷◌, length, drop, true, false, true≢false, refl, sym, ap, ◌∙◌, arith, ⊎_elim}
use Rattle.std.specs.Prelude.{Bool, Option, Some, None, if◌then◌else◌}
use mathlib.Core.List.{IsPrefix}
use Rattle.vmx_ends.specs.declared.made.RxMade.{RxMade}
use Rattle.vmx_ends.specs.declared.made.Bodies.TheVariants.{Every}
use Rattle.vmx_ends.specs.Transmit.{TxDriverView, descriptors, used as in_use}
use Rattle.vmx_ends.specs.Receive.{RxDeviceView, is_body, used, took1, took2, posted1, posted2, consumed1, consumed2}
use Rattle.vmx_ends.specs.Walk.{Stand, at_head, from_two, by_load, further, walk, pieces}
use Rattle.vmx_ends.specs.ReceiveClauses.{Refuses, MissesHead, MissesBody}
use Rattle.vmx_ends.specs.WalkLaws.{head_near}
use Rattle.vmx_ends.specs.Exactness.{ends_head, ends_walk}

none_behind : {X : Type 0} (xs : List X) → drop (length xs) xs ≡ []
none_behind [] = refl
none_behind (x ∷ xs) = none_behind xs

-- where all that was sent is reaped, no descriptor is in use
pub none_in_use : (d : TxDriverView) → d.reaped ≡ length d.sent → in_use d ≡ 0
none_in_use d all = ap (λ (n : ℕ). descriptors d.made (drop n d.sent)) all ∙ ap (descriptors d.made) (none_behind d.sent)

-- a front that is as long as the whole is the whole
pub whole_front : {X : Type 0} (xs ys : List X) → IsPrefix xs ys → length ys ≤ length xs → xs ≡ ys
whole_front [] [] h le = refl
whole_front [] (y ∷ ys) h le = absurd (omega arith)
whole_front (x ∷ xs) [] h le = let l = ap length h.1 in absurd (omega arith)
whole_front (x ∷ xs) (y ∷ ys) h le = let tail = whole_front xs ys (h.0, cc h.1) (omega arith) in cc (tail, h.1)

module _ (m : RxMade) where
  -- a further piece takes at most one buffer of ring 2
  one_more : (a : Stand) (f : Option ℕ) → (further m a f).next2 ≤ a.next2 + 1
  one_more a f = by_body f (is_body m a.next1)
    where
      by_body : (f : Option ℕ) (c : Bool) → (if c then by_load a f else from_two a).next2 ≤ a.next2 + 1
      by_body None true = omega arith
      by_body (Some w) true = omega arith
      by_body f false = omega arith

  few_more : (found : List (Option ℕ)) (a : Stand) → (walk m a found).next2 ≤ a.next2 + length found
  few_more [] a = omega arith
  few_more (f ∷ more) a = let here = one_more a f in let rest = few_more more (further m a f) in omega arith

-- a queue that was made full refuses no frame where all that was delivered is received and the device knows it
pub never_refused : (bodies bytes ring position word look : ℕ) (old new : RxDeviceView) → old.made.full ≡ true → old.made.bodies ≡ Every bodies → 0 < old.made.size1 → 2 ≤ old.made.size2 → bytes ≤ 9022 → length old.delivered ≤ length old.heard → IsPrefix old.heard old.delivered
    → Refuses old bytes ring position word look new → ⊥
never_refused bodies bytes ring position word look old new full every pos two most long front r = ⊎_elim
    (λ (c : (ring ≡ 1) × (r.looks ≡ []) × MissesHead old position word new). in_head c.2)
    (λ (c : (ring ≡ 2) × MissesBody old bytes position word r.looks new). in_body c.1)
    r.where_
  where
    m : RxMade
    m = old.made

    told : old.heard ≡ old.delivered
    told = whole_front old.heard old.delivered front long

    told1 : posted1 m old.heard ≡ m.size1 + consumed1 old
    told1 = ap (posted1 m) told ∙ ap (λ (b : Bool). (if b then m.size1 else 0) + used took1 old.delivered) full

    told2 : posted2 m old.heard ≡ m.size2 + consumed2 old
    told2 = ap (posted2 m) told ∙ ap (λ (b : Bool). (if b then m.size2 else 0) + used took2 old.delivered) full

    in_head : MissesHead old position word new → ⊥
    in_head a =
        let far = a.missed.1 in let e = told1 in let near = head_near m bodies (consumed1 old) every pos in let le = near.1 in let lt = near.2 in
        true≢false (sym (a.bodies.1 near.0 le (omega arith)) ∙ near.3)

    in_body : MissesBody old bytes position word r.looks new → ⊥
    in_body a =
        let far = a.missed.1 in let e = told2 in let not_all = a.not_all in
        let last = ends_walk m a.found (at_head (consumed1 old + a.passed) (consumed2 old)) (ends_head (consumed1 old + a.passed) (consumed2 old)) a.needed.0 position (sym (ap (λ (z : Stand). z.chain) a.walked) ∙ a.needed.1) in
        let few = few_more m a.found (at_head (consumed1 old + a.passed) (consumed2 old)) in
        let third : pieces bytes ≤ 3 = omega arith in omega arith
