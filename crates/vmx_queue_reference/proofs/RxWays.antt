-- A walk over the supplies of a plain receive queue, piece by piece, comes to what the core's comes to.
use Rattle.std.proofs.Common.{◌≡◌, ℕ, zero, suc, ◌+◌, ◌-◌, ◌<◌, ◌≤◌, List, [], ◌∷◌, ◌++◌, length, take, get_or, true, false, ◌&&◌, nat_lt, sym, refl, ap, ap₂, ◌∙◌, subst, arith, Result, Ok, Err, IfOk}
use Rattle.vmx_ends.specs.Receive.{is_body, used, took1, took2}
use Rattle.vmx_ends.specs.Walk.{further_pieces, Stand, at_head, from_one}
use Rattle.vmx_ends.specs.Core.{goes, ended, outcome}
use Rattle.vmx_ends.specs.ReceiveClauses.{made_of}
use Rattle.vmx_ends.specs.ReceiveCore.{comes_to}
use Rattle.vmx_ends.specs.declared.frames.Delivery.{Delivery}
use Rattle.vmx_ends.specs.declared.made.RxMade.{RxMade}
use Rattle.vmx_queue_reference.specs.declared.rx.Buffer.{Buffer}
use Rattle.vmx_queue_reference.specs.declared.rx.PlainRx.{PlainRx}
use Rattle.vmx_queue_reference.specs.declared.rx.Way.{Way}
use Rattle.vmx_queue_reference.specs.declared.rx.Walked.{Walked}
use Rattle.vmx_queue_reference.specs.declared.rx.Walked.TheVariants.{Takes, Misses}
use Rattle.vmx_queue_reference.specs.PlainSupplies.{buffer1, deliveries}
use Rattle.vmx_queue_reference.specs.PlainReceive.{rx_core}
use Rattle.vmx_queue_reference.specs.PlainWalk.{stand, EndsAs}
use Rattle.vmx_queue_reference.proofs.SupplyLaws.{run_at}
use Rattle.vmx_queue_reference.proofs.WalkOfSupplies.{second, goes_none, goes_one, goes_two, goes_out, ended_well, head_found, head_missed}

pub if_ok : {T E : Type 0} (P Q : T → Type 0) (r : Result T E) → IfOk r P → ((x : T) → P x → Q x) → IfOk r Q
if_ok P Q (Ok x) p f = f x p
if_ok P Q (Err e) p f = tt

used_take : (g : Delivery → ℕ) (i : ℕ) (ds : List Delivery) → used g (take i ds) ≤ used g ds
used_take g zero ds = omega arith
used_take g (suc i) [] = omega arith
used_take g (suc i) (x ∷ xs) = let r = used_take g i xs in omega arith

-- a supply has at most its own buffers
pub short1 : (q : PlainRx) → length q.one.buffers ≤ q.shape.size1
short1 q = let e = q.ends1 in let l = q.left1 in let u = used_take took1 q.received (deliveries q.delivered) in omega arith

pub short2 : (q : PlainRx) → length q.two.buffers ≤ q.shape.size2
short2 q = let e = q.ends2 in let l = q.left2 in let u = used_take took2 q.received (deliveries q.delivered) in omega arith

module _ (q : PlainRx) where
  abbrev m : RxMade
  m = made_of q.shape

  abbrev P1 : ℕ
  P1 = q.one.left + length q.one.buffers

  abbrev P2 : ℕ
  P2 = q.two.left + length q.two.buffers

  -- the walk that has so many pieces to go ends so
  abbrev pub GoesTo : Way → ℕ → Walked → Type 0
  GoesTo way n e = (looks : List (ℕ × ℕ)) → EndsAs q (ended way.passed P2 (goes m P1 P2 n (stand q way looks))) e

  pub stops : (way : Way) (n : ℕ) → n ≡ 0 → way.ones ≤ length q.one.buffers → way.twos ≤ length q.two.buffers → GoesTo way n (Takes way)
  stops way n none le1 le2 looks =
      subst (λ o. EndsAs q o (Takes way)) (sym (ap (ended way.passed P2) (goes_none m P1 P2 n (stand q way looks) none) ∙ ended_well m P1 P2 way.passed (stand q way looks) (omega arith)))
      record { passed_is = refl; next1 = refl; next2 = refl; chain = refl; within1 = le1; within2 = le2 }

  pub one_more : (way new : Way) (n : ℕ) (e : Walked) → 0 < n → (nat_lt (q.one.left + way.ones) P1 && is_body m (q.one.left + way.ones)) ≡ true → way.twos ≤ length q.two.buffers
      → new.passed ≡ way.passed → new.ones ≡ way.ones + 1 → new.twos ≡ way.twos → new.chain ≡ way.chain ++ (1, q.one.left + way.ones) ∷ [] → GoesTo new (n - 1) e → GoesTo way n e
  one_more way new n e some there le passed ones twos chain far looks =
      let a : Stand = stand q way looks in let next1 : suc (q.one.left + way.ones) ≡ q.one.left + new.ones = omega arith in
      let here : from_one a ≡ stand q new looks = λ i. record { next1 = next1 i; next2 = q.two.left + sym twos i; chain = sym chain i; looks = looks } in
      subst (λ o. EndsAs q o e) (sym (ap (ended way.passed P2) (goes_one m P1 P2 n a some there (omega arith)) ∙ ap₂ (λ (p : ℕ) (s : Stand). ended p P2 (goes m P1 P2 (n - 1) s)) (sym passed) here)) (far looks)

  pub two_more : (way new : Way) (n : ℕ) (e : Walked) → 0 < n → (nat_lt (q.one.left + way.ones) P1 && is_body m (q.one.left + way.ones)) ≡ false → way.twos < length q.two.buffers
      → new.passed ≡ way.passed → new.ones ≡ way.ones → new.twos ≡ way.twos + 1 → new.chain ≡ way.chain ++ (2, q.two.left + way.twos) ∷ [] → GoesTo new (n - 1) e → GoesTo way n e
  two_more way new n e some there less passed ones twos chain far looks =
      let a : Stand = stand q way looks in let next2 : suc (q.two.left + way.twos) ≡ q.two.left + new.twos = omega arith in let g = goes_two m P1 P2 n a some there (omega arith) in
      let here : second a g.looks ≡ stand q new g.looks = λ i. record { next1 = q.one.left + sym ones i; next2 = next2 i; chain = sym chain i; looks = g.looks } in
      subst (λ o. EndsAs q o e) (sym (ap (ended way.passed P2) g.is ∙ ap₂ (λ (p : ℕ) (s : Stand). ended p P2 (goes m P1 P2 (n - 1) s)) (sym passed) here)) (far g.looks)

  pub misses_two : (way : Way) (n : ℕ) → 0 < n → (nat_lt (q.one.left + way.ones) P1 && is_body m (q.one.left + way.ones)) ≡ false → length q.two.buffers ≡ way.twos → GoesTo way n (Misses 2 (q.two.left + way.twos))
  misses_two way n some there e looks = let same : P2 ≡ q.two.left + way.twos = omega arith in let g = goes_out m P1 P2 n way.passed (stand q way looks) some there same in
      subst (λ o. EndsAs q o (Misses 2 (q.two.left + way.twos))) (sym g.1) (refl, sym same)

  -- the buffers of the first supply, where all before the head are BODY
  module _ (bytes r : ℕ) (before : (k : ℕ) (d : Buffer) → k < r → (get_or q.one.buffers k d).body ≡ true) (within : r ≤ length q.one.buffers) where
    abbrev n : ℕ
    n = further_pieces bytes

    at_one : (k : ℕ) (d : Buffer) → k < length q.one.buffers → (get_or q.one.buffers k d).body ≡ is_body m (q.one.left + k)
    at_one k d less = ap (λ (b : Buffer). b.body) (ap (λ l. get_or l k d) q.supply1 ∙ run_at (buffer1 m) q.one.left (length q.one.buffers) k d less)

    all_bodies : (k : ℕ) → k < r → is_body m (q.one.left + k) ≡ true
    all_bodies k less = let d : Buffer = record { number = 0; body = true } in sym (at_one k d (omega arith)) ∙ before k d less

    -- the core's own numbers
    core_is : comes_to (rx_core q) bytes ≡ outcome m q.one.left q.two.left P1 P2 n
    core_is = λ i. outcome m (sym q.left1 i) (sym q.left2 i) (sym q.ends1 i) (sym q.ends2 i) n

    pub misses_one : length q.one.buffers ≤ r → EndsAs q (comes_to (rx_core q) bytes) (Misses 1 (q.one.left + r))
    misses_one le = let same : q.one.left + r ≡ P1 = omega arith in
        subst (λ o. EndsAs q o (Misses 1 (q.one.left + r))) (sym (core_is ∙ head_missed m P1 P2 q.shape.bodies q.one.left q.two.left n r refl q.sizes.0 all_bodies (omega arith))) (refl, same)

    pub begins : (way : Way) (e : Walked) → r < length q.one.buffers → ((d : Buffer) → (get_or q.one.buffers r d).body ≡ false)
        → way.passed ≡ r → way.ones ≡ r + 1 → way.twos ≡ 0 → way.chain ≡ (1, q.one.left + r) ∷ [] → GoesTo way n e → EndsAs q (comes_to (rx_core q) bytes) e
    begins way e less head passed ones twos chain far =
        let d : Buffer = record { number = 0; body = true } in let is_head : is_body m (q.one.left + r) ≡ false = sym (at_one r d less) ∙ head d in
        let next1 : suc (q.one.left + r) ≡ q.one.left + way.ones = omega arith in let next2 : q.two.left ≡ q.two.left + way.twos = omega arith in
        let here : at_head (q.one.left + r) q.two.left ≡ stand q way [] = λ i. record { next1 = next1 i; next2 = next2 i; chain = sym chain i; looks = [] } in
        subst (λ o. EndsAs q o e) (sym (core_is ∙ head_found m P1 P2 q.shape.bodies q.one.left q.two.left n r refl q.sizes.0 all_bodies is_head (omega arith) ∙ ap₂ (λ (p : ℕ) (s : Stand). ended p P2 (goes m P1 P2 n s)) (sym passed) here)) (far [])
