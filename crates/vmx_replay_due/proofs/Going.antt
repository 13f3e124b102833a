-- The frames of queues by the numbers of a capture, and what a verdict says of them.
use Rattle.std.proofs.Common.{◌≡◌, ℕ, zero, suc, ◌+◌, ◌-◌, ◌≤◌, Bool, true, false, true≢false, not, ◌&&◌, List, [], ◌∷◌, length, take, refl, ap, sym, ◌∙◌, arith, nat_eq, nat_le, nat_lt, Some, if◌then◌else◌}
use Rattle.std.specs.List.{filter, slice_get}
use Rattle.std.proofs.lemmas.Bool.Decides.{nat_tests}
use Rattle.vmx_pcap.specs.declared.records.Stamped.{Stamped}
use Rattle.vmx_frame.specs.declared.ethernet.TheConstants.{HEADER_LEN}
use Rattle.vmx_model.specs.declared.limits.TheConstants.{ABOVE_MTU}
use Rattle.vmx_model.specs.declared.guest.GuestPlan.{GuestPlan}
use Rattle.vmx_model.specs.declared.sending.Sending.{Sending}
use Rattle.vmx_model.specs.declared.sending.Sending.TheVariants as sending
use Rattle.vmx_model.specs.Wire.{tx_queue}
use Rattle.vmx_model.specs.Plan.{Captured, captured, captured_as, numbered, wire, is_down, activation_at, goes_on, place_of, sent_at, verdict_on}
use Rattle.vmx_model.specs.QueueSteps.{sent_before}
use Rattle.vmx_model.specs.PlanSteps.{place_next, place_step, goes_at}
use Rattle.vmx_replay_due.specs.Standing.{is_sent}

-- ------------------------------------------------------------ places

step_up : (b : Bool) (n : ℕ) → n ≤ (if b then n + 1 else n)
step_up true n = omega arith
step_up false n = omega arith

grows : (p : GuestPlan) (a q i k : ℕ) → place_of p a q i ≤ place_of p a q (i + k)
grows p a q i zero = let e : i + 0 ≡ i = omega arith in let same = ap (place_of p a q) e in omega (arith, same)
grows p a q i (suc k) = let one : i + suc k ≡ (i + k) + 1 = omega arith in let up = step_up (goes_at p a q (i + k)) (place_of p a q (i + k)) in let more = place_step p a q (i + k) in let before = grows p a q i k in
    let last = ap (place_of p a q) one in omega (arith, up, more, before, last)

-- no place is given back
pub place_grows : (p : GuestPlan) (a q i j : ℕ) → i ≤ j → place_of p a q i ≤ place_of p a q j
place_grows p a q i j le = let e : i + (j - i) ≡ j = omega (arith, le) in let up = grows p a q i (j - i) in let same = ap (place_of p a q) e in omega (arith, up, same)

-- a frame that goes on a queue takes a place
pub place_taken : (p : GuestPlan) (a q i : ℕ) (r : Stamped) → slice_get p.capture.records i ≡ Some r → goes_on p a q (captured_as p i r) ≡ true → place_of p a q (i + 1) ≡ place_of p a q i + 1
place_taken p a q i r there goes = place_next p a q i r there ∙ ap (λ (b : Bool). place_of p a q i + (if b then 1 else 0)) goes

-- ------------------------------------------------------------ verdicts

module _ (p : GuestPlan) (c : Captured) where
  abbrev a_at : ℕ
  a_at = activation_at p c.number

  abbrev q_at : ℕ
  q_at = tx_queue c.posted.frame p.setup.tx_queues

  low_of : (b : Bool) → nat_lt (length c.posted.frame) HEADER_LEN ≡ b → nat_le HEADER_LEN (length c.posted.frame) ≡ not b
  low_of true e = grind (arith, nat_tests)
  low_of false e = grind (arith, nat_tests)

  high_of : (b : Bool) → nat_lt (p.setup.mtu + ABOVE_MTU) (length (wire c)) ≡ b → nat_le (length (wire c)) (p.setup.mtu + ABOVE_MTU) ≡ not b
  high_of true e = grind (arith, nat_tests)
  high_of false e = grind (arith, nat_tests)

  self : (n : ℕ) → nat_eq n n ≡ true
  self n = grind (arith, nat_tests)

  -- by the three tests
  abbrev by_tests : Bool → Bool → Bool → Sending
  by_tests down short long = if down then sending.Down else (if short then sending.Short else (if long then sending.TooLong else sent_at p a_at q_at c.number))

  goes_by : (down short long : Bool) → is_down p c.number ≡ down → nat_lt (length c.posted.frame) HEADER_LEN ≡ short → nat_lt (p.setup.mtu + ABOVE_MTU) (length (wire c)) ≡ long → goes_on p a_at q_at c ≡ (not down && (not short && (not long && (true && true))))
  goes_by down short long e f g = λ i. not (e i) && (low_of short f i && (high_of long g i && (self a_at i && self q_at i)))

  -- it goes on the queue of its flow, of the activation of its number, exactly where it is sent
  pub sent_goes : goes_on p a_at q_at c ≡ is_sent (verdict_on p c)
  sent_goes = goes_by _ _ _ refl refl refl ∙ step (is_down p c.number) (nat_lt (length c.posted.frame) HEADER_LEN) (nat_lt (p.setup.mtu + ABOVE_MTU) (length (wire c)))
    where
      step : (down short long : Bool) → (not down && (not short && (not long && (true && true)))) ≡ is_sent (by_tests down short long)
      step true short long = refl
      step false true long = refl
      step false false true = refl
      step false false false = refl

  pub goes_sent : goes_on p a_at q_at c ≡ true → verdict_on p c ≡ sending.Sent a_at q_at (place_of p a_at q_at c.number)
  goes_sent goes = step (is_down p c.number) (nat_lt (length c.posted.frame) HEADER_LEN) (nat_lt (p.setup.mtu + ABOVE_MTU) (length (wire c))) (sym (goes_by _ _ _ refl refl refl) ∙ goes)
    where
      step : (down short long : Bool) → (not down && (not short && (not long && (true && true)))) ≡ true → by_tests down short long ≡ sending.Sent a_at q_at (place_of p a_at q_at c.number)
      step true short long e = absurd (true≢false (sym e))
      step false true long e = absurd (true≢false (sym e))
      step false false true e = absurd (true≢false (sym e))
      step false false false e = refl

  fewer : (u v w z : Bool) → (u && (v && (w && (true && true)))) ≡ false → (u && (v && (w && z))) ≡ false
  fewer false v w z e = refl
  fewer true false w z e = refl
  fewer true true false z e = refl
  fewer true true true z e = absurd (true≢false e)

  own_tests : goes_on p a_at q_at c ≡ (not (is_down p c.number) && (nat_le HEADER_LEN (length c.posted.frame) && (nat_le (length (wire c)) (p.setup.mtu + ABOVE_MTU) && (true && true))))
  own_tests = λ i. not (is_down p c.number) && (nat_le HEADER_LEN (length c.posted.frame) && (nat_le (length (wire c)) (p.setup.mtu + ABOVE_MTU) && (self a_at i && self q_at i)))

  -- one that is not sent goes nowhere
  pub goes_nowhere : is_sent (verdict_on p c) ≡ false → (a q : ℕ) → goes_on p a q c ≡ false
  goes_nowhere none a q = fewer (not (is_down p c.number)) (nat_le HEADER_LEN (length c.posted.frame)) (nat_le (length (wire c)) (p.setup.mtu + ABOVE_MTU)) (nat_eq a_at a && nat_eq q_at q) (sym own_tests ∙ sent_goes ∙ none)

  activation_in : (u v w x y : Bool) → (u && (v && (w && (x && y)))) ≡ true → x ≡ true
  activation_in true true true true y e = refl
  activation_in true true true false y e = absurd (true≢false (sym e))
  activation_in true true false x y e = absurd (true≢false (sym e))
  activation_in true false w x y e = absurd (true≢false (sym e))
  activation_in false v w x y e = absurd (true≢false (sym e))

  -- the activation on whose queue it goes is that of its number
  pub goes_when : (a q : ℕ) → goes_on p a q c ≡ true → a_at ≡ a
  goes_when a q e = let h = activation_in (not (is_down p c.number)) (nat_le HEADER_LEN (length c.posted.frame)) (nat_le (length (wire c)) (p.setup.mtu + ABOVE_MTU)) (nat_eq a_at a) (nat_eq q_at q) e in grind (arith, nat_tests, h)

-- ------------------------------------------------------------ past the capture

take_past : {X : Type 0} (xs : List X) (i : ℕ) → length xs ≤ i → take (suc i) xs ≡ take i xs
take_past [] zero le = refl
take_past [] (suc i) le = refl
take_past (x ∷ xs) zero le = absurd (omega (arith, le))
take_past (x ∷ xs) (suc i) le = ap (λ (ys : List _). x ∷ ys) (take_past xs i (omega (arith, le)))

numbered_long : (p : GuestPlan) (j : ℕ) (rs : List Stamped) → length (numbered p j rs) ≡ length rs
numbered_long p j [] = refl
numbered_long p j (r ∷ rs) = ap suc (numbered_long p (j + 1) rs)

pub sent_past : (p : GuestPlan) (a q n : ℕ) → length p.capture.records ≤ n → sent_before p a q (n + 1) ≡ sent_before p a q n
sent_past p a q n le = let long = numbered_long p 0 p.capture.records in let one : n + 1 ≡ suc n = omega arith in
    ap (λ (k : ℕ). sent_before p a q k) one ∙ ap (filter (goes_on p a q)) (take_past (captured p) n (omega (arith, long, le)))
