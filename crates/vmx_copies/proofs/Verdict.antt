-- What a verdict says of the queue, and of the places of all queues one frame on.
use Rattle.std.proofs.Common.{◌≡◌, ℕ, ◌+◌, ◌<◌, ◌≤◌, Bool, true, false, nat_eq, nat_le, not, ◌&&◌, cond, if◌then◌else◌, List, length, refl, ap, sym, ◌∙◌, arith, Some}
use Rattle.std.specs.Prelude.{nat_lt}
use Rattle.std.specs.List.{slice_get}
use Rattle.std.proofs.lemmas.Bool.Decides.{nat_tests}
use Rattle.vmx_model.specs.declared.guest.GuestPlan.{GuestPlan}
use Rattle.vmx_pcap.specs.declared.records.Stamped.{Stamped}
use Rattle.vmx_model.specs.declared.sending.Sending.{Sending}
use Rattle.vmx_model.specs.declared.sending.Sending.TheVariants as sending
use Rattle.vmx_model.specs.Wire.{tx_queue}
use Rattle.vmx_model.specs.Plan.{Captured, captured_as, wire, verdict_on, is_down, activation_at, goes_on, place_of, sent_at}
use Rattle.vmx_model.specs.PlanSteps.{place_next}

-- whether a verdict sends on this queue
abbrev pub sends_on : ℕ → ℕ → Sending → Bool
sends_on a q (sending.Sent activation queue place) = nat_eq activation a && nat_eq queue q
sends_on a q sending.Down = false
sends_on a q sending.Short = false
sends_on a q sending.TooLong = false

module _ (p : GuestPlan) (c : Captured) where
  abbrev short : Bool
  short = nat_lt (length c.posted.frame) 14

  abbrev long : Bool
  long = nat_lt (p.setup.mtu + 18) (length (wire c))

  abbrev last : Sending
  last = sent_at p (activation_at p c.number) (tx_queue c.posted.frame p.setup.tx_queues) c.number

  -- a frame goes on the queue that its verdict names
  pub goes_by : (a q : ℕ) (s : Sending) → s ≡ verdict_on p c → goes_on p a q c ≡ sends_on a q s
  goes_by a q s e = by_down (is_down p c.number) refl e
    where
      by_long : (b : Bool) → long ≡ b → is_down p c.number ≡ false → short ≡ false → s ≡ cond b sending.TooLong last → goes_on p a q c ≡ sends_on a q s
      by_long true l d t e =
          let h : nat_le 14 (length c.posted.frame) ≡ true = grind (arith, nat_tests, t) in
          let k : nat_le (length (wire c)) (p.setup.mtu + 18) ≡ false = grind (arith, nat_tests, l) in rw (d, h, k, e) refl
      by_long false l d t e =
          let h : nat_le 14 (length c.posted.frame) ≡ true = grind (arith, nat_tests, t) in
          let k : nat_le (length (wire c)) (p.setup.mtu + 18) ≡ true = grind (arith, nat_tests, l) in rw (d, h, k, e) refl

      by_short : (b : Bool) → short ≡ b → is_down p c.number ≡ false → s ≡ cond b sending.Short (cond long sending.TooLong last) → goes_on p a q c ≡ sends_on a q s
      by_short true t d e = let h : nat_le 14 (length c.posted.frame) ≡ false = grind (arith, nat_tests, t) in rw (d, h, e) refl
      by_short false t d e = by_long long refl d t e

      by_down : (b : Bool) → is_down p c.number ≡ b → s ≡ cond b sending.Down (cond short sending.Short (cond long sending.TooLong last)) → goes_on p a q c ≡ sends_on a q s
      by_down true d e = rw (d, e) refl
      by_down false d e = by_short short refl d e

  -- and has its place there
  pub sent_parts : (a q k : ℕ) → sending.Sent a q k ≡ verdict_on p c → (a ≡ activation_at p c.number) × (q ≡ tx_queue c.posted.frame p.setup.tx_queues) × (k ≡ place_of p a q c.number) × (14 ≤ length c.posted.frame)
  sent_parts a q k e = by_down (is_down p c.number) e
    where
      by_long : (b : Bool) → short ≡ false → sending.Sent a q k ≡ cond b sending.TooLong last → (a ≡ activation_at p c.number) × (q ≡ tx_queue c.posted.frame p.setup.tx_queues) × (k ≡ place_of p a q c.number) × (14 ≤ length c.posted.frame)
      by_long true t e = absurd (cc e)
      by_long false t e =
          let ea : a ≡ activation_at p c.number = cc e in
          let qe : q ≡ tx_queue c.posted.frame p.setup.tx_queues = cc e in
          let ek : k ≡ place_of p (activation_at p c.number) (tx_queue c.posted.frame p.setup.tx_queues) c.number = cc e in
          (ea, qe, ek ∙ (λ i. place_of p (sym ea i) (sym qe i) c.number), grind (arith, nat_tests, t))

      by_short : (b : Bool) → short ≡ b → sending.Sent a q k ≡ cond b sending.Short (cond long sending.TooLong last) → (a ≡ activation_at p c.number) × (q ≡ tx_queue c.posted.frame p.setup.tx_queues) × (k ≡ place_of p a q c.number) × (14 ≤ length c.posted.frame)
      by_short true t e = absurd (cc e)
      by_short false t e = by_long long t e

      by_down : (b : Bool) → sending.Sent a q k ≡ cond b sending.Down (cond short sending.Short (cond long sending.TooLong last)) → (a ≡ activation_at p c.number) × (q ≡ tx_queue c.posted.frame p.setup.tx_queues) × (k ≡ place_of p a q c.number) × (14 ≤ length c.posted.frame)
      by_down true e = absurd (cc e)
      by_down false e = by_short short refl e

  -- it goes on its own queue
  pub goes_there : (a q k : ℕ) → sending.Sent a q k ≡ verdict_on p c → goes_on p a q c ≡ true
  goes_there a q k e = let x : nat_eq a a ≡ true = grind (arith, nat_tests) in let y : nat_eq q q ≡ true = grind (arith, nat_tests) in goes_by a q (sending.Sent a q k) e ∙ rw (x, y) refl

-- one frame on, the places of all queues
pub places_next : (p : GuestPlan) (i : ℕ) (r : Stamped) (s : Sending) → slice_get p.capture.records i ≡ Some r → s ≡ verdict_on p (captured_as p i r) → (a q : ℕ) → place_of p a q (i + 1) ≡ place_of p a q i + (if sends_on a q s then 1 else 0)
places_next p i r s there is a q = place_next p a q i r there ∙ ap (λ (b : Bool). place_of p a q i + (if b then 1 else 0)) (goes_by p (captured_as p i r) a q s is)
