-- A guest's frame of a number: what the serial run does with it, by its verdict.
use Rattle.std.proofs.Common.{◌≡◌, ℕ, zero, suc, ◌+◌, ◌<◌, ◌≤◌, Bool, true, false, cond, nat_lt, List, [], ◌∷◌, length, refl, sym, ap, ◌∙◌, arith, Option, Some, None}
use Rattle.std.specs.List.{slice_get}
use Rattle.std.proofs.lemmas.Bool.{ltb-false}
use Rattle.vmx_ends.specs.declared.frames.Sent.{Sent}
use Rattle.vmx_model.specs.declared.sending.Sending.TheVariants as sending
use Rattle.vmx_model.specs.Types.{Plan, GuestPlan, Stamped, Sending}
use Rattle.vmx_model.specs.Wire.{posted_form, wire_form, tx_queue}
use Rattle.vmx_model.specs.Plan.{Captured, captured, captured_as, numbered, wire, verdict_on, is_down, activation_at, sent_at}
use Rattle.vmx_model.specs.PlanSteps.{captured_there}
use Rattle.vmx_model.specs.Serial.{World, at_number, sends, sent_by, acted, turn, turn_of}
use Rattle.vmx_model.specs.Turns.{send_from, IsVerdict}

-- ------------------------------------------------------------ items by their numbers

pub some_there : {X : Type 0} (xs : List X) (i : ℕ) → i < length xs → (x : X) × (slice_get xs i ≡ Some x)
some_there [] i lt = absurd (omega arith)
some_there (y ∷ ys) zero lt = (y, refl)
some_there (y ∷ ys) (suc i) lt = some_there ys i (omega arith)

pub past : {X : Type 0} (xs : List X) (i : ℕ) → length xs ≤ i → slice_get xs i ≡ None
past [] i le = refl
past (y ∷ ys) zero le = absurd (omega arith)
past (y ∷ ys) (suc i) le = past ys i (omega arith)

long : (p : GuestPlan) (j : ℕ) (rs : List Stamped) → length (numbered p j rs) ≡ length rs
long p j [] = refl
long p j (r ∷ rs) = ap suc (long p (j + 1) rs)

-- a guest has as many captured frames as its capture has records
pub captured_long : (p : GuestPlan) → length (captured p) ≡ length p.capture.records
captured_long p = long p 0 p.capture.records

-- ------------------------------------------------------------ a captured frame

-- behind the capture nothing is sent
pub sends_none : (plan : Plan) (g : ℕ) (p : GuestPlan) (n : ℕ) (w : World) → length p.capture.records ≤ n → w ≡ sends plan g p (slice_get (captured p) n) w
sends_none plan g p n w le = let l = captured_long p in let none : slice_get (captured p) n ≡ None = past (captured p) n (omega arith) in sym (ap (λ (o : Option Captured). sends plan g p o w) none)

sends_by : (plan : Plan) (g : ℕ) (p : GuestPlan) (n : ℕ) (w : World) (s : Sending) (r : Stamped) → slice_get p.capture.records n ≡ Some r → s ≡ verdict_on p (captured_as p n r) → sent_by plan g (posted_form p r.frame) s w ≡ sends plan g p (slice_get (captured p) n) w
sends_by plan g p n w s r at e = ap (λ (x : Sending). sent_by plan g (posted_form p r.frame) x w) e ∙ sym (ap (λ (o : Option Captured). sends plan g p o w) (captured_there p n r at))

-- one that is not sent moves nothing
pub sends_idle : (plan : Plan) (g : ℕ) (p : GuestPlan) (n : ℕ) (w : World) (s : Sending) → n < length p.capture.records → IsVerdict p n s → ((posted : Sent) → sent_by plan g posted s w ≡ w) → w ≡ sends plan g p (slice_get (captured p) n) w
sends_idle plan g p n w s lt is idle = let found = some_there p.capture.records n lt in sym (idle (posted_form p found.0.frame)) ∙ sends_by plan g p n w s found.0 found.1 (is found.0 found.1)

-- one that is sent goes through its queue and to its targets
pub sends_sent : (plan : Plan) (g : ℕ) (p : GuestPlan) (n : ℕ) (w : World) (a q k : ℕ) (r : Stamped) → slice_get p.capture.records n ≡ Some r → IsVerdict p n (sending.Sent a q k)
    → send_from plan (record { guest = g; activation = a; queue = q; place = k }) (posted_form p r.frame) w ≡ sends plan g p (slice_get (captured p) n) w
sends_sent plan g p n w a q k r at is = sends_by plan g p n w (sending.Sent a q k) r at (is r at)

-- a frame that is sent has its header, and with its tag at most the MTU, a header and a tag
pub sent_long : (p : GuestPlan) (c : Captured) (a q k : ℕ) → sending.Sent a q k ≡ verdict_on p c → (14 ≤ length c.posted.frame) × (length (wire c) ≤ p.setup.mtu + 18)
sent_long p c a q k e = by_down (is_down p c.number) e
  where
    last : Sending
    last = sent_at p (activation_at p c.number) (tx_queue c.posted.frame p.setup.tx_queues) c.number

    by_long : (b : Bool) → nat_lt (p.setup.mtu + 18) (length (wire c)) ≡ b → 14 ≤ length c.posted.frame → sending.Sent a q k ≡ cond b sending.TooLong last → (14 ≤ length c.posted.frame) × (length (wire c) ≤ p.setup.mtu + 18)
    by_long true t low e = absurd (cc e)
    by_long false t low e = (low, ltb-false _ _ t)

    by_short : (b : Bool) → nat_lt (length c.posted.frame) 14 ≡ b → sending.Sent a q k ≡ cond b sending.Short (cond (nat_lt (p.setup.mtu + 18) (length (wire c))) sending.TooLong last) → (14 ≤ length c.posted.frame) × (length (wire c) ≤ p.setup.mtu + 18)
    by_short true t e = absurd (cc e)
    by_short false t e = by_long (nat_lt (p.setup.mtu + 18) (length (wire c))) refl (ltb-false _ _ t) e

    by_down : (b : Bool) → sending.Sent a q k ≡ cond b sending.Down (cond (nat_lt (length c.posted.frame) 14) sending.Short (cond (nat_lt (p.setup.mtu + 18) (length (wire c))) sending.TooLong last)) → (14 ≤ length c.posted.frame) × (length (wire c) ≤ p.setup.mtu + 18)
    by_down true e = absurd (cc e)
    by_down false e = by_short (nat_lt (length c.posted.frame) 14) refl e

-- so it has 14 bytes or more, and its wire form 9,018 or fewer
pub sent_frame : (p : GuestPlan) (n : ℕ) (a q k : ℕ) (r : Stamped) → slice_get p.capture.records n ≡ Some r → IsVerdict p n (sending.Sent a q k) → (14 ≤ length r.frame) × (length (wire_form (posted_form p r.frame)) ≤ 9018)
sent_frame p n a q k r at is = let l = sent_long p (captured_as p n r) a q k (is r at) in let low = l.0 in let high = l.1 in let most = p.setup.mtu_high in (omega arith, omega arith)

-- a captured frame is the record of its number
pub captured_is : (p : GuestPlan) (n : ℕ) (c : Captured) (r : Stamped) → slice_get (captured p) n ≡ Some c → slice_get p.capture.records n ≡ Some r → c ≡ captured_as p n r
captured_is p n c r at there_ = let e = captured_there p n r there_ in cc

-- its verdict
pub verdict_at : (p : GuestPlan) (n : ℕ) (c : Captured) (s : Sending) → n < length p.capture.records → IsVerdict p n s → slice_get (captured p) n ≡ Some c → s ≡ verdict_on p c
verdict_at p n c s lt is at = let found = some_there p.capture.records n lt in is found.0 found.1 ∙ ap (verdict_on p) (sym (captured_is p n c found.0 at found.1))

-- ------------------------------------------------------------ a turn

-- behind the last guest a turn moves nothing
pub turn_none : (plan : Plan) (n g : ℕ) (w : World) → length plan.guests ≤ g → w ≡ turn plan n g w
turn_none plan n g w le = sym (ap (λ (o : Option GuestPlan). turn_of plan n g o w) (past plan.guests g le))

-- a guest's actions of a number, then its frame, are its turn
pub turn_there : (plan : Plan) (n g : ℕ) (p : GuestPlan) (w : World) → slice_get plan.guests g ≡ Some p → sends plan g p (slice_get (captured p) n) (record w { seats = at_number g (acted g p n) w.seats }) ≡ turn plan n g w
turn_there plan n g p w is = sym (ap (λ (o : Option GuestPlan). turn_of plan n g o w) is)
