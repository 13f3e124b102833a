-- All numbers of a run by the plan of `pair`, and its end.
use Rattle.std.proofs.Common.{◌≡◌, ℕ, zero, suc, ◌+◌, ◌-◌, ◌≤◌, Bool, true, false, List, [], ◌∷◌, ◌++◌, length, map, take, refl, sym, ap, subst, ◌∙◌, arith, nat_le, nat_lt, Option, Some, None, append-nil, add-one, if◌then◌else◌}
use Rattle.std.proofs.lemmas.List.Elements.{filter-append}
use Rattle.std.proofs.lemmas.Bool.Decides.{nat_tests}
use Rattle.std.specs.List.{filter, slice_get}
use Rattle.vmx_pcap.specs.declared.records.Capture.{Capture}
use Rattle.vmx_pcap.specs.declared.records.Stamped.{Stamped}
use Rattle.vmx_ends.specs.declared.frames.Delivery.{Delivery}
use Rattle.vmx_ends.specs.declared.frames.Sent.{Sent}
use Rattle.vmx_model.specs.declared.guest.GuestPlan.{GuestPlan}
use Rattle.vmx_model.specs.declared.plan.Plan.{Plan}
use Rattle.vmx_model.specs.declared.journal.Entry.TheVariants as entry
use Rattle.vmx_model.specs.declared.journal.Received.{Received}
use Rattle.vmx_model.specs.declared.sending.Sending.{Sending}
use Rattle.vmx_model.specs.declared.sending.Sending.TheVariants as sending
use Rattle.vmx_model.specs.Fates.{tag_at}
use Rattle.vmx_model.specs.Wire.{posted_form}
use Rattle.vmx_model.specs.Plan.{Captured, captured, quiesce_dev}
use Rattle.vmx_model.specs.PlanSteps.{captured_there}
use Rattle.vmx_model.specs.QueueSteps.{take_more}
use Rattle.vmx_model.specs.Serial.{Carried, Seat, World, closed, emptied, last_number, polls, rounds, sends, sent_by, serial_run, start, turn, turns}
use Rattle.vmx_model.proofs.Sends.{sends_none}
use Rattle.vmx_pair_plan.specs.Plan.{IsSender}
use Rattle.vmx_pair_plan.specs.Lengths.{is_sent, sending_of}
use Rattle.vmx_pair_plan.proofs.Verdicts.{same_wire, sender_plain, verdict_here}
use Rattle.vmx_pair_run.proofs.Stands.{opened, outs, ins, seat_a, seat_b, delivery}
use Rattle.vmx_pair_run.proofs.Runs.{IsPair, Stands, both_wires, goes_here, handed_of, stands_more, start_here, tags_below, tags_in, turn_a, turn_b}

-- the records that are sent
abbrev pub sent_in : List Stamped → List Stamped
sent_in rs = filter (is_sent 1500) rs

-- ------------------------------------------------------------ a frame, by its length

pub refused_short : (r : Stamped) → nat_lt (length r.frame) 14 ≡ true → is_sent 1500 r ≡ false
refused_short r e = let low : nat_le 14 (length r.frame) ≡ false = grind (arith, nat_tests) in rw low refl

pub refused_long : (r : Stamped) → nat_lt (length r.frame) 14 ≡ false → nat_lt 1518 (length r.frame) ≡ true → is_sent 1500 r ≡ false
refused_long r d e =
    let low : nat_le 14 (length r.frame) ≡ true = grind (arith, nat_tests) in
    let high : nat_le (length r.frame) 1518 ≡ false = grind (arith, nat_tests) in
    rw (low, high) refl

pub passed : (r : Stamped) → nat_lt (length r.frame) 14 ≡ false → nat_lt 1518 (length r.frame) ≡ false → is_sent 1500 r ≡ true
passed r d e =
    let low : nat_le 14 (length r.frame) ≡ true = grind (arith, nat_tests) in
    let high : nat_le (length r.frame) 1518 ≡ true = grind (arith, nat_tests) in
    rw (low, high) refl

-- by its verdict it moves or not
abbrev pub by_tests : Bool → Bool → ℕ → Sending
by_tests short long place = if short then sending.Short else if long then sending.TooLong else sending.Sent 0 0 place

frame_goes : (capture : Capture) (plan : Plan) (a b : GuestPlan) → IsPair plan a b → IsSender capture a → (rs : List Stamped) (i : ℕ) (r : Stamped) (w : World) → Stands a b rs w
    → Stands a b (rs ++ sent_in (r ∷ [])) (sent_by plan 0 (posted_form a r.frame) (sending_of 1500 (length rs) (length r.frame)) w)
frame_goes capture plan a b p s rs i r w h = step (nat_lt (length r.frame) 14) (nat_lt 1518 (length r.frame)) refl refl
  where
    none : is_sent 1500 r ≡ false → Stands a b (rs ++ sent_in (r ∷ [])) w
    none e = rw (e, append-nil rs) h

    step : (x y : Bool) → nat_lt (length r.frame) 14 ≡ x → nat_lt 1518 (length r.frame) ≡ y → Stands a b (rs ++ sent_in (r ∷ [])) (sent_by plan 0 (posted_form a r.frame) (by_tests x y (length rs)) w)
    step true y d e = none (refused_short r d)
    step false true d e = none (refused_long r d e)
    step false false d e =
        let short : length r.frame ≤ 1518 = grind (arith, nat_tests) in
        let goes = ap (sent_by plan 0 (posted_form a r.frame) (sending.Sent 0 0 (length rs))) h.is
        ∙ goes_here plan a b p (length rs) h.sent h.seen (handed_of rs) h.delivered h.packets r.frame (posted_form a r.frame) (length rs) (same_wire a (sender_plain capture a s) i r) refl h.all_delivered h.all_pushed short in
        rw (passed r d e)
        (stands_more a b rs r h.sent (h.seen + 1) h.delivered h.packets (posted_form a r.frame) (delivery b h.delivered r.frame) (record { tag = tag_at 0 0 0 (length rs); frame = r.frame }) _ h.all_sent h.all_delivered h.all_pushed h.tags refl goes)

-- ------------------------------------------------------------ a number

pub take_past : {X : Type 0} (xs : List X) (i : ℕ) → slice_get xs i ≡ None → take (suc i) xs ≡ take i xs
take_past [] zero h = refl
take_past [] (suc i) h = refl
take_past (x ∷ xs) zero h = absurd (cc h)
take_past (x ∷ xs) (suc i) h = ap (λ (ys : List _). x ∷ ys) (take_past xs i h)

none_long : {X : Type 0} (xs : List X) (i : ℕ) → slice_get xs i ≡ None → length xs ≤ i
none_long [] i h = omega arith
none_long (x ∷ xs) zero h = absurd (cc h)
none_long (x ∷ xs) (suc i) h = let ih = none_long xs i h in omega (arith, ih)

-- `a`'s turn
a_goes : (capture : Capture) (plan : Plan) (a b : GuestPlan) → IsPair plan a b → IsSender capture a → (i : ℕ) (w : World) → Stands a b (sent_in (take i capture.records)) w
    → Stands a b (sent_in (take (suc i) capture.records)) (turn plan i 0 w)
a_goes capture plan a b p s i w h =
    let rs : List Stamped = sent_in (take i capture.records) in
    let turned : turn plan i 0 w ≡ sends plan 0 a (slice_get (captured a) i) w = turn_a plan a b p i (length rs) h.sent (seat_b b (length rs) h.seen (handed_of rs) h.delivered) (both_wires h.packets) w h.is in
    subst (Stands a b (sent_in (take (suc i) capture.records))) (sym turned) (step (slice_get capture.records i) refl)
  where
    step : (o : Option Stamped) → slice_get capture.records i ≡ o → Stands a b (sent_in (take (suc i) capture.records)) (sends plan 0 a (slice_get (captured a) i) w)
    step None e =
        let long : length a.capture.records ≤ i = let l = none_long capture.records i e in let same = ap (λ (c : Capture). length c.records) s.capture in omega (arith, l, same) in
        rw (take_past capture.records i e) (subst (Stands a b (sent_in (take i capture.records))) (sends_none plan 0 a i w long) h)
    step (Some r) e =
        let there : slice_get a.capture.records i ≡ Some r = ap (λ (c : Capture). slice_get c.records i) s.capture ∙ e in
        let more : take (suc i) capture.records ≡ take i capture.records ++ r ∷ [] = let m = take_more capture.records i r e in rw add-one at m in
        let rs : List Stamped = sent_in (take i capture.records) in
        let sends_it : sent_by plan 0 (posted_form a r.frame) (sending_of 1500 (length rs) (length r.frame)) w ≡ sends plan 0 a (slice_get (captured a) i) w =
        ap (λ (v : Sending). sent_by plan 0 (posted_form a r.frame) v w) (sym (verdict_here capture a s i r)) ∙ sym (ap (λ (o : Option Captured). sends plan 0 a o w) (captured_there a i r there)) in
        let sent : sent_in (take (suc i) capture.records) ≡ rs ++ sent_in (r ∷ []) = ap sent_in more ∙ filter-append (is_sent 1500) (take i capture.records) (r ∷ []) in
        subst (Stands a b (sent_in (take (suc i) capture.records))) sends_it (subst (λ (xs : List Stamped). Stands a b xs (sent_by plan 0 (posted_form a r.frame) (sending_of 1500 (length rs) (length r.frame)) w)) (sym sent) (frame_goes capture plan a b p s rs i r w h))

-- both guests' turns
round_here : (capture : Capture) (plan : Plan) (a b : GuestPlan) → IsPair plan a b → IsSender capture a → (i : ℕ) (w : World) → Stands a b (sent_in (take i capture.records)) w
    → Stands a b (sent_in (take (suc i) capture.records)) (turns plan i (length plan.guests) w)
unfolding turns
round_here capture plan a b p s i w h =
    let rs : List Stamped = sent_in (take (suc i) capture.records) in
    let first = a_goes capture plan a b p s i w h in
    let second : turn plan i 1 (turn plan i 0 w) ≡ turn plan i 0 w =
    turn_b plan a b p i (seat_a a (length rs) first.sent) (seat_b b (length rs) first.seen (handed_of rs) first.delivered) (both_wires first.packets) (turn plan i 0 w) first.is in
    let both : turns plan i (length plan.guests) w ≡ turn plan i 0 w = ap (λ (gs : List GuestPlan). turns plan i (length gs) w) p.guests ∙ second in
    subst (Stands a b rs) (sym both) first

starts : (plan : Plan) (a b : GuestPlan) → IsPair plan a b → Stands a b [] (start plan)
starts plan a b p = record { sent = []; seen = 0; delivered = []; packets = []; all_sent = refl; all_delivered = refl; all_pushed = refl; tags = refl; is = start_here plan a b p }

-- all numbers below n
rounds_here : (capture : Capture) (plan : Plan) (a b : GuestPlan) → IsPair plan a b → IsSender capture a → (n : ℕ) → Stands a b (sent_in (take n capture.records)) (rounds plan n (start plan))
unfolding rounds
rounds_here capture plan a b p s zero = starts plan a b p
rounds_here capture plan a b p s (suc n) = round_here capture plan a b p s n (rounds plan n (start plan)) (rounds_here capture plan a b p s n)

-- ------------------------------------------------------------ the end

-- the guests of a finished run
abbrev pub ended_a : GuestPlan → ℕ → List Sent → Seat
ended_a a n sent = record (seat_a a n sent) { active = false; entries = (opened ∷ outs n) ++ entry.Setting quiesce_dev 0 None ∷ [] }

abbrev pub ended_b : GuestPlan → ℕ → ℕ → List Received → List Delivery → Seat
ended_b b n seen received ds = record (seat_b b n seen received ds) { active = false; entries = (opened ∷ ins n) ++ entry.Setting quiesce_dev 0 None ∷ [] }

closes_a : (a : GuestPlan) (n : ℕ) (sent : List Sent) → closed (seat_a a n sent) ≡ ended_a a n sent
unfolding emptied
closes_a a n sent = refl

closes_b : (b : GuestPlan) (n seen : ℕ) (received : List Received) (ds : List Delivery) → length ds ≡ n → closed (seat_b b n seen received ds) ≡ ended_b b n seen received ds
unfolding emptied
closes_b b n seen received ds e =
    let none : (length ds - n) + 0 ≡ 0 = omega (arith, e) in
    ap (λ (k : ℕ). polls 0 k (ended_b b n seen received ds)) none

-- a whole run: these records were sent, and all their frames handed up
pub record Ends (a b : GuestPlan) (rs : List Stamped) (w : World) : Type 0 where
  pub sent : List Sent
  pub seen : ℕ
  pub delivered : List Delivery
  pub packets : List Carried
  pub all_sent : length sent ≡ length rs
  pub tags : tags_in packets ≡ tags_below (length rs)
  pub is : w ≡ record { seats = ended_a a (length rs) sent ∷ ended_b b (length rs) seen (handed_of rs) delivered ∷ []; wires = both_wires packets }

take_all : {X : Type 0} (xs : List X) (n : ℕ) → length xs ≤ n → take n xs ≡ xs
take_all [] zero le = refl
take_all [] (suc n) le = refl
take_all (x ∷ xs) zero le = absurd (omega (arith, le))
take_all (x ∷ xs) (suc n) le = ap (λ (ys : List _). x ∷ ys) (take_all xs n (omega (arith, le)))

below_last : (capture : Capture) (plan : Plan) (a b : GuestPlan) → IsPair plan a b → IsSender capture a → length capture.records ≤ last_number plan.guests
below_last capture plan a b p s =
    let last = ap last_number p.guests in
    let same = ap (λ (c : Capture). length c.records) s.capture in
    omega (arith, last, same)

pub run_ends : (capture : Capture) (plan : Plan) (a b : GuestPlan) → IsPair plan a b → IsSender capture a → Ends a b (sent_in capture.records) (serial_run plan)
unfolding serial_run
run_ends capture plan a b p s =
    let rs : List Stamped = sent_in capture.records in
    let n : ℕ = last_number plan.guests in
    let h : Stands a b rs (rounds plan n (start plan)) = subst (λ (xs : List Stamped). Stands a b (sent_in xs) (rounds plan n (start plan))) (take_all capture.records n (below_last capture plan a b p s)) (rounds_here capture plan a b p s n) in
    record {
      sent = h.sent;
      seen = h.seen;
      delivered = h.delivered;
      packets = h.packets;
      all_sent = h.all_sent;
      tags = h.tags;
      is = ap (λ (w : World). record { seats = map closed w.seats; wires = w.wires }) h.is
          ∙ (λ i. record { seats = closes_a a (length rs) h.sent i ∷ closes_b b (length rs) h.seen (handed_of rs) h.delivered h.all_delivered i ∷ []; wires = both_wires h.packets });
    }
