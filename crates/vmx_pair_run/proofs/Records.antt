-- A record with the lists of a run by the plan of `pair`.
use Rattle.std.proofs.Common.{◌≡◌, ℕ, zero, suc, ◌+◌, ◌<◌, Bool, true, false, List, [], ◌∷◌, ◌++◌, length, map, take, refl, sym, ap, ◌∙◌, arith, nat_lt, Option, Some, append-nil, if◌then◌else◌}
use Rattle.std.proofs.lemmas.List.{length-map, length-take-le}
use Rattle.std.specs.List.{find, flat_map, slice_get}
use Rattle.vmx_pcap.specs.declared.records.Capture.{Capture}
use Rattle.vmx_pcap.specs.declared.records.Stamped.{Stamped}
use Rattle.vmx_ends.specs.Frames.{sent_of}
use Rattle.vmx_ends.specs.Transmit.{TxView}
use Rattle.vmx_ends.specs.declared.frames.Sent.{Sent}
use Rattle.vmx_model.specs.declared.guest.GuestPlan.{GuestPlan}
use Rattle.vmx_model.specs.declared.plan.Plan.{Plan}
use Rattle.vmx_model.specs.declared.journal.Entry.{Entry}
use Rattle.vmx_model.specs.declared.journal.Fate.{Fate}
use Rattle.vmx_model.specs.declared.sending.Sending.{Sending}
use Rattle.vmx_model.specs.declared.sending.Sending.TheVariants as sending
use Rattle.vmx_model.specs.Fates.{all_fates, copy_fates, entries_at, entries_or_none, fates_from, fates_of, guest_fates, sent_fates, tag_at, taken_at, taken_of, tx_named, tx_or_none, verdict_fates}
use Rattle.vmx_model.specs.Lists.{count}
use Rattle.vmx_model.specs.Plan.{captured_as, frames_of, numbered, verdict_on, wire}
use Rattle.vmx_model.specs.Record.{HasLists, TxLists, lists_of_tx, lists_of_tx_core}
use Rattle.vmx_model.specs.Serial.{Seat, World, serial_run}
use Rattle.vmx_model.specs.Totals.{wiring}
use Rattle.vmx_model.specs.Views.{GuestView, RecordView}
use Rattle.vmx_model.specs.Wire.{targets}
use Rattle.vmx_pair_plan.specs.Plan.{IsPairPlan}
use Rattle.vmx_pair_plan.specs.Fates.{fate_by, fates_due, handed_up}
use Rattle.vmx_pair_plan.specs.Lengths.{is_sent, sending_of}
use Rattle.vmx_pair_plan.proofs.Verdicts.{verdict_here}
use Rattle.vmx_pair_run.proofs.Stands.{sent_core}
use Rattle.vmx_pair_run.proofs.Runs.{targets_here}
use Rattle.vmx_pair_run.proofs.Ends.{Ends, passed, sent_in}
use Rattle.vmx_pair_run.proofs.Plans.{is_pair, pair_ends, received_here}
use Rattle.vmx_pair_run.proofs.Fates.{copy_here, journal_a, journal_b}

-- ------------------------------------------------------------ the two guests of the record

-- two guests, with n frames sent and handed up
pub record HasBoth (r : RecordView) (n : ℕ) : Type 0 where
  pub sends : entries_at r 0 ≡ journal_a n
  pub takes : entries_at r 1 ≡ journal_b n
  pub taken : taken_at r 0 0 0 ≡ n

pub first_of_two : {X Y : Type 0} (f : X → Y) (xs : List X) (y z : Y) → map f xs ≡ y ∷ z ∷ [] → (v : X) × (slice_get xs 0 ≡ Some v) × (f v ≡ y)
first_of_two f [] y z e = absurd (cc e)
first_of_two f (x ∷ xs) y z e = (x, refl, cc e)

pub second_of_two : {X Y : Type 0} (f : X → Y) (xs : List X) (y z : Y) → map f xs ≡ y ∷ z ∷ [] → (v : X) × (slice_get xs 1 ≡ Some v) × (f v ≡ z)
second_of_two f [] y z e = absurd (cc e)
second_of_two f (x ∷ []) y z e = absurd (cc e)
second_of_two f (x ∷ w ∷ xs) y z e = (w, refl, cc e)

-- the one queue of `a` has n taken frames
queue_taken : (a : GuestPlan) (n : ℕ) (sent : List Sent) (fs : List TxView) → length sent ≡ n → map lists_of_tx fs ≡ lists_of_tx_core (sent_core a n sent) ∷ [] → taken_of (find (tx_named 0 0) fs) ≡ n
queue_taken a n sent [] long e = absurd (cc e)
queue_taken a n sent (f ∷ fs) long e =
    let same : lists_of_tx f ≡ lists_of_tx_core (sent_core a n sent) = cc e in
    let activation : f.made.name.activation ≡ 0 = ap (λ (l : TxLists). l.made.name.activation) same in
    let queue : f.made.name.queue ≡ 0 = ap (λ (l : TxLists). l.made.name.queue) same in
    let taken : sent_of f.taken ≡ take n sent = ap (λ (l : TxLists). l.taken) same in
    let long_as = length-map f.taken (λ t. t.sent) in
    let whole = length-take-le n sent (omega (arith, long)) in
    let count : length f.taken ≡ n = omega (arith, ap length taken, long_as, whole) in
    rw (activation, queue) count

pub has_both : (a b : GuestPlan) (rs : List Stamped) (w : World) (r : RecordView) → Ends a b rs w → HasLists r w → HasBoth r (length rs)
has_both a b rs w r ends lists =
    let n : ℕ = length rs in
    let entries : map (λ (v : GuestView). v.entries) r.guests ≡ journal_a n ∷ journal_b n ∷ [] = lists.entries ∙ ap (λ (w : World). map (λ (s : Seat). s.entries) w.seats) ends.is in
    let a_there = first_of_two (λ (v : GuestView). v.entries) r.guests (journal_a n) (journal_b n) entries in
    let b_there = second_of_two (λ (v : GuestView). v.entries) r.guests (journal_a n) (journal_b n) entries in
    let tx = lists.tx ∙ ap (λ (w : World). map (λ (s : Seat). map lists_of_tx_core s.tx) w.seats) ends.is in
    let q_there = first_of_two (λ (v : GuestView). map lists_of_tx v.tx) r.guests (lists_of_tx_core (sent_core a n ends.sent) ∷ []) _ tx in
    record {
      sends = ap entries_or_none a_there.1 ∙ a_there.2;
      takes = ap entries_or_none b_there.1 ∙ b_there.2;
      taken = ap (λ (o : Option GuestView). taken_of (find (tx_named 0 0) (tx_or_none o))) q_there.1 ∙ queue_taken a n ends.sent q_there.0.tx ends.all_sent q_there.2;
    }

-- ------------------------------------------------------------ one fate a frame

-- a verdict of a frame behind which others may come
abbrev IsBefore : ℕ → Sending → Type 0
IsBefore n s = (a q k : ℕ) → s ≡ sending.Sent a q k → (a ≡ 0) × (q ≡ 0) × (k < n)

one_fate : (plan : Plan) (r : RecordView) (n : ℕ) (frame : List ℕ) (s : Sending) → targets (wiring plan.guests) 0 frame ≡ 1 ∷ [] → HasBoth r n → IsBefore n s → verdict_fates plan r 0 frame s ≡ (fate_by s ∷ []) ∷ []
one_fate plan r n frame sending.Down tos h before = refl
one_fate plan r n frame sending.Short tos h before = refl
one_fate plan r n frame sending.TooLong tos h before = refl
one_fate plan r n frame (sending.Sent a q k) tos h before =
    let at = before a q k refl in
    let here : sending.Sent a q k ≡ sending.Sent 0 0 k = λ i. sending.Sent (at.0 i) (at.1 i) k in
    ap (verdict_fates plan r 0 frame) here
    ∙ ap (sent_fates r (tag_at 0 0 0 k)) tos
    ∙ ap (λ (m : ℕ). copy_fates m (entries_at r 0) (entries_at r 1) (tag_at 0 0 0 k) 1 ∷ []) h.taken
    ∙ ap (λ (es : List Entry). copy_fates n es (entries_at r 1) (tag_at 0 0 0 k) 1 ∷ []) h.sends
    ∙ ap (λ (es : List Entry). copy_fates n (journal_a n) es (tag_at 0 0 0 k) 1 ∷ []) h.takes
    ∙ ap (λ (fs : List Fate). fs ∷ []) (copy_here k n at.2)
    ∙ ap (λ (s : Sending). (fate_by s ∷ []) ∷ []) (sym here)

-- a sent record stands behind fewer than all sent ones
fewer : (rs : List Stamped) (i : ℕ) (r : Stamped) → slice_get rs i ≡ Some r → is_sent 1500 r ≡ true → count (is_sent 1500) (take i rs) < length (sent_in rs)
fewer [] i r there sent = absurd (cc there)
fewer (x ∷ rs) zero r there sent = let same : x ≡ r = cc there in rw (same, sent) (omega arith)
fewer (x ∷ rs) (suc i) r there sent = step (is_sent 1500 x) refl (fewer rs i r there sent)
  where
    step : (b : Bool) → is_sent 1500 x ≡ b → count (is_sent 1500) (take i rs) < length (sent_in rs) → count (is_sent 1500) (take (suc i) (x ∷ rs)) < length (sent_in (x ∷ rs))
    step true e ih = rw e (omega (arith, ih))
    step false e ih = rw e ih

before_here : (rs : List Stamped) (i : ℕ) (r : Stamped) → slice_get rs i ≡ Some r → IsBefore (length (sent_in rs)) (sending_of 1500 (count (is_sent 1500) (take i rs)) (length r.frame))
before_here rs i r there = step (nat_lt (length r.frame) 14) (nat_lt 1518 (length r.frame)) refl refl
  where
    place : ℕ
    place = count (is_sent 1500) (take i rs)

    step : (x y : Bool) → nat_lt (length r.frame) 14 ≡ x → nat_lt 1518 (length r.frame) ≡ y → IsBefore (length (sent_in rs)) (if x then sending.Short else if y then sending.TooLong else sending.Sent 0 0 place)
    step true y d e = λ a q k h. absurd (cc h)
    step false true d e = λ a q k h. absurd (cc h)
    step false false d e = λ a q k h.
        let lt = fewer rs i r there (passed r d e) in
        let first : 0 ≡ a = cc h in
        let second : 0 ≡ q = cc h in
        let third : place ≡ k = cc h in
        (sym first, sym second, omega (arith, lt, third))

-- each captured frame of `a` has one copy, and that one the fate by its verdict
frame_fate : (capture : Capture) (plan : Plan) (p : IsPairPlan capture plan) (r : RecordView) → HasBoth r (length (sent_in capture.records)) → (i : ℕ) (x : Stamped) → slice_get capture.records i ≡ Some x
    → fates_of plan r 0 p.a (captured_as p.a i x) ≡ (fate_by (verdict_on p.a (captured_as p.a i x)) ∷ []) ∷ []
frame_fate capture plan p r h i x there =
    let v = verdict_here capture p.a p.sender i x in
    ap (verdict_fates plan r 0 (wire (captured_as p.a i x))) v
    ∙ one_fate plan r (length (sent_in capture.records)) (wire (captured_as p.a i x)) _ (targets_here plan p.a p.b (is_pair capture plan p) (wire (captured_as p.a i x))) h (before_here capture.records i x there)
    ∙ ap (λ (s : Sending). (fate_by s ∷ []) ∷ []) (sym v)

-- one fate alone
abbrev pub alone : Fate → List Fate
alone f = f ∷ []

frames_fates : (capture : Capture) (plan : Plan) (p : IsPairPlan capture plan) (r : RecordView) → HasBoth r (length (sent_in capture.records)) → (i : ℕ) (xs : List Stamped) → ((j : ℕ) (x : Stamped) → slice_get xs j ≡ Some x → slice_get capture.records (i + j) ≡ Some x)
    → flat_map (fates_of plan r 0 p.a) (numbered p.a i xs) ≡ map alone (map (λ c. fate_by (verdict_on p.a c)) (numbered p.a i xs))
frames_fates capture plan p r h i [] are = refl
frames_fates capture plan p r h i (x ∷ xs) are =
    let start : i + 0 ≡ i = omega arith in
    let here : slice_get capture.records i ≡ Some x = rw start at (are 0 x refl) in
    let rest = frames_fates capture plan p r h (i + 1) xs (λ j y is. let e : i + 1 + j ≡ i + suc j = omega arith in rw e (are (suc j) y is)) in
    ap (λ (fs : List (List Fate)). fs ++ flat_map (fates_of plan r 0 p.a) (numbered p.a (i + 1) xs)) (frame_fate capture plan p r h i x here) ∙ ap (λ (fs : List (List Fate)). alone (fate_by (verdict_on p.a (captured_as p.a i x))) ∷ fs) rest

-- the fates of all copies
pub fates_here : (capture : Capture) (plan : Plan) (p : IsPairPlan capture plan) (r : RecordView) → HasLists r (serial_run plan) → all_fates plan r ≡ map alone (fates_due p.a)
fates_here capture plan p r lists =
    let h = has_both p.a p.b (sent_in capture.records) (serial_run plan) r (pair_ends capture plan p) lists in
    let silent : guest_fates plan r 1 p.b ≡ [] = ap (λ (c : Capture). flat_map (fates_of plan r 1 p.b) (numbered p.b 0 c.records)) p.sniffer.capture in
    let same : (j : ℕ) (x : Stamped) → slice_get p.a.capture.records j ≡ Some x → slice_get capture.records (0 + j) ≡ Some x = λ j x is. let e : 0 + j ≡ j = omega arith in rw e (sym (ap (λ (c : Capture). slice_get c.records j) p.sender.capture) ∙ is) in
    ap (fates_from plan r 0) p.guests
    ∙ ap (λ (fs : List (List Fate)). guest_fates plan r 0 p.a ++ (fs ++ [])) silent
    ∙ append-nil (guest_fates plan r 0 p.a)
    ∙ frames_fates capture plan p r h 0 p.a.capture.records same

-- what the two drivers handed up
pub handed_here : (capture : Capture) (plan : Plan) (p : IsPairPlan capture plan) (r : RecordView) → HasLists r (serial_run plan) → map (λ (v : GuestView). v.received) r.guests ≡ [] ∷ handed_up 0 (frames_of p.a 0 0) ∷ []
handed_here capture plan p r lists = lists.received ∙ received_here capture plan p
