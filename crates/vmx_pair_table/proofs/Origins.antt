-- The records of the frames that came up at guest `b`, out of the table.
use Rattle.std.proofs.Common.{◌≡◌, ℕ, zero, suc, ◌+◌, Bool, true, false, cond, List, [], ◌∷◌, length, map, take, refl, sym, ap, ◌∙◌, arith, nat_lt, Some}
use Rattle.std.specs.List.{cons_option, filter_map, slice_get}
use Rattle.std.proofs.lemmas.Option.{slice_get_within}
use Rattle.vmx_pcap.specs.declared.records.Capture.{Capture}
use Rattle.vmx_pcap.specs.declared.records.Stamped.{Stamped}
use Rattle.vmx_model.specs.declared.guest.GuestPlan.{GuestPlan}
use Rattle.vmx_model.specs.declared.plan.Plan.{Plan}
use Rattle.vmx_model.specs.declared.journal.Fate.TheVariants as fate
use Rattle.vmx_model.specs.Lists.{count}
use Rattle.vmx_model.specs.Plan.{Captured, captured, captured_as, goes_on, numbered, verdict_on}
use Rattle.vmx_model.proofs.Sends.{captured_is, captured_long, some_there}
use Rattle.vmx_copies.specs.declared.copy.FrameCopy.{FrameCopy}
use Rattle.vmx_pair_plan.specs.Plan.{IsPairPlan, IsSender}
use Rattle.vmx_pair_plan.specs.Fates.{fate_by, sent_from, sent_records}
use Rattle.vmx_pair_plan.specs.Lengths.{is_sent, sending_of}
use Rattle.vmx_pair_plan.proofs.Verdicts.{goes_by_length, sender_plain, sent_here, verdict_here}
use Rattle.vmx_pair_run.proofs.Ends.{by_tests, passed, refused_long, refused_short, sent_in}
use Rattle.vmx_pair_run.proofs.Stamps.{mapped_there}
use Rattle.vmx_pair_table.specs.Rows.{record_up, row_by, rows_due}

-- ------------------------------------------------------------ all of them

one_up : (records : List Stamped) (i place : ℕ) (r : Stamped) (rest : List Stamped) → slice_get records i ≡ Some r → cons_option (record_up records (row_by i (sending_of 1500 place (length r.frame)))) rest ≡ cond (is_sent 1500 r) (r ∷ rest) rest
one_up records i place r rest here = step (nat_lt (length r.frame) 14) (nat_lt 1518 (length r.frame)) refl refl
  where
    step : (x y : Bool) → nat_lt (length r.frame) 14 ≡ x → nat_lt 1518 (length r.frame) ≡ y → cons_option (record_up records (row_by i (by_tests x y place))) rest ≡ cond (is_sent 1500 r) (r ∷ rest) rest
    step true y d e = rw (refused_short r d) refl
    step false true d e = rw (refused_long r d e) refl
    step false false d e = rw (passed r d e, here) refl

each_up : (capture : Capture) (a : GuestPlan) → IsSender capture a → (i : ℕ) (rs : List Stamped) → ((j : ℕ) (r : Stamped) → slice_get rs j ≡ Some r → slice_get capture.records (i + j) ≡ Some r)
    → filter_map (record_up capture.records) (map (λ (c : Captured). row_by c.number (verdict_on a c)) (numbered a i rs)) ≡ sent_from a i rs
each_up capture a s i [] are = refl
each_up capture a s i (r ∷ rs) are =
    let start : i + 0 ≡ i = omega arith in
    let here : slice_get capture.records i ≡ Some r = rw start at (are 0 r refl) in
    let rest = each_up capture a s (i + 1) rs (λ j y is. let e : i + 1 + j ≡ i + suc j = omega arith in rw e (are (suc j) y is)) in
    let goes : is_sent 1500 r ≡ goes_on a 0 0 (captured_as a i r) = sym (goes_by_length a (sender_plain capture a s) i r ∙ ap (λ m. is_sent m r) s.setup.mtu) in
    (λ k. cons_option (record_up capture.records (row_by i (verdict_here capture a s i r k))) (rest k))
    ∙ one_up capture.records i (count (is_sent 1500) (take i capture.records)) r (sent_from a (i + 1) rs) here
    ∙ ap (λ (b : Bool). cond b (r ∷ sent_from a (i + 1) rs) (sent_from a (i + 1) rs)) goes

same_records : (capture : Capture) (a : GuestPlan) → IsSender capture a → (j : ℕ) (r : Stamped) → slice_get a.capture.records j ≡ Some r → slice_get capture.records (0 + j) ≡ Some r
same_records capture a s j r is = let e : 0 + j ≡ j = omega arith in rw e (sym (ap (λ (c : Capture). slice_get c.records j) s.capture) ∙ is)

pub records_here : (capture : Capture) (plan : Plan) (p : IsPairPlan capture plan) → filter_map (record_up capture.records) (rows_due p.a) ≡ sent_records p.a
records_here capture plan p = each_up capture p.a p.sender 0 p.a.capture.records (same_records capture p.a p.sender)

-- ------------------------------------------------------------ that of a place

-- a sent record stands behind the sent ones before it
sent_there : (rs : List Stamped) (i : ℕ) (r : Stamped) → slice_get rs i ≡ Some r → is_sent 1500 r ≡ true → slice_get (sent_in rs) (count (is_sent 1500) (take i rs)) ≡ Some r
sent_there [] i r there sent = absurd (cc there)
sent_there (x ∷ rs) zero r there sent = let same : x ≡ r = cc there in rw (same, sent) refl
sent_there (x ∷ rs) (suc i) r there sent = step (is_sent 1500 x) refl (sent_there rs i r there sent)
  where
    step : (b : Bool) → is_sent 1500 x ≡ b → slice_get (sent_in rs) (count (is_sent 1500) (take i rs)) ≡ Some r → slice_get (sent_in (x ∷ rs)) (count (is_sent 1500) (take (suc i) (x ∷ rs))) ≡ Some r
    step true e ih = rw e ih
    step false e ih = rw e ih

place_told : (rs : List Stamped) (i : ℕ) (r : Stamped) (a q k : ℕ) → slice_get rs i ≡ Some r → fate_by (sending_of 1500 (count (is_sent 1500) (take i rs)) (length r.frame)) ≡ fate.Up a q k → slice_get (sent_in rs) k ≡ Some r
place_told rs i r a q k there up = step (nat_lt (length r.frame) 14) (nat_lt 1518 (length r.frame)) refl refl up
  where
    place : ℕ
    place = count (is_sent 1500) (take i rs)

    step : (x y : Bool) → nat_lt (length r.frame) 14 ≡ x → nat_lt 1518 (length r.frame) ≡ y → fate_by (by_tests x y place) ≡ fate.Up a q k → slice_get (sent_in rs) k ≡ Some r
    step true y d e h = absurd (cc h)
    step false true d e h = absurd (cc h)
    step false false d e h = let same : place ≡ k = cc h in ap (slice_get (sent_in rs)) (sym same) ∙ sent_there rs i r there (passed r d e)

pub origin_here : (capture : Capture) (plan : Plan) (p : IsPairPlan capture plan) (i : ℕ) (x : FrameCopy) → slice_get (rows_due p.a) i ≡ Some x → (activation queue place : ℕ) → x.fate ≡ fate.Up activation queue place
    → (s : Stamped) × (slice_get capture.records x.number ≡ Some s) × (slice_get (sent_records p.a) place ≡ Some s)
origin_here capture plan p i x there activation queue place up =
    let found = mapped_there (λ (c : Captured). row_by c.number (verdict_on p.a c)) (captured p.a) i x there in
    let within = slice_get_within (captured p.a) i found.0 found.1 in
    let long = captured_long p.a in
    let r = some_there p.a.capture.records i (omega (arith, within, long)) in
    let is : found.0 ≡ captured_as p.a i r.0 = captured_is p.a i found.0 r.0 found.1 r.1 in
    let at : slice_get capture.records i ≡ Some r.0 = sym (ap (λ (c : Capture). slice_get c.records i) p.sender.capture) ∙ r.1 in
    let row : row_by i (sending_of 1500 (count (is_sent 1500) (take i capture.records)) (length r.0.frame)) ≡ x = ap (row_by i) (sym (verdict_here capture p.a p.sender i r.0)) ∙ sym (ap (λ (c : Captured). row_by c.number (verdict_on p.a c)) is) ∙ found.2 in
    let number : i ≡ x.number = ap (λ (f : FrameCopy). f.number) row in
    let fate = ap (λ (f : FrameCopy). f.fate) row ∙ up in
    (r.0, ap (slice_get capture.records) (sym number) ∙ at, ap (λ (xs : List Stamped). slice_get xs place) (sent_here capture p.a p.sender) ∙ place_told capture.records i r.0 activation queue place at fate)
