-- The summary of a run by the plan of `pair`.
use Rattle.std.proofs.Common.{◌≡◌, ℕ, suc, ◌+◌, Bool, true, false, cond, List, [], ◌∷◌, ◌++◌, length, map, refl, sym, ap, ◌∙◌, arith, nat_lt, append_assoc}
use Rattle.std.specs.Prelude.{codes}
use Rattle.std.specs.Fmt.{decimal}
use Rattle.std.specs.List.{filter, flat_map}
use Rattle.std.proofs.lemmas.Fmt.{decimal_digit}
use Rattle.std.proofs.lemmas.List.{length-map}
use Rattle.std.proofs.lemmas.List.Sums.{length-filter}
use Rattle.vmx_pcap.specs.declared.records.Capture.{Capture}
use Rattle.vmx_pcap.specs.declared.records.Stamped.{Stamped}
use Rattle.vmx_model.specs.declared.guest.GuestPlan.{GuestPlan}
use Rattle.vmx_model.specs.declared.plan.Plan.{Plan}
use Rattle.vmx_model.specs.declared.journal.Fate.{Fate}
use Rattle.vmx_model.specs.declared.sending.Sending.{Sending}
use Rattle.vmx_model.specs.declared.sending.Sending.TheVariants as sending
use Rattle.vmx_model.specs.Fates.{all_fates}
use Rattle.vmx_model.specs.Plan.{Captured, captured, captured_as, numbered, place_of, verdict_on}
use Rattle.vmx_model.specs.Record.{HasLists}
use Rattle.vmx_model.specs.Serial.{serial_run}
use Rattle.vmx_model.specs.Totals.{records_of}
use Rattle.vmx_model.specs.Views.{RecordView}
use Rattle.vmx_model.proofs.Sends.{captured_long}
use Rattle.vmx_summary.specs.declared.kinds.Kind.{Kind}
use Rattle.vmx_summary.specs.declared.kinds.Kind.TheVariants as kind
use Rattle.vmx_summary.specs.Summary.{captured_line, counts_by, fates_listed, fates_of_kind, first_counts, has_kind, last_counts, more_counts, tails_of, summary}
use Rattle.vmx_pair_plan.specs.Plan.{IsPairPlan, IsPlain}
use Rattle.vmx_pair_plan.specs.Fates.{fate_by, fates_due}
use Rattle.vmx_pair_plan.specs.Summary.{count_verdicts, first_line, no_counts, says_sent, says_short, says_too_long, second_line}
use Rattle.vmx_pair_plan.specs.Summary.{summary as pair_summary}
use Rattle.vmx_pair_plan.proofs.Verdicts.{sender_plain, verdict_by_length}
use Rattle.vmx_pair_run.proofs.Records.{alone, fates_here}
use Rattle.vmx_pair_run.proofs.Ends.{by_tests}

-- ------------------------------------------------------------ the counts

-- fates are counted as the verdicts on their frames are
by_verdicts : (k : Kind) (says : Sending → Bool) (g : GuestPlan) → ((s : Sending) → has_kind k (fate_by s) ≡ says s) → (cs : List Captured)
    → length (filter (has_kind k) (map (λ (c : Captured). fate_by (verdict_on g c)) cs)) ≡ length (filter (λ (c : Captured). says (verdict_on g c)) cs)
by_verdicts k says g same [] = refl
by_verdicts k says g same (c ∷ cs) = rw (same (verdict_on g c)) (step (says (verdict_on g c)) (by_verdicts k says g same cs))
  where
    step : (b : Bool) → length (filter (has_kind k) (map (λ (c : Captured). fate_by (verdict_on g c)) cs)) ≡ length (filter (λ (c : Captured). says (verdict_on g c)) cs)
        → length (cond b (fate_by (verdict_on g c) ∷ filter (has_kind k) (map (λ (c : Captured). fate_by (verdict_on g c)) cs)) (filter (has_kind k) (map (λ (c : Captured). fate_by (verdict_on g c)) cs)))
        ≡ length (cond b (c ∷ filter (λ (c : Captured). says (verdict_on g c)) cs) (filter (λ (c : Captured). says (verdict_on g c)) cs))
    step true e = ap suc e
    step false e = e

counted : (k : Kind) (says : Sending → Bool) (g : GuestPlan) → ((s : Sending) → has_kind k (fate_by s) ≡ says s) → fates_of_kind k (fates_due g) ≡ count_verdicts says g
counted k says g same = sym (length-filter (has_kind k) (fates_due g)) ∙ by_verdicts k says g same (captured g)

up_said : (s : Sending) → has_kind kind.Up (fate_by s) ≡ says_sent s
up_said (sending.Sent a q k) = refl
up_said sending.Down = refl
up_said sending.Short = refl
up_said sending.TooLong = refl

short_said : (s : Sending) → has_kind kind.Short (fate_by s) ≡ says_short s
short_said (sending.Sent a q k) = refl
short_said sending.Down = refl
short_said sending.Short = refl
short_said sending.TooLong = refl

long_said : (s : Sending) → has_kind kind.TooLong (fate_by s) ≡ says_too_long s
long_said (sending.Sent a q k) = refl
long_said sending.Down = refl
long_said sending.Short = refl
long_said sending.TooLong = refl

-- a kind that no frame meets
never : (test : Captured → Bool) (g : GuestPlan) (i : ℕ) (rs : List Stamped) → ((i : ℕ) (r : Stamped) → test (captured_as g i r) ≡ false) → length (filter test (numbered g i rs)) ≡ 0
never test g i [] not = refl
never test g i (r ∷ rs) not = rw (not i r) (never test g (i + 1) rs not)

none : (k : Kind) (g : GuestPlan) → ((i : ℕ) (r : Stamped) → has_kind k (fate_by (verdict_on g (captured_as g i r))) ≡ false) → fates_of_kind k (fates_due g) ≡ 0
none k g not = counted k (λ s. has_kind k (fate_by s)) g (λ s. refl) ∙ never (λ (c : Captured). has_kind k (fate_by (verdict_on g c))) g 0 g.capture.records not

-- a verdict by lengths
abbrev NotOf : Kind → Type 0
NotOf k = (x y : Bool) (place : ℕ) → has_kind k (fate_by (by_tests x y place)) ≡ false

not_met : (k : Kind) (g : GuestPlan) → IsPlain g → NotOf k → fates_of_kind k (fates_due g) ≡ 0
not_met k g p not = none k g (λ i r. ap (λ (s : Sending). has_kind k (fate_by s)) (verdict_by_length g p i r) ∙ not (nat_lt (length r.frame) 14) (nat_lt (g.setup.mtu + 18) (length r.frame)) (place_of g 0 0 i))

no_full : NotOf kind.LinkFull
no_full true y place = refl
no_full false true place = refl
no_full false false place = refl

no_inactive : NotOf kind.Inactive
no_inactive true y place = refl
no_inactive false true place = refl
no_inactive false false place = refl

no_filtered : NotOf kind.Filtered
no_filtered true y place = refl
no_filtered false true place = refl
no_filtered false false place = refl

no_buffer : NotOf kind.NoBuffer
no_buffer true y place = refl
no_buffer false true place = refl
no_buffer false false place = refl

no_discarded : NotOf kind.Discarded
no_discarded true y place = refl
no_discarded false true place = refl
no_discarded false false place = refl

no_port : NotOf kind.NoPort
no_port true y place = refl
no_port false true place = refl
no_port false false place = refl

no_down : NotOf kind.Down
no_down true y place = refl
no_down false true place = refl
no_down false false place = refl

-- ------------------------------------------------------------ the lines

first_same : (records tail : ℕ) → captured_line 2 records records tail ≡ first_line records tail
unfolding captured_line first_line
first_same records tail = rw (decimal_digit 2 (omega arith)) refl

in_front : (d t m l : List ℕ) → (codes "up " ++ (d ++ t)) ++ m ++ l ≡ codes "up " ++ (d ++ (t ++ (m ++ l)))
in_front d t m l = ap (λ (x : List ℕ). codes "up " ++ x) (append_assoc (d ++ t) m l ∙ append_assoc d t (m ++ l))

second_same : (up short long : ℕ) → first_counts up 0 0 0 ++ more_counts 0 0 0 ++ last_counts 0 short long ≡ second_line up short long
unfolding first_counts more_counts last_counts second_line no_counts
second_same up short long =
    let first : List ℕ → List ℕ = λ z. codes " link-full " ++ (z ++ (codes " inactive " ++ (z ++ (codes " filtered " ++ z)))) in
    let more : List ℕ → List ℕ = λ z. codes " no-buffer " ++ (z ++ (codes " discarded " ++ (z ++ (codes " no-port " ++ z)))) in
    let last : List ℕ → List ℕ = λ z. codes " down " ++ (z ++ (codes " short " ++ (decimal short ++ (codes " too-long " ++ (decimal long ++ codes "\n"))))) in
    in_front (decimal up) (first (decimal 0)) (more (decimal 0)) (last (decimal 0))
    ∙ ap (λ (z : List ℕ). codes "up " ++ (decimal up ++ (first z ++ (more z ++ last z)))) (decimal_digit 0 (omega arith))

flat_alone : (fs : List Fate) → flat_map (λ (x : List Fate). x) (map alone fs) ≡ fs
flat_alone [] = refl
flat_alone (f ∷ fs) = ap (λ (xs : List Fate). f ∷ xs) (flat_alone fs)

-- both lines
pub summary_here : (capture : Capture) (plan : Plan) (p : IsPairPlan capture plan) (r : RecordView) → HasLists r (serial_run plan) → summary plan r ≡ pair_summary p.a
unfolding pair_summary
summary_here capture plan p r lists =
    let a : GuestPlan = p.a in
    let plain = sender_plain capture p.a p.sender in
    let records : ℕ = length a.capture.records in
    let fates : all_fates plan r ≡ map alone (fates_due a) = fates_here capture plan p r lists in
    let listed : fates_listed plan r ≡ fates_due a = ap (flat_map (λ (x : List Fate). x)) fates ∙ flat_alone (fates_due a) in
    let copies : length (all_fates plan r) ≡ records = ap length fates ∙ length-map (fates_due a) alone ∙ length-map (captured a) (λ (c : Captured). fate_by (verdict_on a c)) ∙ captured_long a in
    let guests : length plan.guests ≡ 2 = ap length p.guests in
    let no_more : length p.b.capture.records ≡ 0 = ap (λ (c : Capture). length c.records) p.sniffer.capture in
    let no_tail : p.b.capture.tail ≡ 0 = ap (λ (c : Capture). c.tail) p.sniffer.capture in
    let all_records : records_of plan.guests ≡ records = ap records_of p.guests ∙ omega (arith, no_more) in
    let tails : tails_of plan.guests ≡ a.capture.tail = ap tails_of p.guests ∙ omega (arith, no_tail) in
    (λ i. captured_line (guests i) (all_records i) (copies i) (tails i) ++ counts_by (λ k. fates_of_kind k (listed i)))
    ∙ (λ i. captured_line 2 records records a.capture.tail
    ++ (first_counts (counted kind.Up says_sent a up_said i) (not_met kind.LinkFull a plain no_full i) (not_met kind.Inactive a plain no_inactive i) (not_met kind.Filtered a plain no_filtered i)
    ++ more_counts (not_met kind.NoBuffer a plain no_buffer i) (not_met kind.Discarded a plain no_discarded i) (not_met kind.NoPort a plain no_port i)
    ++ last_counts (not_met kind.Down a plain no_down i) (counted kind.Short says_short a short_said i) (counted kind.TooLong says_too_long a long_said i)))
    ∙ (λ i. first_same records a.capture.tail i ++ second_same (count_verdicts says_sent a) (count_verdicts says_short a) (count_verdicts says_too_long a) i)
