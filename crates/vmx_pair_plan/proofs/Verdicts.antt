-- The verdicts of a guest with one transmit queue and no script go by the lengths of its frames.
use Rattle.std.proofs.Common.{◌≡◌, ℕ, zero, suc, ◌+◌, ◌%◌, Bool, true, false, List, [], ◌∷◌, length, map, take, Option, Some, None, nat_le, nat_lt, refl, sym, ap, ◌∙◌, arith}
use Rattle.std.specs.Prelude.{slice_get, filter, count_by, if◌then◌else◌, ◌&&◌, not}
use Rattle.std.proofs.lemmas.List.Sums.{length-filter}
use Rattle.std.proofs.lemmas.Bool.Decides.{nat_tests}
use Rattle.vmx_pcap.specs.declared.records.Stamped.{Stamped}
use Rattle.vmx_ends.specs.Marks.{mark_with}
use Rattle.vmx_model.specs.declared.guest.GuestPlan.{GuestPlan}
use Rattle.vmx_model.specs.declared.sending.Sending.{Sending}
use Rattle.vmx_model.specs.declared.journal.Fate.{Fate}
use Rattle.vmx_model.specs.declared.sending.Sending.TheVariants as sending
use Rattle.vmx_model.specs.Lists.{count}
use Rattle.vmx_model.specs.Deeds.{begins, is_quiet}
use Rattle.vmx_model.specs.Wire.{takes_tag, wire_form, tx_queue}
use Rattle.vmx_model.specs.Plan.{Captured, wire, past, is_down, activation_at, captured_as, numbered, goes_on, frames_of, place_of, verdict_on}
use Rattle.vmx_model.specs.PlanSteps.{place_next}
use Rattle.vmx_pcap.specs.declared.records.Capture.{Capture}
use Rattle.vmx_pair_plan.specs.Plan.{IsPlain, IsSender}
use Rattle.vmx_pair_plan.specs.Lengths.{is_sent, is_short, is_too_long, sending_of}
use Rattle.vmx_pair_plan.specs.Fates.{fate_by, fates_due, sent_from, sent_records}
use Rattle.vmx_pair_plan.specs.Summary.{says_sent, says_short, says_too_long, count_verdicts, lines_of, summary}

-- guest `a` is plain
pub sender_plain : (capture : Capture) (g : GuestPlan) → IsSender capture g → IsPlain g
sender_plain capture g s = record { tx_queues = s.setup.tx_queues; vlan = s.vlan; script = s.script }

never_down : (g : GuestPlan) → IsPlain g → (i : ℕ) → is_down g i ≡ false
never_down g p i = ap (λ s. is_quiet false (past i s)) p.script

one_activation : (g : GuestPlan) → IsPlain g → (i : ℕ) → activation_at g i ≡ 0
one_activation g p i = ap (λ s. count (λ a. begins a.deed) (past i s)) p.script

first_of_one : (b : Bool) (n : ℕ) → (if b then 0 else n % 1) ≡ 0
first_of_one true n = refl
first_of_one false n = omega arith

one_queue : (g : GuestPlan) → IsPlain g → (frame : List ℕ) → tx_queue frame g.setup.tx_queues ≡ 0
one_queue g p frame = ap (tx_queue frame) p.tx_queues ∙ first_of_one _ _

always_there : (a b : Bool) → (a && (b && true)) ≡ (a && b)
always_there true true = refl
always_there true false = refl
always_there false b = refl

bare_mark : (b : Bool) (frame : List ℕ) → wire_form (record { frame = frame; mark = mark_with (if b then None else None) }) ≡ frame
bare_mark true frame = refl
bare_mark false frame = refl

-- without a VLAN a frame goes over the wire as it was captured
pub same_wire : (g : GuestPlan) → IsPlain g → (i : ℕ) (r : Stamped) → wire (captured_as g i r) ≡ r.frame
same_wire g p i r = ap (λ (v : Option ℕ). wire_form (record { frame = r.frame; mark = mark_with (if takes_tag r.frame then v else None) })) p.vlan ∙ bare_mark (takes_tag r.frame) r.frame

pub goes_by_length : (g : GuestPlan) → IsPlain g → (i : ℕ) (r : Stamped) → goes_on g 0 0 (captured_as g i r) ≡ is_sent g.setup.mtu r
goes_by_length g p i r = rw (never_down g p i, one_activation g p i, one_queue g p r.frame, same_wire g p i r) (always_there _ _)

pub verdict_by_length : (g : GuestPlan) → IsPlain g → (i : ℕ) (r : Stamped) → verdict_on g (captured_as g i r) ≡ sending_of g.setup.mtu (place_of g 0 0 i) (length r.frame)
verdict_by_length g p i r = rw (never_down g p i, one_activation g p i, one_queue g p r.frame, same_wire g p i r) refl

-- the number of sent frames, one more where this one is sent
abbrev pub place_after : ℕ → ℕ → Stamped → ℕ
place_after mtu place r = place + (if is_sent mtu r then 1 else 0)

-- the fates of frames before which so many are sent
abbrev pub fates_from : ℕ → ℕ → List Stamped → List Fate
fates_from mtu place [] = []
fates_from mtu place (r ∷ rs) = fate_by (sending_of mtu place (length r.frame)) ∷ fates_from mtu (place_after mtu place r) rs

-- the records from number i on are these
abbrev AreFrom : GuestPlan → ℕ → List Stamped → Type 0
AreFrom g i rs = (j : ℕ) (r : Stamped) → slice_get rs j ≡ Some r → slice_get g.capture.records (i + j) ≡ Some r

all_from : (g : GuestPlan) → AreFrom g 0 g.capture.records
all_from g j r is = let e : 0 + j ≡ j = omega arith in rw e is

next_from : (g : GuestPlan) (i : ℕ) (r : Stamped) (rs : List Stamped) → AreFrom g i (r ∷ rs) → AreFrom g (i + 1) rs
next_from g i r rs are j x is = let e : i + 1 + j ≡ i + suc j = omega arith in rw e (are (suc j) x is)

fates_on : (g : GuestPlan) → IsPlain g → (i : ℕ) (rs : List Stamped) → AreFrom g i rs → map (λ c. fate_by (verdict_on g c)) (numbered g i rs) ≡ fates_from g.setup.mtu (place_of g 0 0 i) rs
fates_on g p i [] are = refl
fates_on g p i (r ∷ rs) are =
    let start : i + 0 ≡ i = omega arith in
    let here : slice_get g.capture.records i ≡ Some r = rw start at (are 0 r refl) in
    let place : place_of g 0 0 (i + 1) ≡ place_after g.setup.mtu (place_of g 0 0 i) r = place_next g 0 0 i r here ∙ ap (λ b. place_of g 0 0 i + (if b then 1 else 0)) (goes_by_length g p i r) in
    let rest : map (λ c. fate_by (verdict_on g c)) (numbered g (i + 1) rs) ≡ fates_from g.setup.mtu (place_after g.setup.mtu (place_of g 0 0 i) r) rs =
    fates_on g p (i + 1) rs (next_from g i r rs are) ∙ ap (λ n. fates_from g.setup.mtu n rs) place in
    ap (λ v. fate_by v ∷ map (λ c. fate_by (verdict_on g c)) (numbered g (i + 1) rs)) (verdict_by_length g p i r)
    ∙ ap (λ (fs : List Fate). fate_by (sending_of g.setup.mtu (place_of g 0 0 i) (length r.frame)) ∷ fs) rest

-- the fates of all captured frames
pub fates_by_length : (g : GuestPlan) → IsPlain g → fates_from g.setup.mtu 0 g.capture.records ≡ fates_due g
fates_by_length g p = sym (fates_on g p 0 g.capture.records (all_from g))

kept_alike : (b : Bool) (r : Stamped) (xs ys : List Stamped) → xs ≡ ys → (if b then r ∷ xs else xs) ≡ (if b then r ∷ ys else ys)
kept_alike true r xs ys e = ap (λ (zs : List Stamped). r ∷ zs) e
kept_alike false r xs ys e = e

sent_on : (g : GuestPlan) → IsPlain g → (i : ℕ) (rs : List Stamped) → filter (is_sent g.setup.mtu) rs ≡ sent_from g i rs
sent_on g p i [] = refl
sent_on g p i (r ∷ rs) =
    kept_alike (is_sent g.setup.mtu r) r _ _ (sent_on g p (i + 1) rs) ∙ ap (λ b. if b then r ∷ sent_from g (i + 1) rs else sent_from g (i + 1) rs) (sym (goes_by_length g p i r))

-- the records of the sent frames
pub sent_by_length : (g : GuestPlan) → IsPlain g → filter (is_sent g.setup.mtu) g.capture.records ≡ sent_records g
sent_by_length g p = sent_on g p 0 g.capture.records

frames_alike : (g : GuestPlan) → IsPlain g → (b : Bool) (i : ℕ) (r : Stamped) (rs : List Stamped) (cs : List Captured) → map (λ r. r.frame) rs ≡ map wire cs → map (λ r. r.frame) (if b then r ∷ rs else rs) ≡ map wire (if b then captured_as g i r ∷ cs else cs)
frames_alike g p true i r rs cs e = ap (λ (fs : List (List ℕ)). r.frame ∷ fs) e ∙ ap (λ (f : List ℕ). f ∷ map wire cs) (sym (same_wire g p i r))
frames_alike g p false i r rs cs e = e

frames_from : (g : GuestPlan) → IsPlain g → (i : ℕ) (rs : List Stamped) → map (λ r. r.frame) (sent_from g i rs) ≡ map wire (filter (goes_on g 0 0) (numbered g i rs))
frames_from g p i [] = refl
frames_from g p i (r ∷ rs) = frames_alike g p (goes_on g 0 0 (captured_as g i r)) i r _ _ (frames_from g p (i + 1) rs)

-- the sent frames are those of the sent records
pub frames_sent : (g : GuestPlan) → IsPlain g → map (λ r. r.frame) (sent_records g) ≡ frames_of g 0 0
frames_sent g p = frames_from g p 0 g.capture.records

-- verdicts by lengths, told apart
abbrev by_tests : Bool → Bool → ℕ → Sending
by_tests short long place = if short then sending.Short else if long then sending.TooLong else sending.Sent 0 0 place

sent_said : (place : ℕ) (short long : Bool) → says_sent (by_tests short long place) ≡ (not short && not long)
sent_said place true long = refl
sent_said place false true = refl
sent_said place false false = refl

short_said : (place : ℕ) (short long : Bool) → says_short (by_tests short long place) ≡ short
short_said place true long = refl
short_said place false true = refl
short_said place false false = refl

long_said : (place : ℕ) (short long : Bool) → says_too_long (by_tests short long place) ≡ (not short && long)
long_said place true long = refl
long_said place false true = refl
long_said place false false = refl

not_lt : (m n : ℕ) → not (nat_lt m n) ≡ nat_le n m
not_lt m n = grind (arith, nat_tests)

-- what is too long is not short
long_alone : (mtu len : ℕ) (long : Bool) → nat_lt (mtu + 18) len ≡ long → (not (nat_lt len 14) && long) ≡ long
long_alone mtu len true is = let past : nat_lt len 14 ≡ false = grind (arith, nat_tests) in rw past refl
long_alone mtu len false is = last_false (not (nat_lt len 14))
  where
    last_false : (b : Bool) → (b && false) ≡ false
    last_false true = refl
    last_false false = refl

lengths_alike : (g : GuestPlan) (f : Captured → Bool) (t : Stamped → Bool) → ((i : ℕ) (r : Stamped) → f (captured_as g i r) ≡ t r) → (i : ℕ) (rs : List Stamped) → length (filter f (numbered g i rs)) ≡ length (filter t rs)
lengths_alike g f t alike i [] = refl
lengths_alike g f t alike i (r ∷ rs) = rw (alike i r) (step (t r) (lengths_alike g f t alike (i + 1) rs))
  where
    step : (b : Bool) → length (filter f (numbered g (i + 1) rs)) ≡ length (filter t rs) → length (if b then captured_as g i r ∷ filter f (numbered g (i + 1) rs) else filter f (numbered g (i + 1) rs)) ≡ length (if b then r ∷ filter t rs else filter t rs)
    step true e = omega (arith, e)
    step false e = e

-- captured frames are counted as their records are
counted : (g : GuestPlan) (f : Captured → Bool) (t : Stamped → Bool) → ((i : ℕ) (r : Stamped) → f (captured_as g i r) ≡ t r) → (rs : List Stamped) → count f (numbered g 0 rs) ≡ count_by t rs
counted g f t alike rs = lengths_alike g f t alike 0 rs ∙ length-filter t rs

pub sent_count : (g : GuestPlan) → IsPlain g → count_verdicts says_sent g ≡ count_by (is_sent g.setup.mtu) g.capture.records
sent_count g p =
    counted g _ _ (λ i r. ap says_sent (verdict_by_length g p i r) ∙ sent_said (place_of g 0 0 i) (nat_lt (length r.frame) 14) (nat_lt (g.setup.mtu + 18) (length r.frame))
    ∙ ap (λ b. b && not (nat_lt (g.setup.mtu + 18) (length r.frame))) (not_lt (length r.frame) 14) ∙ ap (λ b. nat_le 14 (length r.frame) && b) (not_lt (g.setup.mtu + 18) (length r.frame))) g.capture.records

pub short_count : (g : GuestPlan) → IsPlain g → count_verdicts says_short g ≡ count_by is_short g.capture.records
short_count g p =
    counted g _ _ (λ i r. ap says_short (verdict_by_length g p i r) ∙ short_said (place_of g 0 0 i) (nat_lt (length r.frame) 14) (nat_lt (g.setup.mtu + 18) (length r.frame))) g.capture.records

pub too_long_count : (g : GuestPlan) → IsPlain g → count_verdicts says_too_long g ≡ count_by (is_too_long g.setup.mtu) g.capture.records
too_long_count g p =
    counted g _ _ (λ i r. ap says_too_long (verdict_by_length g p i r) ∙ long_said (place_of g 0 0 i) (nat_lt (length r.frame) 14) (nat_lt (g.setup.mtu + 18) (length r.frame))
    ∙ long_alone g.setup.mtu (length r.frame) (nat_lt (g.setup.mtu + 18) (length r.frame)) refl) g.capture.records

-- the summary by the lengths alone
pub summary_by_length : (g : GuestPlan) → IsPlain g
    → lines_of (length g.capture.records) g.capture.tail (count_by (is_sent g.setup.mtu) g.capture.records) (count_by is_short g.capture.records) (count_by (is_too_long g.setup.mtu) g.capture.records) ≡ summary g
unfolding summary
summary_by_length g p = rw (sent_count g p, short_count g p, too_long_count g p) refl

-- ------------------------------------------------------------ the plan of `pair`

take_numbered : (g : GuestPlan) (n i : ℕ) (rs : List Stamped) → take n (numbered g i rs) ≡ numbered g i (take n rs)
take_numbered g zero i rs = refl
take_numbered g (suc n) i [] = refl
take_numbered g (suc n) i (r ∷ rs) = ap (λ (cs : List Captured). captured_as g i r ∷ cs) (take_numbered g n (i + 1) rs)

-- the frames of the queue before a number are the sent ones
place_by_length : (g : GuestPlan) → IsPlain g → (i : ℕ) → place_of g 0 0 i ≡ count (is_sent g.setup.mtu) (take i g.capture.records)
place_by_length g p i = ap (count (goes_on g 0 0)) (take_numbered g i 0 g.capture.records) ∙ lengths_alike g (goes_on g 0 0) (is_sent g.setup.mtu) (goes_by_length g p) 0 (take i g.capture.records)

pub verdict_here : (capture : Capture) (g : GuestPlan) → IsSender capture g → (i : ℕ) (r : Stamped) → verdict_on g (captured_as g i r) ≡ sending_of 1500 (count (is_sent 1500) (take i capture.records)) (length r.frame)
verdict_here capture g s i r =
    verdict_by_length g (sender_plain capture g s) i r ∙ ap (λ n. sending_of g.setup.mtu n (length r.frame)) (place_by_length g (sender_plain capture g s) i)
    ∙ ap (λ m. sending_of m (count (is_sent m) (take i g.capture.records)) (length r.frame)) s.setup.mtu ∙ ap (λ (x : Capture). sending_of 1500 (count (is_sent 1500) (take i x.records)) (length r.frame)) s.capture

pub sent_here : (capture : Capture) (g : GuestPlan) → IsSender capture g → sent_records g ≡ filter (is_sent 1500) capture.records
sent_here capture g s = sym (sent_by_length g (sender_plain capture g s)) ∙ ap (λ m. filter (is_sent m) g.capture.records) s.setup.mtu ∙ ap (λ (x : Capture). filter (is_sent 1500) x.records) s.capture
