-- The stamps of the packets that came up at guest `b`.
use Rattle.std.proofs.Common.{◌≡◌, ◌≢◌, ℕ, zero, suc, ◌+◌, ◌<◌, ◌≤◌, Bool, true, false, cond, List, [], ◌∷◌, ◌++◌, length, map, take, refl, sym, ap, ◌∙◌, arith, nat_eq, Option, Some, None, append-nil, add-one, inl, inr, ◌⊎◌, length-append}
use Rattle.std.proofs.Math.Seq.{take-length}
use Rattle.std.proofs.lemmas.Bool.Decides.{eqb_tells}
use Rattle.std.specs.Option.{option_and_then}
use Rattle.std.proofs.lemmas.List.{map-append}
use Rattle.std.proofs.lemmas.List.Elements.{filter_map-append}
use Rattle.std.specs.List.{filter, filter_map, find, slice_get}
use Rattle.vmx_pcap.specs.declared.records.Capture.{Capture}
use Rattle.vmx_pcap.specs.declared.records.Stamped.{Stamped}
use Rattle.vmx_ends.specs.LinkView.{LinkView}
use Rattle.vmx_ends.specs.declared.packet.Packet.{Packet}
use Rattle.vmx_ends.specs.declared.packet.Tag.{Tag}
use Rattle.vmx_model.specs.declared.guest.GuestPlan.{GuestPlan}
use Rattle.vmx_model.specs.declared.plan.Plan.{Plan}
use Rattle.vmx_model.specs.declared.journal.Entry.{Entry}
use Rattle.vmx_model.specs.declared.journal.Entry.TheVariants as entry
use Rattle.vmx_model.specs.declared.journal.Fate.TheVariants as fate
use Rattle.vmx_model.specs.Fates.{entries_or_none, tag_at}
use Rattle.vmx_model.specs.Journal.{is_link, packet_at}
use Rattle.vmx_model.specs.Order.{CameUp, came_up, up_in}
use Rattle.vmx_model.specs.Plan.{Captured, captured_as, goes_on, guest_captured, numbered, quiesce_dev, record_of, sent_on, stamped_of}
use Rattle.vmx_model.specs.QueueSteps.{take_more}
use Rattle.vmx_model.specs.Record.{HasLists, carried_of, wire_of}
use Rattle.vmx_model.specs.Serial.{Carried, Wire, World, serial_run}
use Rattle.vmx_model.specs.Views.{GuestView, RecordView}
use Rattle.vmx_pair_plan.specs.Plan.{IsPairPlan}
use Rattle.vmx_pair_plan.specs.Fates.{sent_from, sent_records}
use Rattle.vmx_pair_plan.proofs.Verdicts.{sent_here}
use Rattle.vmx_model.proofs.Sends.{some_there}
use Rattle.vmx_pair_run.proofs.Stands.{ins, next_last}
use Rattle.vmx_pair_run.proofs.Runs.{both_wires, emptied_wire, tags_below, tags_in}
use Rattle.vmx_pair_run.proofs.Ends.{sent_in}
use Rattle.vmx_pair_run.proofs.Fates.{journal_b}
use Rattle.vmx_pair_run.proofs.Plans.{pair_ends}
use Rattle.vmx_pair_run.proofs.Records.{has_both}

-- ------------------------------------------------------------ the record of a tag

-- the frames of a guest's queue, and their records
each_record : (g : GuestPlan) (i : ℕ) (rs : List Stamped) → ((j : ℕ) (r : Stamped) → slice_get rs j ≡ Some r → slice_get g.capture.records (i + j) ≡ Some r)
    → map (λ (c : Captured). slice_get g.capture.records c.number) (filter (goes_on g 0 0) (numbered g i rs)) ≡ map (λ (r : Stamped). Some r) (sent_from g i rs)
each_record g i [] are = refl
each_record g i (r ∷ rs) are =
    let start : i + 0 ≡ i = omega arith in
    let here : slice_get g.capture.records i ≡ Some r = rw start at (are 0 r refl) in
    step (goes_on g 0 0 (captured_as g i r)) here (each_record g (i + 1) rs (λ j y is. let e : i + 1 + j ≡ i + suc j = omega arith in rw e (are (suc j) y is)))
  where
    step : (b : Bool) → slice_get g.capture.records i ≡ Some r → map (λ (c : Captured). slice_get g.capture.records c.number) (filter (goes_on g 0 0) (numbered g (i + 1) rs)) ≡ map (λ (r : Stamped). Some r) (sent_from g (i + 1) rs)
        → map (λ (c : Captured). slice_get g.capture.records c.number) (cond b (captured_as g i r ∷ filter (goes_on g 0 0) (numbered g (i + 1) rs)) (filter (goes_on g 0 0) (numbered g (i + 1) rs)))
        ≡ map (λ (r : Stamped). Some r) (cond b (r ∷ sent_from g (i + 1) rs) (sent_from g (i + 1) rs))
    step true here ih = λ k. here k ∷ ih k
    step false here ih = ih

at_place : {X Y : Type 0} (f : X → Option Y) (xs : List X) (ys : List Y) (k : ℕ) (y : Y) → map f xs ≡ map (λ y. Some y) ys → slice_get ys k ≡ Some y → (x : X) × (slice_get xs k ≡ Some x) × (f x ≡ Some y)
at_place f [] [] k y e there = absurd (cc there)
at_place f [] (z ∷ ys) k y e there = absurd cc
at_place f (x ∷ xs) [] k y e there = absurd cc
at_place f (x ∷ xs) (z ∷ ys) zero y e there = (x, refl, cc)
at_place {X} f (x ∷ xs) (z ∷ ys) (suc k) y e there = let rest : map f xs ≡ map (λ y. Some y) ys = cc in at_place f xs ys k y rest there

-- the record of the tag of a place is the sent record of that place
record_there : (capture : Capture) (plan : Plan) (p : IsPairPlan capture plan) (k : ℕ) (r : Stamped) → slice_get (sent_records p.a) k ≡ Some r → stamped_of plan (tag_at 0 0 0 k) ≡ Some r
record_there capture plan p k r there =
    let are : (j : ℕ) (r : Stamped) → slice_get p.a.capture.records j ≡ Some r → slice_get p.a.capture.records (0 + j) ≡ Some r = λ j r is. let e : 0 + j ≡ j = omega arith in rw e is in
    let found = at_place (λ (c : Captured). slice_get p.a.capture.records c.number) (sent_on p.a 0 0) (sent_records p.a) k r (each_record p.a 0 p.a.capture.records are) there in
    let first : slice_get plan.guests 0 ≡ Some p.a = ap (λ (gs : List GuestPlan). slice_get gs 0) p.guests in
    (λ i. record_of (first i) (guest_captured (first i) (tag_at 0 0 0 k))) ∙ ap (record_of (Some p.a)) found.1 ∙ found.2

-- ------------------------------------------------------------ the packets

front_there : {X : Type 0} (xs ys : List X) (k : ℕ) (x : X) → slice_get xs k ≡ Some x → slice_get (xs ++ ys) k ≡ Some x
front_there [] ys k x e = absurd (cc e)
front_there (z ∷ xs) ys zero x e = e
front_there (z ∷ xs) ys (suc k) x e = front_there xs ys k x e

tags_long : (n : ℕ) → length (tags_below n) ≡ n
tags_long zero = refl
tags_long (suc n) = let ih = tags_long n in let more = length-append (tags_below n) (tag_at 0 0 0 n ∷ []) in omega (arith, ih, more)

tag_there : (k n : ℕ) → k < n → slice_get (tags_below n) k ≡ Some (tag_at 0 0 0 k)
tag_there k zero lt = absurd (omega (arith, lt))
tag_there k (suc n) lt = step (eqb_tells k n) (tag_there k n)
  where
    step : ((nat_eq k n ≡ true) × (k ≡ n)) ⊎ ((nat_eq k n ≡ false) × (k ≢ n)) → (k < n → slice_get (tags_below n) k ≡ Some (tag_at 0 0 0 k)) → slice_get (tags_below (suc n)) k ≡ Some (tag_at 0 0 0 k)
    step (inl w) ih = let same = w.1 in next_last (tags_below n) (tag_at 0 0 0 n) k (omega (arith, tags_long n, same)) ∙ ap (λ (m : ℕ). Some (tag_at 0 0 0 m)) (sym same)
    step (inr w) ih = let other = w.1 in front_there (tags_below n) (tag_at 0 0 0 n ∷ []) k (tag_at 0 0 0 k) (ih (omega (arith, lt, other)))

pub mapped_there : {X Y : Type 0} (f : X → Y) (xs : List X) (k : ℕ) (y : Y) → slice_get (map f xs) k ≡ Some y → (x : X) × (slice_get xs k ≡ Some x) × (f x ≡ y)
mapped_there f [] k y e = absurd (cc e)
mapped_there f (x ∷ xs) zero y e = (x, refl, cc e)
mapped_there f (x ∷ xs) (suc k) y e = mapped_there f xs k y e

-- the link from `a` to `b`
link_here : (ls : List LinkView) (ps : List Carried) (y : Wire) → map wire_of ls ≡ emptied_wire 0 1 ps ∷ y ∷ [] → (l : LinkView) × (find (is_link 0 1) ls ≡ Some l) × (map carried_of l.pulled ≡ ps)
link_here [] ps y e = absurd (cc e)
link_here (l ∷ ls) ps y e =
    let same : wire_of l ≡ emptied_wire 0 1 ps = cc e in
    let from : l.from ≡ 0 = ap (λ (w : Wire). w.from) same in
    let to : l.to ≡ 1 = ap (λ (w : Wire). w.to) same in
    (l, rw (from, to) refl, ap (λ (w : Wire). w.pulled) same)

-- its packets have the tags of the frames of `a`
packet_here : (ls : List LinkView) (ps : List Carried) (y : Wire) (n k : ℕ) → map wire_of ls ≡ emptied_wire 0 1 ps ∷ y ∷ [] → tags_in ps ≡ tags_below n → k < n → (x : Packet) × (packet_at ls 0 1 k ≡ Some x) × (x.tag ≡ tag_at 0 0 0 k)
packet_here ls ps y n k e tags lt =
    let link = link_here ls ps y e in
    let there : slice_get (tags_in ps) k ≡ Some (tag_at 0 0 0 k) = ap (λ (ts : List Tag). slice_get ts k) tags ∙ tag_there k n lt in
    let carried = mapped_there (λ (x : Carried). x.tag) ps k (tag_at 0 0 0 k) there in
    let packet = mapped_there carried_of link.0.pulled k carried.0 (ap (λ (xs : List Carried). slice_get xs k) link.2 ∙ carried.1) in
    (packet.0, ap (option_and_then (λ (l : LinkView). slice_get l.pulled k)) link.1 ∙ packet.1, ap (λ (x : Carried). x.tag) packet.2 ∙ carried.2)

-- ------------------------------------------------------------ what came up

-- the record of the packet that came up
abbrev pub stamp_of : Plan → CameUp → Option Stamped
stamp_of plan u = stamped_of plan u.packet.tag

first_stamps : (capture : Capture) (plan : Plan) (p : IsPairPlan capture plan) (ls : List LinkView) (ps : List Carried) (y : Wire) (m n : ℕ) → map wire_of ls ≡ emptied_wire 0 1 ps ∷ y ∷ [] → tags_in ps ≡ tags_below m → m ≡ length (sent_records p.a) → n ≤ m
    → map (stamp_of plan) (filter_map (up_in ls 1) (ins n)) ≡ map (λ (r : Stamped). Some r) (take n (sent_records p.a))
first_stamps capture plan p ls ps y m zero e tags whole le = refl
first_stamps capture plan p ls ps y m (suc n) e tags whole le =
    let packet = packet_here ls ps y m n e tags (omega (arith, le)) in
    let found = some_there (sent_records p.a) n (omega (arith, le, whole)) in
    let more : take (suc n) (sent_records p.a) ≡ take n (sent_records p.a) ++ found.0 ∷ [] = let t = take_more (sent_records p.a) n found.0 found.1 in rw add-one at t in
    let up : CameUp = record { activation = 0; queue = 0; place = n; packet = packet.0 } in
    let one : filter_map (up_in ls 1) (entry.In 0 n (fate.Up 0 0 n) ∷ []) ≡ up ∷ [] = rw packet.1 refl in
    let stamp : stamp_of plan up ≡ Some found.0 = ap (stamped_of plan) packet.2 ∙ record_there capture plan p n found.0 found.1 in
    let rest = first_stamps capture plan p ls ps y m n e tags whole (omega (arith, le)) in
    ap (map (stamp_of plan)) (filter_map-append (up_in ls 1) (ins n) (entry.In 0 n (fate.Up 0 0 n) ∷ []) ∙ ap (λ (us : List CameUp). filter_map (up_in ls 1) (ins n) ++ us) one)
    ∙ map-append (stamp_of plan) (filter_map (up_in ls 1) (ins n)) (up ∷ [])
    ∙ (λ i. rest i ++ stamp i ∷ [])
    ∙ sym (map-append (λ (r : Stamped). Some r) (take n (sent_records p.a)) (found.0 ∷ []))
    ∙ ap (map (λ (r : Stamped). Some r)) (sym more)

-- what came up has, in order, the stamps of the sent records
pub stamps_here : (capture : Capture) (plan : Plan) (p : IsPairPlan capture plan) (r : RecordView) → HasLists r (serial_run plan) → (v : GuestView) → slice_get r.guests 1 ≡ Some v
    → map (stamp_of plan) (came_up r.links 1 v.entries) ≡ map (λ (x : Stamped). Some x) (sent_records p.a)
stamps_here capture plan p r lists v there =
    let rs : List Stamped = sent_in capture.records in
    let n : ℕ = length rs in
    let ends = pair_ends capture plan p in
    let both = has_both p.a p.b rs (serial_run plan) r ends lists in
    let links : map wire_of r.links ≡ both_wires ends.packets = lists.links ∙ ap (λ (w : World). w.wires) ends.is in
    let whole : n ≡ length (sent_records p.a) = ap length (sym (sent_here capture p.a p.sender)) in
    let entries : v.entries ≡ journal_b n = sym (ap entries_or_none there) ∙ both.takes in
    let ended : filter_map (up_in r.links 1) (journal_b n) ≡ filter_map (up_in r.links 1) (ins n) = filter_map-append (up_in r.links 1) (ins n) (entry.Setting quiesce_dev 0 None ∷ []) ∙ append-nil (filter_map (up_in r.links 1) (ins n)) in
    let all : take n (sent_records p.a) ≡ sent_records p.a = ap (λ (m : ℕ). take m (sent_records p.a)) whole ∙ take-length (sent_records p.a) in
    ap (λ (es : List Entry). map (stamp_of plan) (came_up r.links 1 es)) entries
    ∙ ap (map (stamp_of plan)) ended
    ∙ first_stamps capture plan p r.links ends.packets (emptied_wire 1 0 []) n n links ends.tags whole (omega arith)
    ∙ ap (map (λ (x : Stamped). Some x)) all
