-- Why the wrong records are refused.
use Rattle.vmx_model_examples.specs.Guests.{quiesces}
use Rattle.std.proofs.Common.{append-nil, append_assoc}
use Rattle.vmx_model.specs.Lists.{EachAfter}
use Rattle.std.proofs.Common.{◌≡◌, ℕ, suc, ◌+◌, ◌<◌, List, [], ◌∷◌, ◌++◌, length, map, take, refl, ap, sym, ◌∙◌, arith, false, Some, None}
use Rattle.std.proofs.Common.{true, Bool}
use Rattle.std.specs.List.{slice_index}
use Rattle.std.specs.Prelude.{Ok}
use Rattle.vmx_device_state.specs.DeviceState.{Active}
use Rattle.vmx_device_state.specs.DeviceState.{DeviceState, Idle}
use Rattle.vmx_device_state.specs.ImageSetup.{image_setup}
use Rattle.vmx_device_state.specs.SetupView.{SetupView}
use Rattle.vmx_ends.specs.Marks.{mark_with, plain_mark}
use Rattle.vmx_ends.specs.Transmit.{TxView}
use Rattle.vmx_ends.specs.declared.frames.Sent.{Sent}
use Rattle.vmx_filters.specs.declared.answer.Rule.TheVariants as rule
use Rattle.vmx_filters.specs.declared.answer.Verdict.TheVariants as verdict
use Rattle.vmx_frame.specs.Ethernet.{class_of, is_tagged, tag_of}
use Rattle.vmx_frame.specs.Internet.{flow_of, payload_flow}
use Rattle.vmx_model.specs.Account.{Accounts, AccountsTx, AccountsGuest, beside}
use Rattle.vmx_model.specs.Journal.{Beside, IsLawful, IsShown, IsAdmitted, packet_at, state_at}
use Rattle.vmx_model.specs.Journal.{none_stopped}
use Rattle.vmx_model.specs.Lists.{upto}
use Rattle.vmx_model.specs.Meta.{whole}
use Rattle.vmx_model.specs.Plan.{posted_of}
use Rattle.vmx_model.specs.Plan.{ends_by_reset}
use Rattle.vmx_model.specs.Setups.{admits}
use Rattle.vmx_model.specs.Stats.{tx_counts}
use Rattle.vmx_model.specs.Totals.{wiring}
use Rattle.vmx_model.specs.declared.guest.GuestPlan.{GuestPlan}
use Rattle.vmx_model.specs.declared.plan.Plan.{Plan}
use Rattle.vmx_model.specs.declared.journal.Entry.{Entry}
use Rattle.vmx_model.specs.declared.journal.Fate.{Fate}
use Rattle.vmx_ends.specs.declared.packet.Packet.{Packet}
use Rattle.vmx_filters.specs.declared.answer.Rule.{Rule}
use Rattle.vmx_shared_area.specs.declared.setup.Setup.{Setup}
use Rattle.vmx_filters.specs.declared.answer.Verdict.{Verdict}
use Rattle.vmx_model.specs.Views.{GuestView, RecordView}
use Rattle.vmx_model.specs.declared.journal.Entry.TheVariants as entry
use Rattle.vmx_model.specs.declared.journal.Fate.TheVariants as fate
use Rattle.vmx_shared_area.specs.Tells.{Reads}
use Rattle.vmx_switch.specs.Ports.{Wiring}
use Rattle.vmx_model_examples.specs.Tags.{bare, other, up_as}
use Rattle.vmx_model_examples.specs.RightRecord.{frame, plain, sender, target, twelve, packet, links, sends, ups, ends_with, tx_facts, first_counts, unicast, sender_view, target_view}
use Rattle.vmx_model_examples.specs.WrongRecords.{one_more, idle_sender, idle_target, beside_queues, third_filtered, filtering_target, filtering, counting}
use Rattle.vmx_model_examples.proofs.RightRecord.{says}

-- what each entry shows, one shows
each_at : {X : Type 0} (P : List X → X → Type 0) (before xs : List X) (x : X) (ys : List X) → EachAfter P before (xs ++ x ∷ ys) → P (before ++ xs) x
each_at P before [] x ys h = rw (append-nil before) h.0
each_at {X} P before (y ∷ xs) x ys h = let e : (before ++ y ∷ []) ++ xs ≡ before ++ y ∷ xs = append_assoc before (y ∷ []) xs in rw e at (each_at P (before ++ y ∷ []) xs x ys h.1)

admitted_only : (b : Beside) (before : List Entry) (s : SetupView) (frame : List ℕ) (r : Rule) (w : Verdict) → w ≡ verdict.Yes → IsAdmitted b before s frame (fate.Filtered r) w → ⊥
admitted_only b before s frame r verdict.Yes e h = h
admitted_only b before s frame r (verdict.No r') e h = absurd (cc e)

-- a frame that an active guest lets in does not count as filtered: so neither does one that lacked a buffer
admitted_not_filtered : (b : Beside) (setups : List Setup) (before : List Entry) (from place : ℕ) (r : Rule) (p : Packet) (s : SetupView) → packet_at b.links from b.port place ≡ Some p → state_at b.told before ≡ Active s →
    admits s b.mac p.frame ≡ verdict.Yes → IsLawful b setups before (entry.In from place (fate.Filtered r)) → ⊥
admitted_not_filtered b setups before from place r p s at state lets h =
    let same : Some h.0 ≡ Some p = sym h.1 ∙ at in
    let same' : h.0 ≡ p = cc same in
    let shown : IsShown b before h.0.frame (fate.Filtered r) (Active s) = rw state at h.2 in
    admitted_only b before s h.0.frame r (admits s b.mac h.0.frame) (ap (λ (x : Packet). admits s b.mac x.frame) same' ∙ lets) shown

-- frames that went beside a transmit queue are refused: its facts would not have them
takes_nothing : (net : Wiring) (g : ℕ) (p : GuestPlan) (es : List Entry) (f : TxView) → f.taken ≡ [] → 0 < length (posted_of p f.made.name.activation f.made.name.queue) → ends_by_reset p f.made.name.activation ≡ false → AccountsTx net g p es f → ⊥
takes_nothing net g p es f none some reset h = let none' : length f.taken ≡ 0 = ap length none in omega (arith, h.whole reset, ap length h.sent, none', some)

abbrev first_count : List (List ℕ) → ℕ
first_count [] = 0
first_count ([] ∷ rest) = 0
first_count ((c ∷ cs) ∷ rest) = c

pub one_more_refused : (plan : Plan) (r : RecordView) (g : ℕ) (p : GuestPlan) (v : GuestView) → v.tx_stats ≡ one_more (tx_counts v.tx v.entries) → AccountsGuest plan r g p v → ⊥
one_more_refused plan r g p v more h = let e : suc 0 ≡ 0 = ap first_count (sym more ∙ h.tx_stats) in omega (arith, e)

-- ------------------------------------------------------------ records that would account but for one fault

-- what the accounts say of the two guests
of_sender : (v w : GuestView) → Accounts twelve (record { guests = v ∷ w ∷ []; links = links }) → AccountsGuest twelve (record { guests = v ∷ w ∷ []; links = links }) 0 sender v
of_sender v w h = h.each 0 sender v refl refl

of_target : (v w : GuestView) → Accounts twelve (record { guests = v ∷ w ∷ []; links = links }) → AccountsGuest twelve (record { guests = v ∷ w ∷ []; links = links }) 1 target w
of_target v w h = h.each 1 target w refl refl

pub invents_fates : (image : List ℕ) → Accounts twelve (beside_queues image) → ⊥
unfolding flow_of payload_flow is_tagged
invents_fates image h = let some : 0 < 12 = omega arith in takes_nothing (wiring twelve.guests) 0 sender sends (tx_facts sender 0 []) refl some refl (of_sender (idle_sender image) (idle_target image) h).tx.0

-- what the journal of its target would have to show
filtered_entry : (image : List ℕ) (before after : List Entry) (f : Fate) (place : ℕ) → Accounts twelve (filtering image (before ++ entry.In 0 place f ∷ after)) → IsLawful (beside (filtering image (before ++ entry.In 0 place f ∷ after)) 1 target (filtering_target image (before ++ entry.In 0 place f ∷ after))) (plain ∷ []) before (entry.In 0 place f)
filtered_entry image before after f place h =
    each_at (IsLawful (beside (filtering image (before ++ entry.In 0 place f ∷ after)) 1 target (filtering_target image (before ++ entry.In 0 place f ∷ after))) (plain ∷ [])) [] before (entry.In 0 place f) after
    (of_target (sender_view image) (filtering_target image (before ++ entry.In 0 place f ∷ after)) h).lawful.each

admits_frame : (image : List ℕ) → Reads image (Ok plain) → admits (image_setup image) target.mac frame ≡ verdict.Yes
unfolding admits class_of is_tagged tag_of
admits_frame image holds = rw (says image holds) refl

pub filters_an_admitted_frame : (image : List ℕ) → Reads image (Ok plain) → Accounts twelve (filtering image third_filtered) → ⊥
filters_an_admitted_frame image holds h =
    admitted_not_filtered (beside (filtering image third_filtered) 1 target (filtering_target image third_filtered)) (plain ∷ []) (take 3 ups) 0 2 rule.Unicast (packet 2) (image_setup image) refl refl (admits_frame image holds)
    (filtered_entry image (take 3 ups) (map (λ k. entry.In 0 (k + 1) (fate.Up 0 0 k)) (upto 2 9) ++ quiesces ∷ []) (fate.Filtered rule.Unicast) 2 h)

-- the last frame, which lacked a buffer, is marked as filtered
pub marks_no_buffer_as_filtered : (image : List ℕ) → Reads image (Ok plain) → Accounts twelve (filtering image (ends_with (fate.Filtered rule.Unicast))) → ⊥
marks_no_buffer_as_filtered image holds h =
    admitted_not_filtered (beside (filtering image (ends_with (fate.Filtered rule.Unicast))) 1 target (filtering_target image (ends_with (fate.Filtered rule.Unicast)))) (plain ∷ []) ups 0 11 rule.Unicast (packet 11) (image_setup image) refl refl (admits_frame image holds)
    (filtered_entry image ups (quiesces ∷ []) (fate.Filtered rule.Unicast) 11 h)

-- a count of the first queue
abbrev count_at : ℕ → List (List ℕ) → ℕ
count_at i [] = 0
count_at i (c ∷ cs) = slice_index c i

came_counts_are : (image : List ℕ) (ss cs : List (List ℕ)) → Accounts twelve (counting image ss cs) → cs ≡ first_counts (unicast 11 1 0)
unfolding class_of
came_counts_are image ss cs h = (of_target (record (sender_view image) { tx_stats = ss }) (record (target_view image) { rx_stats = cs }) h).rx_stats

sent_counts_are : (image : List ℕ) (ss cs : List (List ℕ)) → Accounts twelve (counting image ss cs) → ss ≡ first_counts (unicast 12 0 0)
unfolding class_of
sent_counts_are image ss cs h = (of_sender (record (sender_view image) { tx_stats = ss }) (record (target_view image) { rx_stats = cs }) h).tx_stats

-- the frame that lacked a buffer is counted nowhere, as a filtered one
pub counts_no_buffer_as_filtered : (image : List ℕ) → Accounts twelve (counting image (first_counts (unicast 12 0 0)) (first_counts (unicast 11 0 0))) → ⊥
counts_no_buffer_as_filtered image h = let e : 0 ≡ 1 = ap (count_at 8) (came_counts_are image _ _ h) in omega (arith, e)

-- it is counted twice; and so is a frame that was sent
pub counts_twice : (image : List ℕ) → Accounts twelve (counting image (first_counts (unicast 12 0 0)) (first_counts (unicast 11 2 0))) → ⊥
counts_twice image h = let e : 2 ≡ 1 = ap (count_at 8) (came_counts_are image _ _ h) in omega (arith, e)

pub counts_a_sent_frame_twice : (image : List ℕ) → Accounts twelve (counting image (first_counts (unicast 13 0 0)) (first_counts (unicast 11 1 0))) → ⊥
counts_a_sent_frame_twice image h = let e : 13 ≡ 12 = ap (count_at 2) (sent_counts_are image _ _ h) in omega (arith, e)

-- ------------------------------------------------------------ tags and stopped queues

pub loses_the_mark : (f : Sent) → f ≡ record { frame = bare; mark = plain_mark } → f ≡ record { frame = bare; mark = mark_with (Some 5) } → ⊥
loses_the_mark f e e' = let tci : None ≡ Some 5 = ap (λ (s : Sent). s.mark.tci) (sym e ∙ e') in absurd (cc tci)

pub loses_the_tci : whole (up_as 0 bare None) ≡ other → ⊥
loses_the_tci e = let n : ◌≡◌ {A = ℕ} 14 18 = ap length e in omega (arith, n)

-- a stopped queue: no record has one
stopped_by : (b : Beside) (before : List Entry) (s : SetupView) (frame : List ℕ) (a q : ℕ) (w : Verdict) → b.stopped ≡ none_stopped → IsAdmitted b before s frame (fate.Stopped a q) w → ⊥
stopped_by b before s frame a q verdict.Yes none h = let e : false ≡ true = sym (ap (λ (k : List Entry → Fate → ℕ → Bool). k before (fate.Stopped a q) q) none) ∙ h.2 in absurd (cc e)
stopped_by b before s frame a q (verdict.No r) none h = absurd (cc h)

stopped_shown : (b : Beside) (before : List Entry) (frame : List ℕ) (a q : ℕ) (d : DeviceState) → b.stopped ≡ none_stopped → IsShown b before frame (fate.Stopped a q) d → ⊥
stopped_shown b before frame a q Idle none h = absurd (cc h)
stopped_shown b before frame a q (Active s) none h = stopped_by b before s frame a q (admits s b.mac frame) none h

pub stops_no_queue : (r : RecordView) (g : ℕ) (p : GuestPlan) (v : GuestView) (setups : List Setup) (before : List Entry) (from place a q : ℕ) → IsLawful (beside r g p v) setups before (entry.In from place (fate.Stopped a q)) → ⊥
stops_no_queue r g p v setups before from place a q h = stopped_shown (beside r g p v) before h.0.frame a q (state_at v.told before) refl h.2
