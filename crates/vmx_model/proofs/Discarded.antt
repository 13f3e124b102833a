-- A frame is discarded in an activation alone that a scripted reset ended.
use Rattle.std.proofs.Common.{◌≡◌, ℕ, ◌+◌, ◌<◌, List, [], ◌∷◌, ◌++◌, length, map, refl, ap, sym, ◌∙◌, subst, arith, nat_eq, nat_le, true, false, Bool, ◌&&◌, Option, Some, None}
use Rattle.std.specs.Prelude.{nat_lt}
use Rattle.std.proofs.lemmas.Bool.Decides.{nat_tests}
use Rattle.std.proofs.lemmas.Option.{slice_get_within}
use Rattle.std.proofs.lemmas.List.{length-map}
use Rattle.std.specs.List.{flat_map, slice_get, AllByRecursion}
use Rattle.vmx_filters.specs.declared.answer.Verdict.TheVariants as verdict
use Rattle.vmx_ends.specs.Transmit.{TxView}
use Rattle.vmx_device_state.specs.SetupView.{SetupView}
use Rattle.vmx_device_state.specs.DeviceState.{DeviceState, Idle, Active}
use Rattle.vmx_model.specs.declared.journal.Entry.TheVariants as entry
use Rattle.vmx_model.specs.declared.journal.Fate.TheVariants as fate
use Rattle.vmx_model.specs.declared.journal.Way.TheVariants as way
use Rattle.vmx_model.specs.declared.sending.Sending.TheVariants as sending
use Rattle.vmx_model.specs.Types.{GuestPlan, Plan, Tag, Entry, Fate, Way, Setup, Verdict}
use Rattle.vmx_model.specs.Lists.{EachAfter}
use Rattle.vmx_model.specs.Totals.{wiring}
use Rattle.vmx_model.specs.Setups.{admits}
use Rattle.vmx_model.specs.Wire.{targets, tx_queue}
use Rattle.vmx_model.specs.Plan.{Captured, captured, wire, verdict_on, goes_on, is_down, activation_at, place_of, frames_of, posted_of, sent_on, ends_by_reset}
use Rattle.vmx_model.specs.Views.{GuestView, RecordView}
use Rattle.vmx_model.specs.Journal.{Beside, IsLawful, IsTaken, IsAdmitted, IsShown, state_at}
use Rattle.vmx_model.specs.Fates.{arrivals, ways, way_fates, copy_fates, tx_named, taken_at, entries_at, entries_or_none, sent_fates, tag_at, fates_of}
use Rattle.vmx_model.specs.Account.{Accounts, AccountsGuest, AccountsTx, beside}
use Rattle.vmx_model.specs.AccountLaws.{IsNotDiscarded}
use Rattle.vmx_model.proofs.Found.{found_passes, found_holds, finds_tx, activation_within}
use Rattle.vmx_model.proofs.Tags.{all_append}
use Rattle.vmx_model.proofs.Copies.{same_name, frame_at, tx_queue_below}
use Rattle.vmx_model.proofs.Parts.{plan_of}

-- ------------------------------------------------------------ arrivals

taken_kept : (b : Beside) (before : List Entry) (s : SetupView) (frame : List ℕ) (f : Fate) → IsTaken b before s frame f → IsNotDiscarded f
taken_kept b before s frame (fate.Up a q place) h = tt
taken_kept b before s frame (fate.NoBuffer a q ring position look) h = tt
taken_kept b before s frame (fate.Stopped a q) h = tt
taken_kept b before s frame (fate.LinkFull look) h = tt
taken_kept b before s frame fate.Inactive h = tt
taken_kept b before s frame (fate.Filtered r) h = tt
taken_kept b before s frame fate.Discarded h = h
taken_kept b before s frame fate.NoPort h = tt
taken_kept b before s frame fate.Down h = tt
taken_kept b before s frame fate.Short h = tt
taken_kept b before s frame fate.TooLong h = tt

admitted_kept : (b : Beside) (before : List Entry) (s : SetupView) (frame : List ℕ) (f : Fate) (w : Verdict) → IsAdmitted b before s frame f w → IsNotDiscarded f
admitted_kept b before s frame f verdict.Yes h = taken_kept b before s frame f h
admitted_kept b before s frame f (verdict.No r) h = subst IsNotDiscarded (sym h) tt

shown_kept : (b : Beside) (before : List Entry) (frame : List ℕ) (f : Fate) (d : DeviceState) → IsShown b before frame f d → IsNotDiscarded f
shown_kept b before frame f Idle h = subst IsNotDiscarded (sym h) tt
shown_kept b before frame f (Active s) h = admitted_kept b before s frame f (admits s b.mac frame) h

-- no packet that arrived was discarded
arrived_kept : (b : Beside) (setups : List Setup) (sender at : ℕ) (before es : List Entry) → EachAfter (IsLawful b setups) before es → AllByRecursion IsNotDiscarded (arrivals sender at es)
arrived_kept b setups sender at before [] h = tt
arrived_kept b setups sender at before (entry.Setting number answer setup ∷ es) h = arrived_kept b setups sender at (before ++ entry.Setting number answer setup ∷ []) es h.1
arrived_kept b setups sender at before (entry.Out tag target w ∷ es) h = arrived_kept b setups sender at (before ++ entry.Out tag target w ∷ []) es h.1
arrived_kept b setups sender at before (entry.Lost tag ∷ es) h = arrived_kept b setups sender at (before ++ entry.Lost tag ∷ []) es h.1
arrived_kept b setups sender at before (entry.In from place f ∷ es) h = step (nat_eq from sender && nat_eq place at) refl (arrived_kept b setups sender at (before ++ entry.In from place f ∷ []) es h.1)
  where
    step : (c : Bool) → (nat_eq from sender && nat_eq place at) ≡ c → AllByRecursion IsNotDiscarded (arrivals sender at es) → AllByRecursion IsNotDiscarded (arrivals sender at (entry.In from place f ∷ es))
    step true e ih = rw e (shown_kept b before h.0.0.frame f (state_at b.told before) h.0.2, ih)
    step false e ih = rw e ih

-- of any target
came_kept : (plan : Plan) (r : RecordView) → Accounts plan r → (sender at to : ℕ) → AllByRecursion IsNotDiscarded (arrivals sender at (entries_at r to))
came_kept plan r h sender at to = step (slice_get r.guests to) refl
  where
    step : (o : Option GuestView) → slice_get r.guests to ≡ o → AllByRecursion IsNotDiscarded (arrivals sender at (entries_or_none o))
    step None e = tt
    step (Some v) e =
        let p = plan_of plan r to v h.guests e in
        let guest : AccountsGuest plan r to p.0 v = h.each to p.0 v p.1 e in
        arrived_kept (beside r to p.0 v) v.setups sender at [] v.entries guest.lawful.each

-- ------------------------------------------------------------ copies

way_kept : (plan : Plan) (r : RecordView) → Accounts plan r → (sender to : ℕ) (w : Way) → AllByRecursion IsNotDiscarded (way_fates sender (entries_at r to) w)
way_kept plan r h sender to (way.Full look) = (tt, tt)
way_kept plan r h sender to (way.Link place) = came_kept plan r h sender place to

ways_kept : (plan : Plan) (r : RecordView) → Accounts plan r → (sender to : ℕ) (ws : List Way) → AllByRecursion IsNotDiscarded (flat_map (way_fates sender (entries_at r to)) ws)
ways_kept plan r h sender to [] = tt
ways_kept plan r h sender to (w ∷ ws) = all_append IsNotDiscarded (way_fates sender (entries_at r to) w) (flat_map (way_fates sender (entries_at r to)) ws) (way_kept plan r h sender to w) (ways_kept plan r h sender to ws)

copy_kept : (plan : Plan) (r : RecordView) → Accounts plan r → (t : Tag) (to taken : ℕ) (sent : List Entry) → t.place < taken → AllByRecursion IsNotDiscarded (copy_fates taken sent (entries_at r to) t to)
copy_kept plan r h t to taken sent lt = let e : nat_lt t.place taken ≡ true = grind (arith, nat_tests) in rw e (ways_kept plan r h t.guest to (ways t to sent))

copies_kept : (plan : Plan) (r : RecordView) → Accounts plan r → (t : Tag) (tos : List ℕ) → t.place < taken_at r t.guest t.activation t.queue → AllByRecursion (AllByRecursion IsNotDiscarded) (map (λ p. copy_fates (taken_at r t.guest t.activation t.queue) (entries_at r t.guest) (entries_at r p) t p) tos)
copies_kept plan r h t [] lt = tt
copies_kept plan r h t (to ∷ tos) lt = (copy_kept plan r h t to (taken_at r t.guest t.activation t.queue) (entries_at r t.guest) lt, copies_kept plan r h t tos lt)

sent_kept : (plan : Plan) (r : RecordView) → Accounts plan r → (t : Tag) (tos : List ℕ) → t.place < taken_at r t.guest t.activation t.queue → AllByRecursion (AllByRecursion IsNotDiscarded) (sent_fates r t tos)
sent_kept plan r h t [] lt = ((tt, tt), tt)
sent_kept plan r h t (to ∷ tos) lt = copies_kept plan r h t (to ∷ tos) lt

-- ------------------------------------------------------------ the law

-- a frame that goes on a queue of an activation that no reset ended was taken
was_taken : (plan : Plan) (r : RecordView) → Accounts plan r → (g : ℕ) (p : GuestPlan) (v : GuestView) → slice_get plan.guests g ≡ Some p → slice_get r.guests g ≡ Some v →
    (c : Captured) → slice_get (captured p) c.number ≡ Some c → (a q : ℕ) → a ≡ activation_at p c.number → q ≡ tx_queue c.posted.frame p.setup.tx_queues → goes_on p a q c ≡ true → ends_by_reset p a ≡ false → place_of p a q c.number < taken_at r g a q
was_taken plan r h g p v at here c there a q ea eq goes reset =
    let guest : AccountsGuest plan r g p v = h.each g p v at here in
    let some : 0 < p.setup.tx_queues = let low = p.setup.tx_queues_low in omega arith in
    let lq : q < p.setup.tx_queues = rw eq (tx_queue_below c.posted.frame p.setup.tx_queues some) in
    let found = finds_tx p g p.setup.tx_queues a q v.tx guest.tx_names (rw ea (activation_within p c.number)) lq in
    let f : TxView = found.0 in
    let tx : AccountsTx (wiring plan.guests) g p v.entries f = found_holds (AccountsTx (wiring plan.guests) g p v.entries) (tx_named a q) v.tx f found.1 guest.tx in
    let name = same_name f.made.name.activation f.made.name.queue a q (found_passes (tx_named a q) v.tx f found.1) in
    let all : length f.taken ≡ length f.sent = tx.whole (ap (ends_by_reset p) name.0 ∙ reset) in
    let sent : f.sent ≡ posted_of p a q = tx.sent ∙ rw (name.0, name.1) refl in
    let within : place_of p a q c.number < length (frames_of p a q) = slice_get_within (frames_of p a q) (place_of p a q c.number) (wire c) (frame_at p c a q there goes) in
    let taken : taken_at r g a q ≡ length f.taken = rw (here, found.1) refl in
    omega (arith, within, taken, all, ap length sent, length-map (sent_on p a q) wire, length-map (sent_on p a q) (λ (c : Captured). c.posted))

-- so none of its copies is discarded
pub none_discarded : (plan : Plan) (r : RecordView) → Accounts plan r → (g : ℕ) (p : GuestPlan) (v : GuestView) → slice_get plan.guests g ≡ Some p → slice_get r.guests g ≡ Some v →
    (c : Captured) → slice_get (captured p) c.number ≡ Some c → (a q k : ℕ) → verdict_on p c ≡ sending.Sent a q k → ends_by_reset p a ≡ false → AllByRecursion (AllByRecursion IsNotDiscarded) (fates_of plan r g p c)
none_discarded plan r h g p v at here c there a q k sent reset = step (is_down p c.number) (nat_lt (length c.posted.frame) 14) (nat_lt (p.setup.mtu + 18) (length (wire c))) refl refl refl
  where
    is_sent : (x y z : ℕ) → sending.Sent x y z ≡ sending.Sent a q k → x ≡ a
    is_sent x y z e = cc e

    step : (b1 b2 b3 : Bool) → is_down p c.number ≡ b1 → nat_lt (length c.posted.frame) 14 ≡ b2 → nat_lt (p.setup.mtu + 18) (length (wire c)) ≡ b3 → AllByRecursion (AllByRecursion IsNotDiscarded) (fates_of plan r g p c)
    step true b2 b3 e1 e2 e3 = rw e1 ((tt, tt), tt)
    step false true b3 e1 e2 e3 = rw (e1, e2) ((tt, tt), tt)
    step false false true e1 e2 e3 = rw (e1, e2, e3) ((tt, tt), tt)
    step false false false e1 e2 e3 =
        let a' : ℕ = activation_at p c.number in
        let q' : ℕ = tx_queue c.posted.frame p.setup.tx_queues in
        let l1 : nat_le 14 (length c.posted.frame) ≡ true = grind (arith, nat_tests) in
        let l2 : nat_le (length (wire c)) (p.setup.mtu + 18) ≡ true = grind (arith, nat_tests) in
        let sa : nat_eq (activation_at p c.number) (activation_at p c.number) ≡ true = grind (arith, nat_tests) in
        let sq : nat_eq (tx_queue c.posted.frame p.setup.tx_queues) (tx_queue c.posted.frame p.setup.tx_queues) ≡ true = grind (arith, nat_tests) in
        let goes : goes_on p (activation_at p c.number) (tx_queue c.posted.frame p.setup.tx_queues) c ≡ true = rw (e1, l1, l2, sa, sq) refl in
        let same : sending.Sent (activation_at p c.number) (tx_queue c.posted.frame p.setup.tx_queues) (place_of p (activation_at p c.number) (tx_queue c.posted.frame p.setup.tx_queues) c.number) ≡ sending.Sent a q k = rw (e1, e2, e3) at sent in
        let reset' : ends_by_reset p (activation_at p c.number) ≡ false = ap (ends_by_reset p) (is_sent _ _ _ same) ∙ reset in
        rw (e1, e2, e3) (sent_kept plan r h (tag_at g (activation_at p c.number) (tx_queue c.posted.frame p.setup.tx_queues) (place_of p (activation_at p c.number) (tx_queue c.posted.frame p.setup.tx_queues) c.number)) (targets (wiring plan.guests) g (wire c))
        (was_taken plan r h g p v at here c there (activation_at p c.number) (tx_queue c.posted.frame p.setup.tx_queues) refl refl goes reset'))
