-- At the end of the serial run all that was delivered is received.
use Rattle.std.proofs.Common.{◌≡◌, ℕ, zero, suc, ◌+◌, ◌-◌, ◌%◌, ◌<◌, ◌≤◌, List, [], ◌∷◌, ◌++◌, length, map, refl, arith, nat_eq, true, false, Bool, subst, inl, inr, ◌⊎◌, Option, Some, None, length-append, if◌then◌else◌}
use Rattle.std.proofs.lemmas.Bool.Decides.{eqb_tells}
use Rattle.std.specs.List.{filter, find, slice_get, AllByRecursion}
use Rattle.std.specs.Prelude.{nat_lt}
use Rattle.std.proofs.lemmas.Bool.Decides.{nat_tests}
use Rattle.vmx_filters.specs.declared.answer.Verdict.TheVariants as verdict
use Rattle.vmx_ends.specs.Core.{Outcome, takes, misses}
use Rattle.vmx_ends.specs.ReceiveCore.{RxCore, comes_to, after_delivery}
use Rattle.vmx_model.specs.declared.deeds.Deed.TheVariants as deed
use Rattle.vmx_model.specs.declared.journal.Entry.TheVariants as entry
use Rattle.vmx_model.specs.declared.journal.Fate.TheVariants as fate
use Rattle.vmx_model.specs.declared.journal.Way.TheVariants as way
use Rattle.vmx_model.specs.declared.sending.Sending.TheVariants as sending
use Rattle.vmx_ends.specs.declared.frames.Sent.{Sent}
use Rattle.vmx_model.specs.Totals.{wiring}
use Rattle.vmx_model.specs.Types.{Plan, GuestPlan, Action, Deed, Tag, Sending, Fate, Verdict}
use Rattle.vmx_model.specs.Lists.{upto}
use Rattle.vmx_model.specs.Setups.{admits}
use Rattle.vmx_model.specs.Meta.{Arrival, delivered_as}
use Rattle.vmx_model.specs.Wire.{wire_form, targets, rx_queue}
use Rattle.vmx_model.specs.Plan.{quiesce_dev, reset_dev, Captured, captured, verdict_on, deed_commands, changed}
use Rattle.vmx_model.specs.Serial.{World, Seat, where_it, at_number, noted, arrived, reaches, spread, sent_by, sends, acted, done, updated_by, activated, quieted, set_command, active_setting, quiet_setting, polled_if, emptied, drained, polls, poll, pending, received_next, is_of, rx_is, marked, tried, fate_at, fate_in_turn, fate_on, fate_with, new_rx, transmitted, turn_of, start, seats_from, fresh, closed, serial_run, last_number, rounds, pushed_on, mac_of}
use Rattle.vmx_model.proofs.Lists.{all_weaker}
use Rattle.vmx_model.proofs.Tags.{all_append}
use Rattle.vmx_model.proofs.Copies.{same_name}
use Rattle.vmx_model.proofs.Folds.{fold_keeps, at_number_all, all_map_of, rounds_keep}

abbrev IsReceived : RxCore → Type 0
IsReceived c = c.received ≡ length c.delivered

-- a queue is received whole, or belongs to the activation that goes on
abbrev CoreOk : Bool → ℕ → RxCore → Type 0
CoreOk active begun c = (c.received ≤ length c.delivered) × (suc c.made.name.activation ≤ begun) × (IsReceived c ⊎ ((active ≡ true) × (suc c.made.name.activation ≡ begun)))

abbrev RxOk : Seat → Type 0
RxOk s = AllByRecursion (CoreOk s.active s.begun) s.rx

-- so many polls receive it whole
abbrev Lacks : ℕ → ℕ → RxCore → Type 0
Lacks begun n c = (c.received ≤ length c.delivered) × (suc c.made.name.activation ≤ begun) × (IsReceived c ⊎ ((suc c.made.name.activation ≡ begun) × (length c.delivered ≤ c.received + n)))

received_less : (begun n : ℕ) (c : RxCore) → Lacks begun (suc n) c → Lacks begun n (received_next c)
received_less begun n c h = step (nat_lt c.received (length c.delivered)) refl
  where
    step : (b : Bool) → nat_lt c.received (length c.delivered) ≡ b → Lacks begun n (if b then record c { received = suc c.received } else c)
    step true e = let lt : c.received < length c.delivered = grind (arith, nat_tests) in (omega (arith, lt), h.1, elim h.2 [ inl w ↦ absurd (omega (arith, lt, w)) | inr w ↦ inr (w.0, omega (arith, w.1)) ])
    step false e = let le : length c.delivered ≤ c.received = grind (arith, nat_tests) in (h.0, h.1, inl (omega (arith, le, h.0)))

poll_less : (begun n : ℕ) (c : RxCore) → Lacks begun (suc n) c → Lacks begun n (if nat_eq c.made.name.activation (begun - 1) then received_next c else c)
poll_less begun n c h = elim (eqb_tells c.made.name.activation (begun - 1)) [
  | inl p ↦ rw p.0 (received_less begun n c h)
  | inr p ↦ rw p.0 (h.0, h.1, elim h.2 [ inl w ↦ inl w | inr w ↦ absurd (p.1 (omega (arith, w.0))) ])
]

all_polled : (begun n : ℕ) (cs : List RxCore) → AllByRecursion (Lacks begun (suc n)) cs → AllByRecursion (Lacks begun n) (where_it (is_of (begun - 1)) received_next cs)
all_polled begun n [] h = tt
all_polled begun n (c ∷ cs) h = (poll_less begun n c h.0, all_polled begun n cs h.1)

polls_all : (begun n : ℕ) (s : Seat) → AllByRecursion (Lacks begun n) s.rx → AllByRecursion (Lacks begun 0) (polls (begun - 1) n s).rx
polls_all begun zero s h = h
polls_all begun (suc n) s h = polls_all begun n (poll (begun - 1) s) (all_polled begun n s.rx h)

-- as many polls as frames are pending are enough
pending_enough : (active : Bool) (begun n : ℕ) (cs : List RxCore) → AllByRecursion (CoreOk active begun) cs → pending cs ≤ n → AllByRecursion (Lacks begun n) cs
pending_enough active begun n [] h le = tt
pending_enough active begun n (c ∷ cs) h le = ((h.0.0, h.0.1, elim h.0.2 [ inl w ↦ inl w | inr w ↦ inr (w.1, omega (arith, le, h.0.0)) ]), pending_enough active begun n cs h.1 (omega (arith, le)))

-- received whole, and of an activation that began
abbrev Settled : ℕ → RxCore → Type 0
Settled begun c = (suc c.made.name.activation ≤ begun) × IsReceived c

settled_core : (begun : ℕ) (c : RxCore) → Lacks begun 0 c → Settled begun c
settled_core begun c h = (h.1, elim h.2 [ inl w ↦ w | inr w ↦ omega (arith, w.1, h.0) ])

still_core : (begun : ℕ) (c : RxCore) → CoreOk false begun c → Settled begun c
still_core begun c h = (h.1, elim h.2 [ inl w ↦ w | inr w ↦ absurd (cc (w.0)) ])

ok_core : (active : Bool) (begun : ℕ) (c : RxCore) → Settled begun c → CoreOk active begun c
ok_core active begun c h = (omega (arith, h.1), h.0, inl h.1)

abbrev SeatSettled : ℕ → Seat → Type 0
SeatSettled begun s = AllByRecursion (Settled begun) s.rx

picked_settled : (b : Bool) (begun : ℕ) (x s : Seat) → (b ≡ true → SeatSettled begun x) → (b ≡ false → SeatSettled begun s) → SeatSettled begun (if b then x else s)
picked_settled true begun x s h k = h refl
picked_settled false begun x s h k = k refl

emptied_settled : (active : Bool) (s : Seat) → AllByRecursion (CoreOk active s.begun) s.rx → SeatSettled s.begun (emptied s)
unfolding emptied
emptied_settled active s h = all_weaker (Lacks s.begun 0) (Settled s.begun) (settled_core s.begun) _ (polls_all s.begun (pending s.rx) s (pending_enough active s.begun (pending s.rx) s.rx h (omega arith)))

drained_settled : (s : Seat) → RxOk s → SeatSettled s.begun (drained s)
unfolding drained
drained_settled s h = picked_settled s.active s.begun (emptied s) s (λ e. emptied_settled s.active s h)
    (λ e. all_weaker (CoreOk false s.begun) (Settled s.begun) (still_core s.begun) s.rx (subst (λ (b : Bool). AllByRecursion (CoreOk b s.begun) s.rx) e h))

polls_begun : (a n : ℕ) (s : Seat) → ((polls a n s).begun ≡ s.begun) × ((polls a n s).active ≡ s.active)
polls_begun a zero s = (refl, refl)
polls_begun a (suc n) s = polls_begun a n (poll a s)

picked_same : (b : Bool) (x s : Seat) → (x.begun ≡ s.begun) × (x.active ≡ s.active) → ((if b then x else s).begun ≡ s.begun) × ((if b then x else s).active ≡ s.active)
picked_same true x s e = e
picked_same false x s e = (refl, refl)

emptied_same : (s : Seat) → ((emptied s).begun ≡ s.begun) × ((emptied s).active ≡ s.active)
unfolding emptied
emptied_same s = polls_begun (s.begun - 1) (pending s.rx) s

drained_same : (s : Seat) → ((drained s).begun ≡ s.begun) × ((drained s).active ≡ s.active)
unfolding drained
drained_same s = picked_same s.active (emptied s) s (emptied_same s)

drained_ok : (s : Seat) → RxOk s → RxOk (drained s)
drained_ok s h = rw (drained_same s).0 (all_weaker (Settled s.begun) (CoreOk (drained s).active s.begun) (ok_core (drained s).active s.begun) (drained s).rx (drained_settled s h))

quieted_settled : (number : ℕ) (s : Seat) → RxOk s → SeatSettled s.begun (quieted number s)
quieted_settled number s h = emptied_settled s.active (record (quiet_setting number s) { active = false }) h

quieted_ok : (number : ℕ) (s : Seat) → RxOk s → RxOk (quieted number s)
quieted_ok number s h =
    let same = emptied_same (record (quiet_setting number s) { active = false }) in
    rw (same.0, same.1) (all_weaker (Settled s.begun) (CoreOk false s.begun) (ok_core false s.begun) (quieted number s).rx (quieted_settled number s h))

-- an activation of a quiet guest
full_ok : (port : ℕ) (g : GuestPlan) (begun q : ℕ) → CoreOk true (begun + 1) (new_rx port g begun q)
full_ok port g begun q = (omega arith, omega arith, inl refl)

activated_ok : (port : ℕ) (g : GuestPlan) (s : Seat) → SeatSettled s.begun s → RxOk (activated port g s)
activated_ok port g s h = all_append (CoreOk true (s.begun + 1)) s.rx (map (new_rx port g s.begun) (upto 0 g.setup.rx_queues))
    (all_weaker (Settled s.begun) (CoreOk true (s.begun + 1)) (λ c k. (omega (arith, k.1), omega (arith, k.0), inl k.1)) s.rx h)
    (all_map_of (CoreOk true (s.begun + 1)) (new_rx port g s.begun) (full_ok port g s.begun) (upto 0 g.setup.rx_queues))

-- ------------------------------------------------------------ deeds

pick_ok : (b : Bool) (x s : Seat) → (b ≡ true → RxOk x) → (b ≡ false → RxOk s) → RxOk (if b then x else s)
pick_ok true x s h k = h refl
pick_ok false x s h k = k refl

-- all of a quiet guest is received
still_settled : (s : Seat) → RxOk s → s.active ≡ false → SeatSettled s.begun s
still_settled s h e = all_weaker (CoreOk false s.begun) (Settled s.begun) (still_core s.begun) s.rx (subst (λ (b : Bool). AllByRecursion (CoreOk b s.begun) s.rx) e h)

commanded_ok : (s : Seat) (number : ℕ) → RxOk s → RxOk (set_command s number)
commanded_ok s number h = pick_ok s.active (active_setting number s) (quiet_setting number s) (λ e. h) (λ e. h)

reset_ok : (port : ℕ) (g : GuestPlan) (s : Seat) → RxOk s → RxOk (activated port g (quieted reset_dev s))
reset_ok port g s h = activated_ok port g (quieted reset_dev s) (rw (emptied_same (record (quiet_setting reset_dev s) { active = false })).0 (quieted_settled reset_dev s h))

updated_ok : (d : Deed) (s : Seat) → RxOk s → RxOk (updated_by d s)
updated_ok d s h = fold_keeps RxOk set_command commanded_ok (deed_commands d) (record s { setup = changed s.setup d }) h

done_ok : (port : ℕ) (g : GuestPlan) (d : Deed) (s : Seat) → RxOk s → RxOk (done port g d s)
done_ok port g deed.Quiesce s h = quieted_ok quiesce_dev s h
done_ok port g deed.Activate s h = pick_ok s.active s (activated port g s) (λ e. h) (λ e. activated_ok port g s (still_settled s h e))
done_ok port g deed.Reset s h = reset_ok port g s h
done_ok port g (deed.Mode m) s h = updated_ok (deed.Mode m) s h
done_ok port g (deed.Multicast t) s h = updated_ok (deed.Multicast t) s h
done_ok port g (deed.Vlans t) s h = updated_ok (deed.Vlans t) s h
done_ok port g (deed.Rss n t) s h = updated_ok (deed.Rss n t) s h

acted_ok : (port : ℕ) (g : GuestPlan) (n : ℕ) (s : Seat) → RxOk s → RxOk (acted port g n s)
acted_ok port g n s h = fold_keeps RxOk (λ s (a : Action). done port g a.deed s) (λ s a k. done_ok port g a.deed s k) (filter (λ (a : Action). nat_eq a.at n) g.script) s h

-- ------------------------------------------------------------ copies

-- a fate that marks a queue names the activation that goes on
abbrev Marks : Bool → ℕ → Fate → Type 0
Marks active begun (fate.Up a q place) = (active ≡ true) × (a ≡ begun - 1)
Marks active begun (fate.NoBuffer a q ring position look) = (active ≡ true) × (a ≡ begun - 1)
Marks active begun f = Unit {0}

with_marks : (active : Bool) (begun a q : ℕ) (c : RxCore) (o : Outcome) → active ≡ true → a ≡ begun - 1 → Marks active begun (fate_with a q c o)
with_marks active begun a q c (takes passed end) h k = (h, k)
with_marks active begun a q c (misses ring position looks) h k = (h, k)

on_marks : (active : Bool) (begun a q : ℕ) (f : Arrival) (o : Option RxCore) → active ≡ true → a ≡ begun - 1 → Marks active begun (fate_on a q f o)
on_marks active begun a q f None h k = tt
on_marks active begun a q f (Some c) h k = with_marks active begun a q c (comes_to c (length f.frame)) h k

by_marks : (s : Seat) (f : List ℕ) (v : Verdict) → s.active ≡ true → Marks s.active s.begun (fate_in_turn s f v)
by_marks s f (verdict.No r) h = tt
by_marks s f verdict.Yes h = on_marks s.active s.begun (s.begun - 1) (rx_queue s.setup.rss f) (delivered_as s.setup f) (find (rx_is (s.begun - 1) (rx_queue s.setup.rss f)) s.rx) h refl

pick_marks : (b active : Bool) (begun : ℕ) (x : Fate) → (b ≡ true → Marks active begun x) → Marks active begun (if b then x else fate.Inactive)
pick_marks true active begun x h = h refl
pick_marks false active begun x h = tt

fate_marks : (s : Seat) (mac f : List ℕ) → Marks s.active s.begun (fate_at s mac f)
fate_marks s mac f = pick_marks s.active s.active s.begun (fate_in_turn s f (admits s.setup mac f)) (λ e. by_marks s f (admits s.setup mac f) e)

-- a change of the named queues that adds frames at most
marked_where : (active : Bool) (begun a q : ℕ) (change : RxCore → RxCore) → active ≡ true → a ≡ begun - 1 →
    ((c : RxCore) → CoreOk active begun c → suc c.made.name.activation ≡ begun → CoreOk active begun (change c)) → (cs : List RxCore) → AllByRecursion (CoreOk active begun) cs → AllByRecursion (CoreOk active begun) (where_it (rx_is a q) change cs)
marked_where active begun a q change on at k [] h = tt
marked_where active begun a q change on at k (c ∷ cs) h = (step (rx_is a q c) refl, marked_where active begun a q change on at k cs h.1)
  where
    step : (b : Bool) → rx_is a q c ≡ b → CoreOk active begun (if b then change c else c)
    step true e = let name = same_name c.made.name.activation c.made.name.queue a q e in k c h.0 (omega (arith, name.0, at, h.0.1))
    step false e = h.0

tried_core : (active : Bool) (begun : ℕ) (f : Arrival) (c : RxCore) → active ≡ true → CoreOk active begun c → suc c.made.name.activation ≡ begun → CoreOk active begun (tried f c)
unfolding tried
tried_core active begun f c on h e = step (comes_to c (length f.frame))
  where
    step : (o : Outcome) → CoreOk active begun (after_delivery c f.frame f.meta o)
    step (takes passed end) = let more = length-append c.delivered (record { frame = f.frame; meta = f.meta; passed = passed; chain = end.chain } ∷ []) in (omega (arith, h.0, more), h.1, inr (on, e))
    step (misses ring position looks) = h

marked_ok : (active : Bool) (begun : ℕ) (d : Arrival) (f : Fate) (cs : List RxCore) → Marks active begun f → AllByRecursion (CoreOk active begun) cs → AllByRecursion (CoreOk active begun) (marked d f cs)
marked_ok active begun d (fate.Up a q place) cs m h = marked_where active begun a q (tried d) m.0 m.1 (λ c k e. tried_core active begun d c m.0 k e) cs h
marked_ok active begun d (fate.NoBuffer a q ring position look) cs m h = marked_where active begun a q (tried d) m.0 m.1 (λ c k e. tried_core active begun d c m.0 k e) cs h
marked_ok active begun d f cs m h = h

polled_ok : (b : Bool) (s : Seat) → RxOk s → RxOk (polled_if b s)
polled_ok b s h = pick_ok b (drained s) s (λ e. drained_ok s h) (λ e. h)

arrived_ok : (every : ℕ) (mac : List ℕ) (from place : ℕ) (f : List ℕ) (s : Seat) → RxOk s → RxOk (arrived every mac from place f s)
arrived_ok every mac from place f s h = polled_ok (nat_eq ((s.seen + 1) % every) 0) (record s { seen = s.seen + 1; entries = s.entries ++ entry.In from place (fate_at s mac f) ∷ []; rx = marked (delivered_as s.setup f) (fate_at s mac f) s.rx }) (marked_ok s.active s.begun (delivered_as s.setup f) (fate_at s mac f) s.rx (fate_marks s mac f) h)

-- ------------------------------------------------------------ the run

abbrev AllOk : World → Type 0
AllOk w = AllByRecursion RxOk w.seats

reaches_ok : (plan : Plan) (t : Tag) (f : List ℕ) (w : World) (to : ℕ) → AllOk w → AllOk (reaches plan t f w to)
reaches_ok plan t f w to h = at_number_all RxOk to (arrived plan.poll_every (mac_of plan to) t.guest (pushed_on w.wires t.guest to) f) (arrived_ok plan.poll_every (mac_of plan to) t.guest (pushed_on w.wires t.guest to) f)
    (at_number t.guest (noted (entry.Out t to (way.Link (pushed_on w.wires t.guest to)))) w.seats)
    (at_number_all RxOk t.guest (noted (entry.Out t to (way.Link (pushed_on w.wires t.guest to)))) (λ s k. k) w.seats h)

spread_ok : (plan : Plan) (t : Tag) (f : List ℕ) (tos : List ℕ) (w : World) → AllOk w → AllOk (spread plan t f tos w)
spread_ok plan t f [] w h = at_number_all RxOk t.guest (noted (entry.Lost t)) (λ s k. k) w.seats h
spread_ok plan t f (to ∷ tos) w h = fold_keeps AllOk (reaches plan t f) (λ w to k. reaches_ok plan t f w to k) (to ∷ tos) w h

sent_ok : (plan : Plan) (g : ℕ) (f : Sent) (s : Sending) (w : World) → AllOk w → AllOk (sent_by plan g f s w)
sent_ok plan g f sending.Down w h = h
sent_ok plan g f sending.Short w h = h
sent_ok plan g f sending.TooLong w h = h
sent_ok plan g f (sending.Sent a q k) w h = spread_ok plan (record { guest = g; activation = a; queue = q; place = k }) (wire_form f) (targets (wiring plan.guests) g (wire_form f)) (record w { seats = at_number g (transmitted a q f) w.seats }) (at_number_all RxOk g (transmitted a q f) (λ s k. k) w.seats h)

sends_ok : (plan : Plan) (g : ℕ) (p : GuestPlan) (c : Option Captured) (w : World) → AllOk w → AllOk (sends plan g p c w)
sends_ok plan g p None w h = h
sends_ok plan g p (Some c) w h = sent_ok plan g c.posted (verdict_on p c) w h

turn_of_ok : (plan : Plan) (n g : ℕ) (o : Option GuestPlan) (w : World) → AllOk w → AllOk (turn_of plan n g o w)
turn_of_ok plan n g None w h = h
turn_of_ok plan n g (Some p) w h = sends_ok plan g p (slice_get (captured p) n) (record w { seats = at_number g (acted g p n) w.seats }) (at_number_all RxOk g (acted g p n) (acted_ok g p n) w.seats h)

abbrev pub AllReceived : Seat → Type 0
AllReceived s = AllByRecursion (λ (c : RxCore). c.received ≡ length c.delivered) s.rx

pick_received : (b : Bool) (x s : Seat) → (b ≡ true → AllReceived x) → (b ≡ false → AllReceived s) → AllReceived (if b then x else s)
pick_received true x s h k = h refl
pick_received false x s h k = k refl

closed_received : (s : Seat) → RxOk s → AllReceived (closed s)
closed_received s h = pick_received s.active (quieted quiesce_dev s) s
    (λ e. all_weaker (Settled s.begun) (λ (c : RxCore). c.received ≡ length c.delivered) (λ c k. k.1) (quieted quiesce_dev s).rx (quieted_settled quiesce_dev s h))
    (λ e. all_weaker (Settled s.begun) (λ (c : RxCore). c.received ≡ length c.delivered) (λ c k. k.1) s.rx (still_settled s h e))

closed_all : (ss : List Seat) → AllByRecursion RxOk ss → AllByRecursion AllReceived (map closed ss)
closed_all [] h = tt
closed_all (s ∷ ss) h = (closed_received s h.0, closed_all ss h.1)

seats_ok : (port : ℕ) (gs : List GuestPlan) → AllByRecursion RxOk (seats_from port gs)
seats_ok port [] = tt
seats_ok port (g ∷ gs) = (activated_ok port g (fresh g) tt, seats_ok (port + 1) gs)

-- in the serial run every delivered frame is received
pub serial_received : (plan : Plan) → AllByRecursion AllReceived (serial_run plan).seats
unfolding serial_run
serial_received plan = closed_all (rounds plan (last_number plan.guests) (start plan)).seats (rounds_keep AllOk plan (λ n g w k. turn_of_ok plan n g (slice_get plan.guests g) w k) (last_number plan.guests) (start plan) (seats_ok 0 plan.guests))
