-- What holds all through the serial run: links and transmit queues are emptied at once.
use Rattle.std.proofs.Common.{◌≡◌, ℕ, zero, suc, ◌+◌, ◌-◌, List, [], ◌∷◌, ◌++◌, length, map, refl, ap, arith, nat_eq, not, true, false, Bool, cond, Option, Some, None, length-append, if◌then◌else◌}
use Rattle.std.specs.List.{fold, filter, slice_get, flat_map, AllByRecursion}
use Rattle.vmx_ends.specs.TransmitCore.{TxCore}
use Rattle.vmx_model.specs.declared.deeds.Deed.TheVariants as deed
use Rattle.vmx_model.specs.declared.journal.Entry.TheVariants as entry
use Rattle.vmx_model.specs.declared.journal.Way.TheVariants as way
use Rattle.vmx_model.specs.declared.sending.Sending.TheVariants as sending
use Rattle.vmx_ends.specs.declared.frames.Sent.{Sent}
use Rattle.vmx_model.specs.Totals.{wiring}
use Rattle.vmx_model.specs.Types.{Plan, GuestPlan, Action, Deed, Tag, Sending}
use Rattle.vmx_model.specs.Lists.{upto}
use Rattle.vmx_model.specs.Wire.{wire_form, targets}
use Rattle.vmx_model.specs.Plan.{quiesce_dev, reset_dev, Captured, captured, verdict_on, deed_commands, changed}
use Rattle.vmx_model.specs.Serial.{pending, active_setting, quiet_setting, World, Wire, Carried, Seat, where_it, tx_is, is_wire, at_number, carried, noted, arrived, reaches, spread, sent_by, sends, acted, done, updated_by, activated, quieted, set_command, polled_if, emptied, drained, polls, poll, through, transmitted, new_tx, turn_of, turn, turns, rounds, start, seats_from, fresh, wires_from, closed, serial_run, last_number, pushed_on, mac_of}
use Rattle.vmx_model.specs.Turns.{IsEmptied}
use Rattle.vmx_model.proofs.Tags.{all_append}

pub fold_keeps : {S A : Type 0} (P : S → Type 0) (f : S → A → S) → ((s : S) (a : A) → P s → P (f s a)) → (xs : List A) (s : S) → P s → P (fold f s xs)
fold_keeps P f k [] s h = h
fold_keeps P f k (x ∷ xs) s h = fold_keeps P f k xs (f s x) (k s x h)

pub where_all : {X : Type 0} (P : X → Type 0) (test : X → Bool) (change : X → X) → ((x : X) → P x → P (change x)) → (xs : List X) → AllByRecursion P xs → AllByRecursion P (where_it test change xs)
where_all P test change k [] h = tt
where_all {X} P test change k (x ∷ xs) h = (step (test x), where_all P test change k xs h.1)
  where
    step : (b : Bool) → P (if b then change x else x)
    step true = k x h.0
    step false = h.0

pub at_number_all : {X : Type 0} (P : X → Type 0) (n : ℕ) (change : X → X) → ((x : X) → P x → P (change x)) → (xs : List X) → AllByRecursion P xs → AllByRecursion P (at_number n change xs)
at_number_all P n change k [] h = tt
at_number_all P zero change k (x ∷ xs) h = (k x h.0, h.1)
at_number_all P (suc n) change k (x ∷ xs) h = (h.0, at_number_all P n change k xs h.1)

pub all_map_of : {X Y : Type 0} (P : Y → Type 0) (f : X → Y) → ((x : X) → P (f x)) → (xs : List X) → AllByRecursion P (map f xs)
all_map_of P f k [] = tt
all_map_of P f k (x ∷ xs) = (k x, all_map_of P f k xs)

pub all_changed : {X : Type 0} (P : X → Type 0) (f : X → X) → ((x : X) → P x → P (f x)) → (xs : List X) → AllByRecursion P xs → AllByRecursion P (map f xs)
all_changed P f k [] h = tt
all_changed P f k (x ∷ xs) h = (k x h.0, all_changed P f k xs h.1)

pub all_kept : {X : Type 0} (P : X → Type 0) (test : X → Bool) (xs : List X) → AllByRecursion P xs → AllByRecursion P (filter test xs)
all_kept P test [] h = tt
all_kept {X} P test (x ∷ xs) h = step (test x) (all_kept P test xs h.1)
  where
    step : (b : Bool) → AllByRecursion P (filter test xs) → AllByRecursion P (cond b (x ∷ filter test xs) (filter test xs))
    step true ih = (h.0, ih)
    step false ih = ih

-- what was sent was taken, completed and reaped
abbrev pub IsReaped : TxCore → Type 0
IsReaped c = (c.taken ≡ length c.sent) × (c.completed ≡ length c.sent) × (c.reaped ≡ length c.sent)

abbrev pub IsEven : World → Type 0
IsEven w = AllByRecursion IsEmptied w.wires × AllByRecursion (λ (s : Seat). AllByRecursion IsReaped s.tx) w.seats

polls_tx : (a n : ℕ) (s : Seat) → (polls a n s).tx ≡ s.tx
polls_tx a zero s = refl
polls_tx a (suc n) s = polls_tx a n (poll a s)

picked_tx : (b : Bool) (x s : Seat) → x.tx ≡ s.tx → (if b then x else s).tx ≡ s.tx
picked_tx true x s e = e
picked_tx false x s e = refl

emptied_tx : (s : Seat) → (emptied s).tx ≡ s.tx
unfolding emptied
emptied_tx s = polls_tx (s.begun - 1) (pending s.rx) s

drained_tx : (s : Seat) → (drained s).tx ≡ s.tx
unfolding drained
drained_tx s = picked_tx s.active (emptied s) s (emptied_tx s)

abbrev TxEven : Seat → Type 0
TxEven s = AllByRecursion IsReaped s.tx

pick_even : (b : Bool) (x y : Seat) → TxEven x → TxEven y → TxEven (if b then x else y)
pick_even true x y h k = h
pick_even false x y h k = k

fresh_even : (port : ℕ) (g : GuestPlan) (a q : ℕ) → IsReaped (new_tx port g a q)
fresh_even port g a q = (refl, refl, refl)

activated_even : (port : ℕ) (g : GuestPlan) (s : Seat) → TxEven s → TxEven (activated port g s)
activated_even port g s h = all_append IsReaped s.tx (map (new_tx port g s.begun) (upto 0 g.setup.tx_queues)) h (all_map_of IsReaped (new_tx port g s.begun) (fresh_even port g s.begun) (upto 0 g.setup.tx_queues))

quieted_even : (number : ℕ) (s : Seat) → TxEven s → TxEven (quieted number s)
quieted_even number s h = rw (emptied_tx (record (quiet_setting number s) { active = false })) h

commanded_even : (s : Seat) (number : ℕ) → TxEven s → TxEven (set_command s number)
commanded_even s number h = pick_even s.active (active_setting number s) (quiet_setting number s) h h

updated_even : (d : Deed) (s : Seat) → TxEven s → TxEven (updated_by d s)
updated_even d s h = fold_keeps TxEven set_command commanded_even (deed_commands d) (record s { setup = changed s.setup d }) h

done_even : (port : ℕ) (g : GuestPlan) (d : Deed) (s : Seat) → TxEven s → TxEven (done port g d s)
done_even port g deed.Quiesce s h = quieted_even quiesce_dev s h
done_even port g deed.Activate s h = pick_even s.active s (activated port g s) h (activated_even port g s h)
done_even port g deed.Reset s h = activated_even port g (quieted reset_dev s) (quieted_even reset_dev s h)
done_even port g (deed.Mode m) s h = updated_even (deed.Mode m) s h
done_even port g (deed.Multicast t) s h = updated_even (deed.Multicast t) s h
done_even port g (deed.Vlans t) s h = updated_even (deed.Vlans t) s h
done_even port g (deed.Rss n t) s h = updated_even (deed.Rss n t) s h

acted_even : (port : ℕ) (g : GuestPlan) (n : ℕ) (s : Seat) → TxEven s → TxEven (acted port g n s)
acted_even port g n s h = fold_keeps TxEven (λ s (a : Action). done port g a.deed s) (λ s a k. done_even port g a.deed s k) (filter (λ (a : Action). nat_eq a.at n) g.script) s h

through_even : (f : Sent) (c : TxCore) → IsReaped c → IsReaped (through f c)
through_even f c h = let more = length-append c.sent (f ∷ []) in (omega (arith, h.0, more), omega (arith, h.1, more), omega (arith, h.2, more))

transmitted_even : (a q : ℕ) (f : Sent) (s : Seat) → TxEven s → TxEven (transmitted a q f s)
transmitted_even a q f s h = where_all IsReaped (tx_is a q) (through f) (through_even f) s.tx h

polled_even : (b : Bool) (s : Seat) → TxEven s → TxEven (polled_if b s)
polled_even true s h = rw (drained_tx s) h
polled_even false s h = h

arrived_even : (every : ℕ) (mac : List ℕ) (from place : ℕ) (f : List ℕ) (s : Seat) → TxEven s → TxEven (arrived every mac from place f s)
arrived_even every mac from place f s h = polled_even _ _ h

pub carried_even : (p : Carried) (l : Wire) → IsEmptied l → IsEmptied (carried p l)
carried_even p l h = ap (λ (xs : List Carried). xs ++ p ∷ []) h

reaches_even : (plan : Plan) (t : Tag) (f : List ℕ) (w : World) (to : ℕ) → IsEven w → IsEven (reaches plan t f w to)
reaches_even plan t f w to h = (
  where_all IsEmptied (is_wire t.guest to) (carried (record { tag = t; frame = f })) (carried_even (record { tag = t; frame = f })) w.wires h.0,
  at_number_all TxEven to (arrived plan.poll_every (mac_of plan to) t.guest (pushed_on w.wires t.guest to) f) (arrived_even plan.poll_every (mac_of plan to) t.guest (pushed_on w.wires t.guest to) f)
      (at_number t.guest (noted (entry.Out t to (way.Link (pushed_on w.wires t.guest to)))) w.seats)
      (at_number_all TxEven t.guest (noted (entry.Out t to (way.Link (pushed_on w.wires t.guest to)))) (λ s k. k) w.seats h.1),
)

spread_even : (plan : Plan) (t : Tag) (f : List ℕ) (tos : List ℕ) (w : World) → IsEven w → IsEven (spread plan t f tos w)
spread_even plan t f [] w h = (h.0, at_number_all TxEven t.guest (noted (entry.Lost t)) (λ s k. k) w.seats h.1)
spread_even plan t f (to ∷ tos) w h = fold_keeps IsEven (reaches plan t f) (λ w to k. reaches_even plan t f w to k) (to ∷ tos) w h

sent_even : (plan : Plan) (g : ℕ) (f : Sent) (s : Sending) (w : World) → IsEven w → IsEven (sent_by plan g f s w)
sent_even plan g f sending.Down w h = h
sent_even plan g f sending.Short w h = h
sent_even plan g f sending.TooLong w h = h
sent_even plan g f (sending.Sent a q k) w h = spread_even plan (record { guest = g; activation = a; queue = q; place = k }) (wire_form f) (targets (wiring plan.guests) g (wire_form f)) (record w { seats = at_number g (transmitted a q f) w.seats })
    (h.0, at_number_all TxEven g (transmitted a q f) (transmitted_even a q f) w.seats h.1)

sends_even : (plan : Plan) (g : ℕ) (p : GuestPlan) (c : Option Captured) (w : World) → IsEven w → IsEven (sends plan g p c w)
sends_even plan g p None w h = h
sends_even plan g p (Some c) w h = sent_even plan g c.posted (verdict_on p c) w h

turn_of_even : (plan : Plan) (n g : ℕ) (o : Option GuestPlan) (w : World) → IsEven w → IsEven (turn_of plan n g o w)
turn_of_even plan n g None w h = h
turn_of_even plan n g (Some p) w h = sends_even plan g p (slice_get (captured p) n) (record w { seats = at_number g (acted g p n) w.seats }) (h.0, at_number_all TxEven g (acted g p n) (acted_even g p n) w.seats h.1)

-- what each turn keeps, the turns of a number keep
pub turns_keep : (P : World → Type 0) (plan : Plan) → ((n g : ℕ) (w : World) → P w → P (turn plan n g w)) → (n g : ℕ) (w : World) → P w → P (turns plan n g w)
unfolding turns
turns_keep P plan k n zero w h = h
turns_keep P plan k n (suc g) w h = k n g (turns plan n g w) (turns_keep P plan k n g w h)

-- what each turn keeps, the rounds keep
pub rounds_keep : (P : World → Type 0) (plan : Plan) → ((n g : ℕ) (w : World) → P w → P (turn plan n g w)) → (n : ℕ) (w : World) → P w → P (rounds plan n w)
unfolding rounds
rounds_keep P plan k zero w h = h
rounds_keep P plan k (suc n) w h = turns_keep P plan k n (length plan.guests) (rounds plan n w) (rounds_keep P plan k n w h)

-- before the first number all links are emptied
pub links_start : (n : ℕ) (ports : List ℕ) → AllByRecursion IsEmptied (flat_map (wires_from n) ports)
links_start n [] = tt
links_start n (g ∷ gs) = all_append IsEmptied (wires_from n g) (flat_map (wires_from n) gs) (kept _ (all_map_of IsEmptied (λ to. record { from = g; to = to; pushed = []; pulled = [] }) (λ to. refl) (upto 0 n))) (links_start n gs)
  where
    kept : (ls : List Wire) → AllByRecursion IsEmptied ls → AllByRecursion IsEmptied (filter (λ (l : Wire). not (nat_eq l.from l.to)) ls)
    kept ls h = all_kept IsEmptied (λ (l : Wire). not (nat_eq l.from l.to)) ls h

seats_even : (port : ℕ) (gs : List GuestPlan) → AllByRecursion TxEven (seats_from port gs)
seats_even port [] = tt
seats_even port (g ∷ gs) = (activated_even port g (fresh g) tt, seats_even (port + 1) gs)

-- in the serial run every link is emptied, and every transmit queue reaped
pub serial_even : (plan : Plan) → IsEven (serial_run plan)
unfolding serial_run
serial_even plan =
    let h = rounds_keep IsEven plan (λ n g w k. turn_of_even plan n g (slice_get plan.guests g) w k) (last_number plan.guests) (start plan) (links_start (length plan.guests) (upto 0 (length plan.guests)), seats_even 0 plan.guests) in
    (h.0, all_changed TxEven closed closing _ h.1)
  where
    closing : (s : Seat) → TxEven s → TxEven (closed s)
    closing s h = pick_even s.active (quieted quiesce_dev s) s (quieted_even quiesce_dev s h) h
