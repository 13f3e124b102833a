-- What every push of the serial run keeps holds of every journal at its end: each begins with a command, and none shows a full link.
use Rattle.std.proofs.Common.{◌≡◌, ℕ, zero, suc, ◌+◌, ◌-◌, ◌%◌, ◌<◌, List, [], ◌∷◌, ◌++◌, length, refl, sym, subst, arith, nat_eq, true, false, Bool, Option, Some, None, if◌then◌else◌}
use Rattle.std.specs.List.{filter, slice_get, AllByRecursion}
use Rattle.vmx_model.specs.declared.deeds.Deed.TheVariants as deed
use Rattle.vmx_model.specs.declared.journal.Entry.TheVariants as entry
use Rattle.vmx_model.specs.declared.journal.Way.TheVariants as way
use Rattle.vmx_model.specs.declared.sending.Sending.TheVariants as sending
use Rattle.vmx_ends.specs.declared.frames.Sent.{Sent}
use Rattle.vmx_model.specs.Totals.{wiring}
use Rattle.vmx_model.specs.Types.{Plan, GuestPlan, Action, Deed, Tag, Sending, Entry, Fate}
use Rattle.vmx_model.specs.Lists.{count, EachAfter}
use Rattle.vmx_model.specs.Wire.{wire_form, targets}
use Rattle.vmx_model.specs.Meta.{delivered_as}
use Rattle.vmx_model.specs.Plan.{activate_dev, quiesce_dev, reset_dev, Captured, captured, verdict_on, deed_commands, changed}
use Rattle.vmx_model.specs.Account.{is_set_entry}
use Rattle.vmx_model.specs.Views.{GuestView, RecordView}
use Rattle.vmx_model.specs.Record.{HasLists}
use Rattle.vmx_model.specs.Left.{IsNotFull, OpensWithCommand}
use Rattle.vmx_model.specs.Serial.{pending, active_setting, quiet_setting, World, Seat, at_number, noted, arrived, reaches, spread, sent_by, sends, acted, done, updated_by, activated, quieted, set_command, polled_if, emptied, drained, polls, poll, transmitted, marked, fate_at, turn_of, start, seats_from, closed, serial_run, last_number, pushed_on, mac_of}
use Rattle.vmx_model.proofs.Lists.{count-append, all_weaker}
use Rattle.vmx_model.proofs.Tags.{all_append, all_map_back}
use Rattle.vmx_model.proofs.Copies.{all_map}
use Rattle.vmx_model.proofs.Folds.{fold_keeps, at_number_all, all_changed, rounds_keep}

pub polls_entries : (a n : ℕ) (s : Seat) → (polls a n s).entries ≡ s.entries
polls_entries a zero s = refl
polls_entries a (suc n) s = polls_entries a n (poll a s)

picked_entries : (b : Bool) (x s : Seat) → x.entries ≡ s.entries → (if b then x else s).entries ≡ s.entries
picked_entries true x s e = e
picked_entries false x s e = refl

pub emptied_entries : (s : Seat) → (emptied s).entries ≡ s.entries
unfolding emptied
emptied_entries s = polls_entries (s.begun - 1) (pending s.rx) s

pub drained_entries : (s : Seat) → (drained s).entries ≡ s.entries
unfolding drained
drained_entries s = picked_entries s.active (emptied s) s (emptied_entries s)

module _ (E : Entry → Type 0) (Q : List Entry → Type 0) (push : (es : List Entry) (e : Entry) → E e → Q es → Q (es ++ e ∷ [])) (settings : (number : ℕ) (o : Option ℕ) → E (entry.Setting number 0 o))
    (outs : (t : Tag) (to place : ℕ) → E (entry.Out t to (way.Link place))) (losts : (t : Tag) → E (entry.Lost t)) (ins : (from place : ℕ) (f : Fate) → E (entry.In from place f)) (first : Q (entry.Setting activate_dev 0 (Some 0) ∷ [])) where
  abbrev Ok : Seat → Type 0
  Ok s = Q s.entries

  pick_ok : (b : Bool) (x y : Seat) → Ok x → Ok y → Ok (if b then x else y)
  pick_ok true x y h k = h
  pick_ok false x y h k = k

  drained_ok : (s : Seat) → Ok s → Ok (drained s)
  drained_ok s h = subst Q (sym (drained_entries s)) h

  activated_ok : (port : ℕ) (g : GuestPlan) (s : Seat) → Ok s → Ok (activated port g s)
  activated_ok port g s h = push s.entries (entry.Setting activate_dev 0 (Some (length s.setups))) (settings activate_dev (Some (length s.setups))) h

  quieted_ok : (number : ℕ) (s : Seat) → Ok s → Ok (quieted number s)
  quieted_ok number s h = subst Q (sym (emptied_entries (record (quiet_setting number s) { active = false }))) (push s.entries (entry.Setting number 0 None) (settings number None) h)

  commanded_ok : (s : Seat) (number : ℕ) → Ok s → Ok (set_command s number)
  commanded_ok s number h = pick_ok s.active (active_setting number s) (quiet_setting number s) (push s.entries (entry.Setting number 0 (Some (length s.setups))) (settings number (Some (length s.setups))) h) (push s.entries (entry.Setting number 0 None) (settings number None) h)

  updated_ok : (d : Deed) (s : Seat) → Ok s → Ok (updated_by d s)
  updated_ok d s h = fold_keeps Ok set_command commanded_ok (deed_commands d) (record s { setup = changed s.setup d }) h

  done_ok : (port : ℕ) (g : GuestPlan) (d : Deed) (s : Seat) → Ok s → Ok (done port g d s)
  done_ok port g deed.Quiesce s h = quieted_ok quiesce_dev s h
  done_ok port g deed.Activate s h = pick_ok s.active s (activated port g s) h (activated_ok port g s h)
  done_ok port g deed.Reset s h = activated_ok port g (quieted reset_dev s) (quieted_ok reset_dev s h)
  done_ok port g (deed.Mode m) s h = updated_ok (deed.Mode m) s h
  done_ok port g (deed.Multicast t) s h = updated_ok (deed.Multicast t) s h
  done_ok port g (deed.Vlans t) s h = updated_ok (deed.Vlans t) s h
  done_ok port g (deed.Rss n t) s h = updated_ok (deed.Rss n t) s h

  acted_ok : (port : ℕ) (g : GuestPlan) (n : ℕ) (s : Seat) → Ok s → Ok (acted port g n s)
  acted_ok port g n s h = fold_keeps Ok (λ s (a : Action). done port g a.deed s) (λ s a k. done_ok port g a.deed s k) (filter (λ (a : Action). nat_eq a.at n) g.script) s h

  polled_ok : (b : Bool) (s : Seat) → Ok s → Ok (polled_if b s)
  polled_ok b s h = pick_ok b (drained s) s (drained_ok s h) h

  arrived_ok : (every : ℕ) (mac : List ℕ) (from place : ℕ) (f : List ℕ) (s : Seat) → Ok s → Ok (arrived every mac from place f s)
  arrived_ok every mac from place f s h = polled_ok (nat_eq ((s.seen + 1) % every) 0) (record s { seen = s.seen + 1; entries = s.entries ++ entry.In from place (fate_at s mac f) ∷ []; rx = marked (delivered_as s.setup f) (fate_at s mac f) s.rx }) (push s.entries (entry.In from place (fate_at s mac f)) (ins from place (fate_at s mac f)) h)

  abbrev AllOk : World → Type 0
  AllOk w = AllByRecursion Ok w.seats

  reaches_ok : (plan : Plan) (t : Tag) (f : List ℕ) (w : World) (to : ℕ) → AllOk w → AllOk (reaches plan t f w to)
  reaches_ok plan t f w to h = at_number_all Ok to (arrived plan.poll_every (mac_of plan to) t.guest (pushed_on w.wires t.guest to) f) (arrived_ok plan.poll_every (mac_of plan to) t.guest (pushed_on w.wires t.guest to) f)
      (at_number t.guest (noted (entry.Out t to (way.Link (pushed_on w.wires t.guest to)))) w.seats)
      (at_number_all Ok t.guest (noted (entry.Out t to (way.Link (pushed_on w.wires t.guest to)))) (λ s k. push s.entries (entry.Out t to (way.Link (pushed_on w.wires t.guest to))) (outs t to (pushed_on w.wires t.guest to)) k) w.seats h)

  spread_ok : (plan : Plan) (t : Tag) (f : List ℕ) (tos : List ℕ) (w : World) → AllOk w → AllOk (spread plan t f tos w)
  spread_ok plan t f [] w h = at_number_all Ok t.guest (noted (entry.Lost t)) (λ s k. push s.entries (entry.Lost t) (losts t) k) w.seats h
  spread_ok plan t f (to ∷ tos) w h = fold_keeps AllOk (reaches plan t f) (λ w to k. reaches_ok plan t f w to k) (to ∷ tos) w h

  sent_ok : (plan : Plan) (g : ℕ) (f : Sent) (s : Sending) (w : World) → AllOk w → AllOk (sent_by plan g f s w)
  sent_ok plan g f sending.Down w h = h
  sent_ok plan g f sending.Short w h = h
  sent_ok plan g f sending.TooLong w h = h
  sent_ok plan g f (sending.Sent a q k) w h = spread_ok plan (record { guest = g; activation = a; queue = q; place = k }) (wire_form f) (targets (wiring plan.guests) g (wire_form f)) (record w { seats = at_number g (transmitted a q f) w.seats }) (at_number_all Ok g (transmitted a q f) (λ s k. k) w.seats h)

  sends_ok : (plan : Plan) (g : ℕ) (p : GuestPlan) (c : Option Captured) (w : World) → AllOk w → AllOk (sends plan g p c w)
  sends_ok plan g p None w h = h
  sends_ok plan g p (Some c) w h = sent_ok plan g c.posted (verdict_on p c) w h

  turn_of_ok : (plan : Plan) (n g : ℕ) (o : Option GuestPlan) (w : World) → AllOk w → AllOk (turn_of plan n g o w)
  turn_of_ok plan n g None w h = h
  turn_of_ok plan n g (Some p) w h = sends_ok plan g p (slice_get (captured p) n) (record w { seats = at_number g (acted g p n) w.seats }) (at_number_all Ok g (acted g p n) (acted_ok g p n) w.seats h)

  seats_ok : (port : ℕ) (gs : List GuestPlan) → AllByRecursion Ok (seats_from port gs)
  seats_ok port [] = tt
  seats_ok port (g ∷ gs) = (first, seats_ok (port + 1) gs)

  -- what every push keeps holds of each journal
  entries_keep : (plan : Plan) → AllByRecursion Ok (serial_run plan).seats
  unfolding serial_run
  entries_keep plan = all_changed Ok closed (λ s h. pick_ok s.active (quieted quiesce_dev s) s (quieted_ok quiesce_dev s h) h) _
      (rounds_keep AllOk plan (λ n g w k. turn_of_ok plan n g (slice_get plan.guests g) w k) (last_number plan.guests) (start plan) (seats_ok 0 plan.guests))

  -- and of each journal of a record with the lists of the run
  record_keeps : (plan : Plan) (r : RecordView) → HasLists r (serial_run plan) → AllByRecursion (λ (v : GuestView). Q v.entries) r.guests
  record_keeps plan r h = all_map_back (λ (v : GuestView). v.entries) Q r.guests (subst (λ (xs : List (List Entry)). AllByRecursion Q xs) (sym h.entries) (all_map (λ (s : Seat). s.entries) Q (serial_run plan).seats (entries_keep plan)))

-- ------------------------------------------------------------ the first entry

abbrev HasFirst : List Entry → Type 0
HasFirst [] = ⊥
HasFirst (e ∷ es) = is_set_entry e ≡ true

first_push : (es : List Entry) (e : Entry) → Unit {0} → HasFirst es → HasFirst (es ++ e ∷ [])
first_push [] e t h = absurd h
first_push (x ∷ xs) e t h = h

behind : (before es : List Entry) → 0 < count is_set_entry before → EachAfter OpensWithCommand before es
behind before [] some = tt
behind before (e ∷ es) some = (λ t. some, behind (before ++ e ∷ []) es (omega (arith, some, count-append is_set_entry before (e ∷ []))))

opens_first : (es : List Entry) → HasFirst es → EachAfter OpensWithCommand [] es
opens_first [] h = absurd h
opens_first (entry.Setting number answer setup ∷ es) h = (λ t. absurd t, behind (entry.Setting number answer setup ∷ []) es some)
  where
    some : 0 < count is_set_entry (entry.Setting number answer setup ∷ [])
    some = let is : is_set_entry (entry.Setting number answer setup) ≡ true = h in rw is (omega arith)
opens_first (entry.Out tag target w ∷ es) h = absurd (cc h)
opens_first (entry.Lost tag ∷ es) h = absurd (cc h)
opens_first (entry.In from place f ∷ es) h = absurd (cc h)

pub opens_all : (plan : Plan) (r : RecordView) → HasLists r (serial_run plan) → AllByRecursion (λ (v : GuestView). EachAfter OpensWithCommand [] v.entries) r.guests
opens_all plan r h = all_weaker (λ (v : GuestView). HasFirst v.entries) (λ (v : GuestView). EachAfter OpensWithCommand [] v.entries) (λ v k. opens_first v.entries k) r.guests (record_keeps (λ e. Unit {0}) HasFirst first_push (λ n o. tt) (λ t to place. tt) (λ t. tt) (λ from place f. tt) refl plan r h)

pub never_full : (plan : Plan) (r : RecordView) → HasLists r (serial_run plan) → AllByRecursion (λ (v : GuestView). AllByRecursion IsNotFull v.entries) r.guests
never_full plan r h = record_keeps IsNotFull (AllByRecursion IsNotFull) (λ es e k all. all_append IsNotFull es (e ∷ []) all (k, tt)) (λ n o. tt) (λ t to place. tt) (λ t. tt) (λ from place f. tt) (tt, tt) plan r h
