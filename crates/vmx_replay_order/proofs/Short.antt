-- How many entries each step adds to the journals.
use Rattle.std.proofs.Common.{◌≡◌, ℕ, zero, suc, ◌+◌, ◌*◌, ◌≤◌, Bool, true, false, List, [], ◌∷◌, ◌++◌, length, length-append, nat_eq, refl, ap, ◌∙◌, subst, arith, Option, Some, None, if◌then◌else◌}
use Rattle.std.specs.List.{fold, filter, slice_get, AllByRecursion}
use Rattle.vmx_ends.specs.declared.frames.Sent.{Sent}
use Rattle.vmx_switch.specs.declared.answer.TheConstants.{MAX_PORTS}
use Rattle.vmx_model.specs.declared.plan.Plan.{Plan}
use Rattle.vmx_model.specs.declared.guest.GuestPlan.{GuestPlan}
use Rattle.vmx_model.specs.declared.deeds.Action.{Action}
use Rattle.vmx_model.specs.declared.deeds.Deed.{Deed}
use Rattle.vmx_ends.specs.declared.packet.Tag.{Tag}
use Rattle.vmx_model.specs.declared.journal.Entry.{Entry}
use Rattle.vmx_model.specs.declared.sending.Sending.{Sending}
use Rattle.vmx_model.specs.declared.deeds.Deed.TheVariants as deed
use Rattle.vmx_model.specs.declared.journal.Entry.TheVariants as entry
use Rattle.vmx_model.specs.declared.journal.Way.TheVariants as way
use Rattle.vmx_model.specs.declared.sending.Sending.TheVariants as sending
use Rattle.vmx_model.specs.Plan.{Captured, captured, verdict_on, quiesce_dev, reset_dev, update_rx_mode, update_mac_filters, update_vlan_filters, update_rssidt, changed}
use Rattle.vmx_model.specs.Totals.{wiring}
use Rattle.vmx_model.specs.Wire.{wire_form, targets}
use Rattle.vmx_model.specs.Serial.{Seat, World, Carried, at_number, quieted, quiet_setting, active_setting, activated, set_command, done, acted, arrived, polled_if, noted, closed, transmitted, reaches, spread, sent_by, sends, turn, turn_of, turns, rounds, start, seats_from, pushed_on, mac_of}
use Rattle.vmx_model.specs.Turns.{at_guest, put_out, next_on, pulled_on}
use Rattle.vmx_model.proofs.Lists.{all_weaker}
use Rattle.vmx_model.proofs.Entries.{emptied_entries, drained_entries}
use Rattle.vmx_model.proofs.Ready.{closed_to}
use Rattle.vmx_replay_runs.specs.Runs.{RunView, does, acts, put_to, put_by, put_in, puts, captured_in, targets_of}
use Rattle.vmx_replay_order.specs.Orders.{acted_by, arrives, arrives_by}
use Rattle.vmx_replay_runs.specs.Short.{AreShort, ENTRIES_OF_ACTIONS, ENTRIES_OF_FRAME, ENTRIES_OF_TURN, ENTRIES_OF_ROUND}
use Rattle.vmx_plan_bounds.proofs.Few.{filter_few, guests_few, targets_few}

-- ------------------------------------------------------------ lists of guests

pub short_more : (k m : ℕ) (w : World) → k ≤ m → AreShort k w → AreShort m w
short_more k m w le h = all_weaker (λ (s : Seat). length s.entries ≤ k) (λ (s : Seat). length s.entries ≤ m) (λ s few. omega (arith, few, le)) w.seats h

-- a change of one guest
pub at_short : (k m n : ℕ) (change : Seat → Seat) (w : World) → k ≤ m → ((s : Seat) → length s.entries ≤ k → length (change s).entries ≤ m) → AreShort k w → AreShort m (at_guest n change w)
at_short k m n change w le step h = all n w.seats h
  where
    same : (ss : List Seat) → AllByRecursion (λ (s : Seat). length s.entries ≤ k) ss → AllByRecursion (λ (s : Seat). length s.entries ≤ m) ss
    same ss h = short_more k m (record w { seats = ss }) le h

    all : (n : ℕ) (ss : List Seat) → AllByRecursion (λ (s : Seat). length s.entries ≤ k) ss → AllByRecursion (λ (s : Seat). length s.entries ≤ m) (at_number n change ss)
    all n [] h = tt
    all zero (s ∷ ss) h = (step s h.0, same ss h.1)
    all (suc n) (s ∷ ss) h = (let here = h.0 in omega (arith, here, le), all n ss h.1)

-- ------------------------------------------------------------ one guest

one_entry : (es : List Entry) (e : Entry) → length (es ++ e ∷ []) ≡ length es + 1
one_entry es e = length-append es (e ∷ [])

quieted_entries : (number : ℕ) (s : Seat) → length (quieted number s).entries ≡ length s.entries + 1
quieted_entries number s = ap length (emptied_entries (record (quiet_setting number s) { active = false })) ∙ one_entry s.entries (entry.Setting number 0 None)

activated_entries : (port : ℕ) (g : GuestPlan) (s : Seat) → length (activated port g s).entries ≡ length s.entries + 1
activated_entries port g s = one_entry s.entries _

set_entries : (number : ℕ) (s : Seat) → length (set_command s number).entries ≡ length s.entries + 1
set_entries number s = step s.active
  where
    step : (b : Bool) → length (if b then active_setting number s else quiet_setting number s).entries ≡ length s.entries + 1
    step true = one_entry s.entries _
    step false = one_entry s.entries _

-- a deed adds two entries at most
done_entries : (port : ℕ) (g : GuestPlan) (d : Deed) (s : Seat) → length (done port g d s).entries ≤ length s.entries + 2
done_entries port g deed.Quiesce s = let n = quieted_entries quiesce_dev s in omega (arith, n)
done_entries port g deed.Activate s = step s.active
  where
    step : (b : Bool) → length (if b then s else activated port g s).entries ≤ length s.entries + 2
    step true = omega arith
    step false = let n = activated_entries port g s in omega (arith, n)
done_entries port g deed.Reset s = let n = activated_entries port g (quieted reset_dev s) in let m = quieted_entries reset_dev s in omega (arith, n, m)
done_entries port g (deed.Mode m) s = let n = set_entries update_rx_mode (record s { setup = changed s.setup (deed.Mode m) }) in omega (arith, n)
done_entries port g (deed.Multicast t) s = let n = set_entries update_mac_filters (record s { setup = changed s.setup (deed.Multicast t) }) in omega (arith, n)
done_entries port g (deed.Vlans t) s = let n = set_entries update_vlan_filters (record s { setup = changed s.setup (deed.Vlans t) }) in omega (arith, n)
done_entries port g (deed.Rss size t) s = let n = set_entries update_rssidt (record s { setup = changed s.setup (deed.Rss size t) }) in omega (arith, n)

all_entries : (port : ℕ) (g : GuestPlan) (acts : List Action) (s : Seat) → length (fold (λ s (a : Action). done port g a.deed s) s acts).entries ≤ length s.entries + 2 * length acts
all_entries port g [] s = omega arith
all_entries port g (a ∷ acts) s = let more = all_entries port g acts (done port g a.deed s) in let one = done_entries port g a.deed s in omega (arith, more, one)

acted_entries : (port : ℕ) (g : GuestPlan) (n : ℕ) (s : Seat) → length (acted port g n s).entries ≤ length s.entries + ENTRIES_OF_ACTIONS
acted_entries port g n s = let all = all_entries port g (filter (λ (a : Action). nat_eq a.at n) g.script) s in let few = filter_few (λ (a : Action). nat_eq a.at n) g.script in let most = g.script_length in omega (arith, all, few, most)

polled_entries : (b : Bool) (s : Seat) → length (polled_if b s).entries ≡ length s.entries
polled_entries true s = ap length (drained_entries s)
polled_entries false s = refl

arrived_entries : (every : ℕ) (mac : List ℕ) (from place : ℕ) (frame : List ℕ) (s : Seat) → length (arrived every mac from place frame s).entries ≡ length s.entries + 1
arrived_entries every mac from place frame s = polled_entries _ _ ∙ one_entry s.entries _

closed_entries : (s : Seat) → length (closed s).entries ≤ length s.entries + 1
closed_entries s = step s.active
  where
    step : (b : Bool) → length (if b then quieted quiesce_dev s else s).entries ≤ length s.entries + 1
    step true = let n = quieted_entries quiesce_dev s in omega (arith, n)
    step false = omega arith

-- ------------------------------------------------------------ the calls of the actors

pub short_does : (k port : ℕ) (o : Option GuestPlan) (a : Option Action) (w : World) → AreShort k w → AreShort (k + 2) (does port o a w)
short_does k port None a w h = short_more k (k + 2) w (omega arith) h
short_does k port (Some p) None w h = short_more k (k + 2) w (omega arith) h
short_does k port (Some p) (Some a) w h = at_short k (k + 2) port (done port p a.deed) w (omega arith) (λ s le. let more = done_entries port p a.deed s in omega (arith, le, more)) h

short_noted : (k g : ℕ) (e : Entry) (w : World) → AreShort k w → AreShort (k + 1) (at_guest g (noted e) w)
short_noted k g e w h = at_short k (k + 1) g (noted e) w (omega arith) (λ s le. let one = one_entry s.entries e in omega (arith, le, one)) h

short_outs : (k : ℕ) (t : Tag) (f : List ℕ) (tos : List ℕ) (w : World) → AreShort k w → AreShort (k + length tos) (fold (put_out t f) w tos)
short_outs k t f [] w h = short_more k (k + 0) w (omega arith) h
short_outs k t f (to ∷ tos) w h = let e : k + 1 + length tos ≡ k + suc (length tos) = omega arith in subst (λ (n : ℕ). AreShort n (fold (put_out t f) (put_out t f w to) tos)) e (short_outs (k + 1) t f tos (put_out t f w to) (short_noted k t.guest (entry.Out t to (way.Link (pushed_on w.wires t.guest to))) w h))

short_put : (k : ℕ) (t : Tag) (f : List ℕ) (tos : List ℕ) (w : World) → length tos ≤ MAX_PORTS → AreShort k w → AreShort (k + MAX_PORTS) (put_to t f tos w)
short_put k t f [] w few h = short_more (k + 1) (k + MAX_PORTS) (at_guest t.guest (noted (entry.Lost t)) w) (omega arith) (short_noted k t.guest (entry.Lost t) w h)
short_put k t f (to ∷ tos) w few h = short_more (k + suc (length tos)) (k + MAX_PORTS) (fold (put_out t f) w (to ∷ tos)) (omega (arith, few)) (short_outs k t f (to ∷ tos) w h)

short_same : (k g : ℕ) (change : Seat → Seat) (w : World) → ((s : Seat) → length (change s).entries ≡ length s.entries) → AreShort k w → AreShort k (at_guest g change w)
short_same k g change w same h = at_short k k g change w (omega arith) (λ s le. let e = same s in omega (arith, le, e)) h

short_by : (k : ℕ) (plan : Plan) (port : ℕ) (posted : Sent) (s : Sending) (w : World) → AreShort k w → AreShort (k + MAX_PORTS) (put_by plan port posted s w)
short_by k plan port posted (sending.Sent a q n) w h = short_put k (record { guest = port; activation = a; queue = q; place = n }) (wire_form posted) (targets_of plan port posted) (at_guest port (transmitted a q posted) w) (targets_few plan port (wire_form posted))
    (short_same k port (transmitted a q posted) w (λ s. refl) h)
short_by k plan port posted sending.Down w h = short_more k (k + MAX_PORTS) w (omega arith) h
short_by k plan port posted sending.Short w h = short_more k (k + MAX_PORTS) w (omega arith) h
short_by k plan port posted sending.TooLong w h = short_more k (k + MAX_PORTS) w (omega arith) h

pub short_puts : (k port n : ℕ) (r : RunView) → AreShort k r.world → AreShort (k + MAX_PORTS) (puts port n r).world
short_puts k port n r h = by_guest (slice_get r.plan.guests port)
  where
    stays : AreShort (k + MAX_PORTS) r.world
    stays = short_more k (k + MAX_PORTS) r.world (omega arith) h

    by_frame : (p : GuestPlan) (o : Option Captured) → AreShort (k + MAX_PORTS) (put_in r.plan port (Some p) o r.world)
    by_frame p None = stays
    by_frame p (Some c) = short_by k r.plan port c.posted (verdict_on p c) r.world h

    by_guest : (o : Option GuestPlan) → AreShort (k + MAX_PORTS) (put_in r.plan port o (captured_in o n) r.world)
    by_guest None = stays
    by_guest (Some p) = by_frame p (slice_get (captured p) n)

pub short_arrives : (k from to : ℕ) (r : RunView) → AreShort k r.world → AreShort (k + 1) (arrives from r to).world
short_arrives k from to r h = by_next (next_on r.world.wires from to)
  where
    by_next : (o : Option Carried) → AreShort (k + 1) (arrives_by r.plan from to r.world o)
    by_next None = short_more k (k + 1) r.world (omega arith) h
    by_next (Some p) = at_short k (k + 1) to (arrived r.plan.poll_every (mac_of r.plan to) from (pulled_on r.world.wires from to) p.frame) r.world (omega arith) (λ s le. let one = arrived_entries r.plan.poll_every (mac_of r.plan to) from (pulled_on r.world.wires from to) p.frame s in omega (arith, le, one)) h

pub short_closed : (k n : ℕ) (w : World) → AreShort k w → AreShort (k + n) (record w { seats = closed_to n w.seats })
short_closed k zero w h = short_more k (k + 0) w (omega arith) h
short_closed k (suc n) w h = at_short (k + n) (k + suc n) n closed (record w { seats = closed_to n w.seats }) (omega arith) (λ s le. let one = closed_entries s in omega (arith, le, one)) (short_closed k n w h)

-- ------------------------------------------------------------ the serial run

pub short_acted : (k port n : ℕ) (o : Option GuestPlan) (w : World) → AreShort k w → AreShort (k + ENTRIES_OF_ACTIONS) (acted_by port n o w)
short_acted k port n None w h = short_more k (k + ENTRIES_OF_ACTIONS) w (omega arith) h
short_acted k port n (Some p) w h = at_short k (k + ENTRIES_OF_ACTIONS) port (acted port p n) w (omega arith) (λ s le. let more = acted_entries port p n s in omega (arith, le, more)) h

short_reaches : (k : ℕ) (plan : Plan) (t : Tag) (f : List ℕ) (w : World) (to : ℕ) → AreShort k w → AreShort (k + 2) (reaches plan t f w to)
short_reaches k plan t f w to h =
    let out : World = at_guest t.guest (noted (entry.Out t to (way.Link (pushed_on w.wires t.guest to)))) w in
    at_short (k + 1) (k + 2) to (arrived plan.poll_every (mac_of plan to) t.guest (pushed_on w.wires t.guest to) f) out (omega arith)
    (λ s le. let one = arrived_entries plan.poll_every (mac_of plan to) t.guest (pushed_on w.wires t.guest to) f s in omega (arith, le, one))
    (short_noted k t.guest (entry.Out t to (way.Link (pushed_on w.wires t.guest to))) w h)

short_all : (k : ℕ) (plan : Plan) (t : Tag) (f : List ℕ) (tos : List ℕ) (w : World) → AreShort k w → AreShort (k + 2 * length tos) (fold (reaches plan t f) w tos)
short_all k plan t f [] w h = short_more k (k + 2 * 0) w (omega arith) h
short_all k plan t f (to ∷ tos) w h = let e : k + 2 + 2 * length tos ≡ k + 2 * suc (length tos) = omega arith in subst (λ (n : ℕ). AreShort n (fold (reaches plan t f) (reaches plan t f w to) tos)) e (short_all (k + 2) plan t f tos (reaches plan t f w to) (short_reaches k plan t f w to h))

short_spread : (k : ℕ) (plan : Plan) (t : Tag) (f : List ℕ) (tos : List ℕ) (w : World) → length tos ≤ MAX_PORTS → AreShort k w → AreShort (k + ENTRIES_OF_FRAME) (spread plan t f tos w)
short_spread k plan t f [] w few h = short_more (k + 1) (k + ENTRIES_OF_FRAME) (at_guest t.guest (noted (entry.Lost t)) w) (omega arith) (short_noted k t.guest (entry.Lost t) w h)
short_spread k plan t f (to ∷ tos) w few h = short_more (k + 2 * suc (length tos)) (k + ENTRIES_OF_FRAME) (fold (reaches plan t f) w (to ∷ tos)) (omega (arith, few)) (short_all k plan t f (to ∷ tos) w h)

short_sent : (k : ℕ) (plan : Plan) (g : ℕ) (posted : Sent) (s : Sending) (w : World) → AreShort k w → AreShort (k + ENTRIES_OF_FRAME) (sent_by plan g posted s w)
short_sent k plan g posted (sending.Sent a q n) w h = short_spread k plan (record { guest = g; activation = a; queue = q; place = n }) (wire_form posted) (targets (wiring plan.guests) g (wire_form posted)) (at_guest g (transmitted a q posted) w) (targets_few plan g (wire_form posted))
    (short_same k g (transmitted a q posted) w (λ s. refl) h)
short_sent k plan g posted sending.Down w h = short_more k (k + ENTRIES_OF_FRAME) w (omega arith) h
short_sent k plan g posted sending.Short w h = short_more k (k + ENTRIES_OF_FRAME) w (omega arith) h
short_sent k plan g posted sending.TooLong w h = short_more k (k + ENTRIES_OF_FRAME) w (omega arith) h

short_sends : (k : ℕ) (plan : Plan) (g : ℕ) (p : GuestPlan) (o : Option Captured) (w : World) → AreShort k w → AreShort (k + ENTRIES_OF_FRAME) (sends plan g p o w)
short_sends k plan g p None w h = short_more k (k + ENTRIES_OF_FRAME) w (omega arith) h
short_sends k plan g p (Some c) w h = short_sent k plan g c.posted (verdict_on p c) w h

-- a turn
short_turn : (k : ℕ) (plan : Plan) (n g : ℕ) (w : World) → AreShort k w → AreShort (k + ENTRIES_OF_TURN) (turn plan n g w)
short_turn k plan n g w h = by_guest (slice_get plan.guests g)
  where
    by_guest : (o : Option GuestPlan) → AreShort (k + ENTRIES_OF_TURN) (turn_of plan n g o w)
    by_guest None = short_more k (k + ENTRIES_OF_TURN) w (omega arith) h
    by_guest (Some p) = short_more (k + ENTRIES_OF_ACTIONS + ENTRIES_OF_FRAME) (k + ENTRIES_OF_TURN) (sends plan g p (slice_get (captured p) n) (at_guest g (acted g p n) w)) (omega arith) (short_sends (k + ENTRIES_OF_ACTIONS) plan g p (slice_get (captured p) n) (at_guest g (acted g p n) w) (short_acted k g n (Some p) w h))

pub short_turns : (k : ℕ) (plan : Plan) (n g : ℕ) (w : World) → AreShort k w → AreShort (k + ENTRIES_OF_TURN * g) (turns plan n g w)
unfolding turns
short_turns k plan n zero w h = short_more k (k + ENTRIES_OF_TURN * 0) w (omega arith) h
short_turns k plan n (suc g) w h = short_more (k + ENTRIES_OF_TURN * g + ENTRIES_OF_TURN) (k + ENTRIES_OF_TURN * suc g) (turn plan n g (turns plan n g w)) (omega arith) (short_turn (k + ENTRIES_OF_TURN * g) plan n g (turns plan n g w) (short_turns k plan n g w h))

seats_short : (port : ℕ) (gs : List GuestPlan) → AllByRecursion (λ (s : Seat). length s.entries ≤ 1) (seats_from port gs)
seats_short port [] = tt
seats_short port (g ∷ gs) = (omega arith, seats_short (port + 1) gs)

-- all numbers so far: each journal begins with one entry
pub short_rounds : (plan : Plan) (n : ℕ) → AreShort (1 + ENTRIES_OF_ROUND * n) (rounds plan n (start plan))
unfolding rounds
short_rounds plan zero = short_more 1 (1 + ENTRIES_OF_ROUND * 0) (start plan) (omega arith) (seats_short 0 plan.guests)
short_rounds plan (suc n) = let few = guests_few plan in short_more (1 + ENTRIES_OF_ROUND * n + ENTRIES_OF_TURN * length plan.guests) (1 + ENTRIES_OF_ROUND * suc n) (turns plan n (length plan.guests) (rounds plan n (start plan))) (omega (arith, few)) (short_turns (1 + ENTRIES_OF_ROUND * n) plan n (length plan.guests) (rounds plan n (start plan)) (short_rounds plan n))
