-- A frame that is put out on the links to its targets, and then taken by them one by one, is sent as the serial run sends it.
use Rattle.std.proofs.Common.{◌≡◌, ◌≢◌, ℕ, ◌<◌, List, [], ◌∷◌, length, refl, ap, sym, ◌∙◌, arith, All, Option, Some, None}
use Rattle.std.specs.List.{fold, slice_get, AllByRecursion}
use Rattle.std.proofs.lemmas.List.Elements.{All-nil}
use Rattle.vmx_switch.specs.Laws.{targets_below, targets_other}
use Rattle.vmx_ends.specs.declared.frames.Sent.{Sent}
use Rattle.vmx_model.specs.declared.plan.Plan.{Plan}
use Rattle.vmx_model.specs.declared.guest.GuestPlan.{GuestPlan}
use Rattle.vmx_ends.specs.declared.packet.Tag.{Tag}
use Rattle.vmx_model.specs.declared.sending.Sending.{Sending}
use Rattle.vmx_model.specs.declared.sending.Sending.TheVariants as sending
use Rattle.vmx_model.specs.Lists.{Rises}
use Rattle.vmx_model.specs.Totals.{wiring, macs_of}
use Rattle.vmx_model.specs.Wire.{wire_form, targets}
use Rattle.vmx_model.specs.Plan.{Captured, captured, verdict_on}
use Rattle.vmx_model.specs.Serial.{World, Carried, is_wire, transmitted, reaches, spread, sent_by, sends, turn_of}
use Rattle.vmx_model.specs.Turns.{pushes, put_out, next_on, at_guest, AreEmptied, HasWire, AreApart, IsReady}
use Rattle.vmx_model.proofs.Lists.{by_recursion}
use Rattle.vmx_model.proofs.Fates.{targets_rise}
use Rattle.vmx_model.proofs.Turns.{one_copy, all_later, reaches_empties}
use Rattle.vmx_model.proofs.Looks.{next_here, next_outs, all_has_kept}
use Rattle.vmx_model.proofs.Ready.{ready_at, has_links}
use Rattle.vmx_plan_bounds.proofs.Few.{ports_of_targets}
use Rattle.vmx_replay_runs.specs.Runs.{RunView, one_more, put_to, put_by, put_in, targets_of, targets_by, targets_in, captured_in, puts, goes_to, ComesFrom}
use Rattle.vmx_replay_order.specs.Orders.{arrives, arrives_by, acted_by, sent_in, sends_at}
use Rattle.vmx_replay_order.proofs.Arrivals.{others_emptied, comes_ready}

-- ------------------------------------------------------------ the copies of a frame

-- an arrival in the world
abbrev in_world : Plan → ℕ → World → ℕ → World
in_world plan from w to = arrives_by plan from to w (next_on w.wires from to)

-- all copies are put out, and what comes next on the link to each target then reaches it: each copy reaches its target
spread_by_arrivals : (plan : Plan) (t : Tag) (f : List ℕ) (tos : List ℕ) (w : World) → AreEmptied w → AllByRecursion (HasWire t.guest w.wires) tos → AllByRecursion (λ (to : ℕ). t.guest ≢ to) tos → AreApart tos
    → fold (in_world plan t.guest) (fold (put_out t f) w tos) tos ≡ fold (reaches plan t f) w tos
spread_by_arrivals plan t f [] w even has away apart = refl
spread_by_arrivals plan t f (a ∷ tos) w even has away apart =
    let p : Carried = record { tag = t; frame = f } in
    let out : World = fold (put_out t f) (put_out t f w a) tos in
    let next : next_on out.wires t.guest a ≡ Some p = next_outs t f a tos (put_out t f w a) apart.0 ∙ next_here t.guest a p w.wires even has.0 in
    let here : in_world plan t.guest out a ≡ fold (put_out t f) (reaches plan t f w a) tos =
    ap (arrives_by plan t.guest a out) next ∙ sym (all_later plan t f (put_out t f w a) a tos away.0) ∙ ap (λ (x : World). fold (put_out t f) x tos) (sym (one_copy plan t f w a even)) in
    ap (λ (x : World). fold (in_world plan t.guest) x tos) here
    ∙ spread_by_arrivals plan t f tos (reaches plan t f w a) (reaches_empties plan t f w a even) (all_has_kept t.guest (is_wire t.guest a) p w.wires tos has.1) away.1 apart.1

-- ------------------------------------------------------------ the targets of a frame

apart_of : (tos : List ℕ) → Rises (λ (x y : ℕ). x < y) tos → AreApart tos
apart_of [] h = tt
apart_of (x ∷ xs) h = (away xs h.0, apart_of xs h.1)
  where
    away : (ys : List ℕ) → AllByRecursion (λ (y : ℕ). x < y) ys → AllByRecursion (λ (y : ℕ). y ≡ x → ⊥) ys
    away [] h = tt
    away (y ∷ ys) h = let lt = h.0 in (λ e. absurd (omega (arith, lt, e)), away ys h.1)

turned : (g : ℕ) (tos : List ℕ) → AllByRecursion (λ (to : ℕ). to ≢ g) tos → AllByRecursion (λ (to : ℕ). g ≢ to) tos
turned g [] h = tt
turned g (to ∷ tos) h = (λ e. h.0 (sym e), turned g tos h.1)

arrivals_reach : (plan : Plan) (t : Tag) (f : List ℕ) (w : World) → IsReady plan w → t.guest < length plan.guests
    → fold (in_world plan t.guest) (fold (put_out t f) w (targets (wiring plan.guests) t.guest f)) (targets (wiring plan.guests) t.guest f) ≡ fold (reaches plan t f) w (targets (wiring plan.guests) t.guest f)
arrivals_reach plan t f w r lt =
    let tos : List ℕ = targets (wiring plan.guests) t.guest f in
    let other = by_recursion (λ (to : ℕ). to ≢ t.guest) tos (targets_other (wiring plan.guests) t.guest f) in
    spread_by_arrivals plan t f tos w r.emptied (has_links plan t.guest w r lt tos (by_recursion (λ (to : ℕ). to < length (macs_of plan.guests)) tos (targets_below (wiring plan.guests) t.guest f)) other)
    (turned t.guest tos other) (apart_of tos (targets_rise (wiring plan.guests) t.guest f))

by_verdict : (plan : Plan) (port : ℕ) (posted : Sent) (s : Sending) → All (λ to. (to < length plan.guests) × (to ≢ port)) (targets_by plan port posted s)
by_verdict plan port posted (sending.Sent a q k) = ports_of_targets plan port (wire_form posted)
by_verdict plan port posted sending.Down = All-nil _
by_verdict plan port posted sending.Short = All-nil _
by_verdict plan port posted sending.TooLong = All-nil _

-- each is another guest's port
pub goes_all : (plan : Plan) (port n : ℕ) → All (λ to. (to < length plan.guests) × (to ≢ port)) (goes_to port n plan)
goes_all plan port n = by_guest (slice_get plan.guests port)
  where
    by_frame : (p : GuestPlan) (o : Option Captured) → All (λ to. (to < length plan.guests) × (to ≢ port)) (targets_in plan port (Some p) o)
    by_frame p None = All-nil _
    by_frame p (Some c) = by_verdict plan port c.posted (verdict_on p c)

    by_guest : (o : Option GuestPlan) → All (λ to. (to < length plan.guests) × (to ≢ port)) (targets_in plan port o (captured_in o n))
    by_guest None = All-nil _
    by_guest (Some p) = by_frame p (slice_get (captured p) n)

-- ------------------------------------------------------------ what waits when a frame was put out

comes_outs : (t : Tag) (f : List ℕ) (tos : List ℕ) (w : World) → ComesFrom t.guest w → ComesFrom t.guest (fold (put_out t f) w tos)
comes_outs t f [] w h = h
comes_outs t f (to ∷ tos) w h = comes_outs t f tos (put_out t f w to) (others_emptied t.guest to (pushes (record { tag = t; frame = f })) (λ l. refl) w.wires h)

comes_put : (t : Tag) (f : List ℕ) (tos : List ℕ) (w : World) → ComesFrom t.guest w → ComesFrom t.guest (put_to t f tos w)
comes_put t f [] w h = h
comes_put t f (to ∷ tos) w h = comes_outs t f (to ∷ tos) w h

comes_verdict : (plan : Plan) (port : ℕ) (posted : Sent) (s : Sending) (w : World) → ComesFrom port w → ComesFrom port (put_by plan port posted s w)
comes_verdict plan port posted (sending.Sent a q k) w h = comes_put (record { guest = port; activation = a; queue = q; place = k }) (wire_form posted) (targets_of plan port posted) (at_guest port (transmitted a q posted) w) h
comes_verdict plan port posted sending.Down w h = h
comes_verdict plan port posted sending.Short w h = h
comes_verdict plan port posted sending.TooLong w h = h

pub comes_puts : (port n : ℕ) (r : RunView) → AreEmptied r.world → ComesFrom port (puts port n r).world
comes_puts port n r h = by_guest (slice_get r.plan.guests port)
  where
    even : ComesFrom port r.world
    even = comes_ready port r.world h

    by_frame : (p : GuestPlan) (o : Option Captured) → ComesFrom port (put_in r.plan port (Some p) o r.world)
    by_frame p None = even
    by_frame p (Some c) = comes_verdict r.plan port c.posted (verdict_on p c) r.world even

    by_guest : (o : Option GuestPlan) → ComesFrom port (put_in r.plan port o (captured_in o n) r.world)
    by_guest None = even
    by_guest (Some p) = by_frame p (slice_get (captured p) n)

-- ------------------------------------------------------------ a frame is sent

lifted : (from : ℕ) (r : RunView) (tos : List ℕ) (w : World) → fold (arrives from) (record r { world = w }) tos ≡ record r { world = fold (in_world r.plan from) w tos }
lifted from r [] w = refl
lifted from r (to ∷ tos) w = lifted from r tos (in_world r.plan from w to)

module _ (port n : ℕ) (r : RunView) (ready : IsReady r.plan r.world) (lt : port < length r.plan.guests) where
  -- the guest has come to the next number
  abbrev came : World → RunView
  came w = record r { world = w; passed = one_more port r.passed }

  spread_is : (t : Tag) (f : List ℕ) (w : World) → t.guest ≡ port → IsReady r.plan w → (tos : List ℕ) → tos ≡ targets (wiring r.plan.guests) t.guest f → fold (arrives t.guest) (came (put_to t f tos w)) tos ≡ came (spread r.plan t f tos w)
  spread_is t f w at even [] is = refl
  spread_is t f w at even (to ∷ tos) is = lifted t.guest (came w) (to ∷ tos) (fold (put_out t f) w (to ∷ tos))
      ∙ ap came (ap (λ (xs : List ℕ). fold (in_world r.plan t.guest) (fold (put_out t f) w xs) xs) is ∙ arrivals_reach r.plan t f w even (rw at lt) ∙ ap (fold (reaches r.plan t f) w) (sym is))

  by_sending : (posted : Sent) (s : Sending) → fold (arrives port) (came (put_by r.plan port posted s r.world)) (targets_by r.plan port posted s) ≡ came (sent_by r.plan port posted s r.world)
  by_sending posted (sending.Sent a q k) = spread_is (record { guest = port; activation = a; queue = q; place = k }) (wire_form posted) (at_guest port (transmitted a q posted) r.world) refl
      (ready_at r.plan port (transmitted a q posted) r.world ready) (targets_of r.plan port posted) refl
  by_sending posted sending.Down = refl
  by_sending posted sending.Short = refl
  by_sending posted sending.TooLong = refl

  by_frame : (p : GuestPlan) (o : Option Captured) → fold (arrives port) (came (put_in r.plan port (Some p) o r.world)) (targets_in r.plan port (Some p) o) ≡ came (sends r.plan port p o r.world)
  by_frame p None = refl
  by_frame p (Some c) = by_sending c.posted (verdict_on p c)

  by_guest : (o : Option GuestPlan) → fold (arrives port) (came (put_in r.plan port o (captured_in o n) r.world)) (targets_in r.plan port o (captured_in o n)) ≡ came (sent_in r.plan port n o r.world)
  by_guest None = refl
  by_guest (Some p) = by_frame p (slice_get (captured p) n)

  -- put out and taken in, it is sent
  pub sends_is : fold (arrives port) (puts port n r) (goes_to port n r.plan) ≡ sends_at port n r
  sends_is = by_guest (slice_get r.plan.guests port)

-- ------------------------------------------------------------ a turn

-- a guest's actions of a number, then its frame
pub turn_is : (plan : Plan) (port n : ℕ) (o : Option GuestPlan) (w : World) → sent_in plan port n o (acted_by port n o w) ≡ turn_of plan n port o w
turn_is plan port n None w = refl
turn_is plan port n (Some p) w = refl
