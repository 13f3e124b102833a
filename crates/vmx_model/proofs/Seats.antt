-- What holds of the seat of one guest all through the serial run, by what its own turns do and what a copy does that it sends or that reaches it.
use Rattle.std.proofs.Common.{◌≡◌, ◌≢◌, ℕ, zero, suc, ◌+◌, ◌<◌, ◌≤◌, List, [], ◌∷◌, length, map, refl, ap, sym, ◌∙◌, subst, arith, Option, Some, None, inl, inr}
use Rattle.std.proofs.lemmas.Bool.Decides.{eqb_tells}
use Rattle.std.proofs.lemmas.Option.{slice_get_within}
use Rattle.std.specs.List.{slice_get}
use Rattle.vmx_model.specs.declared.journal.Entry.TheVariants as entry
use Rattle.vmx_model.specs.declared.journal.Way.TheVariants as way
use Rattle.vmx_model.specs.declared.sending.Sending.TheVariants as sending
use Rattle.vmx_ends.specs.declared.frames.Sent.{Sent}
use Rattle.vmx_model.specs.Totals.{wiring}
use Rattle.vmx_model.specs.Types.{Plan, GuestPlan, Tag, Sending, Entry}
use Rattle.vmx_model.specs.Wire.{wire_form, targets}
use Rattle.vmx_model.specs.Plan.{Captured, captured, verdict_on}
use Rattle.vmx_model.specs.Views.{GuestView, RecordView}
use Rattle.vmx_model.specs.Record.{HasLists}
use Rattle.vmx_model.specs.Serial.{World, Seat, at_number, noted, arrived, reaches, spread, sent_by, sends, acted, activated, transmitted, turn_of, turn, turns, rounds, start, seats_from, fresh, closed, serial_run, last_number, pushed_on, mac_of}
use Rattle.vmx_model.proofs.Folds.{fold_keeps}

-- ------------------------------------------------------------ the guest of a number

-- what holds of the seat of number g
abbrev AtSeat : (Seat → Type 0) → ℕ → World → Type 0
AtSeat Q g w = (s : Seat) → slice_get w.seats g ≡ Some s → Q s

-- what a change keeps, whichever seat it changes
kept_at : {X : Type 0} (Q : X → Type 0) (n g : ℕ) (change : X → X) → ((x : X) → Q x → Q (change x)) → (xs : List X) → ((x : X) → slice_get xs g ≡ Some x → Q x) → (x : X) → slice_get (at_number n change xs) g ≡ Some x → Q x
kept_at Q n g change k [] h x e = absurd (cc e)
kept_at Q zero zero change k (y ∷ xs) h x e = let same : change y ≡ x = cc e in subst Q same (k y (h y refl))
kept_at Q zero (suc g) change k (y ∷ xs) h x e = h x e
kept_at Q (suc n) zero change k (y ∷ xs) h x e = h x e
kept_at Q (suc n) (suc g) change k (y ∷ xs) h x e = kept_at Q n g change k xs h x e

own_at : {X : Type 0} (Q R : X → Type 0) (g : ℕ) (change : X → X) → ((x : X) → Q x → R (change x)) → (xs : List X) → ((x : X) → slice_get xs g ≡ Some x → Q x) → (x : X) → slice_get (at_number g change xs) g ≡ Some x → R x
own_at Q R g change k [] h x e = absurd (cc e)
own_at Q R zero change k (y ∷ xs) h x e = let same : change y ≡ x = cc e in subst R same (k y (h y refl))
own_at Q R (suc g) change k (y ∷ xs) h x e = own_at Q R g change k xs h x e

other_at : {X : Type 0} (n g : ℕ) (change : X → X) (xs : List X) → n ≢ g → slice_get (at_number n change xs) g ≡ slice_get xs g
other_at n g change [] other = refl
other_at zero zero change (y ∷ xs) other = absurd (other refl)
other_at zero (suc g) change (y ∷ xs) other = refl
other_at (suc n) zero change (y ∷ xs) other = refl
other_at (suc n) (suc g) change (y ∷ xs) other = other_at n g change xs (λ e. other (ap suc e))

map_at : {X Y : Type 0} (Q : X → Type 0) (R : Y → Type 0) (f : X → Y) → ((x : X) → Q x → R (f x)) → (xs : List X) (g : ℕ) → ((x : X) → slice_get xs g ≡ Some x → Q x) → (y : Y) → slice_get (map f xs) g ≡ Some y → R y
map_at Q R f k [] g h y e = absurd (cc e)
map_at Q R f k (x ∷ xs) zero h y e = let same : f x ≡ y = cc e in subst R same (k x (h x refl))
map_at Q R f k (x ∷ xs) (suc g) h y e = map_at Q R f k xs g h y e

-- copies leave it: those that the guest sends, those that reach it, and frames that go through its queues
pub record Bears (Q : Seat → Type 0) : Type 0 where
  pub out : (t : Tag) (to place : ℕ) (s : Seat) → Q s → Q (noted (entry.Out t to (way.Link place)) s)
  pub lost : (t : Tag) (s : Seat) → Q s → Q (noted (entry.Lost t) s)
  pub came : (every : ℕ) (mac : List ℕ) (from place : ℕ) (f : List ℕ) (s : Seat) → Q s → Q (arrived every mac from place f s)
  pub moved : (a q : ℕ) (f : Sent) (s : Seat) → Q s → Q (transmitted a q f s)

reaches_at : (Q : Seat → Type 0) → Bears Q → (g : ℕ) (plan : Plan) (t : Tag) (f : List ℕ) (w : World) (to : ℕ) → AtSeat Q g w → AtSeat Q g (reaches plan t f w to)
reaches_at Q b g plan t f w to h =
    kept_at Q to g (arrived plan.poll_every (mac_of plan to) t.guest (pushed_on w.wires t.guest to) f) (b.came plan.poll_every (mac_of plan to) t.guest (pushed_on w.wires t.guest to) f)
    (at_number t.guest (noted (entry.Out t to (way.Link (pushed_on w.wires t.guest to)))) w.seats)
    (kept_at Q t.guest g (noted (entry.Out t to (way.Link (pushed_on w.wires t.guest to)))) (b.out t to (pushed_on w.wires t.guest to)) w.seats h)

spread_at : (Q : Seat → Type 0) → Bears Q → (g : ℕ) (plan : Plan) (t : Tag) (f : List ℕ) (tos : List ℕ) (w : World) → AtSeat Q g w → AtSeat Q g (spread plan t f tos w)
spread_at Q b g plan t f [] w h = kept_at Q t.guest g (noted (entry.Lost t)) (b.lost t) w.seats h
spread_at Q b g plan t f (to ∷ tos) w h = fold_keeps (AtSeat Q g) (reaches plan t f) (λ w to m. reaches_at Q b g plan t f w to m) (to ∷ tos) w h

sent_at : (Q : Seat → Type 0) → Bears Q → (g : ℕ) (plan : Plan) (from : ℕ) (f : Sent) (s : Sending) (w : World) → AtSeat Q g w → AtSeat Q g (sent_by plan from f s w)
sent_at Q b g plan from f sending.Down w h = h
sent_at Q b g plan from f sending.Short w h = h
sent_at Q b g plan from f sending.TooLong w h = h
sent_at Q b g plan from f (sending.Sent a q place) w h =
    spread_at Q b g plan (record { guest = from; activation = a; queue = q; place = place }) (wire_form f) (targets (wiring plan.guests) from (wire_form f)) (record w { seats = at_number from (transmitted a q f) w.seats })
    (kept_at Q from g (transmitted a q f) (b.moved a q f) w.seats h)

sends_at : (Q : Seat → Type 0) → Bears Q → (g : ℕ) (plan : Plan) (from : ℕ) (p : GuestPlan) (c : Option Captured) (w : World) → AtSeat Q g w → AtSeat Q g (sends plan from p c w)
sends_at Q b g plan from p None w h = h
sends_at Q b g plan from p (Some c) w h = sent_at Q b g plan from c.posted (verdict_on p c) w h

-- so does the turn of another guest
other_turn : (Q : Seat → Type 0) → Bears Q → (g : ℕ) (plan : Plan) (n from : ℕ) (o : Option GuestPlan) (w : World) → from ≢ g → AtSeat Q g w → AtSeat Q g (turn_of plan n from o w)
other_turn Q b g plan n from None w other h = h
other_turn Q b g plan n from (Some p) w other h =
    sends_at Q b g plan from p (slice_get (captured p) n) (record w { seats = at_number from (acted from p n) w.seats }) (λ s e. h s (sym (other_at from g (acted from p n) w.seats other) ∙ e))

-- what holds of guest g before its actions of a number, at every number
pub record Goes (Q : ℕ → Seat → Type 0) (g : ℕ) (p : GuestPlan) : Type 0 where
  pub first : (port : ℕ) → Q 0 (activated port p (fresh p))
  pub acts : (n : ℕ) (s : Seat) → Q n s → Q (suc n) (acted g p n s)
  pub bears : (n : ℕ) → Bears (Q n)

own_turn : (Q : ℕ → Seat → Type 0) (plan : Plan) (g : ℕ) (p : GuestPlan) → Goes Q g p → slice_get plan.guests g ≡ Some p → (n : ℕ) (w : World) → AtSeat (Q n) g w → AtSeat (Q (suc n)) g (turn plan n g w)
own_turn Q plan g p go at n w h = rw at (sends_at (Q (suc n)) (go.bears (suc n)) g plan g p (slice_get (captured p) n) (record w { seats = at_number g (acted g p n) w.seats })
    (own_at (Q n) (Q (suc n)) g (acted g p n) (go.acts n) w.seats h))

turns_at : (Q : ℕ → Seat → Type 0) (plan : Plan) (g : ℕ) (p : GuestPlan) → Goes Q g p → slice_get plan.guests g ≡ Some p → (n k : ℕ) (w : World) → AtSeat (Q n) g w → (k ≤ g → AtSeat (Q n) g (turns plan n k w)) × (g < k → AtSeat (Q (suc n)) g (turns plan n k w))
unfolding turns
turns_at Q plan g p go at n zero w h = (λ le. h, λ lt. absurd (omega (arith, lt)))
turns_at Q plan g p go at n (suc k) w h =
    let ih = turns_at Q plan g p go at n k w h in (
      λ le. other_turn (Q n) (go.bears n) g plan n k (slice_get plan.guests k) (turns plan n k w) (λ e. absurd (omega (arith, le, e))) (ih.0 (omega (arith, le))),
      λ lt. elim (eqb_tells k g) [
        | inl e ↦ subst (λ i. AtSeat (Q (suc n)) g (turn plan n i (turns plan n k w))) (sym e.1) (own_turn Q plan g p go at n (turns plan n k w) (ih.0 (omega (arith, e.1))))
        | inr e ↦ other_turn (Q (suc n)) (go.bears (suc n)) g plan n k (slice_get plan.guests k) (turns plan n k w) e.1 (ih.1 (omega (arith, lt, e.1)))
      ],
    )

-- ------------------------------------------------------------ the run

-- one element is one, whatever it is
one_inside : {X : Type 0} (x y : X) → Some x ≡ Some y → x ≡ y
one_inside x y e = cc e

none_inside : {X : Type 0} (x : X) → None ≡ Some x → ⊥
none_inside x e = cc e

seat_from : (port : ℕ) (gs : List GuestPlan) (g : ℕ) (p : GuestPlan) (s : Seat) → slice_get gs g ≡ Some p → slice_get (seats_from port gs) g ≡ Some s → (q : ℕ) × (activated q p (fresh p) ≡ s)
seat_from port [] g p s at e = absurd (none_inside p at)
seat_from port (x ∷ gs) zero p s at e = let same : x ≡ p = one_inside x p at in let first : activated port x (fresh x) ≡ s = one_inside (activated port x (fresh x)) s e in (port, sym (ap (λ (y : GuestPlan). activated port y (fresh y)) same) ∙ first)
seat_from port (x ∷ gs) (suc g) p s at e = seat_from (port + 1) gs g p s at e

rounds_at : (Q : ℕ → Seat → Type 0) (plan : Plan) (g : ℕ) (p : GuestPlan) → Goes Q g p → slice_get plan.guests g ≡ Some p → (n : ℕ) → AtSeat (Q n) g (rounds plan n (start plan))
unfolding rounds
rounds_at Q plan g p go at zero = λ s e. let first = seat_from 0 plan.guests g p s at e in subst (Q 0) first.1 (go.first first.0)
rounds_at Q plan g p go at (suc n) = (turns_at Q plan g p go at n (length plan.guests) (rounds plan n (start plan)) (rounds_at Q plan g p go at n)).1 (slice_get_within plan.guests g p at)

-- what holds of its journal at the end
run_at : (Q : ℕ → Seat → Type 0) (R : List Entry → Type 0) (plan : Plan) (g : ℕ) (p : GuestPlan) → Goes Q g p → ((s : Seat) → Q (last_number plan.guests) s → R (closed s).entries) → slice_get plan.guests g ≡ Some p → AtSeat (λ (s : Seat). R s.entries) g (serial_run plan)
unfolding serial_run
run_at Q R plan g p go k at = map_at (Q (last_number plan.guests)) (λ (s : Seat). R s.entries) closed k
    (rounds plan (last_number plan.guests) (start plan)).seats g (rounds_at Q plan g p go at (last_number plan.guests))

paired : (R : List Entry → Type 0) (vs : List GuestView) (ss : List Seat) (g : ℕ) (v : GuestView) → map (λ (v : GuestView). v.entries) vs ≡ map (λ (s : Seat). s.entries) ss → slice_get vs g ≡ Some v → ((s : Seat) → slice_get ss g ≡ Some s → R s.entries) → R v.entries
paired R [] ss g v e at h = absurd (cc at)
paired R (x ∷ vs) [] g v e at h = absurd (cc e)
paired R (x ∷ vs) (s ∷ ss) zero v e at h = let same : x ≡ v = cc at in let entries : x.entries ≡ s.entries = cc e in subst (λ (y : GuestView). R y.entries) same (subst R (sym entries) (h s refl))
paired R (x ∷ vs) (s ∷ ss) (suc g) v e at h = let rest : map (λ (v : GuestView). v.entries) vs ≡ map (λ (s : Seat). s.entries) ss = cc e in paired R vs ss g v rest at h

-- and of its journal in a record with the lists of the run
pub record_at : (Q : ℕ → Seat → Type 0) (R : List Entry → Type 0) (plan : Plan) (r : RecordView) → HasLists r (serial_run plan) → (g : ℕ) (p : GuestPlan) (v : GuestView) → slice_get plan.guests g ≡ Some p → slice_get r.guests g ≡ Some v →
    Goes Q g p → ((s : Seat) → Q (last_number plan.guests) s → R (closed s).entries) → R v.entries
record_at Q R plan r h g p v at here go k = paired R r.guests (serial_run plan).seats g v h.entries here (run_at Q R plan g p go k at)
