-- Between any two steps of the serial run all links are there, and emptied.
use Rattle.std.proofs.Common.{◌≡◌, ◌≢◌, ℕ, zero, suc, ◌+◌, ◌<◌, ◌≤◌, Bool, true, false, true≢false, List, [], ◌∷◌, ◌++◌, length, map, refl, ap, sym, ◌∙◌, arith, nat_eq, not, Option, Some, None, cond, inl, inr, ◌⊎◌}
use Rattle.std.specs.List.{fold, filter, flat_map, slice_get, AllByRecursion}
use Rattle.std.proofs.lemmas.List.{length-map}
use Rattle.std.proofs.lemmas.Bool.Decides.{eqb_tells, nat_tests}
use Rattle.vmx_switch.specs.Laws.{targets_below, targets_other}
use Rattle.vmx_ends.specs.declared.frames.Sent.{Sent}
use Rattle.vmx_model.specs.Types.{Plan, GuestPlan, Tag, Sending}
use Rattle.vmx_model.specs.declared.journal.Entry.TheVariants as entry
use Rattle.vmx_model.specs.declared.sending.Sending.TheVariants as sending
use Rattle.vmx_model.specs.Plan.{Captured, captured, verdict_on}
use Rattle.vmx_model.specs.Lists.{Rises, upto}
use Rattle.vmx_model.specs.Totals.{wiring, macs_of}
use Rattle.vmx_model.specs.Wire.{wire_form, targets}
use Rattle.vmx_model.specs.Serial.{World, Wire, Seat, at_number, is_wire, transmitted, reaches, spread, sent_by, sends, acted, turn, turn_of, turns, rounds, noted, start, seats_from, closed, serial_run, last_number, wires_from}
use Rattle.vmx_model.specs.Turns.{HasWire, AreApart, IsReady, at_guest, put_out, takes_next}
use Rattle.vmx_model.proofs.Lists.{by_recursion}
use Rattle.vmx_model.proofs.Fates.{targets_rise}
use Rattle.vmx_model.proofs.Folds.{rounds_keep, links_start}
use Rattle.vmx_model.proofs.Turns.{reaches_empties}
use Rattle.vmx_model.proofs.Looks.{has_kept, spread_by_looks}

at_long : {X : Type 0} (n : ℕ) (f : X → X) (xs : List X) → length (at_number n f xs) ≡ length xs
at_long n f [] = refl
at_long zero f (x ∷ xs) = refl
at_long (suc n) f (x ∷ xs) = ap suc (at_long n f xs)

ready_reaches : (plan : Plan) (t : Tag) (f : List ℕ) (w : World) (to : ℕ) → IsReady plan w → IsReady plan (reaches plan t f w to)
ready_reaches plan t f w to r = record {
  emptied = reaches_empties plan t f w to r.emptied;
  links = λ a b la lb away. has_kept a b (is_wire t.guest to) (record { tag = t; frame = f }) w.wires (r.links a b la lb away);
  seats = at_long to _ _ ∙ at_long t.guest _ w.seats ∙ r.seats;
}

ready_fold : (plan : Plan) (t : Tag) (f : List ℕ) (tos : List ℕ) (w : World) → IsReady plan w → IsReady plan (fold (reaches plan t f) w tos)
ready_fold plan t f [] w r = r
ready_fold plan t f (to ∷ tos) w r = ready_fold plan t f tos (reaches plan t f w to) (ready_reaches plan t f w to r)

-- a change of guests alone
pub ready_at : (plan : Plan) (g : ℕ) (change : Seat → Seat) (w : World) → IsReady plan w → IsReady plan (at_guest g change w)
ready_at plan g change w r = record { emptied = r.emptied; links = r.links; seats = at_long g change w.seats ∙ r.seats }

pub ready_spread : (plan : Plan) (t : Tag) (f : List ℕ) (tos : List ℕ) (w : World) → IsReady plan w → IsReady plan (spread plan t f tos w)
ready_spread plan t f [] w r = ready_at plan t.guest (noted (entry.Lost t)) w r
ready_spread plan t f (to ∷ tos) w r = ready_fold plan t f (to ∷ tos) w r

ready_sent : (plan : Plan) (g : ℕ) (f : Sent) (s : Sending) (w : World) → IsReady plan w → IsReady plan (sent_by plan g f s w)
ready_sent plan g f sending.Down w r = r
ready_sent plan g f sending.Short w r = r
ready_sent plan g f sending.TooLong w r = r
ready_sent plan g f (sending.Sent a q k) w r = ready_spread plan (record { guest = g; activation = a; queue = q; place = k }) (wire_form f) (targets (wiring plan.guests) g (wire_form f)) (at_guest g (transmitted a q f) w) (ready_at plan g (transmitted a q f) w r)

ready_sends : (plan : Plan) (g : ℕ) (p : GuestPlan) (c : Option Captured) (w : World) → IsReady plan w → IsReady plan (sends plan g p c w)
ready_sends plan g p None w r = r
ready_sends plan g p (Some c) w r = ready_sent plan g c.posted (verdict_on p c) w r

ready_of : (plan : Plan) (n g : ℕ) (o : Option GuestPlan) (w : World) → IsReady plan w → IsReady plan (turn_of plan n g o w)
ready_of plan n g None w r = r
ready_of plan n g (Some p) w r = ready_sends plan g p (slice_get (captured p) n) (at_guest g (acted g p n) w) (ready_at plan g (acted g p n) w r)

-- a turn leaves all links there and emptied
pub ready_turn : (plan : Plan) (n g : ℕ) (w : World) → IsReady plan w → IsReady plan (turn plan n g w)
ready_turn plan n g w r = ready_of plan n g (slice_get plan.guests g) w r

pub ready_turns : (plan : Plan) (n g : ℕ) (w : World) → IsReady plan w → IsReady plan (turns plan n g w)
unfolding turns
ready_turns plan n zero w r = r
ready_turns plan n (suc g) w r = ready_turn plan n g (turns plan n g w) (ready_turns plan n g w r)

pub ready_rounds : (plan : Plan) (n : ℕ) (w : World) → IsReady plan w → IsReady plan (rounds plan n w)
ready_rounds plan n w r = rounds_keep (IsReady plan) plan (λ n g w k. ready_turn plan n g w k) n w r

-- ------------------------------------------------------------ the start

has_left : (a b : ℕ) (xs ys : List Wire) → HasWire a xs b → HasWire a (xs ++ ys) b
has_left a b [] ys h = absurd (true≢false (sym h))
has_left a b (x ∷ xs) ys h = one (is_wire a b x) refl h (has_left a b xs ys)
  where
    one : (t : Bool) → is_wire a b x ≡ t → HasWire a (x ∷ xs) b → (HasWire a xs b → HasWire a (xs ++ ys) b) → HasWire a (x ∷ (xs ++ ys)) b
    one true e h ih = rw e refl
    one false e h ih = rw e (ih (rw e at h))

has_right : (a b : ℕ) (xs ys : List Wire) → HasWire a ys b → HasWire a (xs ++ ys) b
has_right a b [] ys h = h
has_right a b (x ∷ xs) ys h = one (is_wire a b x) refl (has_right a b xs ys h)
  where
    one : (t : Bool) → is_wire a b x ≡ t → HasWire a (xs ++ ys) b → HasWire a (x ∷ (xs ++ ys)) b
    one true e ih = rw e refl
    one false e ih = rw e ih

abbrev no_wire : ℕ → ℕ → Wire
no_wire a to = record { from = a; to = to; pushed = []; pulled = [] }

abbrev Tells : ℕ → ℕ → Type 0
Tells n m = ((nat_eq n m ≡ true) × (n ≡ m)) ⊎ ((nat_eq n m ≡ false) × (n ≢ m))

has_from : (a b from k : ℕ) → (b ≡ a → ⊥) → from ≤ b → b < from + k → HasWire a (filter (λ (l : Wire). not (nat_eq l.from l.to)) (map (no_wire a) (upto from k))) b
has_from a b from zero away low high = absurd (omega (arith, low, high))
has_from a b from (suc k) away low high = one (nat_eq a from) refl (eqb_tells from b) (λ other. has_from a b (from + 1) k away (omega (arith, low, other)) (omega (arith, high)))
  where
    rest : List Wire
    rest = filter (λ (l : Wire). not (nat_eq l.from l.to)) (map (no_wire a) (upto (from + 1) k))

    self : nat_eq a a ≡ true
    self = grind (arith, nat_tests)

    one : (t : Bool) → nat_eq a from ≡ t → Tells from b → ((from ≢ b) → HasWire a rest b) → HasWire a (cond (not t) (no_wire a from ∷ rest) rest) b
    one true e (inl w) ih = let at : a ≡ from = grind (arith, nat_tests) in let here = w.1 in absurd (away (omega (arith, at, here)))
    one false e (inl w) ih = rw (self, w.0) refl
    one true e (inr w) ih = ih w.1
    one false e (inr w) ih = rw (self, w.0) (ih w.1)

has_links_from : (n a b from k : ℕ) → b < n → (b ≡ a → ⊥) → from ≤ a → a < from + k → HasWire a (flat_map (wires_from n) (upto from k)) b
has_links_from n a b from zero below away low high = absurd (omega (arith, low, high))
has_links_from n a b from (suc k) below away low high = one (eqb_tells from a) (λ other. has_links_from n a b (from + 1) k below away (omega (arith, low, other)) (omega (arith, high)))
  where
    one : Tells from a → ((from ≢ a) → HasWire a (flat_map (wires_from n) (upto (from + 1) k)) b) → HasWire a (wires_from n from ++ flat_map (wires_from n) (upto (from + 1) k)) b
    one (inl w) ih = has_left a b (wires_from n from) (flat_map (wires_from n) (upto (from + 1) k)) (rw w.1 (has_from a b 0 n away (omega arith) (omega (arith, below))))
    one (inr w) ih = has_right a b (wires_from n from) (flat_map (wires_from n) (upto (from + 1) k)) (ih w.1)

seats_long : (port : ℕ) (gs : List GuestPlan) → length (seats_from port gs) ≡ length gs
seats_long port [] = refl
seats_long port (g ∷ gs) = ap suc (seats_long (port + 1) gs)

pub ready_start : (plan : Plan) → IsReady plan (start plan)
ready_start plan = record {
  emptied = links_start (length plan.guests) (upto 0 (length plan.guests));
  links = λ a b la lb away. has_links_from (length plan.guests) a b 0 (length plan.guests) lb away (omega arith) (omega (arith, la));
  seats = seats_long 0 plan.guests;
}

-- ------------------------------------------------------------ the end

-- the first guests, closed
abbrev pub closed_to : ℕ → List Seat → List Seat
closed_to zero ss = ss
closed_to (suc k) ss = at_number k closed (closed_to k ss)

-- the world with its first guests closed
abbrev pub closes_all : ℕ → World → World
closes_all k w = record w { seats = closed_to k w.seats }

closed_first : (k : ℕ) (s : Seat) (ss : List Seat) → closed_to (suc k) (s ∷ ss) ≡ closed s ∷ closed_to k ss
closed_first zero s ss = refl
closed_first (suc k) s ss = ap (at_number (suc k) closed) (closed_first k s ss)

pub closed_all : (ss : List Seat) → closed_to (length ss) ss ≡ map closed ss
closed_all [] = refl
closed_all (s ∷ ss) = closed_first (length ss) s ss ∙ ap (λ (xs : List Seat). closed s ∷ xs) (closed_all ss)

-- the run closes all guests of the world behind its last number
pub serial_closed : (plan : Plan) (w : World) → w ≡ rounds plan (last_number plan.guests) (start plan) → record w { seats = closed_to (length plan.guests) w.seats } ≡ serial_run plan
unfolding serial_run
serial_closed plan w e =
    let r = ready_rounds plan (last_number plan.guests) (start plan) (ready_start plan) in
    ap (λ (v : World). record v { seats = closed_to (length plan.guests) v.seats }) e
    ∙ ap (λ (ss : List Seat). record (rounds plan (last_number plan.guests) (start plan)) { seats = ss }) (ap (λ (k : ℕ). closed_to k (rounds plan (last_number plan.guests) (start plan)).seats) (sym r.seats) ∙ closed_all (rounds plan (last_number plan.guests) (start plan)).seats)

-- ------------------------------------------------------------ the targets of a frame

weaker_rise : (tos : List ℕ) → Rises (λ (x y : ℕ). x < y) tos → AreApart tos
weaker_rise [] h = tt
weaker_rise (x ∷ xs) h = (away xs h.0, weaker_rise xs h.1)
  where
    away : (ys : List ℕ) → AllByRecursion (λ (y : ℕ). x < y) ys → AllByRecursion (λ (y : ℕ). y ≡ x → ⊥) ys
    away [] h = tt
    away (y ∷ ys) h = let lt = h.0 in (λ e. absurd (omega (arith, lt, e)), away ys h.1)

others : (g : ℕ) (tos : List ℕ) → AllByRecursion (λ (to : ℕ). to ≢ g) tos → AllByRecursion (λ (to : ℕ). g ≢ to) tos
others g [] h = tt
others g (to ∷ tos) h = (λ e. h.0 (sym e), others g tos h.1)

-- the links of targets are there
pub has_links : (plan : Plan) (g : ℕ) (w : World) → IsReady plan w → g < length plan.guests → (tos : List ℕ) → AllByRecursion (λ (to : ℕ). to < length (macs_of plan.guests)) tos → AllByRecursion (λ (to : ℕ). to ≢ g) tos → AllByRecursion (HasWire g w.wires) tos
has_links plan g w r lt [] below away = tt
has_links plan g w r lt (to ∷ tos) below away = let l = length-map plan.guests (λ (p : GuestPlan). p.mac) in let b = below.0 in (r.links g to lt (omega (arith, l, b)) away.0, has_links plan g w r lt tos below.1 away.1)

-- a frame that is put out to its targets, and then taken in by them, one look after the other, reaches them
pub looks_reach : (plan : Plan) (t : Tag) (f : List ℕ) (w : World) → IsReady plan w → t.guest < length plan.guests
    → fold (takes_next plan t.guest) (fold (put_out t f) w (targets (wiring plan.guests) t.guest f)) (targets (wiring plan.guests) t.guest f) ≡ fold (reaches plan t f) w (targets (wiring plan.guests) t.guest f)
looks_reach plan t f w r lt =
    let tos : List ℕ = targets (wiring plan.guests) t.guest f in
    let other = by_recursion (λ (to : ℕ). to ≢ t.guest) tos (targets_other (wiring plan.guests) t.guest f) in
    spread_by_looks plan t f tos w r.emptied (has_links plan t.guest w r lt tos (by_recursion (λ (to : ℕ). to < length (macs_of plan.guests)) tos (targets_below (wiring plan.guests) t.guest f)) other)
    (others t.guest tos other) (weaker_rise tos (targets_rise (wiring plan.guests) t.guest f))
