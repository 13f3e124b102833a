-- How far the guests stand from their first number to their last, and the end of the run.
use Rattle.std.proofs.Common.{◌≡◌, ◌≢◌, ℕ, zero, suc, ◌+◌, ◌<◌, ◌≤◌, max, List, [], ◌∷◌, length, length-drop, map, drop, refl, ap, sym, ◌∙◌, arith, subst, inl, inr}
use Rattle.std.specs.List.{slice_get}
use Rattle.std.proofs.lemmas.Bool.Decides.{eqb_tells}
use Rattle.vmx_model.specs.declared.plan.Plan.{Plan}
use Rattle.vmx_model.specs.declared.guest.GuestPlan.{GuestPlan}
use Rattle.vmx_model.specs.declared.deeds.Action.{Action}
use Rattle.vmx_model.specs.Serial.{World, Seat, closed, last_at, last_number, rounds, start, serial_run}
use Rattle.vmx_model.specs.Turns.{IsReady}
use Rattle.vmx_model.proofs.Ready.{ready_at, closed_to, closed_all}
use Rattle.vmx_plan_bounds.proofs.Lasts.{last_behind}
use Rattle.vmx_replay_runs.specs.Runs.{RunView, closes}
use Rattle.vmx_replay_order.specs.Orders.{closes_all}
use Rattle.vmx_replay_runs.specs.Standing.{AreFrom, IsAt, Stands, StandFrom, StandBelow, IsOver, OthersStand}

-- ------------------------------------------------------------ the start

from_first : (acts : List Action) → AreFrom 0 acts
from_first [] = tt
from_first (a ∷ acts) = (omega arith, from_first acts)

pub at_first : (p : GuestPlan) (k : ℕ) → k ≡ 0 → IsAt 0 p k
at_first p k e = rw e (record { behind = tt; ahead = from_first p.script })

-- ------------------------------------------------------------ one guest comes through its turn

stands_still : (n port h : ℕ) (old new : RunView) → OthersStand port old new → h ≢ port → Stands n h old → Stands n h new
stands_still n port h old new o away s = record {
  begun = λ p is. subst (IsAt n p) (sym (o.reached h away)) (s.begun p (ap (λ (plan : Plan). slice_get plan.guests h) (sym o.plan) ∙ is));
  passed = o.passed h away ∙ s.passed;
}

pub from_next : (n port : ℕ) (old new : RunView) → OthersStand port old new → StandFrom n port old → StandFrom n (port + 1) new
from_next n port old new o s = λ h le lt. stands_still n port h old new o (λ e. absurd (omega (arith, le, e))) (s h (omega (arith, le)) (subst (λ (plan : Plan). h < length plan.guests) o.plan lt))

pub below_next : (n port : ℕ) (old new : RunView) → OthersStand port old new → Stands n port new → StandBelow n port old → StandBelow n (port + 1) new
below_next n port old new o here s = λ h lt. elim (eqb_tells h port) [
  | inl w ↦ subst (λ (k : ℕ). Stands n k new) (sym w.1) here
  | inr w ↦ (let ne = w.1 in stands_still n port h old new o ne (s h (omega (arith, lt, ne))))
]

-- ------------------------------------------------------------ the end

last_past : (n : ℕ) (acts : List Action) → last_at acts ≤ n → AreFrom n acts → length acts ≡ 0
last_past n [] le h = refl
last_past n (a ∷ rest) le h = let first = h.0 in absurd (omega (arith, le, first))

last_drop : (k : ℕ) (acts : List Action) → last_at (drop k acts) ≤ last_at acts
last_drop zero acts = omega arith
last_drop (suc k) [] = omega arith
last_drop (suc k) (a ∷ rest) = let le = last_drop k rest in omega (arith, le)

none_left : {X : Type 0} (k : ℕ) (xs : List X) → length (drop k xs) ≡ 0 → length xs ≤ k
none_left k xs e = let n = length-drop k xs in omega (arith, e, n)

-- the parts of what is the greater of two
parts_below : (a b c : ℕ) → max a b ≤ c → (a ≤ c) × (b ≤ c)
parts_below a b c h = (omega (arith, h), omega (arith, h))

-- behind the last number nothing is left of any guest
pub over_last : (n port : ℕ) (r : RunView) → n ≡ last_number r.plan.guests → Stands n port r → IsOver port r
over_last n port r e s = λ p is.
    let parts = parts_below (length p.capture.records) (last_at p.script) (last_number r.plan.guests) (last_behind r.plan.guests port p is) in
    let records = parts.0 in let actions = parts.1 in let at = s.passed in let k = r.reached port in record {
      script = none_left k p.script (last_past n (drop k p.script) (let le = last_drop k p.script in omega (arith, e, le, actions)) (s.begun p is).ahead);
      capture = omega (arith, e, at, records);
    }

-- the first k guests are closed
abbrev pub first_closed : ℕ → RunView → RunView
first_closed k r = record r { world = record r.world { seats = closed_to k r.world.seats }; closings = k }

pub closed_next : (port : ℕ) (r s t : RunView) → s ≡ first_closed port r → t ≡ closes port s → t ≡ first_closed (port + 1) r
closed_next port r s t e h = let one : suc port ≡ port + 1 = omega arith in h ∙ ap (closes port) e ∙ ap (λ (k : ℕ). record r { world = record r.world { seats = closed_to k r.world.seats }; closings = port + 1 }) one

pub closed_ready : (plan : Plan) (k : ℕ) (w : World) → IsReady plan w → IsReady plan (record w { seats = closed_to k w.seats })
closed_ready plan zero w r = r
closed_ready plan (suc k) w r = ready_at plan k closed (record w { seats = closed_to k w.seats }) (closed_ready plan k w r)

pub closed_whole : (k : ℕ) (r : RunView) → k ≡ length r.world.seats → k ≡ length r.plan.guests → first_closed k r ≡ closes_all r
closed_whole k r e f = ap (λ (ss : List Seat). record r { world = record r.world { seats = ss }; closings = k }) (ap (λ (j : ℕ). closed_to j r.world.seats) e ∙ closed_all r.world.seats)
    ∙ ap (λ (j : ℕ). record r { world = record r.world { seats = map closed r.world.seats }; closings = j }) f

-- the run closes all guests behind the last number
pub run_is : (plan : Plan) (w : World) → w ≡ rounds plan (last_number plan.guests) (start plan) → record w { seats = map closed w.seats } ≡ serial_run plan
unfolding serial_run
run_is plan w e = ap (λ (v : World). record v { seats = map closed v.seats }) e
