-- How a guest comes through the actions of a number.
use Rattle.std.proofs.Common.{◌≡◌, ℕ, zero, suc, ◌+◌, ◌*◌, ◌-◌, ◌≤◌, ◌<◌, Bool, true, false, true≢false, List, [], ◌∷◌, length, take, drop, refl, ap, ap₂, sym, ◌∙◌, arith, Option, Some, None, inl, inr, subst}
use Rattle.std.specs.List.{slice_get, AllByRecursion}
use Rattle.std.proofs.lemmas.Bool.Decides.{eqb_tells, nat_tests}
use Rattle.std.proofs.lemmas.Option.{slice_get_within}
use Rattle.vmx_model.specs.declared.plan.Plan.{Plan}
use Rattle.vmx_model.specs.declared.guest.GuestPlan.{GuestPlan}
use Rattle.vmx_model.specs.declared.deeds.Action.{Action}
use Rattle.vmx_model.specs.Serial.{World, Seat, acted, done}
use Rattle.vmx_model.specs.Turns.{at_guest, IsReady}
use Rattle.vmx_model.proofs.Lists.{all_weaker}
use Rattle.vmx_model.proofs.Ready.{ready_at}
use Rattle.vmx_plan_bounds.specs.Numbers.{InOrder}
use Rattle.vmx_plan_bounds.proofs.Scripts.{script_in_order}
use Rattle.vmx_replay_runs.specs.Runs.{RunView, action_in, next_action, is_of, is_next, does, acts}
use Rattle.vmx_model.specs.declared.limits.TheConstants.{MAX_ACTIONS}
use Rattle.vmx_replay_runs.specs.Short.{AreShort}
use Rattle.vmx_replay_order.proofs.Short.{short_more, short_does}
use Rattle.vmx_replay_order.specs.Orders.{acted_by}
use Rattle.vmx_replay_runs.specs.Standing.{AreBefore, AreFrom, IsAt, OthersBegun}
use Rattle.vmx_replay_order.proofs.Scripts.{acts_left, acted_is, acts_next, acts_over, drop_order}
use Rattle.vmx_replay_order.proofs.Guests.{at_twice, at_same, at_stays}
use Rattle.vmx_replay_runs.proofs.Counts.{more_here, more_other}

-- the actions of a number that are left to the guest at a port
abbrev pub rest_of : ℕ → ℕ → Option GuestPlan → ℕ → World → World
rest_of port n None k w = w
rest_of port n (Some p) k w = at_guest port (acts_left port p n (drop k p.script)) w

-- so many actions are left to be begun: the measure of the loop
abbrev pub many_left : Option GuestPlan → ℕ → ℕ
many_left None k = 0
many_left (Some p) k = length p.script - k

-- within the turn of number n
pub record IsWithin (n : ℕ) (p : GuestPlan) (k : ℕ) : Type 0 where
  pub behind : AreBefore (n + 1) (take k p.script)
  pub ahead : AreFrom n (drop k p.script)

abbrev pub Within : ℕ → Option GuestPlan → ℕ → Type 0
Within n o k = (p : GuestPlan) → o ≡ Some p → IsWithin n p k

-- ------------------------------------------------------------ one script

-- a bound that is higher, and one that is lower
before_more : (n : ℕ) (acts : List Action) → AreBefore n acts → AreBefore (n + 1) acts
before_more n acts h = all_weaker (λ (a : Action). a.at < n) (λ (a : Action). a.at < n + 1) (λ a lt. omega (arith, lt)) acts h

later : (n : ℕ) (acts : List Action) → AreFrom (n + 1) acts → AllByRecursion (λ (a : Action). n < a.at) acts
later n acts h = all_weaker (λ (a : Action). n + 1 ≤ a.at) (λ (a : Action). n < a.at) (λ a le. omega (arith, le)) acts h

first_of : {X : Type 0} (xs : List X) (k : ℕ) → slice_get xs k ≡ slice_get (drop k xs) 0
first_of [] zero = refl
first_of [] (suc k) = refl
first_of (x ∷ xs) zero = refl
first_of (x ∷ xs) (suc k) = first_of xs k

from_more : (n : ℕ) (acts : List Action) → AreFrom n acts → InOrder acts → is_of n (slice_get acts 0) ≡ false → AreFrom (n + 1) acts
from_more n [] h o e = tt
from_more n (a ∷ acts) h o e =
    let le = h.0 in
    let up : n + 1 ≤ a.at = elim (eqb_tells a.at n) [ inl w ↦ absurd (true≢false (sym w.0 ∙ e)) | inr w ↦ (let ne = w.1 in omega (arith, le, ne)) ] in
    (up, all_weaker (λ (b : Action). a.at ≤ b.at) (λ (b : Action). n + 1 ≤ b.at) (λ b high. omega (arith, high, up)) acts o.0)

-- where the next action is not of this number, all that are left are later
next_later : (n k : ℕ) (p : GuestPlan) → AreFrom n (drop k p.script) → is_of n (slice_get p.script k) ≡ false → AreFrom (n + 1) (drop k p.script)
next_later n k p h e = from_more n (drop k p.script) h (drop_order k p.script (script_in_order p)) (ap (is_of n) (sym (first_of p.script k)) ∙ e)

behind_next : (n : ℕ) (acts : List Action) (k : ℕ) (a : Action) → slice_get acts k ≡ Some a → a.at ≡ n → AreBefore (n + 1) (take k acts) → AreBefore (n + 1) (take (suc k) acts)
behind_next n [] k a e at h = absurd (cc e)
behind_next n (b ∷ acts) zero a e at h = let same : b ≡ a = cc e in let same_at = ap (λ (x : Action). x.at) same in (omega (arith, same_at, at), tt)
behind_next n (b ∷ acts) (suc k) a e at h = (h.0, behind_next n acts k a e at h.1)

ahead_next : (n : ℕ) (acts : List Action) (k : ℕ) → AreFrom n (drop k acts) → AreFrom n (drop (suc k) acts)
ahead_next n [] zero h = tt
ahead_next n [] (suc k) h = tt
ahead_next n (b ∷ acts) zero h = h.1
ahead_next n (b ∷ acts) (suc k) h = ahead_next n acts k h

-- ------------------------------------------------------------ a guest's actions of a number

-- where the next action is of this number, it is there
next_there : (n : ℕ) (a : Option Action) → is_of n a ≡ true → (x : Action) × (a ≡ Some x) × (x.at ≡ n)
next_there n None e = absurd (true≢false (sym e))
next_there n (Some a) e = (a, refl, grind (arith, nat_tests))

pub rest_begins : (port n k : ℕ) (o : Option GuestPlan) (w : World) → ((p : GuestPlan) → o ≡ Some p → IsAt n p k) → rest_of port n o k w ≡ acted_by port n o w
rest_begins port n k None w h = refl
rest_begins port n k (Some p) w h = ap (λ (ss : List Seat). record w { seats = ss }) (at_same port _ _ (λ s. sym (acted_is port p n k s (h p refl).behind)) w.seats)

pub rest_goes_on : (port n k : ℕ) (o : Option GuestPlan) (w : World) → is_of n (action_in o k) ≡ true → rest_of port n o (k + 1) (does port o (action_in o k) w) ≡ rest_of port n o k w
rest_goes_on port n k None w e = absurd (true≢false (sym e))
rest_goes_on port n k (Some p) w e = let x = next_there n (slice_get p.script k) e in let one : k + 1 ≡ suc k = omega arith in
    ap (λ (j : ℕ). rest_of port n (Some p) j (does port (Some p) (slice_get p.script k) w)) one
    ∙ ap (λ (a : Option Action). rest_of port n (Some p) (suc k) (does port (Some p) a w)) x.1
    ∙ ap (λ (ss : List Seat). record w { seats = ss }) (at_twice port _ _ w.seats ∙ at_same port _ _ (λ s. sym (acts_next port p n k x.0 s x.1 x.2)) w.seats)

pub rest_ends : (port n k : ℕ) (o : Option GuestPlan) (w : World) → Within n o k → is_of n (action_in o k) ≡ false → rest_of port n o k w ≡ w
rest_ends port n k None w h e = refl
rest_ends port n k (Some p) w h e =
    ap (λ (ss : List Seat). record w { seats = ss }) (at_stays port _ w.seats (λ s there_. acts_over port p n (drop k p.script) s (later n (drop k p.script) (next_later n k p (h p refl).ahead e))))

pub within_begins : (n k : ℕ) (o : Option GuestPlan) → ((p : GuestPlan) → o ≡ Some p → IsAt n p k) → Within n o k
within_begins n k o h = λ p is. record { behind = before_more n (take k p.script) (h p is).behind; ahead = (h p is).ahead }

pub within_goes_on : (n k : ℕ) (o : Option GuestPlan) → Within n o k → is_of n (action_in o k) ≡ true → Within n o (k + 1)
within_goes_on n k o h e = λ p is.
    let x = next_there n (slice_get p.script k) (ap (λ (q : Option GuestPlan). is_of n (action_in q k)) (sym is) ∙ e) in let one : k + 1 ≡ suc k = omega arith in
    subst (IsWithin n p) (sym one) (record { behind = behind_next n p.script k x.0 x.1 x.2 (h p is).behind; ahead = ahead_next n p.script k (h p is).ahead })

pub within_ends : (n k : ℕ) (o : Option GuestPlan) → Within n o k → is_of n (action_in o k) ≡ false → (p : GuestPlan) → o ≡ Some p → IsAt (n + 1) p k
within_ends n k o h e = λ p is. record { behind = (h p is).behind; ahead = next_later n k p (h p is).ahead (ap (λ (q : Option GuestPlan). is_of n (action_in q k)) (sym is) ∙ e) }

-- one action fewer is left
pub left_less : (n k : ℕ) (o : Option GuestPlan) → is_of n (action_in o k) ≡ true → many_left o (k + 1) < many_left o k
left_less n k None e = absurd (true≢false (sym e))
left_less n k (Some p) e = let x = next_there n (slice_get p.script k) e in let lt = slice_get_within p.script k x.0 x.1 in omega (arith, lt)

-- an action leaves all links there and emptied
pub ready_does : (plan : Plan) (port : ℕ) (o : Option GuestPlan) (a : Option Action) (w : World) → IsReady plan w → IsReady plan (does port o a w)
ready_does plan port None a w r = r
ready_does plan port (Some p) None w r = r
ready_does plan port (Some p) (Some a) w r = ready_at plan port (done port p a.deed) w r

pub ready_acted : (plan : Plan) (port n : ℕ) (o : Option GuestPlan) (w : World) → IsReady plan w → IsReady plan (acted_by port n o w)
ready_acted plan port n None w r = r
ready_acted plan port n (Some p) w r = ready_at plan port (acted port p n) w r

-- ------------------------------------------------------------ the loop over the actions of a number

-- the test of the loop, by the plan at its beginning
pub acting_in : (port n : ℕ) (r s : RunView) → s.plan ≡ r.plan → (b : Bool) → is_next port n s ≡ b → is_of n (action_in (slice_get r.plan.guests port) (s.reached port)) ≡ b
acting_in port n r s same b e = ap (λ (plan : Plan). is_of n (action_in (slice_get plan.guests port) (s.reached port))) (sym same) ∙ e

reached_is : (port : ℕ) (s t : RunView) → t ≡ acts port s → t.reached port ≡ s.reached port + 1
reached_is port s t e = ap (λ (x : RunView). x.reached port) e ∙ more_here port s.reached

pub next_less : (port n : ℕ) (r s t : RunView) → s.plan ≡ r.plan → is_next port n s ≡ true → t ≡ acts port s → many_left (slice_get r.plan.guests port) (t.reached port) < many_left (slice_get r.plan.guests port) (s.reached port)
next_less port n r s t same e h = subst (λ (k : ℕ). many_left (slice_get r.plan.guests port) k < many_left (slice_get r.plan.guests port) (s.reached port)) (sym (reached_is port s t h)) (left_less n (s.reached port) (slice_get r.plan.guests port) (acting_in port n r s same true e))

-- what the loop keeps
pub record Keeps (port n : ℕ) (r s : RunView) : Type 0 where
  pub left : rest_of port n (slice_get r.plan.guests port) (s.reached port) s.world ≡ acted_by port n (slice_get r.plan.guests port) r.world
  pub within : Within n (slice_get r.plan.guests port) (s.reached port)
  pub others : OthersBegun port r s
  pub ready : IsReady r.plan s.world

pub next_keeps : (port n : ℕ) (r s t : RunView) → rest_of port n (slice_get r.plan.guests port) (s.reached port) s.world ≡ acted_by port n (slice_get r.plan.guests port) r.world → Within n (slice_get r.plan.guests port) (s.reached port)
    → OthersBegun port r s → IsReady r.plan s.world → is_next port n s ≡ true → t ≡ acts port s → Keeps port n r t
next_keeps port n r s t left within others ready e h =
    let o : Option GuestPlan = slice_get r.plan.guests port in
    let k : ℕ = s.reached port in
    let acting = acting_in port n r s others.plan true e in
    let more = reached_is port s t h in
    let world : t.world ≡ does port o (action_in o k) s.world = ap (λ (x : RunView). x.world) h ∙ ap (λ (plan : Plan). does port (slice_get plan.guests port) (action_in (slice_get plan.guests port) k) s.world) others.plan in
    record {
      left = ap₂ (λ (j : ℕ) (w : World). rest_of port n o j w) more world ∙ rest_goes_on port n k o s.world acting ∙ left;
      within = subst (Within n o) (sym more) (within_goes_on n k o within acting);
      others = record {
        plan = ap (λ (x : RunView). x.plan) h ∙ others.plan;
        reached = λ j away. ap (λ (x : RunView). x.reached j) h ∙ more_other port j s.reached away ∙ others.reached j away;
        passed = ap (λ (x : RunView). x.passed) h ∙ others.passed;
        closings = ap (λ (x : RunView). x.closings) h ∙ others.closings;
      };
      ready = subst (IsReady r.plan) (sym world) (ready_does r.plan port o (action_in o k) s.world ready);
    }

-- a script has few actions
few_in : (n k : ℕ) (o : Option GuestPlan) → is_of n (action_in o k) ≡ true → k < MAX_ACTIONS
few_in n k None e = absurd (true≢false (sym e))
few_in n k (Some p) e = let x = next_there n (slice_get p.script k) e in let lt = slice_get_within p.script k x.0 x.1 in let most = p.script_length in omega (arith, lt, most)

pub acting_few : (port n : ℕ) (s : RunView) → is_next port n s ≡ true → s.reached port < MAX_ACTIONS
acting_few port n s e = few_in n (s.reached port) (slice_get s.plan.guests port) e

-- an action adds two entries at most
pub acts_short : (k port : ℕ) (s t : RunView) → t ≡ acts port s → AreShort (k + 2 * s.reached port) s.world → AreShort (k + 2 * t.reached port) t.world
acts_short k port s t h short =
    let more = reached_is port s t h in
    subst (λ (w : World). AreShort (k + 2 * t.reached port) w) (sym (ap (λ (x : RunView). x.world) h))
    (short_more (k + 2 * s.reached port + 2) (k + 2 * t.reached port) (acts port s).world (omega (arith, more)) (short_does (k + 2 * s.reached port) port (slice_get s.plan.guests port) (next_action port s) s.world short))
