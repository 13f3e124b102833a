-- The next guest in port order is closed.
use Rattle.std.proofs.Common.{◌≡◌, ◌≢◌, ℕ, ◌+◌, ◌<◌, Bool, true, false, not, ◌&&◌, nat_lt, List, length, get_or, set, refl, sym, ap, ◌∙◌, subst, arith, Option, Some, is_some}
use Rattle.std.specs.List.{slice_get, AllByRecursion}
use Rattle.std.proofs.lemmas.Bool.Decides.{nat_tests}
use Rattle.vmx_device_state.specs.declared.turn.CommandView.{CommandView}
use Rattle.vmx_model.specs.declared.guest.GuestPlan.{GuestPlan}
use Rattle.vmx_model.specs.declared.plan.Plan.{Plan}
use Rattle.vmx_model.specs.Turns.{AreEmptied}
use Rattle.vmx_device_looks.specs.Queues.{get_lt}
use Rattle.vmx_driver_steps.specs.declared.progress.Progress.{Progress}
use Rattle.vmx_driver_steps.specs.declared.progress.Due.TheVariants as due
use Rattle.vmx_driver_steps.specs.Progress.{due_of, is_over, is_over_in as is_over_stage}
use Rattle.vmx_replay_runs.specs.Runs.{closes}
use Rattle.vmx_replay_runs.specs.Standing.{IsDone, IsOver}
use Rattle.vmx_replay_due.proofs.Due.{over}
use Rattle.vmx_replay_worlds.specs.Guests.{GuestView}
use Rattle.vmx_replay_worlds.specs.Worlds.{world_of}
use Rattle.vmx_replay_chains.specs.Chains.{AllPaired, ClosesBy, ClosesOn, IsClosableOn, is_over_in, is_over_on}
use Rattle.vmx_replay_calls.specs.Results.{WasClosed, progress_of}
use Rattle.vmx_replay_calls.proofs.Closed.{was_closed}
use Rattle.vmx_replay_calls.proofs.Room.{all_by}
use Rattle.vmx_replay_kept.proofs.Kept.{closes_sound}
use Rattle.vmx_replay_actors.specs.Runs.{IsOpen, IsRun, StandsBy, done_in, passed_of, run_of, seen_of}
use Rattle.vmx_replay_actors.proofs.Seen.{closed_all_seen}
use Rattle.vmx_replay_actors.proofs.Lists.{reached_kept}
use Rattle.vmx_replay_actors.proofs.Standing.{ElseSame, stand_set, stand_same, stands_as}
use Rattle.vmx_replay_actors.proofs.Here.{Here, planned, stands}
use Rattle.vmx_replay_actors.proofs.Acting.{Leaves, at_port, stands_here}

module _ (plan : Plan) (rs : List GuestView) (passed arrived : List ℕ) (closings : ℕ) (run : IsRun plan rs passed arrived closings) (port : ℕ) (lt : port < length plan.guests) (is : closings ≡ port) (done : IsOver port (run_of plan rs passed closings)) where
  abbrev h : Here plan rs port
  h = at_port plan rs passed arrived closings run port lt

  abbrev p : GuestPlan
  p = h.guest.driver.plan

  abbrev s : Progress
  s = h.guest.driver.at

  last : nat_lt port closings ≡ false
  last = grind (arith, nat_tests, is)

  opened : IsOpen (get_or passed port 0) p s
  opened = subst (λ (b : Bool). StandsBy b (get_or passed port 0) p s) last (stands_here plan rs passed arrived closings run port lt)

  all_done : IsDone p s.done (get_or passed port 0)
  all_done = subst (λ (k : ℕ). IsDone p k (get_or passed port 0)) (ap done_in h.at) (done p (planned plan rs port h))

  nothing_due : due_of p s false ≡ due.Nothing
  nothing_due = over (get_or passed port 0) p s (stands plan rs port h (get_or passed port 0) opened) all_done.script all_done.capture

  pub closable : IsClosableOn port rs
  closable = record { guest = h.guest; at = h.at; closable = ap (λ (o : Option CommandView). due_of p s (is_some o)) h.rest.caught_up.none ∙ nothing_due }

  not_over : is_over_on port rs ≡ false
  not_over = ap is_over_in h.at ∙ ap (λ (b : Bool). (b && is_over_stage s.stage) && not (is_some h.guest.driver.calls.asked)) opened.unclosed

  module _ (rs' : List GuestView) (empty : AreEmptied (world_of rs)) (f : ClosesOn port rs rs') (paired : AllPaired rs → AllPaired rs') where
    was : WasClosed plan port rs rs'
    was = was_closed plan port rs rs' run.settled.rests run.settled.keeps empty closable (subst (λ (b : Bool). ClosesBy b port rs rs') (sym not_over) f)

    closed_now : nat_lt port (closings + 1) ≡ true
    closed_now = grind (arith, nat_tests, is)

    else_closed : (k : ℕ) → k ≢ port → nat_lt k (closings + 1) ≡ nat_lt k closings
    else_closed k ne = grind (arith, nat_tests, is, ne)

    moved : ElseSame port passed passed closings (closings + 1)
    moved = record { number = λ k ne. refl; closed_ = else_closed }

    now_shut : (q : GuestPlan) → slice_get plan.guests port ≡ Some q → StandsBy (nat_lt port (closings + 1)) (get_or passed port 0) q was.after
    now_shut q at =
        let own : p ≡ q = cc (planned plan rs port h, at) in
        subst (λ (y : GuestPlan). StandsBy (nat_lt port (closings + 1)) (get_or passed port 0) y was.after) own
        (stands_as true (nat_lt port (closings + 1)) (get_or passed port 0) (get_or passed port 0) p was.after closed_now refl (record { over = was.over; capture = all_done.capture }))

    pub closed : Leaves plan rs' passed arrived (closings + 1) (closes port (run_of plan rs passed closings))
    closed = record {
      run = record {
        settled = record { rests = was.stand.rests; keeps = was.stand.keeps; paired = paired run.settled.paired; sound = closes_sound plan port rs rs' run.settled.rests run.settled.keeps run.settled.sound f };
        stand = stand_same plan (set (progress_of rs) port was.after) (progress_of rs') passed (closings + 1) was.stand.progress_is
            (stand_set plan (progress_of rs) passed passed closings (closings + 1) port run.stand moved was.after now_shut);
        passed_ = run.passed_;
        arrived_ = run.arrived_ ∙ sym (closed_all_seen port (world_of rs)) ∙ ap seen_of (sym was.stand.world_is);
      };
      is = λ i. record { plan = plan; world = was.stand.world_is i; reached = reached_kept rs rs' port was.guest was.after was.at was.stand.progress_is was.done i; passed = passed_of passed; closings = closings + 1 };
    }

-- once all guests were closed, each driver is over
pub all_over : (plan : Plan) (rs : List GuestView) (passed arrived : List ℕ) (closings : ℕ) → IsRun plan rs passed arrived closings → closings ≡ length plan.guests → AllByRecursion (λ (r : GuestView). is_over r.driver.at ≡ true) rs
all_over plan rs passed arrived closings run is = all_by (λ (r : GuestView). is_over r.driver.at ≡ true) rs one
  where
    one : (k : ℕ) (r : GuestView) → slice_get rs k ≡ Some r → is_over r.driver.at ≡ true
    one k r at =
        let below : k < length rs = get_lt rs k r at in
        let count = run.settled.rests.count in
        let lt : k < length plan.guests = omega (arith, below, count) in
        let h = at_port plan rs passed arrived closings run k lt in
        let own : h.guest ≡ r = cc (h.at, at) in
        let shut : nat_lt k closings ≡ true = grind (arith, nat_tests, is, lt) in
        let stands_ : StandsBy true (get_or passed k 0) h.guest.driver.plan h.guest.driver.at = subst (λ (b : Bool). StandsBy b (get_or passed k 0) h.guest.driver.plan h.guest.driver.at) shut (stands_here plan rs passed arrived closings run k lt) in
        subst (λ (x : GuestView). is_over x.driver.at ≡ true) own stands_.over
