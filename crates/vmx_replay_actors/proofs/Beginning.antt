-- The first activations, guest by guest.
use Rattle.std.proofs.Common.{◌≡◌, ◌≢◌, ℕ, zero, suc, ◌+◌, ◌<◌, ◌≤◌, ◌^◌, true, false, nat_lt, List, length, get_or, set, replicate, refl, sym, ap, ◌∙◌, subst, arith, Option, Some, None, inl, inr}
use Rattle.std.specs.List.{slice_get}
use Rattle.std.proofs.lemmas.Bool.Decides.{eqb_tells, nat_tests}
use Rattle.std.specs.Option.{option_map}
use Rattle.std.proofs.lemmas.List.{length-map, length-replicate}
use Rattle.vmx_model.specs.declared.guest.GuestPlan.{GuestPlan}
use Rattle.vmx_model.specs.declared.plan.Plan.{Plan}
use Rattle.vmx_model.specs.Serial.{activated, start}
use Rattle.vmx_model.specs.Turns.{AreEmptied, at_guest}
use Rattle.vmx_model.specs.QueueSteps.{sent_before}
use Rattle.vmx_model.proofs.Ready.{ready_start}
use Rattle.vmx_model.proofs.Sends.{some_there}
use Rattle.vmx_device_looks.specs.Queues.{each_at, get_lt}
use Rattle.vmx_device_laws.proofs.Pairing.{get_set_other}
use Rattle.vmx_driver_steps.specs.declared.progress.Progress.{Progress}
use Rattle.vmx_driver_steps.specs.declared.progress.Due.{Due}
use Rattle.vmx_driver_steps.specs.declared.progress.Due.TheVariants as due
use Rattle.vmx_driver_steps.specs.Progress.{due_of}
use Rattle.vmx_driver_steps.specs.Driver.{DriverView}
use Rattle.vmx_driver_steps.specs.Driving.{new_progress}
use Rattle.vmx_replay_runs.specs.Short.{AreShort}
use Rattle.vmx_replay_worlds.specs.Guests.{GuestView}
use Rattle.vmx_replay_worlds.specs.Worlds.{world_of}
use Rattle.vmx_replay_worlds.specs.Starts.{AreNewGuests, started}
use Rattle.vmx_replay_worlds.proofs.Lists.{get_map}
use Rattle.vmx_replay_worlds.proofs.Started.{new_world, next_started, last_started}
use Rattle.vmx_replay_chains.specs.Chains.{AllPaired, IsPairedOn, RenewsBy, due_at, is_activating}
use Rattle.vmx_replay_calls.specs.Results.{WasActivated, progress_of}
use Rattle.vmx_replay_calls.proofs.Begun.{was_activated}
use Rattle.vmx_replay_start.specs.Made.{AreMade, IsMadeAt}
use Rattle.vmx_replay_ready.proofs.Resting.{rest_all, paired_all, keep_all}
use Rattle.vmx_replay_kept.proofs.Kept.{made_sound, renews_sound}
use Rattle.vmx_replay_actors.specs.Runs.{AllStand, AreBegun, IsBegun, IsRun, done_in, passed_of, reached_of, seen_of}
use Rattle.vmx_replay_actors.proofs.Seen.{start_seen}
use Rattle.vmx_replay_actors.proofs.Few.{started_short}
use Rattle.vmx_replay_actors.proofs.Lists.{set_only}
use Rattle.vmx_replay_actors.proofs.Standing.{stands_as}
use Rattle.vmx_replay_actors.proofs.Here.{Here, here, due_is, pair_on, planned, progress_at}

-- ------------------------------------------------------------ new guests

made_at : (plan : Plan) (rs : List GuestView) (k : ℕ) (s : Progress) → AreMade plan rs → slice_get (progress_of rs) k ≡ Some s → s ≡ new_progress
made_at plan rs k s m there =
    let below : k < length (progress_of rs) = get_lt (progress_of rs) k s there in
    let long = length-map rs (λ (r : GuestView). r.driver.at) in
    let found : (r : GuestView) × (slice_get rs k ≡ Some r) = some_there rs k (omega (arith, below, long)) in
    let one : IsMadeAt plan (0 + k) found.0 = each_at (IsMadeAt plan) 0 rs k found.0 found.1 m.guests in
    let here_ : slice_get (progress_of rs) k ≡ Some found.0.driver.at = get_map (λ (r : GuestView). r.driver.at) rs k ∙ ap (option_map (λ (r : GuestView). r.driver.at)) found.1 in
    let same : s ≡ found.0.driver.at = cc (there, here_) in same ∙ ap (λ (v : DriverView). v.at) one.driver

pub made_begun : (plan : Plan) (rs : List GuestView) → AreMade plan rs → AreNewGuests (length plan.guests) 0 plan.guests rs → AreBegun 0 plan rs
made_begun plan rs m new = record {
  settled = record { rests = rest_all plan rs m; keeps = keep_all plan rs m; paired = paired_all plan rs m; sound = made_sound plan rs m };
  world = new_world plan rs new;
  begun = λ h p s lt at there. absurd (omega (arith, lt));
  fresh = λ h s le there. made_at plan rs h s m there;
}

-- ------------------------------------------------------------ one more

module _ (plan : Plan) (k : ℕ) (rs : List GuestView) (b : AreBegun k plan rs) (lt : k < length plan.guests) where
  h : Here plan rs k
  h = here plan rs k b.settled lt

  abbrev p : GuestPlan
  p = h.guest.driver.plan

  at_first : h.guest.driver.at ≡ new_progress
  at_first = b.fresh k h.guest.driver.at (omega arith) (progress_at plan rs k h)

  pub activation_due : due_at k rs ≡ due.Activate
  activation_due = due_is plan rs k h ∙ ap (λ (s : Progress). due_of p s false) at_first

  pub pair_begun : IsPairedOn (2 ^ 53) (2 ^ 29) k rs
  pair_begun = pair_on plan rs k h 1 (2 ^ 53) (2 ^ 29) (subst (AreShort 1) (sym b.world) (started_short k plan)) (omega arith) (omega arith)

  empty : AreEmptied (world_of rs)
  empty = let start_ : AreEmptied (started k plan) = (ready_start plan).emptied in subst AreEmptied (sym b.world) start_

  module _ (rs' : List GuestView) (f : RenewsBy (is_activating (due_at k rs)) k rs rs') (paired : AllPaired rs → AllPaired rs') where
    renews : RenewsBy true k rs rs'
    renews = subst (λ (d : Due). RenewsBy (is_activating d) k rs rs') activation_due f

    was : WasActivated plan k rs rs'
    was = was_activated plan k rs rs' b.settled.rests b.settled.keeps empty activation_due renews

    own : was.guest ≡ h.guest
    own = cc (was.at, h.at)

    first : was.guest.driver.at ≡ new_progress
    first = ap (λ (r : GuestView). r.driver.at) own ∙ at_first

    begun_now : IsBegun p was.after
    begun_now = record {
      done = was.done ∙ ap (λ (s : Progress). s.done) first;
      open_ = record {
        unclosed = was.closed_ ∙ ap (λ (s : Progress). s.closed) first;
        waits = was.waits;
        gone = subst (λ (x : GuestPlan × ℕ). (a q : ℕ) → sent_before x.0 a q was.after.next ≡ sent_before x.0 a q x.1) (λ i. ((own i).driver.plan, (first i).next)) was.over.none;
      };
    }

    world : world_of rs' ≡ started (k + 1) plan
    world =
        let one : suc k ≡ k + 1 = omega arith in
        was.stand.world_is ∙ (λ i. at_guest k (activated k (own i).driver.plan) (b.world i)) ∙ next_started plan k p (planned plan rs k h) ∙ ap (λ (n : ℕ). started n plan) one

    begun_to : (j : ℕ) (q : GuestPlan) (s : Progress) → j < k + 1 → slice_get plan.guests j ≡ Some q → slice_get (set (progress_of rs) k was.after) j ≡ Some s → IsBegun q s
    begun_to j q s le at there = elim (eqb_tells j k) [
      | inl same ↦ (
          let is : s ≡ was.after = set_only (progress_of rs) k was.after s (ap (slice_get (set (progress_of rs) k was.after)) (sym same.1) ∙ there) in
          let there_ = planned plan rs k h in
          let at_k : slice_get plan.guests k ≡ Some q = ap (slice_get plan.guests) (sym same.1) ∙ at in
          let mine : p ≡ q = cc (there_, at_k) in
          subst (λ (x : GuestPlan × Progress). IsBegun x.0 x.1) (λ i. (mine i, sym is i)) begun_now)
      | inr away ↦ b.begun j q s (let ne = away.1 in omega (arith, le, ne)) at (sym (get_set_other (progress_of rs) k was.after j away.1) ∙ there)
    ]

    fresh_from : (j : ℕ) (s : Progress) → k + 1 ≤ j → slice_get (set (progress_of rs) k was.after) j ≡ Some s → s ≡ new_progress
    fresh_from j s le there =
        let ne : j ≢ k = (λ e. absurd (omega (arith, le, e))) in
        b.fresh j s (omega (arith, le)) (sym (get_set_other (progress_of rs) k was.after j ne) ∙ there)

    pub next_begun : AreBegun (k + 1) plan rs'
    next_begun = record {
      settled = record { rests = was.stand.rests; keeps = was.stand.keeps; paired = paired b.settled.paired; sound = renews_sound plan k rs rs' b.settled.rests b.settled.keeps b.settled.sound renews };
      world = world;
      begun = λ j q s le at there. begun_to j q s le at (sym (ap (λ (ps : List Progress). slice_get ps j) was.stand.progress_is) ∙ there);
      fresh = λ j s le there. fresh_from j s le (sym (ap (λ (ps : List Progress). slice_get ps j) was.stand.progress_is) ∙ there);
    }

-- ------------------------------------------------------------ all of them

zero_at : (n k : ℕ) → get_or (replicate {A = ℕ} n 0) k 0 ≡ 0
zero_at zero k = refl
zero_at (suc n) zero = refl
zero_at (suc n) (suc k) = zero_at n k

module _ (plan : Plan) (rs : List GuestView) (b : AreBegun (length plan.guests) plan rs) where
  pub at_start : world_of rs ≡ start plan
  at_start = b.world ∙ last_started plan

  done_here : (k : ℕ) (r : GuestView) (x : Here plan rs k) → k < length plan.guests → slice_get rs k ≡ Some r → r.driver.at.done ≡ 0
  done_here k r x lt e =
      let own : x.guest ≡ r = cc (x.at, e) in
      ap (λ (y : GuestView). y.driver.at.done) (sym own) ∙ (b.begun k x.guest.driver.plan x.guest.driver.at lt (planned plan rs k x) (progress_at plan rs k x)).done

  done_by : (k : ℕ) (o : Option GuestView) → slice_get rs k ≡ o → done_in o ≡ 0
  done_by k None e = refl
  done_by k (Some r) e =
      let below = get_lt rs k r e in let count = b.settled.rests.count in
      let lt : k < length plan.guests = omega (arith, below, count) in
      done_here k r (here plan rs k b.settled lt) lt e

  pub none_reached : (k : ℕ) → reached_of rs k ≡ 0
  none_reached k = done_by k (slice_get rs k) refl

  module _ (passed arrived : List ℕ) (zeros : passed ≡ replicate (length plan.guests) 0) (none : arrived ≡ replicate (length plan.guests) 0) where
    pub none_passed : (k : ℕ) → passed_of passed k ≡ 0
    none_passed k = ap (λ (ns : List ℕ). get_or ns k 0) zeros ∙ zero_at (length plan.guests) k

    stand : AllStand plan (progress_of rs) passed 0
    stand h p s at there =
        let lt : h < length plan.guests = get_lt plan.guests h p at in
        stands_as false (nat_lt h 0) 0 (get_or passed h 0) p s (grind (arith, nat_tests)) (none_passed h) (b.begun h p s lt at there).open_

    pub run_begins : IsRun plan rs passed arrived 0
    run_begins = record {
      settled = b.settled;
      stand = stand;
      passed_ = ap (λ (ns : List ℕ). length ns) zeros ∙ length-replicate (length plan.guests) 0;
      arrived_ = none ∙ sym (start_seen plan) ∙ ap seen_of (sym at_start);
    }
