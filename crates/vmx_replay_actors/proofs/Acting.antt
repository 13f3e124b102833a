-- A guest acts, or polls.
use Rattle.std.proofs.Common.{◌≡◌, ℕ, ◌<◌, Bool, true, false, true≢false, nat_lt, List, length, get_or, set, refl, sym, ap, ◌∙◌, subst, arith, Some}
use Rattle.std.specs.List.{slice_get}
use Rattle.std.proofs.lemmas.Bool.Decides.{nat_tests}
use Rattle.vmx_model.specs.declared.guest.GuestPlan.{GuestPlan}
use Rattle.vmx_model.specs.declared.plan.Plan.{Plan}
use Rattle.vmx_model.specs.Turns.{AreEmptied}
use Rattle.vmx_model.proofs.Sends.{past}
use Rattle.vmx_driver_steps.specs.declared.progress.Progress.{Progress}
use Rattle.vmx_driver_steps.specs.declared.progress.Due.{Due}
use Rattle.vmx_driver_steps.specs.declared.progress.Due.TheVariants as due
use Rattle.vmx_driver_steps.specs.Progress.{due_of}
use Rattle.vmx_replay_runs.specs.Runs.{RunView, acts, action_in, changes, does, is_next, is_of, live_poll, up_at}
use Rattle.vmx_replay_due.specs.Standing.{is_action}
use Rattle.vmx_replay_due.proofs.Due.{acting}
use Rattle.vmx_replay_worlds.specs.Guests.{GuestView}
use Rattle.vmx_replay_worlds.specs.Worlds.{world_of}
use Rattle.vmx_replay_chains.specs.Chains.{AllPaired, FollowsOn, PollsOn, due_at}
use Rattle.vmx_replay_calls.specs.Results.{HasActed, WasActed, WasPolled, progress_of}
use Rattle.vmx_replay_calls.proofs.Acted.{was_acted}
use Rattle.vmx_replay_calls.proofs.PolledOn.{polled_on}
use Rattle.vmx_replay_kept.proofs.Kept.{follows_sound, polls_sound}
use Rattle.vmx_replay_actors.specs.Runs.{IsOpen, IsShut, StandsBy, IsRun, done_in, passed_of, run_of, seen_of}
use Rattle.vmx_replay_actors.proofs.Seen.{does_seen, polled_seen}
use Rattle.vmx_replay_actors.proofs.Lists.{reached_more, reached_same}
use Rattle.vmx_replay_actors.proofs.Standing.{stand_set, stand_same, stands_as}
use Rattle.vmx_replay_actors.proofs.Here.{Here, here, planned, progress_at, due_is, stands, shut_due, shut_script}

-- the run behind a call, and what it is
pub record Leaves (plan : Plan) (rs : List GuestView) (passed arrived : List ℕ) (closings : ℕ) (r : RunView) : Type 0 where
  pub run : IsRun plan rs passed arrived closings
  pub is : run_of plan rs passed closings ≡ r

action_only : (n : ℕ) (d : Due) → is_action n d ≡ true → d ≡ due.Action n
action_only n (due.Action at) e = let same : at ≡ n = grind (arith, nat_tests, e) in ap due.Action same
action_only n (due.Frame i) e = absurd (true≢false (sym e))
action_only n due.Nothing e = absurd (true≢false (sym e))
action_only n due.Activate e = absurd (true≢false (sym e))
action_only n due.Answer e = absurd (true≢false (sym e))
action_only n due.Meet e = absurd (true≢false (sym e))
action_only n due.Close e = absurd (true≢false (sym e))

module _ (plan : Plan) (rs : List GuestView) (passed arrived : List ℕ) (closings : ℕ) (run : IsRun plan rs passed arrived closings) (port : ℕ) (lt : port < length plan.guests) where
  pub at_port : Here plan rs port
  at_port = here plan rs port run.settled lt

  abbrev p : GuestPlan
  p = at_port.guest.driver.plan

  abbrev s : Progress
  s = at_port.guest.driver.at

  -- it stands by whether it is closed
  pub stands_here : StandsBy (nat_lt port closings) (get_or passed port 0) p s
  stands_here = run.stand port p s (planned plan rs port at_port) (progress_at plan rs port at_port)

  pub due_here : due_at port rs ≡ due_of p s false
  due_here = due_is plan rs port at_port

  -- ---------------------------------------------------------- an action

  next_here : (number : ℕ) → is_next port number (run_of plan rs passed closings) ≡ is_of number (slice_get p.script s.done)
  next_here number = λ i. is_of number (action_in (planned plan rs port at_port i) (done_in (at_port.at i)))

  shut_next : (number : ℕ) → IsShut (get_or passed port 0) p s → is_next port number (run_of plan rs passed closings) ≡ false
  shut_next number sh = next_here number ∙ ap (is_of number) (past p.script s.done (shut_script plan rs port at_port (get_or passed port 0) sh))

  -- an action of the number is due where the script's next action is of it
  acting_by : (number : ℕ) (b : Bool) → get_or passed port 0 ≡ number → StandsBy b (get_or passed port 0) p s → is_action number (due_of p s false) ≡ is_next port number (run_of plan rs passed closings)
  acting_by number true e sh = ap (is_action number) (shut_due plan rs port at_port (get_or passed port 0) sh) ∙ sym (shut_next number sh)
  acting_by number false e o = acting number p s (stands plan rs port at_port number (subst (λ (n : ℕ). IsOpen n p s) e o)) ∙ sym (next_here number)

  pub is_acting : (number : ℕ) → get_or passed port 0 ≡ number → is_action number (due_at port rs) ≡ is_next port number (run_of plan rs passed closings)
  is_acting number e = ap (is_action number) due_here ∙ acting_by number (nat_lt port closings) e stands_here

  module _ (number : ℕ) (is : get_or passed port 0 ≡ number) (next : is_next port number (run_of plan rs passed closings) ≡ true) where
    open_by : (b : Bool) → nat_lt port closings ≡ b → StandsBy b (get_or passed port 0) p s → (nat_lt port closings ≡ false) × IsOpen (get_or passed port 0) p s
    open_by true e sh = absurd (true≢false (sym next ∙ shut_next number sh))
    open_by false e o = (e, o)

    pub still_open : (nat_lt port closings ≡ false) × IsOpen (get_or passed port 0) p s
    still_open = open_by (nat_lt port closings) refl stands_here

    action_due : due_at port rs ≡ due.Action number
    action_due = action_only number (due_at port rs) (is_acting number is ∙ next)

    module _ (rs' : List GuestView) (empty : AreEmptied (world_of rs)) (f : FollowsOn port rs rs') (paired : AllPaired rs → AllPaired rs') where
      was : WasActed plan port rs rs'
      was = was_acted plan port number rs rs' run.settled.rests run.settled.keeps empty action_due f

      same_guest : was.guest ≡ at_port.guest
      same_guest = cc (was.at, at_port.at)

      has : HasActed p s was.after
      has = subst (λ (r : GuestView). HasActed r.driver.plan r.driver.at was.after) same_guest was.acted

      now_open : (q : GuestPlan) → slice_get plan.guests port ≡ Some q → StandsBy (nat_lt port closings) (get_or passed port 0) q was.after
      now_open q at =
          let same : p ≡ q = cc (planned plan rs port at_port, at) in
          let o = still_open.1 in
          let opened : IsOpen (get_or passed port 0) p was.after = record {
            unclosed = has.closed_ ∙ o.unclosed;
            waits = has.waits;
            gone = λ a k. has.over.none a k ∙ o.gone a k;
          } in
          subst (λ (x : GuestPlan). StandsBy (nat_lt port closings) (get_or passed port 0) x was.after) same (stands_as false (nat_lt port closings) (get_or passed port 0) (get_or passed port 0) p was.after still_open.0 refl opened)

      pub acted : Leaves plan rs' passed arrived closings (acts port (run_of plan rs passed closings))
      acted = record {
        run = record {
          settled = record { rests = was.stand.rests; keeps = was.stand.keeps; paired = paired run.settled.paired; sound = follows_sound plan port rs rs' run.settled.rests run.settled.keeps run.settled.sound f };
          stand = stand_same plan (set (progress_of rs) port was.after) (progress_of rs') passed closings was.stand.progress_is
              (stand_set plan (progress_of rs) passed passed closings closings port run.stand (record { number = λ h ne. refl; closed_ = λ h ne. refl }) was.after now_open);
          passed_ = run.passed_;
          arrived_ = run.arrived_ ∙ sym (does_seen port (slice_get plan.guests port) (action_in (slice_get plan.guests port) was.guest.driver.at.done) (world_of rs)) ∙ ap seen_of (sym was.stand.world_is);
        };
        is =
            let done_is : done_in (slice_get rs port) ≡ was.guest.driver.at.done = ap done_in was.at in
            let world : world_of rs' ≡ (acts port (run_of plan rs passed closings)).world = was.stand.world_is ∙ ap (λ (k : ℕ). does port (slice_get plan.guests port) (action_in (slice_get plan.guests port) k) (world_of rs)) (sym done_is) in
            let reached = reached_more rs rs' port was.guest was.after was.at was.stand.progress_is was.acted.done in
            λ i. record { plan = plan; world = world i; reached = reached i; passed = passed_of passed; closings = closings };
      }

  -- ---------------------------------------------------------- a poll

  module _ (n : ℕ) (rs' : List GuestView) (f : PollsOn port n rs rs') (paired : AllPaired rs → AllPaired rs') where
    was_polled : WasPolled plan port n rs rs'
    was_polled = polled_on plan port n rs rs' run.settled.rests run.settled.keeps f

    pub poll_count : n ≡ up_at port (run_of plan rs passed closings)
    poll_count = was_polled.count

    pub polled : Leaves plan rs' passed arrived closings (changes port live_poll (run_of plan rs passed closings))
    polled = record {
      run = record {
        settled = record { rests = was_polled.stand.rests; keeps = was_polled.stand.keeps; paired = paired run.settled.paired; sound = polls_sound plan port n rs rs' run.settled.rests run.settled.keeps run.settled.sound f };
        stand = stand_same plan (progress_of rs) (progress_of rs') passed closings was_polled.stand.progress_is run.stand;
        passed_ = run.passed_;
        arrived_ = run.arrived_ ∙ sym (polled_seen port (world_of rs)) ∙ ap seen_of (sym was_polled.stand.world_is);
      };
      is = λ i. record { plan = plan; world = was_polled.stand.world_is i; reached = reached_same rs rs' was_polled.stand.progress_is i; passed = passed_of passed; closings = closings };
    }
