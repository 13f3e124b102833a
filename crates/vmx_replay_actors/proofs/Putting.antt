-- The frame of a number goes out, or the guest goes past it.
use Rattle.std.proofs.Common.{◌≡◌, ℕ, zero, suc, ◌+◌, ◌<◌, Bool, true, false, true≢false, nat_lt, List, [], ◌∷◌, length, take, get_or, set, refl, sym, ap, ◌∙◌, subst, arith, Option, Some, None, if◌then◌else◌}
use Rattle.std.specs.List.{slice_get}
use Rattle.std.proofs.lemmas.Bool.Decides.{nat_tests}
use Rattle.std.proofs.lemmas.List.{take_all, length-set}
use Rattle.vmx_pcap.specs.declared.records.Stamped.{Stamped}
use Rattle.vmx_switch.specs.declared.answer.TheConstants.{MAX_PORTS}
use Rattle.vmx_model.specs.declared.guest.GuestPlan.{GuestPlan}
use Rattle.vmx_model.specs.declared.plan.Plan.{Plan}
use Rattle.vmx_model.specs.declared.deeds.Action.{Action}
use Rattle.vmx_ends.specs.declared.frames.Sent.{Sent}
use Rattle.vmx_model.specs.declared.sending.Sending.{Sending}
use Rattle.vmx_model.specs.declared.sending.Sending.TheVariants as sending
use Rattle.vmx_model.specs.Plan.{Captured, captured, captured_as, numbered, place_of, verdict_on}
use Rattle.vmx_model.specs.PlanSteps.{captured_there}
use Rattle.vmx_model.specs.QueueSteps.{sent_before}
use Rattle.vmx_model.specs.Turns.{AreEmptied}
use Rattle.vmx_model.specs.Wire.{posted_form, tx_queue, wire_form}
use Rattle.vmx_model.proofs.Sends.{past}
use Rattle.vmx_plan_bounds.proofs.Few.{targets_few}
use Rattle.vmx_driver_steps.specs.declared.progress.Progress.{Progress}
use Rattle.vmx_driver_steps.specs.declared.progress.Stage.{Stage}
use Rattle.vmx_driver_steps.specs.declared.progress.Stage.TheVariants.{Fresh, Active, Stopping, Held, Quiet, Ended}
use Rattle.vmx_driver_steps.specs.declared.progress.Due.{Due}
use Rattle.vmx_driver_steps.specs.declared.progress.Due.TheVariants as due
use Rattle.vmx_driver_steps.specs.Progress.{due_in as due_in_stage, due_of, next_by}
use Rattle.vmx_driver_steps.specs.Driving.{PassesOver}
use Rattle.vmx_replay_runs.specs.Runs.{captured_in, goes_to, put_by, put_in, puts, targets_by, targets_in, targets_of}
use Rattle.vmx_replay_runs.specs.Standing.{HasBegun}
use Rattle.vmx_replay_due.specs.Standing.{HasActed, is_frame, is_sent}
use Rattle.vmx_replay_due.proofs.Due.{queue, sent, stays_by, unsent}
use Rattle.vmx_replay_worlds.specs.Guests.{GuestView}
use Rattle.vmx_replay_worlds.specs.Worlds.{world_of}
use Rattle.vmx_replay_steps.specs.Turns.{queue_of}
use Rattle.vmx_replay_chains.specs.Chains.{AllPaired, PutsBy, SendsOn, due_at, entries_on}
use Rattle.vmx_replay_chains.specs.Targets.{targets_behind}
use Rattle.vmx_replay_chains.proofs.Targeting.{behind_end}
use Rattle.vmx_replay_calls.specs.Results.{StandFor, WasSentOut, progress_of}
use Rattle.vmx_replay_calls.proofs.SentOn.{sent_on}
use Rattle.vmx_replay_kept.proofs.Kept.{sends_sound}
use Rattle.vmx_replay_actors.specs.Runs.{IsOpen, IsRun, StandsBy, done_in, passed_of, reached_of, run_of, seen_of}
use Rattle.vmx_replay_actors.proofs.Seen.{by_seen}
use Rattle.vmx_replay_actors.proofs.Lists.{number_else, number_here, passed_more, reached_kept}
use Rattle.vmx_replay_actors.proofs.Standing.{ElseSame, stand_set, stand_same, stand_there, stands_as}
use Rattle.vmx_replay_actors.proofs.Here.{Here, planned, progress_at, shut_due, stands}
use Rattle.vmx_replay_actors.proofs.Acting.{Leaves, at_port, due_here, stands_here}

-- ------------------------------------------------------------ small things

frame_only : (n : ℕ) (d : Due) → is_frame n d ≡ true → d ≡ due.Frame n
frame_only n (due.Frame i) e = let same : i ≡ n = grind (arith, nat_tests, e) in ap due.Frame same
frame_only n (due.Action at) e = absurd (true≢false (sym e))
frame_only n due.Nothing e = absurd (true≢false (sym e))
frame_only n due.Activate e = absurd (true≢false (sym e))
frame_only n due.Answer e = absurd (true≢false (sym e))
frame_only n due.Meet e = absurd (true≢false (sym e))
frame_only n due.Close e = absurd (true≢false (sym e))

-- a frame that is due is the next one
frame_next : (n k : ℕ) (a : Option Action) (r : Option Stamped) → is_frame n (next_by k a r) ≡ true → k ≡ n
frame_next n k None None e = absurd (true≢false (sym e))
frame_next n k None (Some r) e = grind (arith, nat_tests, e)
frame_next n k (Some a) None e = absurd (true≢false (sym e))
frame_next n k (Some a) (Some r) e = step (nat_lt k a.at) e
  where
    step : (b : Bool) → is_frame n (if b then due.Frame k else due.Action a.at) ≡ true → k ≡ n
    step true h = grind (arith, nat_tests, h)
    step false h = absurd (true≢false (sym h))

frame_in : (n k : ℕ) (g : Stage) (closed : Bool) (a : Option Action) (r : Option Stamped) → is_frame n (due_in_stage g closed (next_by k a r)) ≡ true → k ≡ n
frame_in n k Active true a r e = absurd (true≢false (sym e))
frame_in n k Active false a r e = frame_next n k a r e
frame_in n k Quiet closed a r e = frame_next n k a r e
frame_in n k Fresh closed a r e = absurd (true≢false (sym e))
frame_in n k (Stopping t) closed a r e = absurd (true≢false (sym e))
frame_in n k (Held t) closed a r e = absurd (true≢false (sym e))
frame_in n k Ended closed a r e = absurd (true≢false (sym e))

frame_at : (n : ℕ) (p : GuestPlan) (s : Progress) → is_frame n (due_of p s false) ≡ true → s.next ≡ n
frame_at n p s e = frame_in n s.next s.stage s.closed (slice_get p.script s.done) (slice_get p.capture.records s.next) e

-- behind the capture there is no frame
numbered_long : (p : GuestPlan) (j : ℕ) (rs : List Stamped) → length (numbered p j rs) ≡ length rs
numbered_long p j [] = refl
numbered_long p j (r ∷ rs) = ap suc (numbered_long p (j + 1) rs)

captured_none : (p : GuestPlan) (n : ℕ) → slice_get p.capture.records n ≡ None → slice_get (captured p) n ≡ None
captured_none p n none = by_list p n 0 p.capture.records none
  where
    by_list : (p : GuestPlan) (n j : ℕ) (rs : List Stamped) → slice_get rs n ≡ None → slice_get (numbered p j rs) n ≡ None
    by_list p n j [] e = refl
    by_list p zero j (r ∷ rs) e = absurd (cc e)
    by_list p (suc n) j (r ∷ rs) e = by_list p n (j + 1) rs e

-- what a frame that went out comes to, with the guest that sent it
record SentAs (plan : Plan) (port : ℕ) (rs rs' : List GuestView) (r : GuestView) : Type 0 where
  frame : Stamped
  there_ : slice_get r.driver.plan.capture.records r.driver.at.next ≡ Some frame
  targets : targets_behind (length (entries_on port rs)) (entries_on port rs') ≡ targets_of plan port (posted_form r.driver.plan frame.frame)
  next : ℕ
  over : PassesOver r.driver.plan (r.driver.at.next + 1) next
  stand : StandFor plan (put_by plan port (posted_form r.driver.plan frame.frame) (sending.Sent r.driver.at.ended (queue_of r.driver frame) (length (sent_before r.driver.plan r.driver.at.ended (queue_of r.driver frame) r.driver.at.next))) (world_of rs))
      (set (progress_of rs) port (record r.driver.at { next = next })) rs'

sent_as : (plan : Plan) (port : ℕ) (rs rs' : List GuestView) (r : GuestView) → slice_get rs port ≡ Some r → WasSentOut plan port rs rs' → SentAs plan port rs rs' r
sent_as plan port rs rs' r at w =
    let same : w.guest ≡ r = cc (w.at, at) in
    subst (SentAs plan port rs rs') same (record { frame = w.frame; there_ = w.there_; targets = w.targets; next = w.next; over = w.over; stand = w.stand })

-- ------------------------------------------------------------ the call

module _ (plan : Plan) (rs : List GuestView) (passed arrived : List ℕ) (closings : ℕ) (run : IsRun plan rs passed arrived closings) (port : ℕ) (lt : port < length plan.guests) (number : ℕ) (is : get_or passed port 0 ≡ number) (begun : HasBegun port (number + 1) (run_of plan rs passed closings)) where
  abbrev h : Here plan rs port
  h = at_port plan rs passed arrived closings run port lt

  abbrev p : GuestPlan
  p = h.guest.driver.plan

  abbrev s : Progress
  s = h.guest.driver.at

  there_ : slice_get plan.guests port ≡ Some p
  there_ = planned plan rs port h

  abbrev frame_there : Option Captured
  frame_there = captured_in (slice_get plan.guests port) number

  abbrev passed' : List ℕ
  passed' = set passed port (number + 1)

  within : port < length passed
  within = let n = run.passed_ in omega (arith, n, lt)

  acted : HasActed number p s.done
  acted = subst (HasActed number p) (ap done_in h.at) (begun p there_).ahead

  moved : ElseSame port passed passed' closings closings
  moved = record { number = λ k ne. number_else passed port k (number + 1) ne; closed_ = λ k ne. refl }

  passed_is : passed_of passed' ≡ (puts port number (run_of plan rs passed closings)).passed
  passed_is = passed_more passed port number within is

  -- the guest's plan stands for the plan at its port
  in_plan : put_in plan port (Some p) (captured_in (Some p) number) (world_of rs) ≡ (puts port number (run_of plan rs passed closings)).world
  in_plan = λ i. put_in plan port (sym there_ i) (captured_in (sym there_ i) number) (world_of rs)

  to_plan : targets_in plan port (Some p) (captured_in (Some p) number) ≡ goes_to port number plan
  to_plan = λ i. targets_in plan port (sym there_ i) (captured_in (sym there_ i) number)

  -- ---------------------------------------------------------- nothing goes out

  record Unsent : Type 0 where
    world : put_in plan port (Some p) (captured_in (Some p) number) (world_of rs) ≡ world_of rs
    targets : targets_in plan port (Some p) (captured_in (Some p) number) ≡ []
    stands_ : StandsBy (nat_lt port closings) (number + 1) p s

  none_there : slice_get p.capture.records number ≡ None → (put_in plan port (Some p) (captured_in (Some p) number) (world_of rs) ≡ world_of rs) × (targets_in plan port (Some p) (captured_in (Some p) number) ≡ [])
  none_there e = let none = captured_none p number e in (ap (λ (c : Option Captured). put_in plan port (Some p) c (world_of rs)) none, ap (targets_in plan port (Some p)) none)

  some_unsent : (r : Stamped) → slice_get p.capture.records number ≡ Some r → is_sent (verdict_on p (captured_as p number r)) ≡ false → (put_in plan port (Some p) (captured_in (Some p) number) (world_of rs) ≡ world_of rs) × (targets_in plan port (Some p) (captured_in (Some p) number) ≡ [])
  some_unsent r e none =
      let there = captured_there p number r e in
      let stays = stays_by plan port (captured_as p number r).posted (verdict_on p (captured_as p number r)) (world_of rs) none in
      (ap (λ (c : Option Captured). put_in plan port (Some p) c (world_of rs)) there ∙ stays.0, ap (targets_in plan port (Some p)) there ∙ stays.1)

  unsent_open : IsOpen number p s → is_frame number (due_of p s false) ≡ false → (put_in plan port (Some p) (captured_in (Some p) number) (world_of rs) ≡ world_of rs) × (targets_in plan port (Some p) (captured_in (Some p) number) ≡ [])
  unsent_open o off = by_record (slice_get p.capture.records number) refl
    where
      by_record : (r : Option Stamped) → slice_get p.capture.records number ≡ r → (put_in plan port (Some p) (captured_in (Some p) number) (world_of rs) ≡ world_of rs) × (targets_in plan port (Some p) (captured_in (Some p) number) ≡ [])
      by_record None e = none_there e
      by_record (Some r) e = some_unsent r e (sym (sent number p s (stands plan rs port h number o) r acted e) ∙ off)

  unsent_by : (b : Bool) → nat_lt port closings ≡ b → StandsBy b (get_or passed port 0) p s → is_frame number (due_of p s false) ≡ false → Unsent
  unsent_by true e sh off =
      let le = sh.capture in
      let gone = none_there (past p.capture.records number (omega (arith, le, is))) in record {
        world = gone.0;
        targets = gone.1;
        stands_ = stands_as true (nat_lt port closings) (number + 1) (number + 1) p s e refl (record { over = sh.over; capture = omega (arith, le, is) });
      }
  unsent_by false e o off =
      let at = subst (λ (n : ℕ). IsOpen n p s) is o in let gone = unsent_open at off in record {
        world = gone.0;
        targets = gone.1;
        stands_ = stands_as false (nat_lt port closings) (number + 1) (number + 1) p s e refl
            (record { unclosed = at.unclosed; waits = at.waits; gone = unsent number p s (stands plan rs port h number at) acted off });
      }

  -- ---------------------------------------------------------- the frame goes out

  open_by : (b : Bool) → nat_lt port closings ≡ b → StandsBy b (get_or passed port 0) p s → is_frame number (due_of p s false) ≡ true → (nat_lt port closings ≡ false) × IsOpen number p s
  open_by true e sh on = absurd (true≢false (sym on ∙ ap (is_frame number) (shut_due plan rs port h (get_or passed port 0) sh)))
  open_by false e o on = (e, subst (λ (n : ℕ). IsOpen n p s) is o)

  -- what a call leaves: the world, and the ports to which the journal says that frames were given
  pub record Puts (rs' : List GuestView) : Type 0 where
    pub leaves : Leaves plan rs' passed' arrived closings (puts port number (run_of plan rs passed closings))
    pub targets : take MAX_PORTS (targets_behind (length (entries_on port rs)) (entries_on port rs')) ≡ goes_to port number plan

  module _ (rs' : List GuestView) (paired : AllPaired rs → AllPaired rs') where
    stays : is_frame number (due_of p s false) ≡ false → rs' ≡ rs → Puts rs'
    stays off same =
        let u : Unsent = unsent_by (nat_lt port closings) refl (stands_here plan rs passed arrived closings run port lt) off in
        let at_number : StandsBy (nat_lt port closings) (get_or passed' port 0) p s = stands_as (nat_lt port closings) (nat_lt port closings) (number + 1) (get_or passed' port 0) p s refl (number_here passed port (number + 1) within) u.stands_ in
        let here_ : (q : GuestPlan) (t : Progress) → slice_get plan.guests port ≡ Some q → slice_get (progress_of rs) port ≡ Some t → StandsBy (nat_lt port closings) (get_or passed' port 0) q t =
        (λ q t e f. let own : p ≡ q = cc (there_, e) in let far : s ≡ t = cc (progress_at plan rs port h, f) in subst (λ (x : GuestPlan × Progress). StandsBy (nat_lt port closings) (get_or passed' port 0) x.0 x.1) (λ i. (own i, far i)) at_number) in
        subst Puts (sym same) (record {
          leaves = record {
            run = record {
              settled = run.settled;
              stand = stand_there plan (progress_of rs) passed passed' closings closings port run.stand moved here_;
              passed_ = length-set passed port (number + 1) ∙ run.passed_;
              arrived_ = run.arrived_;
            };
            is = λ i. record { plan = plan; world = (sym u.world ∙ in_plan) i; reached = reached_of rs; passed = passed_is i; closings = closings };
          };
          targets = ap (take MAX_PORTS) (behind_end (entries_on port rs)) ∙ sym u.targets ∙ to_plan;
        })

    goes : is_frame number (due_of p s false) ≡ true → AreEmptied (world_of rs) → SendsOn port rs rs' → Puts rs'
    goes on empty f =
        let o = open_by (nat_lt port closings) refl (stands_here plan rs passed arrived closings run port lt) on in
        let due_ : due_at port rs ≡ due.Frame number = due_here plan rs passed arrived closings run port lt ∙ frame_only number (due_of p s false) on in
        let x : SentAs plan port rs rs' h.guest = sent_as plan port rs rs' h.guest h.at (sent_on plan port number rs rs' run.settled.rests run.settled.keeps empty due_ f) in
        let next_is : s.next ≡ number = frame_at number p s on in
        let e : slice_get p.capture.records number ≡ Some x.frame = ap (slice_get p.capture.records) (sym next_is) ∙ x.there_ in
        let q = queue number p s (stands plan rs port h number o.1) x.frame acted e on in
        let there = captured_there p number x.frame e in
        let posted : Sent = posted_form p x.frame.frame in
        let k : ℕ = tx_queue x.frame.frame p.setup.tx_queues in
        let world : world_of rs' ≡ put_in plan port (Some p) (captured_in (Some p) number) (world_of rs) =
        x.stand.world_is ∙ ap (λ (n : ℕ). put_by plan port posted (sending.Sent s.ended k (place_of p s.ended k n)) (world_of rs)) next_is
        ∙ sym (ap (λ (c : Option Captured). put_in plan port (Some p) c (world_of rs)) there ∙ ap (λ (v : Sending). put_by plan port posted v (world_of rs)) q.1) in
        let tos : targets_in plan port (Some p) (captured_in (Some p) number) ≡ targets_of plan port posted =
        ap (targets_in plan port (Some p)) there ∙ ap (targets_by plan port posted) q.1 in
        let opened : IsOpen (number + 1) p (record s { next = x.next }) = record {
          unclosed = o.1.unclosed;
          waits = o.1.waits;
          gone = λ a b. x.over.none a b ∙ ap (λ (n : ℕ). sent_before p a b (n + 1)) next_is;
        } in
        let stands_ : StandsBy (nat_lt port closings) (get_or passed' port 0) p (record s { next = x.next }) =
        stands_as false (nat_lt port closings) (number + 1) (get_or passed' port 0) p (record s { next = x.next }) o.0 (number_here passed port (number + 1) within) opened in
        let now : (q : GuestPlan) → slice_get plan.guests port ≡ Some q → StandsBy (nat_lt port closings) (get_or passed' port 0) q (record s { next = x.next }) =
        (λ q at. let own : p ≡ q = cc (there_, at) in subst (λ (y : GuestPlan). StandsBy (nat_lt port closings) (get_or passed' port 0) y (record s { next = x.next })) own stands_) in
        record {
          leaves = record {
            run = record {
              settled = record { rests = x.stand.rests; keeps = x.stand.keeps; paired = paired run.settled.paired; sound = sends_sound plan port rs rs' run.settled.rests run.settled.keeps run.settled.sound f };
              stand = stand_same plan (set (progress_of rs) port (record s { next = x.next })) (progress_of rs') passed' closings x.stand.progress_is (stand_set plan (progress_of rs) passed passed' closings closings port run.stand moved (record s { next = x.next }) now);
              passed_ = length-set passed port (number + 1) ∙ run.passed_;
              arrived_ = run.arrived_ ∙ sym (by_seen plan port posted (sending.Sent s.ended k (place_of p s.ended k s.next)) (world_of rs)) ∙ ap seen_of (sym x.stand.world_is);
            };
            is = λ i. record { plan = plan; world = (world ∙ in_plan) i; reached = reached_kept rs rs' port h.guest (record s { next = x.next }) h.at x.stand.progress_is refl i; passed = passed_is i; closings = closings };
          };
          targets = ap (take MAX_PORTS) x.targets ∙ take_all MAX_PORTS (targets_of plan port posted) (targets_few plan port (wire_form posted)) ∙ sym tos ∙ to_plan;
        }

    puts_by : (b : Bool) → is_frame number (due_of p s false) ≡ b → AreEmptied (world_of rs) → PutsBy b port rs rs' → Puts rs'
    puts_by true e empty f = goes e empty f
    puts_by false e empty f = stays e f

    pub put : AreEmptied (world_of rs) → PutsBy (is_frame number (due_at port rs)) port rs rs' → Puts rs'
    put empty f = puts_by (is_frame number (due_at port rs)) (ap (is_frame number) (sym (due_here plan rs passed arrived closings run port lt))) empty f
