-- What is due with a driver that stands at a number.
use Rattle.std.proofs.Common.{◌≡◌, ℕ, zero, suc, ◌+◌, ◌≤◌, ◌<◌, Bool, true, false, true≢false, not, ◌&&◌, List, [], ◌∷◌, length, drop, refl, ap, sym, ◌∙◌, subst, arith, nat_eq, nat_lt, Option, Some, None, if◌then◌else◌, inl, inr, ◌⊎◌}
use Rattle.std.specs.List.{slice_get, AllByRecursion}
use Rattle.std.proofs.lemmas.Bool.Decides.{nat_tests}
use Rattle.std.proofs.lemmas.Option.{slice_get_within}
use Rattle.vmx_pcap.specs.declared.records.Stamped.{Stamped}
use Rattle.vmx_model.specs.declared.guest.GuestPlan.{GuestPlan}
use Rattle.vmx_model.specs.declared.deeds.Action.{Action}
use Rattle.vmx_ends.specs.declared.frames.Sent.{Sent}
use Rattle.vmx_model.specs.declared.plan.Plan.{Plan}
use Rattle.vmx_model.specs.Serial.{World}
use Rattle.vmx_model.specs.declared.sending.Sending.{Sending}
use Rattle.vmx_model.specs.declared.sending.Sending.TheVariants as sending
use Rattle.vmx_model.specs.Wire.{tx_queue}
use Rattle.vmx_model.specs.Plan.{captured_as, goes_on, place_of, verdict_on, activation_at}
use Rattle.vmx_model.specs.PlanSteps.{captured_there}
use Rattle.vmx_model.specs.QueueSteps.{sent_before, sent_before_other}
use Rattle.vmx_model.proofs.Sends.{some_there, past}
use Rattle.vmx_driver_steps.specs.declared.progress.Stage.{Stage}
use Rattle.vmx_driver_steps.specs.declared.progress.Stage.TheVariants.{Fresh, Active, Stopping, Held, Quiet, Ended}
use Rattle.vmx_driver_steps.specs.declared.progress.Progress.{Progress}
use Rattle.vmx_driver_steps.specs.declared.progress.Due.{Due}
use Rattle.vmx_driver_steps.specs.declared.progress.Due.TheVariants as due
use Rattle.vmx_driver_steps.specs.Progress.{is_later, is_sendable, is_passed, passes_by, next_by, next_of, due_in, due_of}
use Rattle.vmx_driver_steps.specs.Asking.{Waits}
use Rattle.vmx_driver_steps.specs.Steps.{goes_there}
use Rattle.vmx_replay_runs.specs.Runs.{is_of, put_by, targets_by}
use Rattle.vmx_replay_due.specs.Standing.{HasGone, StandsAt, HasActed, is_action, is_frame, is_sent}
use Rattle.vmx_replay_due.proofs.Going.{place_grows, place_taken, sent_goes, goes_sent, goes_nowhere, goes_when, sent_past}

next_in : (g : Stage) (closed : Bool) (d : Due) → Waits g → closed ≡ false → due_in g closed d ≡ d
next_in Active closed d w open_ = ap (λ (b : Bool). if b then due.Close else d) open_
next_in Quiet closed d w open_ = refl
next_in Fresh closed d w open_ = absurd w
next_in (Stopping t) closed d w open_ = absurd w
next_in (Held t) closed d w open_ = absurd w
next_in Ended closed d w open_ = absurd w

not_false : (b : Bool) → not b ≡ false → b ≡ true
not_false true e = refl
not_false false e = absurd (true≢false e)

behind_or : (i n : ℕ) → (i < n) ⊎ (n ≤ i)
behind_or i n = step (nat_lt i n) refl
  where
    step : (b : Bool) → nat_lt i n ≡ b → (i < n) ⊎ (n ≤ i)
    step true e = inl (grind (arith, nat_tests, e))
    step false e = inr (grind (arith, nat_tests, e))

-- where all up to n were begun, the next action is later than a number up to n
later_of : (n m : ℕ) (acts : List Action) (k : ℕ) → m ≤ n → AllByRecursion (λ (a : Action). n + 1 ≤ a.at) (drop k acts) → is_later m (slice_get acts k) ≡ true
later_of n m [] zero le h = refl
later_of n m [] (suc k) le h = refl
later_of n m (a ∷ acts) zero le h = let first = h.0 in grind (arith, nat_tests, first, le)
later_of n m (a ∷ acts) (suc k) le h = later_of n m acts k le h

module _ (n : ℕ) (p : GuestPlan) (s : Progress) (st : StandsAt n p s) where
  abbrev action : Option Action
  action = slice_get p.script s.done

  next_is : due_of p s false ≡ next_of p s
  next_is = next_in s.stage s.closed (next_of p s) st.waits st.unclosed

  -- a frame before which no action comes is one that is sent
  sends_here : (r : Stamped) → slice_get p.capture.records s.next ≡ Some r → is_later s.next action ≡ true → goes_on p s.ended (tx_queue r.frame p.setup.tx_queues) (captured_as p s.next r) ≡ true
  sends_here r there later = by_stage s.stage refl st.waits
    where
      kept : is_passed p s.stage r.frame ≡ false
      kept = sym (ap (λ (b : Bool). b && is_passed p s.stage r.frame) later) ∙ sym (ap (passes_by p s action) there) ∙ st.settled

      by_stage : (g : Stage) → s.stage ≡ g → Waits g → goes_on p s.ended (tx_queue r.frame p.setup.tx_queues) (captured_as p s.next r) ≡ true
      by_stage Active on w = goes_there p s r st.under there (slice_get_within p.capture.records s.next r there) later on (not_false (is_sendable p r.frame) (ap (λ (x : Stage). is_passed p x r.frame) (sym on) ∙ kept))
      by_stage Quiet on w = absurd (true≢false (ap (λ (x : Stage). is_passed p x r.frame) (sym on) ∙ kept))
      by_stage Fresh on w = absurd w
      by_stage (Stopping t) on w = absurd w
      by_stage (Held t) on w = absurd w
      by_stage Ended on w = absurd w

  -- so it is not one of those gone through
  not_behind : (r : Stamped) → slice_get p.capture.records s.next ≡ Some r → is_later s.next action ≡ true → n ≤ s.next
  not_behind r there later = elim (behind_or s.next n) [
    | inl lt ↦ (
        let q : ℕ = tx_queue r.frame p.setup.tx_queues in
        let one = place_taken p s.ended q s.next r there (sends_here r there later) in
        let more = place_grows p s.ended q (s.next + 1) n (omega (arith, lt)) in
        let same : place_of p s.ended q s.next ≡ place_of p s.ended q n = ap length (st.gone s.ended q) in
        absurd (omega (arith, one, more, same)))
    | inr ge ↦ ge
  ]

  -- ------------------------------------------------------------ an action

  acting_by : (a : Option Action) (r : Option Stamped) → action ≡ a → slice_get p.capture.records s.next ≡ r → is_action n (next_by s.next a r) ≡ is_of n a
  acting_by None None e f = refl
  acting_by None (Some r) e f = refl
  acting_by (Some a) None e f = refl
  acting_by (Some a) (Some r) e f = step (nat_lt s.next a.at) refl
    where
      step : (b : Bool) → nat_lt s.next a.at ≡ b → is_action n (if b then due.Frame s.next else due.Action a.at) ≡ nat_eq a.at n
      step true h = let ge = not_behind r f (ap (is_later s.next) e ∙ h) in let other : nat_eq a.at n ≡ false = grind (arith, nat_tests, ge, h) in sym other
      step false h = refl

  pub acting : is_action n (due_of p s false) ≡ is_of n action
  acting = ap (is_action n) next_is ∙ acting_by action (slice_get p.capture.records s.next) refl refl

  -- ------------------------------------------------------------ a frame

  frame_here : (a : Option Action) (r : Stamped) → is_later n a ≡ true → is_frame n (next_by n a (Some r)) ≡ true
  frame_here None r later = grind (arith, nat_tests)
  frame_here (Some a) r later = let self : nat_eq n n ≡ true = grind (arith, nat_tests) in ap (λ (b : Bool). is_frame n (if b then due.Frame n else due.Action a.at)) later ∙ self

  frame_only : (a : Option Action) (r : Option Stamped) → is_frame n (next_by s.next a r) ≡ true → s.next ≡ n
  frame_only None None e = absurd (true≢false (sym e))
  frame_only None (Some r) e = grind (arith, nat_tests, e)
  frame_only (Some a) None e = absurd (true≢false (sym e))
  frame_only (Some a) (Some r) e = step (nat_lt s.next a.at) e
    where
      step : (b : Bool) → is_frame n (if b then due.Frame s.next else due.Action a.at) ≡ true → s.next ≡ n
      step true h = grind (arith, nat_tests, h)
      step false h = absurd (true≢false (sym h))

  only : is_frame n (due_of p s false) ≡ true → s.next ≡ n
  only e = frame_only action (slice_get p.capture.records s.next) (sym (ap (is_frame n) next_is) ∙ e)

  never : (b : Bool) → (b ≡ true → ⊥) → b ≡ false
  never true f = absurd (f refl)
  never false f = refl

  module _ (r : Stamped) (acted : HasActed n p s.done) (there : slice_get p.capture.records n ≡ Some r) where
    goes_here : s.next ≡ n → goes_on p s.ended (tx_queue r.frame p.setup.tx_queues) (captured_as p n r) ≡ true
    goes_here e = subst (λ (k : ℕ). goes_on p s.ended (tx_queue r.frame p.setup.tx_queues) (captured_as p k r) ≡ true) e
        (sends_here r (ap (slice_get p.capture.records) e ∙ there) (later_of n s.next p.script s.done (omega (arith, e)) acted))

    at_is : s.next ≡ n → activation_at p n ≡ s.ended
    at_is e = goes_when p (captured_as p n r) s.ended (tx_queue r.frame p.setup.tx_queues) (goes_here e)

    own : s.next ≡ n → goes_on p (activation_at p n) (tx_queue r.frame p.setup.tx_queues) (captured_as p n r) ≡ true
    own e = ap (λ (a : ℕ). goes_on p a (tx_queue r.frame p.setup.tx_queues) (captured_as p n r)) (at_is e) ∙ goes_here e

    -- the frame of the number is due exactly where it is sent
    pub sent : is_frame n (due_of p s false) ≡ is_sent (verdict_on p (captured_as p n r))
    sent = elim (behind_or s.next n) [
      | inl lt ↦ (
          let below = slice_get_within p.capture.records n r there in
          let found = some_there p.capture.records s.next (omega (arith, lt, below)) in
          let ge = not_behind found.0 found.1 (later_of n s.next p.script s.done (omega (arith, lt)) acted) in
          absurd (omega (arith, lt, ge)))
      | inr ge ↦ elim (behind_or n s.next) [
        | inl lt ↦ (
            let out : is_frame n (due_of p s false) ≡ false = never (is_frame n (due_of p s false)) (λ e. let same = only e in absurd (omega (arith, lt, same))) in
            out ∙ sym (never (is_sent (verdict_on p (captured_as p n r))) (λ e.
            let q : ℕ = tx_queue r.frame p.setup.tx_queues in
            let a : ℕ = activation_at p n in
            let one = place_taken p a q n r there (sent_goes p (captured_as p n r) ∙ e) in
            let more = place_grows p a q (n + 1) s.next (omega (arith, lt)) in
            let same : place_of p a q s.next ≡ place_of p a q n = ap length (st.gone a q) in
            absurd (omega (arith, one, more, same)))))
        | inr le ↦ (
            let e : s.next ≡ n = omega (arith, ge, le) in
            let here : next_by s.next action (slice_get p.capture.records s.next) ≡ next_by n action (Some r) = ap (λ (k : ℕ). next_by k action (slice_get p.capture.records k)) e ∙ ap (next_by n action) there in
            ap (is_frame n) (next_is ∙ here) ∙ frame_here action r (later_of n n p.script s.done (omega arith) acted) ∙ sym (sym (sent_goes p (captured_as p n r)) ∙ own e))
      ]
    ]

    pub queue : is_frame n (due_of p s false) ≡ true → (s.next ≡ n) × (verdict_on p (captured_as p n r) ≡ sending.Sent s.ended (tx_queue r.frame p.setup.tx_queues) (place_of p s.ended (tx_queue r.frame p.setup.tx_queues) n))
    queue h = let e = only h in (e, goes_sent p (captured_as p n r) (own e) ∙ ap (λ (a : ℕ). sending.Sent a (tx_queue r.frame p.setup.tx_queues) (place_of p a (tx_queue r.frame p.setup.tx_queues) n)) (at_is e))

  -- ------------------------------------------------------------ on

  pub unsent : HasActed n p s.done → is_frame n (due_of p s false) ≡ false → HasGone (n + 1) p s.next
  unsent acted none = λ a q. st.gone a q ∙ sym (by_record (slice_get p.capture.records n) refl a q)
    where
      by_record : (o : Option Stamped) → slice_get p.capture.records n ≡ o → (a q : ℕ) → sent_before p a q (n + 1) ≡ sent_before p a q n
      by_record None e a q = sent_past p a q n (elim (behind_or n (length p.capture.records)) [ inl lt ↦ (let found = some_there p.capture.records n lt in absurd (cc (e, found.1))) | inr ge ↦ ge ])
      by_record (Some r) e a q = sent_before_other p a q n (captured_as p n r) (captured_there p n r e) (goes_nowhere p (captured_as p n r) (sym (sent r acted e) ∙ none) a q)

  over_by : (r : Option Stamped) → length p.script ≤ s.done → length p.capture.records ≤ n → slice_get p.capture.records s.next ≡ r → next_by s.next None r ≡ due.Nothing
  over_by None d le e = refl
  over_by (Some r) d le e = let ge = not_behind r e (ap (is_later s.next) (past p.script s.done d)) in let lt = slice_get_within p.capture.records s.next r e in absurd (omega (arith, ge, lt, le))

  pub over : length p.script ≤ s.done → length p.capture.records ≤ n → due_of p s false ≡ due.Nothing
  over d le = next_is ∙ ap (λ (a : Option Action). next_by s.next a (slice_get p.capture.records s.next)) (past p.script s.done d) ∙ over_by (slice_get p.capture.records s.next) d le refl

-- ------------------------------------------------------------ a frame that is not sent

pub stays_by : (plan : Plan) (port : ℕ) (posted : Sent) (s : Sending) (w : World) → is_sent s ≡ false → (put_by plan port posted s w ≡ w) × (targets_by plan port posted s ≡ [])
stays_by plan port posted (sending.Sent a q k) w e = absurd (true≢false e)
stays_by plan port posted sending.Down w e = (refl, refl)
stays_by plan port posted sending.Short w e = (refl, refl)
stays_by plan port posted sending.TooLong w e = (refl, refl)
