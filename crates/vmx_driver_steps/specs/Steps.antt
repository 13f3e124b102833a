-- What a step of the plan does to the frames of queues.
use Rattle.std.proofs.lemmas.Bool.Decides.{nat_tests, eqb_tells}
use Rattle.std.proofs.Common.{◌≡◌, ℕ, zero, suc, ◌+◌, ◌<◌, ◌≤◌, Bool, true, false, not, ◌&&◌, true≢false, List, [], ◌∷◌, ◌++◌, length, take, refl, ap, sym, ◌∙◌, subst, arith, Option, Some, None, nat_le, nat_eq, inl, inr}
use Rattle.std.specs.List.{slice_get, AllByRecursion}
use Rattle.std.proofs.lemmas.Option.{slice_get_within}
use Rattle.vmx_pcap.specs.declared.records.Stamped.{Stamped}
use Rattle.vmx_model.specs.declared.guest.GuestPlan.{GuestPlan}
use Rattle.vmx_model.specs.declared.deeds.Action.{Action}
use Rattle.vmx_model.specs.Lists.{count}
use Rattle.vmx_model.specs.Deeds.{begins, quiet_after, is_quiet}
use Rattle.vmx_model.specs.Ranges.{fits_from, is_within, fits_deed, is_in_turn}
use Rattle.vmx_model.specs.Plan.{past, captured_as, wire, goes_on, activation_at, is_down, Captured}
use Rattle.vmx_model.specs.PlanSteps.{captured_there}
use Rattle.vmx_model.specs.QueueSteps.{sent_before, sent_before_here, sent_before_other}
use Rattle.vmx_model.specs.Wire.{tx_queue}
use Rattle.vmx_driver_steps.specs.declared.progress.Stage.{Stage}
use Rattle.vmx_driver_steps.specs.declared.progress.Stage.TheVariants.{Fresh, Active, Stopping, Held, Quiet, Ended}
use Rattle.vmx_driver_steps.specs.declared.progress.Progress.{Progress}
use Rattle.vmx_driver_steps.specs.Progress.{in_hand, to_come, is_down_in, begun_actions, is_later, is_sendable, is_passed, passes_by, passes, IsUnderway}

and_left : (a b : Bool) → (a && b) ≡ true → a ≡ true
and_left true b e = refl
and_left false b e = absurd (true≢false (sym e))

and_right : (a b : Bool) → (a && b) ≡ true → b ≡ true
and_right true b e = e
and_right false b e = absurd (true≢false (sym e))

-- ------------------------------------------------------------ actions in order

module _ (queues : ℕ) (rss : Bool) where
  ordered : (quiet : Bool) (at : ℕ) (a : Action) (rest : List Action) → fits_from queues rss quiet at (a ∷ rest) ≡ true → (at ≤ a.at) × (fits_from queues rss (quiet_after quiet a.deed) a.at rest ≡ true)
  ordered quiet at a rest e =
      let h = and_left (is_within at 262144 a.at) _ e in let more = and_right (is_within at 262144 a.at) _ e in
      let low : nat_le at a.at ≡ true = and_left (nat_le at a.at) (nat_le a.at 262144) h in
      (grind (arith, nat_tests), and_right (is_in_turn quiet a.deed) _ (and_right (fits_deed queues rss a.deed) _ more))

  none_past : (quiet : Bool) (at i : ℕ) (acts : List Action) → fits_from queues rss quiet at acts ≡ true → i < at → past i acts ≡ []
  none_past quiet at i [] e lt = refl
  none_past quiet at i (a ∷ rest) e lt =
      let o = ordered quiet at a rest e in let low = o.0 in
      let out : nat_le a.at i ≡ false = grind (arith, nat_tests) in
      rw out (none_past (quiet_after quiet a.deed) a.at i rest o.1 (omega (arith, low, lt)))

  -- the actions up to a number are those begun, where these are up to it and the next is later
  past_from : (quiet : Bool) (at i : ℕ) (script : List Action) (k : ℕ) → fits_from queues rss quiet at script ≡ true → AllByRecursion (λ (a : Action). a.at ≤ i) (take k script) → is_later i (slice_get script k) ≡ true → past i script ≡ take k script
  past_from quiet at i [] zero e all later = refl
  past_from quiet at i [] (suc k) e all later = refl
  past_from quiet at i (a ∷ rest) zero e all later =
      let o = ordered quiet at a rest e in
      let lt : i < a.at = grind (arith, nat_tests) in
      let out : nat_le a.at i ≡ false = grind (arith, nat_tests) in
      rw out (none_past (quiet_after quiet a.deed) a.at i rest o.1 lt)
  past_from quiet at i (a ∷ rest) (suc k) e all later =
      let o = ordered quiet at a rest e in let le : a.at ≤ i = all.0 in
      let here : nat_le a.at i ≡ true = grind (arith, nat_tests) in
      rw here (ap (λ (xs : List Action). a ∷ xs) (past_from (quiet_after quiet a.deed) a.at i rest k o.1 all.1 later))

-- ------------------------------------------------------------ the next frame

module _ (p : GuestPlan) (s : Progress) (r : Stamped) (under : IsUnderway p s) (there : slice_get p.capture.records s.next ≡ Some r) (below : s.next < length p.capture.records) (later : is_later s.next (slice_get p.script s.done) ≡ true) where
  abbrev c : Captured
  c = captured_as p s.next r

  pub past_is : past s.next p.script ≡ begun_actions p s
  past_is = past_from p.setup.rx_queues _ false 0 s.next p.script s.done p.script_fits (under.reached below) later

  pub activation_is : activation_at p s.next ≡ count (λ (a : Action). begins a.deed) (begun_actions p s)
  activation_is = ap (count (λ (a : Action). begins a.deed)) past_is

  pub down_is : is_down p s.next ≡ is_quiet false (begun_actions p s)
  down_is = ap (is_quiet false) past_is

  -- a frame that is passed over goes on no queue
  pub passed_over : is_passed p s.stage r.frame ≡ true → (a q : ℕ) → goes_on p a q c ≡ false
  passed_over = by_stage s.stage refl
    where
      unsent : (d x l h o : Bool) → (l && h) ≡ false → (not d && (l && (h && o))) ≡ false
      unsent true x l h o e = refl
      unsent false x false h o e = refl
      unsent false x true false o e = refl
      unsent false x true true o e = absurd (true≢false e)

      flip : (b : Bool) → not b ≡ true → b ≡ false
      flip false e = refl
      flip true e = absurd (true≢false (sym e))

      by_stage : (g : Stage) → s.stage ≡ g → is_passed p g r.frame ≡ true → (a q : ℕ) → goes_on p a q c ≡ false
      by_stage Active on e a q = unsent (is_down p s.next) true (nat_le 14 (length r.frame)) (nat_le (length (wire c)) (p.setup.mtu + 18)) (nat_eq (activation_at p s.next) a && nat_eq (tx_queue r.frame p.setup.tx_queues) q) (flip (is_sendable p r.frame) e)
      by_stage Quiet on e a q = let d : is_down p s.next ≡ true = down_is ∙ under.quiet true (ap is_down_in on) in rw d refl
      by_stage Fresh on e a q = absurd (true≢false (sym e))
      by_stage (Stopping t) on e a q = absurd (true≢false (sym e))
      by_stage (Held t) on e a q = absurd (true≢false (sym e))
      by_stage Ended on e a q = absurd (true≢false (sym e))

  pub none_goes : is_passed p s.stage r.frame ≡ true → (a q : ℕ) → sent_before p a q (s.next + 1) ≡ sent_before p a q s.next
  none_goes e a q = sent_before_other p a q s.next c (captured_there p s.next r there) (passed_over e a q)

  counted : s.stage ≡ Active → activation_at p s.next ≡ s.ended
  counted on = let e = under.counted in let h : s.ended + 1 + 0 ≡ count (λ (a : Action). begins a.deed) (begun_actions p s) + 1 = subst (λ (g : Stage). s.ended + in_hand g + to_come g ≡ count (λ (a : Action). begins a.deed) (begun_actions p s) + 1) on e in
      let n : count (λ (a : Action). begins a.deed) (begun_actions p s) ≡ s.ended = omega arith in activation_is ∙ n

  up : s.stage ≡ Active → is_down p s.next ≡ false
  up on = down_is ∙ under.quiet false (ap is_down_in on)

  sendable_parts : is_sendable p r.frame ≡ true → (nat_le 14 (length r.frame) ≡ true) × (nat_le (length (wire c)) (p.setup.mtu + 18) ≡ true)
  sendable_parts e = (and_left (nat_le 14 (length r.frame)) _ e, and_right (nat_le 14 (length r.frame)) _ e)

  -- a frame that is sent goes on the queue of its flow in the activation in hand
  pub goes_there : s.stage ≡ Active → is_sendable p r.frame ≡ true → goes_on p s.ended (tx_queue r.frame p.setup.tx_queues) c ≡ true
  goes_there on e = let h = sendable_parts e in let a = counted on in let d = up on in
      let same : nat_eq (activation_at p s.next) s.ended ≡ true = grind (arith, nat_tests) in
      let queue : nat_eq (tx_queue r.frame p.setup.tx_queues) (tx_queue r.frame p.setup.tx_queues) ≡ true = grind (arith, nat_tests) in
      rw (d, h.1, h.0, same, queue) refl

  -- and on no other
  pub goes_nowhere_else : s.stage ≡ Active → is_sendable p r.frame ≡ true → (a q : ℕ) → ((a ≡ s.ended) → (q ≡ tx_queue r.frame p.setup.tx_queues) → ⊥) → goes_on p a q c ≡ false
  goes_nowhere_else on e a q other = let h = sendable_parts e in let d = up on in
      elim (eqb_tells (activation_at p s.next) a) [
        | inl x ↦ elim (eqb_tells (tx_queue r.frame p.setup.tx_queues) q) [
          | inl y ↦ absurd (other (sym x.1 ∙ counted on) (sym y.1))
          | inr y ↦ rw (d, h.1, h.0, x.0, y.0) refl
        ]
        | inr x ↦ rw (d, h.1, h.0, x.0) refl
      ]

  pub one_more : s.stage ≡ Active → is_sendable p r.frame ≡ true → sent_before p s.ended (tx_queue r.frame p.setup.tx_queues) (s.next + 1) ≡ sent_before p s.ended (tx_queue r.frame p.setup.tx_queues) s.next ++ c ∷ []
  one_more on e = sent_before_here p s.ended (tx_queue r.frame p.setup.tx_queues) s.next c (captured_there p s.next r there) (goes_there on e)

  pub as_before : s.stage ≡ Active → is_sendable p r.frame ≡ true → (a q : ℕ) → ((a ≡ s.ended) → (q ≡ tx_queue r.frame p.setup.tx_queues) → ⊥) → sent_before p a q (s.next + 1) ≡ sent_before p a q s.next
  as_before on e a q other = sent_before_other p a q s.next c (captured_there p s.next r there) (goes_nowhere_else on e a q other)

pub raised : (n : ℕ) (acts : List Action) → AllByRecursion (λ (a : Action). a.at ≤ n) acts → AllByRecursion (λ (a : Action). a.at ≤ n + 1) acts
raised n [] h = tt
raised n (a ∷ acts) h = let le : a.at ≤ n = h.0 in (omega (arith, le), raised n acts h.1)

-- what is so where a frame is passed over
pub record PassesOn (p : GuestPlan) (s : Progress) : Type 0 where
  pub under : IsUnderway p (record s { next = s.next + 1 })
  pub below : s.next < length p.capture.records
  pub frames : (a q : ℕ) → sent_before p a q (s.next + 1) ≡ sent_before p a q s.next

pub passes_on : (p : GuestPlan) (s : Progress) → IsUnderway p s → passes p s ≡ true → PassesOn p s
passes_on p s under e = step (slice_get p.capture.records s.next) refl e
  where
    step : (o : Option Stamped) → slice_get p.capture.records s.next ≡ o → passes_by p s (slice_get p.script s.done) o ≡ true → PassesOn p s
    step None h e = absurd (true≢false (sym e))
    step (Some r) h e =
        let below = slice_get_within p.capture.records s.next r h in
        let later = and_left (is_later s.next (slice_get p.script s.done)) (is_passed p s.stage r.frame) e in
        let passed = and_right (is_later s.next (slice_get p.script s.done)) (is_passed p s.stage r.frame) e in
        record {
          under = record {
            done = under.done;
            next = omega (arith, below);
            reached = λ lt. raised s.next (begun_actions p s) (under.reached below);
            counted = under.counted;
            quiet = under.quiet;
            whole = λ d. let n = (under.whole d).1 in absurd (omega (arith, n, below));
            closed = λ c. let n = (under.closed c).1 in absurd (omega (arith, n, below));
          };
          below = below;
          frames = none_goes p s r under h below later passed;
        }

-- one frame on
pub under_next : (p : GuestPlan) (s : Progress) (r : Stamped) → IsUnderway p s → slice_get p.capture.records s.next ≡ Some r → IsUnderway p (record s { next = s.next + 1 })
under_next p s r under there = let lt = slice_get_within p.capture.records s.next r there in record {
  done = under.done;
  next = omega (arith, lt);
  reached = λ less. raised s.next (begun_actions p s) (under.reached lt);
  counted = under.counted;
  quiet = under.quiet;
  whole = λ d. let n = (under.whole d).1 in absurd (omega (arith, n, lt));
  closed = λ c. let n = (under.closed c).1 in absurd (omega (arith, n, lt));
}
