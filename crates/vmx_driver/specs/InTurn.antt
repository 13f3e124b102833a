-- Which deeds may be due in which stage: the script activates a quiet guest, and quiesces or resets an active one.
use Rattle.std.proofs.Common.{◌≡◌, ℕ, zero, suc, ◌+◌, ◌<◌, length, Bool, true, false, true≢false, List, [], ◌∷◌, take, refl, sym, ◌∙◌, subst, Some, None, inl, inr, ⊎_elim}
use Rattle.std.specs.Prelude.{◌⊎◌}
use Rattle.std.specs.List.{slice_get}
use Rattle.std.proofs.lemmas.Bool.{and_parts}
use Rattle.std.proofs.lemmas.Option.{slice_get_within}
use Rattle.vmx_device_state.specs.SetupView.{SetupView}
use Rattle.vmx_model.specs.declared.deeds.Action.{Action}
use Rattle.vmx_model.specs.declared.deeds.Deed.TheVariants as deed
use Rattle.vmx_model.specs.Deeds.{quiet_after, is_quiet}
use Rattle.vmx_model.specs.Ranges.{fits_deed, fits_from, is_within, is_in_turn}
use Rattle.vmx_driver_steps.specs.declared.progress.Stage.{Stage}
use Rattle.vmx_driver_steps.specs.declared.progress.Stage.TheVariants.{Fresh, Active, Stopping, Held, Quiet, Ended}
use Rattle.vmx_driver_steps.specs.Progress.{begun_actions, is_down_in}
use Rattle.vmx_driver_steps.specs.Driver.{DriverView, Runs}
use Rattle.vmx_driver_steps.specs.Asking.{Waits}
use Rattle.vmx_driver_steps.specs.Acting.{ActionDue}
use Rattle.vmx_driver_steps.specs.Activating.{BeginDue}
use Rattle.vmx_driver.specs.Acts.{QuiesceDue, ResetDue}
use Rattle.vmx_driver_steps.specs.declared.progress.Then.TheVariants.{Rest}

turn_at : (queues : ℕ) (rss quiet : Bool) (at : ℕ) (script : List Action) → fits_from queues rss quiet at script ≡ true → (i : ℕ) (a : Action) → slice_get script i ≡ Some a → is_in_turn (is_quiet quiet (take i script)) a.deed ≡ true
turn_at queues rss quiet at [] h i a e = absurd (cc e)
turn_at queues rss quiet at (x ∷ rest) h zero a e = let same : x ≡ a = cc e in
    subst (λ (y : Action). is_in_turn quiet y.deed ≡ true) same (and_parts (is_in_turn quiet x.deed) _ (and_parts (fits_deed queues rss x.deed) _ (and_parts (is_within at 262144 x.at) _ h).1).1).0
turn_at queues rss quiet at (x ∷ rest) h (suc i) a e =
    let tail : fits_from queues rss (quiet_after quiet x.deed) x.at rest ≡ true = (and_parts (is_in_turn quiet x.deed) _ (and_parts (fits_deed queues rss x.deed) _ (and_parts (is_within at 262144 x.at) _ h).1).1).1 in
    turn_at queues rss (quiet_after quiet x.deed) x.at rest tail i a e

by_stage : (g : Stage) (quiet : Bool) → Waits g → ((b : Bool) → is_down_in g ≡ Some b → quiet ≡ b) → ((g ≡ Active) × (quiet ≡ false)) ⊎ ((g ≡ Quiet) × (quiet ≡ true))
by_stage Active quiet w q = inl (refl, q false refl)
by_stage Quiet quiet w q = inr (refl, q true refl)
by_stage Fresh quiet w q = absurd w
by_stage (Stopping t) quiet w q = absurd w
by_stage (Held t) quiet w q = absurd w
by_stage Ended quiet w q = absurd w

module _ (v : DriverView) (s : SetupView) (k : Runs v s) (w : Waits v.at.stage) (a : Action) (d : ActionDue v.plan v.at a) where
  in_turn : is_in_turn (is_quiet false (begun_actions v.plan v.at)) a.deed ≡ true
  in_turn = turn_at v.plan.setup.rx_queues _ false 0 v.plan.script v.plan.script_fits v.at.done a d.there

  cases : ((v.at.stage ≡ Active) × (is_quiet false (begun_actions v.plan v.at) ≡ false)) ⊎ ((v.at.stage ≡ Quiet) × (is_quiet false (begun_actions v.plan v.at) ≡ true))
  cases = by_stage v.at.stage (is_quiet false (begun_actions v.plan v.at)) w k.keeps.under.quiet

  pub activates_quiet : a.deed ≡ deed.Activate → v.at.stage ≡ Quiet
  activates_quiet is = ⊎_elim
      (λ (x : (v.at.stage ≡ Active) × (is_quiet false (begun_actions v.plan v.at) ≡ false)). absurd (true≢false (sym in_turn ∙ (λ i. is_in_turn (x.1 i) (is i)))))
      (λ (x : (v.at.stage ≡ Quiet) × (is_quiet false (begun_actions v.plan v.at) ≡ true)). x.0)
      cases

  pub quiesces_active : a.deed ≡ deed.Quiesce → v.at.stage ≡ Active
  quiesces_active is = ⊎_elim
      (λ (x : (v.at.stage ≡ Active) × (is_quiet false (begun_actions v.plan v.at) ≡ false)). x.0)
      (λ (x : (v.at.stage ≡ Quiet) × (is_quiet false (begun_actions v.plan v.at) ≡ true)). absurd (true≢false (sym in_turn ∙ (λ i. is_in_turn (x.1 i) (is i)))))
      cases

  pub resets_active : a.deed ≡ deed.Reset → v.at.stage ≡ Active
  resets_active is = ⊎_elim
      (λ (x : (v.at.stage ≡ Active) × (is_quiet false (begun_actions v.plan v.at) ≡ false)). x.0)
      (λ (x : (v.at.stage ≡ Quiet) × (is_quiet false (begun_actions v.plan v.at) ≡ true)). absurd (true≢false (sym in_turn ∙ (λ i. is_in_turn (x.1 i) (is i)))))
      cases

  -- so an activation of the script may begin
  pub begin_due : v.calls.asked ≡ None → a.deed ≡ deed.Activate → BeginDue v (v.at.done + 1)
  begin_due none is = record { none = none; which = inr (a, activates_quiet is, refl, d, is) }

  -- and a quiesce of the script is due
  pub rest_due : v.calls.asked ≡ None → a.deed ≡ deed.Quiesce → QuiesceDue v Rest (v.at.done + 1)
  rest_due none is = record { active = quiesces_active is; none = none; which = inr (a, refl, refl, d, is) }

  -- or a reset
  pub again_due : v.calls.asked ≡ None → a.deed ≡ deed.Reset → ResetDue v (v.at.done + 1)
  again_due none is = record { active = resets_active is; none = none; action = a; begun = refl; due = d; is = is }

  -- it is there
  pub one_more : v.at.done < length v.plan.script
  one_more = slice_get_within v.plan.script v.at.done a d.there
