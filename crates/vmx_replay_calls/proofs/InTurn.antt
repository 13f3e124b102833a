-- Which deeds may be due in which stage: the script activates a quiet guest, and quiesces or resets an active one.
use Rattle.std.proofs.Common.{◌≡◌, ℕ, zero, suc, Bool, true, false, true≢false, List, [], ◌∷◌, take, refl, sym, ◌∙◌, subst, Some, inl, inr}
use Rattle.std.specs.Prelude.{◌⊎◌}
use Rattle.std.specs.List.{slice_get}
use Rattle.std.proofs.lemmas.Bool.{and_parts}
use Rattle.vmx_model.specs.declared.deeds.Action.{Action}
use Rattle.vmx_model.specs.declared.deeds.Deed.TheVariants as deed
use Rattle.vmx_model.specs.Deeds.{quiet_after, is_quiet}
use Rattle.vmx_model.specs.Ranges.{fits_deed, fits_from, is_within, is_in_turn}
use Rattle.vmx_driver_steps.specs.declared.progress.Stage.{Stage}
use Rattle.vmx_driver_steps.specs.declared.progress.Stage.TheVariants.{Fresh, Active, Stopping, Held, Quiet, Ended}
use Rattle.vmx_driver_steps.specs.Progress.{begun_actions, is_down_in}
use Rattle.vmx_driver_steps.specs.Driver.{DriverView, Keeps}
use Rattle.vmx_driver_steps.specs.Asking.{Waits}

turn_at : (queues : ℕ) (rss quiet : Bool) (at : ℕ) (script : List Action) → fits_from queues rss quiet at script ≡ true → (i : ℕ) (a : Action) → slice_get script i ≡ Some a → is_in_turn (is_quiet quiet (take i script)) a.deed ≡ true
turn_at queues rss quiet at [] h i a e = absurd (cc e)
turn_at queues rss quiet at (x ∷ rest) h zero a e = let same : x ≡ a = cc e in
    subst (λ (y : Action). is_in_turn quiet y.deed ≡ true) same (and_parts (is_in_turn quiet x.deed) _ (and_parts (fits_deed queues rss x.deed) _ (and_parts (is_within at 262144 x.at) _ h).1).1).0
turn_at queues rss quiet at (x ∷ rest) h (suc i) a e =
    let tail : fits_from queues rss (quiet_after quiet x.deed) x.at rest ≡ true = (and_parts (is_in_turn quiet x.deed) _ (and_parts (fits_deed queues rss x.deed) _ (and_parts (is_within at 262144 x.at) _ h).1).1).1 in
    turn_at queues rss (quiet_after quiet x.deed) x.at rest tail i a e

by_stage : (g : Stage) (quiet : Bool) → Waits g → ((b : Bool) → is_down_in g ≡ Some b → quiet ≡ b) → ((g ≡ Active) × (quiet ≡ false)) ⊎ ((g ≡ Quiet) × (quiet ≡ true))
by_stage Active quiet w q = inl (refl, q false refl)
by_stage Quiet quiet w q = inr (refl, q true refl)
by_stage Fresh quiet w q = absurd w
by_stage (Stopping t) quiet w q = absurd w
by_stage (Held t) quiet w q = absurd w
by_stage Ended quiet w q = absurd w

module _ (v : DriverView) (k : Keeps v) (w : Waits v.at.stage) (a : Action) (there_ : slice_get v.plan.script v.at.done ≡ Some a) where
  in_turn : is_in_turn (is_quiet false (begun_actions v.plan v.at)) a.deed ≡ true
  in_turn = turn_at v.plan.setup.rx_queues _ false 0 v.plan.script v.plan.script_fits v.at.done a there_

  pub activates_quiet : a.deed ≡ deed.Activate → v.at.stage ≡ Quiet
  activates_quiet is = elim (by_stage v.at.stage (is_quiet false (begun_actions v.plan v.at)) w k.under.quiet) [
    | inl x ↦ absurd (true≢false (sym in_turn ∙ (λ i. is_in_turn (x.1 i) (is i))))
    | inr x ↦ x.0
  ]

  pub quiesces_active : a.deed ≡ deed.Quiesce → v.at.stage ≡ Active
  quiesces_active is = elim (by_stage v.at.stage (is_quiet false (begun_actions v.plan v.at)) w k.under.quiet) [
    | inl x ↦ x.0
    | inr x ↦ absurd (true≢false (sym in_turn ∙ (λ i. is_in_turn (x.1 i) (is i))))
  ]

  pub resets_active : a.deed ≡ deed.Reset → v.at.stage ≡ Active
  resets_active is = elim (by_stage v.at.stage (is_quiet false (begun_actions v.plan v.at)) w k.under.quiet) [
    | inl x ↦ x.0
    | inr x ↦ absurd (true≢false (sym in_turn ∙ (λ i. is_in_turn (x.1 i) (is i))))
  ]
