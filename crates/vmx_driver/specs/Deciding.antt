-- What is due decides what an act does.
use Rattle.std.proofs.Common.{◌≡◌, Bool, true, false, List, get_or, refl, ap, sym, ◌∙◌, subst, Some, None, if◌then◌else◌, ⊎_elim}
use Rattle.std.specs.Prelude.{◌⊎◌, is_some}
use Rattle.std.specs.List.{slice_get}
use Rattle.std.proofs.lemmas.Option.{get_or_from_slice_get}
use Rattle.vmx_driver_steps.specs.declared.progress.Then.{Then}
use Rattle.vmx_driver_steps.specs.declared.progress.Then.TheVariants.{End}
use Rattle.vmx_driver_steps.specs.declared.progress.Stage.TheVariants.{Fresh, Active, Stopping, Held, Ended}
use Rattle.vmx_driver_steps.specs.declared.progress.Due.{Due}
use Rattle.vmx_driver_steps.specs.declared.progress.Due.TheVariants as due
use Rattle.vmx_driver_steps.specs.Progress.{due_of, next_of}
use Rattle.vmx_driver_steps.specs.Driver.{DriverView}
use Rattle.vmx_driver_steps.specs.Nexts.{IsNext, is_next, due_none, due_at, due_answer}
use Rattle.vmx_driver_steps.specs.Asking.{Waits}
use Rattle.vmx_driver_steps.specs.Acting.{ActionDue}
use Rattle.vmx_driver_steps.specs.declared.progress.Progress.{Progress}
use Rattle.vmx_model.specs.declared.deeds.Action.{Action}
use Rattle.vmx_model.specs.declared.guest.GuestPlan.{GuestPlan}
use Rattle.vmx_driver.specs.declared.driver.Act.{Act}
use Rattle.vmx_driver.specs.Acts.{Acts, ActsSo, ActsAtAnswer, ActsAtActivation, ActsAtMeeting, ActsAtQuiesce, ActsAtRest}

module _ (v : DriverView) (a : Act) (w : DriverView) where
  pub acts_as : (d : Due) → due_of v.plan v.at (is_some v.calls.asked) ≡ d → ActsSo d v a w → Acts v a w
  acts_as d e h = subst (λ (x : Due). ActsSo x v a w) (sym e) h

  pub by_answer : is_some v.calls.asked ≡ true → ActsAtAnswer v a w → Acts v a w
  by_answer e h = acts_as due.Answer (due_answer v.plan v.at (is_some v.calls.asked) e) h

  pub by_next : (d : Due) → v.calls.asked ≡ None → due_of v.plan v.at false ≡ d → ActsSo d v a w → Acts v a w
  by_next d none e h = acts_as d (due_none v.plan v.at v.calls.asked d none e) h

  pub by_meet : (t : Then) → v.calls.asked ≡ None → v.at.stage ≡ Held t → ActsAtMeeting t v a w → Acts v a w
  by_meet t none on h = acts_as due.Meet (due_at v.plan v.at v.calls.asked (Held t) due.Meet none on refl) (record { then_ = t; held = on; does = h })

  pub by_fresh : v.calls.asked ≡ None → v.at.stage ≡ Fresh → ActsAtActivation v.at.done v a w → Acts v a w
  by_fresh none on h = acts_as due.Activate (due_at v.plan v.at v.calls.asked Fresh due.Activate none on refl) h

  pub by_stopping : (t : Then) → v.calls.asked ≡ None → v.at.stage ≡ Stopping t → ActsAtRest v a w → Acts v a w
  by_stopping t none on h = acts_as due.Nothing (due_at v.plan v.at v.calls.asked (Stopping t) due.Nothing none on refl) h

  pub by_ended : v.calls.asked ≡ None → v.at.stage ≡ Ended → ActsAtRest v a w → Acts v a w
  by_ended none on h = acts_as due.Nothing (due_at v.plan v.at v.calls.asked Ended due.Nothing none on refl) h

  pub by_close : v.calls.asked ≡ None → v.at.stage ≡ Active → v.at.closed ≡ true → ActsAtQuiesce End v.at.done v a w → Acts v a w
  by_close none on shut h = acts_as due.Close (due_at v.plan v.at v.calls.asked Active due.Close none on (ap (λ (b : Bool). if b then due.Close else next_of v.plan v.at) shut)) h

-- where an action, a frame or nothing is next, nothing else is due
pub not_due : (p : GuestPlan) (s : Progress) (d : Due) → Waits s.stage → (s.stage ≡ Active → s.closed ≡ false) → due_of p s false ≡ d → (d ≡ due.Activate) ⊎ (d ≡ due.Answer) ⊎ (d ≡ due.Meet) ⊎ (d ≡ due.Close) → ⊥
not_due p s d waits unclosed e which = let h = is_next p s d waits unclosed e in ⊎_elim
    (λ (x : d ≡ due.Activate). subst IsNext x h)
    (λ (r : (d ≡ due.Answer) ⊎ (d ≡ due.Meet) ⊎ (d ≡ due.Close)). ⊎_elim
    (λ (x : d ≡ due.Answer). subst IsNext x h)
    (λ (r : (d ≡ due.Meet) ⊎ (d ≡ due.Close)). ⊎_elim (λ (x : d ≡ due.Meet). subst IsNext x h) (λ (x : d ≡ due.Close). subst IsNext x h) r)
    r)
    which

-- the action that is due is read at its place in the script
pub due_there : (v w : DriverView) (xs : List Action) (x a : Action) → v ≡ w → xs ≡ v.plan.script → x ≡ get_or xs v.at.done x → ActionDue w.plan w.at a → ActionDue w.plan w.at x
due_there v w xs x a e items at d =
    let there : slice_get v.plan.script v.at.done ≡ Some a = subst (λ (y : DriverView). slice_get y.plan.script y.at.done ≡ Some a) (sym e) d.there in
    subst (ActionDue w.plan w.at) (sym (at ∙ ap (λ (ys : List Action). get_or ys v.at.done x) items ∙ get_or_from_slice_get v.plan.script v.at.done a x there)) d
