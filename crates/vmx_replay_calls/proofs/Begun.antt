-- The first activation of a guest, in the serial run.
use Rattle.std.proofs.Common.{◌≡◌, ℕ, List, true, true≢false, refl, sym, ap, ◌∙◌, subst}
use Rattle.vmx_model.specs.declared.plan.Plan.{Plan}
use Rattle.vmx_model.specs.Serial.{activated}
use Rattle.vmx_model.specs.Turns.{AreEmptied, at_guest}
use Rattle.vmx_device_looks.specs.Queues.{all_at}
use Rattle.vmx_driver_steps.specs.declared.progress.Stage.{Stage}
use Rattle.vmx_driver_steps.specs.declared.progress.Stage.TheVariants.{Fresh, Active, Stopping, Held, Quiet, Ended}
use Rattle.vmx_driver_steps.specs.declared.progress.Due.{Due}
use Rattle.vmx_driver_steps.specs.declared.progress.Due.TheVariants as due
use Rattle.vmx_driver_steps.specs.Progress.{in_hand}
use Rattle.vmx_driver_steps.specs.Asking.{Waits}
use Rattle.vmx_driver_steps.specs.Driver.{DriverView}
use Rattle.vmx_driver_steps.specs.Driving.{ActivatesWith}
use Rattle.vmx_driver.specs.declared.driver.Act.{Act}
use Rattle.vmx_driver.specs.declared.driver.Act.TheVariants.{Worked, Waiting, Done}
use Rattle.vmx_driver.specs.Acts.{ActsSo, ActsAtActivation}
use Rattle.vmx_replay_worlds.specs.Guests.{GuestView}
use Rattle.vmx_replay_worlds.specs.Worlds.{world_of}
use Rattle.vmx_replay_chains.specs.Chains.{RenewsBy, ActsOn, AnswersOn, due_at, due_in, due_now, is_activating}
use Rattle.vmx_replay_calls.specs.Commands.{SendsActivation}
use Rattle.vmx_replay_calls.specs.Resting.{IsGuestAt, Rests, RunRests, AllKeep}
use Rattle.vmx_replay_calls.specs.Results.{WasActivated}
use Rattle.vmx_replay_calls.proofs.Runs.{guest_at}
use Rattle.vmx_replay_calls.proofs.AllMet.{renews_none}
use Rattle.vmx_replay_calls.proofs.Followed.{StepSo, activation_step}
use Rattle.vmx_replay_calls.proofs.Behind.{setup_done}

is_first : (g : Stage) → ((g ≡ Fresh → ⊥) → ⊥) → g ≡ Fresh
is_first Fresh f = refl
is_first Active f = absurd (f (λ e. cc e))
is_first (Stopping t) f = absurd (f (λ e. cc e))
is_first (Held t) f = absurd (f (λ e. cc e))
is_first Quiet f = absurd (f (λ e. cc e))
is_first Ended f = absurd (f (λ e. cc e))

begins_by : (k : ℕ) (v w : DriverView) (a : Act) → ActsAtActivation k v a w → ActivatesWith k v w
begins_by k v w Worked h = h
begins_by k v w Waiting h = absurd h
begins_by k v w Done h = absurd h

module _ (plan : Plan) (port : ℕ) (rs rs' : List GuestView) (run : RunRests plan rs) (keeps : AllKeep rs) (empty : AreEmptied (world_of rs)) (activating : due_at port rs ≡ due.Activate) (h : RenewsBy true port rs rs') where
  acts : ActsOn port rs h.0
  acts = h.1

  answers : AnswersOn port h.0 rs'
  answers = h.2

  abbrev v : DriverView
  v = acts.before.driver

  abbrev sent : DriverView
  sent = acts.does.1.acted

  rest : Rests acts.before
  rest = all_at Rests rs port acts.before acts.at run.rest

  now : due_now v ≡ due.Activate
  now = sym (ap due_in acts.at) ∙ activating

  first : v.at.stage ≡ Fresh
  first = is_first v.at.stage (λ no. true≢false (sym (ap is_activating now) ∙ renews_none v rest.caught_up.none no))

  q : ActivatesWith v.at.done v sent
  q = begins_by v.at.done v sent acts.does.0 (subst (λ (d : Due). ActsSo d v acts.does.0 sent) now acts.does.1.acts)

  s : SendsActivation v sent
  s = record { free = ap in_hand first; done = v.at.done; activates = q; setup = setup_done v.plan v.at sent.at (ap (λ (x : DriverView). x.at.done) q.is) }

  step : StepSo plan port (activated v.guest v.plan) sent.at rs rs'
  step = activation_step plan port rs h.0 rs' run keeps empty acts answers s

  self : IsGuestAt plan port acts.before
  self = guest_at plan rs port acts.before run.guests acts.at

  pub was_activated : WasActivated plan port rs rs'
  was_activated = record {
    guest = acts.before;
    at = acts.at;
    after = sent.at;
    done = ap (λ (x : DriverView). x.at.done) q.is;
    closed_ = ap (λ (x : DriverView). x.at.closed) q.is;
    waits = subst Waits (sym (ap (λ (x : DriverView). x.at.stage) q.is)) tt;
    over = q.over;
    stand = record {
      world_is = step.world ∙ ap (λ (n : ℕ). at_guest port (activated n v.plan) (world_of rs)) self.number;
      progress_is = step.progress;
      rests = step.rests;
      keeps = step.keeps;
    };
  }
