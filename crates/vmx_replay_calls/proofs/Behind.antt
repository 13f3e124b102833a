-- A command with all that follows from it, in the serial run, by what was sent.
use Rattle.std.proofs.Common.{◌≡◌, ℕ, zero, suc, ◌+◌, Bool, false, List, [], ◌∷◌, map, set, take, refl, sym, ap, ◌∙◌, subst, arith, Some}
use Rattle.std.specs.Option.{option_map}
use Rattle.std.specs.List.{slice_get}
use Rattle.vmx_model.specs.declared.guest.GuestPlan.{GuestPlan}
use Rattle.vmx_model.specs.declared.plan.Plan.{Plan}
use Rattle.vmx_model.specs.Plan.{after_script, first_setup}
use Rattle.vmx_model.specs.Serial.{Seat, at_number, activated, emptied, set_command}
use Rattle.vmx_model.specs.Turns.{AreEmptied, at_guest}
use Rattle.vmx_device_looks.specs.Queues.{all_at}
use Rattle.vmx_device_laws.proofs.PairingIn.{some_same}
use Rattle.vmx_driver_steps.specs.declared.progress.Then.{Then}
use Rattle.vmx_driver_steps.specs.declared.progress.Progress.{Progress}
use Rattle.vmx_driver_steps.specs.declared.progress.Stage.TheVariants.{Fresh, Held}
use Rattle.vmx_driver_steps.specs.Progress.{setup_now}
use Rattle.vmx_driver_steps.specs.Parting.{after}
use Rattle.vmx_driver_steps.specs.Driver.{DriverView}
use Rattle.vmx_driver_steps.specs.Driving.{PassesOver}
use Rattle.vmx_replay_settled.specs.Settled.{BothKeep}
use Rattle.vmx_replay_worlds.specs.Guests.{GuestView, seat_of}
use Rattle.vmx_replay_worlds.specs.Worlds.{world_of}
use Rattle.vmx_replay_worlds.proofs.Lists.{at_twice, get_map, set_set}
use Rattle.vmx_replay_steps.specs.Commands.{stopped}
use Rattle.vmx_replay_steps.specs.Waits.{KnowsCompleted}
use Rattle.vmx_replay_chains.specs.Chains.{FollowsOn, RenewsBy, due_at, due_in, due_now, is_activating}
use Rattle.vmx_replay_calls.specs.Commands.{SendsStop, SendsUpdate, SendsActivation}
use Rattle.vmx_replay_calls.specs.Resting.{IsGuestAt, Rests, RunRests, AllKeep}
use Rattle.vmx_replay_calls.specs.Results.{progress_of, WasStopped}
use Rattle.vmx_replay_calls.proofs.Runs.{guest_at}
use Rattle.vmx_replay_calls.proofs.Progress.{progress_at}
use Rattle.vmx_replay_calls.proofs.Resting.{knows_completed}
use Rattle.vmx_replay_calls.proofs.Settling.{changed_at}
use Rattle.vmx_replay_calls.proofs.AllMet.{renews_none}
use Rattle.vmx_replay_calls.proofs.Followed.{StepSo, step_trans, stop_was, stop_progress, stop_keeps, update_step, activation_step, ends_last, ends_met_step, ends_met_at, ends_met_over, none_met}

-- ------------------------------------------------------------ small things

-- one change for another that does the same to the guest at the port
at_there : {X : Type 0} (n : ℕ) (f g : X → X) (xs : List X) (x : X) → slice_get xs n ≡ Some x → f x ≡ g x → at_number n f xs ≡ at_number n g xs
at_there n f g [] x e h = refl
at_there zero f g (y ∷ xs) x e h = let same : y ≡ x = cc e in ap (λ z. z ∷ xs) (ap f same ∙ h ∙ ap g (sym same))
at_there (suc n) f g (y ∷ xs) x e h = ap (λ zs. y ∷ zs) (at_there n f g xs x e h)

seat_there : (rs : List GuestView) (port : ℕ) (r : GuestView) → slice_get rs port ≡ Some r → slice_get (map seat_of rs) port ≡ Some (seat_of r)
seat_there rs port r at = get_map seat_of rs port ∙ ap (option_map seat_of) at

pub step_as : (plan : Plan) (port : ℕ) (f g : Seat → Seat) (a : Progress) (rs rs' : List GuestView) (r : GuestView) → slice_get rs port ≡ Some r → f (seat_of r) ≡ g (seat_of r) → StepSo plan port f a rs rs' → StepSo plan port g a rs rs'
step_as plan port f g a rs rs' r at h x = record {
  world = x.world ∙ ap (λ (ss : List Seat). record (world_of rs) { seats = ss }) (at_there port f g (map seat_of rs) (seat_of r) (seat_there rs port r at) h);
  rests = x.rests;
  keeps = x.keeps;
  progress = x.progress;
}

pub over_trans : (p : GuestPlan) (a b c : ℕ) → PassesOver p a b → PassesOver p b c → PassesOver p a c
over_trans p a b c x y = record { up = let l = x.up in let m = y.up in omega (arith, l, m); none = λ n q. y.none n q ∙ x.none n q }

-- the plan at a port is one
pub plan_same : (plan : Plan) (port : ℕ) (r r' : GuestView) → IsGuestAt plan port r → IsGuestAt plan port r' → r'.driver.plan ≡ r.driver.plan
plan_same plan port r r' g g' = g'.planned ∙ some_same (slice_get plan.guests port) g'.guest g.guest g'.there_ g.there_ ∙ sym g.planned

-- the setup by how many actions were begun
pub setup_done : (p : GuestPlan) (s s' : Progress) → s'.done ≡ s.done → setup_now p s' ≡ setup_now p s
setup_done p s s' e = ap (λ (k : ℕ). after_script (first_setup p) (take k p.script)) e

-- ------------------------------------------------------------ a command and what follows, by what is due

module _ (plan : Plan) (port : ℕ) (rs rs' : List GuestView) (run : RunRests plan rs) (keeps : AllKeep rs) (empty : AreEmptied (world_of rs)) (f : FollowsOn port rs rs') where
  abbrev v : DriverView
  v = f.acts.before.driver

  abbrev sent : DriverView
  sent = f.acts.does.1.acted

  pub rest : Rests f.acts.before
  rest = all_at Rests rs port f.acts.before f.acts.at run.rest

  pub keep : BothKeep v f.acts.before.device
  keep = all_at (λ (r : GuestView). BothKeep r.driver r.device) rs port f.acts.before f.acts.at keeps

  pub knows : KnowsCompleted v
  knows = knows_completed f.acts.before rest keep.device

  pub here : IsGuestAt plan port f.acts.before
  here = guest_at plan rs port f.acts.before run.guests f.acts.at

  -- the guest behind the meeting
  pub met_at : slice_get f.met port ≡ Some f.meets.after
  met_at = changed_at port _ f.answered f.met f.meets

  pub due_met : due_at port f.met ≡ due_now f.meets.after.driver
  due_met = ap due_in met_at

  -- where no activation is due there, the meeting is the end
  pub finish : (change : Seat → Seat) (a : Progress) → StepSo plan port change a rs f.met → (a.stage ≡ Fresh → ⊥) → StepSo plan port change a rs rs'
  finish change a x fresh =
      let at : f.meets.after.driver.at ≡ a = progress_at rs f.met port f.acts.before f.meets.after a f.acts.at met_at x.progress in
      let none = (all_at Rests f.met port f.meets.after met_at x.rests.rest).caught_up.none in
      let none_due : is_activating (due_at port f.met) ≡ false = ap is_activating due_met ∙ renews_none f.meets.after.driver none (λ e. fresh (ap (λ (s : Progress). s.stage) (sym at) ∙ e)) in
      let same : rs' ≡ f.met = subst (λ (b : Bool). RenewsBy b port f.met rs') none_due f.renews in
      subst (StepSo plan port change a rs) (sym same) x

  -- ---------------------------------------------------------- a stop

  -- a stop up to the meeting
  pub record StopSo (number : ℕ) (t : Then) : Type 0 where
    pub last : Progress
    pub step : StepSo plan port (λ z. emptied (stopped number z)) last rs f.met
    pub is : last ≡ record sent.at { stage = after t; ended = sent.at.ended + 1; next = last.next }
    pub over : PassesOver v.plan sent.at.next last.next

  pub stop_met : (number : ℕ) (t : Then) → SendsStop number t v sent → StopSo number t
  stop_met number t s =
      let was : WasStopped plan port number t rs f.answered = stop_was plan port rs f.asked f.answered run keeps empty f.acts f.answers number t s in
      let moved = stop_progress plan port rs f.asked f.answered run keeps empty f.acts f.answers number t s in
      let kept = stop_keeps plan port rs f.asked f.answered run keeps empty f.acts f.answers number t s in
      let h = was.holds in
      let last = ends_last plan port t f.answered f.met kept h f.meets in
      let step = ends_met_step plan port t f.answered f.met kept h f.meets in
      let over = ends_met_over plan port t f.answered f.met kept h f.meets in
      let held : h.guest.driver.at ≡ record sent.at { stage = Held t } = progress_at rs f.answered port f.acts.before h.guest (record sent.at { stage = Held t }) f.acts.at h.at moved in
      let same : h.guest.driver.plan ≡ v.plan = plan_same plan port f.acts.before h.guest here (guest_at plan f.answered port h.guest h.guests h.at) in record {
        last = last.at;
        step = record {
          world = step.world ∙ ap (at_guest port emptied) was.world ∙ ap (λ (ss : List Seat). record (world_of rs) { seats = ss }) (at_twice port emptied (stopped number) (map seat_of rs));
          rests = step.rests;
          keeps = step.keeps;
          progress = step.progress ∙ ap (λ (ps : List Progress). set ps port last.at) moved ∙ set_set (progress_of rs) port (record sent.at { stage = Held t }) last.at;
        };
        is = ends_met_at plan port t f.answered f.met kept h f.meets ∙ ap (λ (s : Progress). record s { stage = after t; ended = s.ended + 1; next = last.at.next }) held;
        over = subst (λ (x : GuestPlan × Progress). PassesOver x.0 x.1.next last.at.next) (λ i. (same i, held i)) over;
      }

  -- ---------------------------------------------------------- an update, an activation

  pub update_met : (number : ℕ) (s : SendsUpdate number v sent) → StepSo plan port (λ z. set_command (record z { setup = setup_now v.plan sent.at }) number) sent.at rs f.met
  update_met number s =
      let x = update_step plan port rs f.asked f.answered run keeps empty f.acts f.answers number s in
      let y = none_met plan port f.answered f.met x.rests x.keeps f.meets in
      let at : f.meets.before.driver.at ≡ sent.at = progress_at rs f.answered port f.acts.before f.meets.before sent.at f.acts.at f.meets.at x.progress in
      subst (λ (a : Progress). StepSo plan port (λ z. set_command (record z { setup = setup_now v.plan sent.at }) number) a rs f.met) at
      (step_trans plan port (λ z. set_command (record z { setup = setup_now v.plan sent.at }) number) (λ z. z) sent.at f.meets.before.driver.at rs f.answered f.met x y)

  pub activation_met : (s : SendsActivation v sent) → StepSo plan port (activated v.guest v.plan) sent.at rs f.met
  activation_met s =
      let x = activation_step plan port rs f.asked f.answered run keeps empty f.acts f.answers s in
      let y = none_met plan port f.answered f.met x.rests x.keeps f.meets in
      let at : f.meets.before.driver.at ≡ sent.at = progress_at rs f.answered port f.acts.before f.meets.before sent.at f.acts.at f.meets.at x.progress in
      subst (λ (a : Progress). StepSo plan port (activated v.guest v.plan) a rs f.met) at (step_trans plan port (activated v.guest v.plan) (λ z. z) sent.at f.meets.before.driver.at rs f.answered f.met x y)
