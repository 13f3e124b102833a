-- A deed of a script with all that follows from its commands, in the serial run.
use Rattle.std.proofs.Common.{◌≡◌, ℕ, ◌+◌, Bool, true, false, List, take, refl, sym, ap, ◌∙◌, subst, Some, None, Option, if◌then◌else◌}
use Rattle.std.specs.Prelude.{is_some}
use Rattle.std.specs.List.{slice_get}
use Rattle.vmx_device_state.specs.Orders.{order_of}
use Rattle.vmx_device_state.specs.SetupView.{SetupView}
use Rattle.vmx_device_state.specs.declared.order.Order.TheVariants.{Update}
use Rattle.vmx_device_state.specs.declared.order.Part.{Part}
use Rattle.vmx_device_state.specs.declared.order.Part.TheVariants as part
use Rattle.vmx_device_state.specs.declared.turn.CommandView.{CommandView}
use Rattle.vmx_model.specs.declared.deeds.Action.{Action}
use Rattle.vmx_model.specs.declared.deeds.Deed.{Deed}
use Rattle.vmx_model.specs.declared.deeds.Deed.TheVariants as deed
use Rattle.vmx_model.specs.declared.guest.GuestPlan.{GuestPlan}
use Rattle.vmx_model.specs.declared.plan.Plan.{Plan}
use Rattle.vmx_model.specs.Plan.{changed, after_script, first_setup, quiesce_dev, reset_dev}
use Rattle.vmx_model.specs.Serial.{Seat, World, activated, emptied, set_command, done}
use Rattle.vmx_model.specs.Turns.{AreEmptied, at_guest}
use Rattle.vmx_device_looks.specs.Queues.{all_at}
use Rattle.vmx_device_laws.proofs.PairingIn.{some_same}
use Rattle.vmx_driver_steps.specs.declared.progress.Then.{Then}
use Rattle.vmx_driver_steps.specs.declared.progress.Then.TheVariants.{Rest, Renew}
use Rattle.vmx_driver_steps.specs.declared.progress.Progress.{Progress}
use Rattle.vmx_driver_steps.specs.declared.progress.Stage.{Stage}
use Rattle.vmx_driver_steps.specs.declared.progress.Stage.TheVariants.{Fresh, Active, Stopping, Held, Quiet, Ended}
use Rattle.vmx_driver_steps.specs.declared.progress.Due.{Due}
use Rattle.vmx_driver_steps.specs.declared.progress.Due.TheVariants as due
use Rattle.vmx_driver_steps.specs.Progress.{in_hand, setup_now, next_of, due_in as due_in_stage, due_of}
use Rattle.vmx_driver_steps.specs.Nexts.{action_due, due_at as due_at_stage}
use Rattle.vmx_driver_steps.specs.Acting.{ActionDue, setup_is}
use Rattle.vmx_driver_steps.specs.Asking.{Waits}
use Rattle.vmx_driver_steps.specs.Updating.{update_number}
use Rattle.vmx_driver_steps.specs.Driver.{DriverView}
use Rattle.vmx_driver_steps.specs.Driving.{PassesOver, ActivatesWith}
use Rattle.vmx_driver.specs.declared.driver.Act.{Act}
use Rattle.vmx_driver.specs.declared.driver.Act.TheVariants.{Worked, Waiting, Done}
use Rattle.vmx_driver.specs.Acts.{StopsAfter, QuiescesAfter, UpdatesAfter, ActsSo, ActsAtActivation, ActsAtQuiesce, ActsAtReset, ActsAtUpdate, ActsAtDeed, ActsAtScript}
use Rattle.vmx_replay_worlds.specs.Guests.{GuestView, seat_of}
use Rattle.vmx_replay_worlds.specs.Worlds.{world_of}
use Rattle.vmx_replay_steps.specs.Commands.{stopped}
use Rattle.vmx_replay_steps.specs.Waits.{KnowsCompleted}
use Rattle.vmx_replay_steps.proofs.Standing.{is_off}
use Rattle.vmx_replay_steps.proofs.Waits.{reaps_whole}
use Rattle.vmx_replay_runs.specs.Runs.{action_in, does}
use Rattle.vmx_replay_chains.specs.Chains.{ActsOn, AnswersOn, FollowsOn, RenewsBy, due_at, due_in, due_now, is_activating}
use Rattle.vmx_replay_calls.specs.Commands.{SendsStop, SendsUpdate, SendsActivation}
use Rattle.vmx_replay_calls.specs.Resting.{Rests, RunRests, AllKeep}
use Rattle.vmx_replay_calls.specs.Results.{HasActed, WasActed}
use Rattle.vmx_replay_calls.proofs.Notes.{stands_of}
use Rattle.vmx_replay_calls.proofs.Runs.{guest_at}
use Rattle.vmx_replay_calls.proofs.Progress.{progress_at}
use Rattle.vmx_replay_calls.proofs.InTurn.{activates_quiet, quiesces_active, resets_active}
use Rattle.vmx_replay_calls.proofs.AllMet.{renews}
use Rattle.vmx_replay_calls.proofs.Followed.{StepSo, step_trans, step_empties, activation_step}
use Rattle.vmx_replay_calls.proofs.Behind.{step_as, over_trans, plan_same, setup_done, rest, keep, knows, here, met_at, due_met, finish, stop_met, update_met, activation_met}

-- ------------------------------------------------------------ what an act does, where it waits for nothing

pub quiesces_by : (t : Then) (k : ℕ) (v w : DriverView) (a : Act) → KnowsCompleted v → ActsAtQuiesce t k v a w → QuiescesAfter t k v w
quiesces_by t k v w Worked c h = h
quiesces_by t k v w Waiting c h = absurd (h.1 (reaps_whole v w c h.0))
quiesces_by t k v w Done c h = absurd h

activates_by : (k : ℕ) (v w : DriverView) (a : Act) → ActsAtActivation k v a w → ActivatesWith k v w
activates_by k v w Worked h = h
activates_by k v w Waiting h = absurd h
activates_by k v w Done h = absurd h

resets_by : (k : ℕ) (v w : DriverView) (a : Act) → ActsAtReset k v a w → StopsAfter reset_dev Renew k v w
resets_by k v w Worked h = h
resets_by k v w Waiting h = absurd h
resets_by k v w Done h = absurd h

updates_by : (d : Deed) (v w : DriverView) (a : Act) → ActsAtUpdate d v a w → UpdatesAfter (update_number d) (v.at.done + 1) v w
updates_by d v w Worked h = h
updates_by d v w Waiting h = absurd h
updates_by d v w Done h = absurd h

-- ------------------------------------------------------------ an activation behind a reset

-- it leaves how far the driver is, but for frames that are not sent
record RenewalSo (plan : Plan) (port : ℕ) (r : GuestView) (rs rs' : List GuestView) : Type 0 where
  pub last : Progress
  pub step : StepSo plan port (activated r.driver.guest r.driver.plan) last rs rs'
  pub stage : last.stage ≡ Active
  pub done_is : last.done ≡ r.driver.at.done
  pub closed_is : last.closed ≡ r.driver.at.closed
  pub over : PassesOver r.driver.plan r.driver.at.next last.next

renewal : (plan : Plan) (port : ℕ) (rs ms rs' : List GuestView) → RunRests plan rs → AllKeep rs → AreEmptied (world_of rs) → (acts : ActsOn port rs ms) → AnswersOn port ms rs' → acts.before.driver.at.stage ≡ Fresh → RenewalSo plan port acts.before rs rs'
renewal plan port rs ms rs' run keeps empty acts answers fresh =
    let v : DriverView = acts.before.driver in let w : DriverView = acts.does.1.acted in
    let none = (all_at Rests rs port acts.before acts.at run.rest).caught_up.none in
    let now : due_now v ≡ due.Activate = due_at_stage v.plan v.at v.calls.asked Fresh due.Activate none fresh refl in
    let q : ActivatesWith v.at.done v w = activates_by v.at.done v w acts.does.0 (subst (λ (d : Due). ActsSo d v acts.does.0 w) now acts.does.1.acts) in
    let s : SendsActivation v w = record { free = ap in_hand fresh; done = v.at.done; activates = q; setup = setup_done v.plan v.at w.at (ap (λ (x : DriverView). x.at.done) q.is) } in record {
      last = w.at;
      step = activation_step plan port rs ms rs' run keeps empty acts answers s;
      stage = ap (λ (x : DriverView). x.at.stage) q.is;
      done_is = ap (λ (x : DriverView). x.at.done) q.is;
      closed_is = ap (λ (x : DriverView). x.at.closed) q.is;
      over = q.over;
    }

-- ------------------------------------------------------------ a deed

-- an action is due in two stages alone
acts_in : (g : Stage) (closed : Bool) (d : Due) (n : ℕ) → due_in_stage g closed d ≡ due.Action n → Waits g × (g ≡ Active → closed ≡ false)
acts_in Fresh closed d n e = absurd (cc e)
acts_in Active true d n e = absurd (cc e)
acts_in Active false d n e = (tt, λ x. refl)
acts_in (Stopping t) closed d n e = absurd (cc e)
acts_in (Held t) closed d n e = absurd (cc e)
acts_in Quiet closed d n e = (tt, λ x. absurd (cc x))
acts_in Ended closed d n e = absurd (cc e)

waits_not_fresh : (g : Stage) → Waits g → g ≡ Fresh → ⊥
waits_not_fresh Fresh w e = absurd w
waits_not_fresh Active w e = absurd (cc e)
waits_not_fresh (Stopping t) w e = absurd w
waits_not_fresh (Held t) w e = absurd w
waits_not_fresh Quiet w e = absurd (cc e)
waits_not_fresh Ended w e = absurd w

module _ (plan : Plan) (port n : ℕ) (rs rs' : List GuestView) (run : RunRests plan rs) (keeps : AllKeep rs) (empty : AreEmptied (world_of rs)) (acting : due_at port rs ≡ due.Action n) (f : FollowsOn port rs rs') where
  abbrev v : DriverView
  v = f.acts.before.driver

  abbrev sent : DriverView
  sent = f.acts.does.1.acted

  none : v.calls.asked ≡ None
  none = (rest plan port rs rs' run keeps empty f).caught_up.none

  now : due_now v ≡ due.Action n
  now = sym (ap due_in f.acts.at) ∙ acting

  next : due_of v.plan v.at false ≡ due.Action n
  next = ap (λ (o : Option CommandView). due_of v.plan v.at (is_some o)) (sym none) ∙ now

  open_ : Waits v.at.stage × (v.at.stage ≡ Active → v.at.closed ≡ false)
  open_ = acts_in v.at.stage v.at.closed (next_of v.plan v.at) n next

  script : ActsAtScript v f.acts.does.0 sent
  script = subst (λ (d : Due). ActsSo d v f.acts.does.0 sent) now f.acts.does.1.acts

  abbrev action : Action
  action = script.action

  ready : ActionDue v.plan v.at action
  ready =
      let a = action_due v.plan v.at n open_.0 open_.1 next in
      subst (ActionDue v.plan v.at) (some_same (slice_get v.plan.script v.at.done) a.0 action a.1.there script.there) a.1

  -- the setup behind it
  setup_then : sent.at.done ≡ v.at.done + 1 → (d : Deed) → action.deed ≡ d → setup_now v.plan sent.at ≡ changed (setup_now v.plan v.at) d
  setup_then e d is = ap (λ (k : ℕ). after_script (first_setup v.plan) (take k v.plan.script)) e ∙ setup_is v.plan v.at action ready ∙ ap (changed (setup_now v.plan v.at)) is

  -- what the deed comes to
  record DeedSo (d : Deed) : Type 0 where
    pub last : Progress
    pub acted : HasActed v.plan v.at last
    pub step : StepSo plan port (done port v.plan d) last rs rs'

  -- ---------------------------------------------------------- a quiesce

  quiesced : action.deed ≡ deed.Quiesce → QuiescesAfter Rest (v.at.done + 1) v sent → DeedSo deed.Quiesce
  quiesced is q =
      let begun : sent.at.done ≡ v.at.done + 1 = ap (λ (x : DriverView). x.at.done) q.stops.is in
      let s : SendsStop quiesce_dev Rest v sent = record {
        active = quiesces_active v (keep plan port rs rs' run keeps empty f).driver open_.0 action script.there is;
        mid = q.mid;
        reaps = q.reaps;
        done = v.at.done + 1;
        stops = q.stops;
        order = refl;
        setup = setup_then begun deed.Quiesce is;
      } in
      let m = stop_met plan port rs rs' run keeps empty f quiesce_dev Rest s in
      let stage : m.last.stage ≡ Quiet = ap (λ (x : Progress). x.stage) m.is in
      let next_is : sent.at.next ≡ v.at.next = ap (λ (x : DriverView). x.at.next) q.stops.is ∙ ap (λ (x : DriverView). x.at.next) q.reaps.is in
      let closed_is : sent.at.closed ≡ v.at.closed = ap (λ (x : DriverView). x.at.closed) q.stops.is ∙ ap (λ (x : DriverView). x.at.closed) q.reaps.is in record {
        last = m.last;
        acted = record {
          done = ap (λ (x : Progress). x.done) m.is ∙ begun;
          closed_ = ap (λ (x : Progress). x.closed) m.is ∙ closed_is;
          waits = subst Waits (sym stage) tt;
          over = subst (λ (k : ℕ). PassesOver v.plan k m.last.next) next_is m.over;
        };
        step = finish plan port rs rs' run keeps empty f (λ z. emptied (stopped quiesce_dev z)) m.last m.step (λ e. absurd (cc (sym stage ∙ e)));
      }

  -- ---------------------------------------------------------- an activation

  begun_active : action.deed ≡ deed.Activate → ActivatesWith (v.at.done + 1) v sent → DeedSo deed.Activate
  begun_active is q =
      let begun : sent.at.done ≡ v.at.done + 1 = ap (λ (x : DriverView). x.at.done) q.is in
      let quiet : v.at.stage ≡ Quiet = activates_quiet v (keep plan port rs rs' run keeps empty f).driver open_.0 action script.there is in
      let free : in_hand v.at.stage ≡ 0 = ap in_hand quiet in
      let s : SendsActivation v sent = record { free = free; done = v.at.done + 1; activates = q; setup = setup_then begun deed.Activate is } in
      let stage : sent.at.stage ≡ Active = ap (λ (x : DriverView). x.at.stage) q.is in
      let g = here plan port rs rs' run keeps empty f in
      let x = finish plan port rs rs' run keeps empty f (activated v.guest v.plan) sent.at (activation_met plan port rs rs' run keeps empty f s) (λ e. absurd (cc (sym stage ∙ e))) in
      let y : StepSo plan port (activated port v.plan) sent.at rs rs' = subst (λ (k : ℕ). StepSo plan port (activated k v.plan) sent.at rs rs') g.number x in
      let off = is_off v f.acts.before.device (stands_of f.acts.before (rest plan port rs rs' run keeps empty f) (keep plan port rs rs' run keeps empty f)) free in record {
        last = sent.at;
        acted = record { done = begun; closed_ = ap (λ (z : DriverView). z.at.closed) q.is; waits = subst Waits (sym stage) tt; over = q.over };
        step = step_as plan port (activated port v.plan) (done port v.plan deed.Activate) sent.at rs rs' f.acts.before f.acts.at
            (ap (λ (b : Bool). if b then seat_of f.acts.before else activated port v.plan (seat_of f.acts.before)) (sym off)) y;
      }

  -- ---------------------------------------------------------- a reset

  renewed : action.deed ≡ deed.Reset → StopsAfter reset_dev Renew (v.at.done + 1) v sent → DeedSo deed.Reset
  renewed is q =
      let begun : sent.at.done ≡ v.at.done + 1 = ap (λ (x : DriverView). x.at.done) q.stops.is in
      let next_is : sent.at.next ≡ v.at.next = ap (λ (x : DriverView). x.at.next) q.stops.is ∙ ap (λ (x : DriverView). x.at.next) q.reaps.is in
      let closed_is : sent.at.closed ≡ v.at.closed = ap (λ (x : DriverView). x.at.closed) q.stops.is ∙ ap (λ (x : DriverView). x.at.closed) q.reaps.is in
      let s : SendsStop reset_dev Renew v sent = record {
        active = resets_active v (keep plan port rs rs' run keeps empty f).driver open_.0 action script.there is;
        mid = q.mid;
        reaps = q.reaps;
        done = v.at.done + 1;
        stops = q.stops;
        order = refl;
        setup = setup_then begun deed.Reset is;
      } in
      let m = stop_met plan port rs rs' run keeps empty f reset_dev Renew s in
      let x = m.step in
      let at : f.meets.after.driver.at ≡ m.last = progress_at rs f.met port f.acts.before f.meets.after m.last f.acts.at (met_at plan port rs rs' run keeps empty f) x.progress in
      let fresh : f.meets.after.driver.at.stage ≡ Fresh = ap (λ (z : Progress). z.stage) at ∙ ap (λ (z : Progress). z.stage) m.is in
      let none' = (all_at Rests f.met port f.meets.after (met_at plan port rs rs' run keeps empty f) x.rests.rest).caught_up.none in
      let is_due : is_activating (due_at port f.met) ≡ true = ap is_activating (due_met plan port rs rs' run keeps empty f) ∙ renews f.meets.after.driver none' fresh in
      let again : RenewsBy true port f.met rs' = subst (λ (b : Bool). RenewsBy b port f.met rs') is_due f.renews in
      let r : GuestView = again.1.before in
      let at' : r.driver.at ≡ m.last = progress_at rs f.met port f.acts.before r m.last f.acts.at again.1.at x.progress in
      let fresh' : r.driver.at.stage ≡ Fresh = ap (λ (z : Progress). z.stage) at' ∙ ap (λ (z : Progress). z.stage) m.is in
      let g = guest_at plan f.met port r x.rests.guests again.1.at in
      let plan_is : r.driver.plan ≡ v.plan = plan_same plan port f.acts.before r (here plan port rs rs' run keeps empty f) g in
      let y = renewal plan port f.met again.0 rs' x.rests x.keeps (step_empties plan port (λ z. emptied (stopped reset_dev z)) m.last rs f.met x empty) again.1 again.2 fresh' in
      let z = step_trans plan port (λ z. emptied (stopped reset_dev z)) (activated r.driver.guest r.driver.plan) m.last y.last rs f.met rs' x y.step in record {
        last = y.last;
        acted = record {
          done = y.done_is ∙ ap (λ (p : Progress). p.done) at' ∙ ap (λ (p : Progress). p.done) m.is ∙ begun;
          closed_ = y.closed_is ∙ ap (λ (p : Progress). p.closed) at' ∙ ap (λ (p : Progress). p.closed) m.is ∙ closed_is;
          waits = subst Waits (sym y.stage) tt;
          over = over_trans v.plan v.at.next m.last.next y.last.next (subst (λ (k : ℕ). PassesOver v.plan k m.last.next) next_is m.over)
              (subst (λ (p : GuestPlan × Progress). PassesOver p.0 p.1.next y.last.next) (λ i. (plan_is i, at' i)) y.over);
        };
        step = subst (λ (p : ℕ × GuestPlan). StepSo plan port (λ s. activated p.0 p.1 (emptied (stopped reset_dev s))) y.last rs rs') (λ i. (g.number i, plan_is i)) z;
      }

  -- ---------------------------------------------------------- an update

  updated : (d : Deed) (p : Part) → order_of (update_number d) ≡ Update p → action.deed ≡ d → ((s : Seat) → set_command (record s { setup = changed s.setup d }) (update_number d) ≡ done port v.plan d s) → UpdatesAfter (update_number d) (v.at.done + 1) v sent → DeedSo d
  updated d p order is so q =
      let begun : sent.at.done ≡ v.at.done + 1 = ap (λ (x : DriverView). x.at.done) q.updates.is in
      let stage : sent.at.stage ≡ v.at.stage = ap (λ (x : DriverView). x.at.stage) q.updates.is ∙ ap (λ (x : DriverView). x.at.stage) q.reaps.is in
      let s : SendsUpdate (update_number d) v sent = record { mid = q.mid; reaps = q.reaps; done = v.at.done + 1; updates = q.updates; part = p; order = order } in
      let x = finish plan port rs rs' run keeps empty f (λ z. set_command (record z { setup = setup_now v.plan sent.at }) (update_number d)) sent.at (update_met plan port rs rs' run keeps empty f (update_number d) s)
      (λ e. waits_not_fresh v.at.stage open_.0 (sym stage ∙ e)) in
      let setup : setup_now v.plan sent.at ≡ changed (setup_now v.plan v.at) d = setup_then begun d is in record {
        last = sent.at;
        acted = record {
          done = begun;
          closed_ = ap (λ (z : DriverView). z.at.closed) q.updates.is ∙ ap (λ (z : DriverView). z.at.closed) q.reaps.is;
          waits = subst Waits (sym stage) open_.0;
          over = subst (λ (z : DriverView). PassesOver z.plan z.at.next sent.at.next) q.reaps.is q.updates.over;
        };
        step = step_as plan port (λ z. set_command (record z { setup = setup_now v.plan sent.at }) (update_number d)) (done port v.plan d) sent.at rs rs' f.acts.before f.acts.at
            (ap (λ (z : SetupView). set_command (record (seat_of f.acts.before) { setup = z }) (update_number d)) setup ∙ so (seat_of f.acts.before)) x;
      }

  -- ---------------------------------------------------------- by the deed

  by_deed : (d : Deed) → action.deed ≡ d → ActsAtDeed d v f.acts.does.0 sent → DeedSo d
  by_deed deed.Quiesce is h = quiesced is (quiesces_by Rest (v.at.done + 1) v sent f.acts.does.0 (knows plan port rs rs' run keeps empty f) h)
  by_deed deed.Activate is h = begun_active is (activates_by (v.at.done + 1) v sent f.acts.does.0 h)
  by_deed deed.Reset is h = renewed is (resets_by (v.at.done + 1) v sent f.acts.does.0 h)
  by_deed (deed.Mode m) is h = updated (deed.Mode m) part.Mode refl is (λ s. refl) (updates_by (deed.Mode m) v sent f.acts.does.0 h)
  by_deed (deed.Multicast t) is h = updated (deed.Multicast t) part.Macs refl is (λ s. refl) (updates_by (deed.Multicast t) v sent f.acts.does.0 h)
  by_deed (deed.Vlans t) is h = updated (deed.Vlans t) part.Vlans refl is (λ s. refl) (updates_by (deed.Vlans t) v sent f.acts.does.0 h)
  by_deed (deed.Rss k t) is h = updated (deed.Rss k t) part.Table refl is (λ s. refl) (updates_by (deed.Rss k t) v sent f.acts.does.0 h)

  deed_so : DeedSo action.deed
  deed_so = by_deed action.deed refl script.does

  does_is : (w : World) → does port (slice_get plan.guests port) (action_in (slice_get plan.guests port) v.at.done) w ≡ at_guest port (done port v.plan action.deed) w
  does_is w =
      let g = here plan port rs rs' run keeps empty f in
      ap (λ (o : Option GuestPlan). does port o (action_in o v.at.done) w) (g.there_ ∙ ap Some (sym g.planned)) ∙ ap (λ (o : Option Action). does port (Some v.plan) o w) script.there

  pub was_acted : WasActed plan port rs rs'
  was_acted = record {
    guest = f.acts.before;
    at = f.acts.at;
    after = deed_so.last;
    acted = deed_so.acted;
    stand = record { world_is = deed_so.step.world ∙ sym (does_is (world_of rs)); progress_is = deed_so.step.progress; rests = deed_so.step.rests; keeps = deed_so.step.keeps };
  }
