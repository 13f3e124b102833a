-- A guest is closed, in the serial run.
use Rattle.std.proofs.Common.{◌≡◌, ℕ, Bool, true, false, true≢false, List, map, set, refl, sym, ap, ◌∙◌, subst, Some, None, Option, inl, inr, if◌then◌else◌}
use Rattle.std.specs.Prelude.{◌⊎◌, is_some, not, ◌&&◌}
use Rattle.std.specs.List.{slice_get}
use Rattle.std.proofs.lemmas.Bool.{and_parts}
use Rattle.vmx_device_state.specs.declared.turn.CommandView.{CommandView}
use Rattle.vmx_model.specs.declared.plan.Plan.{Plan}
use Rattle.vmx_model.specs.Plan.{quiesce_dev}
use Rattle.vmx_model.specs.Serial.{Seat, closed, emptied, quieted}
use Rattle.vmx_model.specs.Turns.{AreEmptied}
use Rattle.vmx_device_looks.specs.Queues.{all_at}
use Rattle.vmx_device_laws.proofs.PairingIn.{some_same}
use Rattle.vmx_driver_steps.specs.declared.progress.Then.TheVariants.{End}
use Rattle.vmx_driver_steps.specs.declared.progress.Progress.{Progress}
use Rattle.vmx_driver_steps.specs.declared.progress.Stage.{Stage}
use Rattle.vmx_driver_steps.specs.declared.progress.Stage.TheVariants.{Fresh, Active, Stopping, Held, Quiet, Ended}
use Rattle.vmx_driver_steps.specs.declared.progress.Due.{Due}
use Rattle.vmx_driver_steps.specs.declared.progress.Due.TheVariants as due
use Rattle.vmx_driver_steps.specs.Progress.{in_hand, next_of, due_in as due_in_stage, due_of, is_over, is_over_in}
use Rattle.vmx_driver_steps.specs.Driver.{DriverView}
use Rattle.vmx_driver.specs.Acts.{ActsSo, QuiescesAfter}
use Rattle.vmx_driver.specs.Stocked.{closed_as}
use Rattle.vmx_replay_settled.specs.Settled.{BothKeep}
use Rattle.vmx_replay_worlds.specs.Guests.{GuestView, seat_of}
use Rattle.vmx_replay_worlds.specs.Worlds.{world_of}
use Rattle.vmx_replay_worlds.proofs.Lists.{at_stays, set_same}
use Rattle.vmx_replay_worlds.proofs.Moved.{guest_same}
use Rattle.vmx_replay_steps.specs.Commands.{stopped}
use Rattle.vmx_replay_steps.proofs.Standing.{is_on, is_off}
use Rattle.vmx_replay_chains.specs.Chains.{FollowsOn, IsClosableOn, ToldClosed, QuiescesBy, ClosesOn, ClosesBy, due_at, due_in, due_now, is_closing, is_over_in as over_in, is_over_on}
use Rattle.vmx_replay_calls.specs.Commands.{SendsStop}
use Rattle.vmx_replay_calls.specs.Resting.{guest_of, Rests, RunRests, AllKeep}
use Rattle.vmx_replay_calls.specs.Results.{progress_of, WasClosed}
use Rattle.vmx_replay_calls.proofs.Notes.{stands_of}
use Rattle.vmx_replay_calls.proofs.Answered.{AtRest, stands_rest}
use Rattle.vmx_replay_calls.proofs.Progress.{progress_set, progress_get}
use Rattle.vmx_replay_calls.proofs.Resting.{run_set}
use Rattle.vmx_replay_calls.proofs.Settling.{changes_keep, changed_at}
use Rattle.vmx_replay_calls.proofs.Followed.{StepSo, step_trans, step_empties}
use Rattle.vmx_replay_calls.proofs.Behind.{setup_done, step_as, finish, knows, stop_met}
use Rattle.vmx_replay_calls.proofs.Acted.{quiesces_by}

-- ------------------------------------------------------------ small things

over_hand : (g : Stage) → is_over_in g ≡ true → in_hand g ≡ 0
over_hand Fresh e = absurd (true≢false (sym e))
over_hand Active e = absurd (true≢false (sym e))
over_hand (Stopping t) e = absurd (true≢false (sym e))
over_hand (Held t) e = absurd (true≢false (sym e))
over_hand Quiet e = refl
over_hand Ended e = refl

-- no step at all
step_none : (plan : Plan) (port : ℕ) (rs : List GuestView) (r : GuestView) → slice_get rs port ≡ Some r → RunRests plan rs → AllKeep rs → StepSo plan port (λ s. s) r.driver.at rs rs
step_none plan port rs r at run keeps = record {
  world = ap (λ (ss : List Seat). record (world_of rs) { seats = ss }) (sym (at_stays port (λ (x : Seat). x) (λ x. refl) (map seat_of rs)));
  rests = run;
  keeps = keeps;
  progress = sym (set_same (progress_of rs) port r.driver.at r.driver.at (progress_get rs port r at) refl);
}

-- a guest whose device is idle is closed as it is
idle_closed : (r : GuestView) → is_some r.device.machine.active ≡ false → seat_of r ≡ closed (seat_of r)
idle_closed r off = ap (λ (b : Bool). if b then quieted quiesce_dev (seat_of r) else seat_of r) (sym off)

on_closed : (r : GuestView) → is_some r.device.machine.active ≡ true → quieted quiesce_dev (seat_of r) ≡ closed (seat_of r)
on_closed r on = ap (λ (b : Bool). if b then quieted quiesce_dev (seat_of r) else seat_of r) (sym on)

-- a driver with which nothing is due is active, and is to quiesce once it was closed; or its ends have met, and it is not
record QuiescesNow (g : Stage) (d : Due) : Type 0 where
  pub active : g ≡ Active
  pub closing_ : due_in_stage g true d ≡ due.Close

record StaysNow (g : Stage) (d : Due) : Type 0 where
  pub over : is_over_in g ≡ true
  pub closing_ : is_closing (due_in_stage g true d) ≡ false

idle_in : (g : Stage) (shut : Bool) (d : Due) → AtRest g → due_in_stage g shut d ≡ due.Nothing → QuiescesNow g d ⊎ StaysNow g d
idle_in Fresh shut d r e = absurd (cc e)
idle_in Active true d r e = absurd (cc e)
idle_in Active false d r e = inl (record { active = refl; closing_ = refl })
idle_in (Stopping t) shut d r e = absurd r
idle_in (Held t) shut d r e = absurd r
idle_in Quiet shut d r e = inr (record { over = refl; closing_ = ap is_closing e })
idle_in Ended shut d r e = inr (record { over = refl; closing_ = refl })

-- a driver that was told that nothing more comes
told_rests : (r : GuestView) → Rests r → Rests (guest_of (closed_as r.driver) r.device)
told_rests r h = record { caught_up = record { none = h.caught_up.none; same = h.caught_up.same }; trusted = h.trusted; through_ = h.through_; told_tx = h.told_tx; told_rx = h.told_rx }

-- ------------------------------------------------------------ one that is over

over_stays : (plan : Plan) (port : ℕ) (rs : List GuestView) (r : GuestView) → RunRests plan rs → AllKeep rs → slice_get rs port ≡ Some r → is_over r.driver.at ≡ true → WasClosed plan port rs rs
over_stays plan port rs r run keeps at over =
    let rest = all_at Rests rs port r at run.rest in let keep = all_at (λ (x : GuestView). BothKeep x.driver x.device) rs port r at keeps in
    let off = is_off r.driver r.device (stands_of r rest keep) (over_hand r.driver.at.stage (and_parts r.driver.at.closed (is_over_in r.driver.at.stage) over).1) in
    let x = step_as plan port (λ s. s) closed r.driver.at rs rs r at (idle_closed r off) (step_none plan port rs r at run keeps) in record {
      guest = r;
      at = at;
      after = r.driver.at;
      over = over;
      done = refl;
      stand = record { world_is = x.world; progress_is = x.progress; rests = x.rests; keeps = x.keeps };
    }

-- ------------------------------------------------------------ one that is not

module _ (plan : Plan) (port : ℕ) (rs rs' : List GuestView) (run : RunRests plan rs) (keeps : AllKeep rs) (empty : AreEmptied (world_of rs)) (i : IsClosableOn port rs) (c : ClosesOn port rs rs') where
  abbrev r : GuestView
  r = i.guest

  abbrev told : GuestView
  told = guest_of (closed_as r.driver) r.device

  rest : Rests r
  rest = all_at Rests rs port r i.at run.rest

  keep : BothKeep r.driver r.device
  keep = all_at (λ (x : GuestView). BothKeep x.driver x.device) rs port r i.at keeps

  tells : ToldClosed r c.tells.after
  tells = subst (λ (x : GuestView). ToldClosed x c.tells.after) (some_same (slice_get rs port) c.tells.before r c.tells.at i.at) c.tells.does

  told_is : c.tells.after ≡ told
  told_is = λ j. guest_of (tells.driver j) (tells.device j)

  list_is : c.told ≡ set rs port told
  list_is = c.tells.is ∙ ap (set rs port) told_is

  told_at : slice_get c.told port ≡ Some told
  told_at = changed_at port ToldClosed rs c.told c.tells ∙ ap Some told_is

  -- the guests once it was told
  told_step : StepSo plan port (λ s. s) told.driver.at rs c.told
  told_step = record {
    world = ap world_of list_is ∙ guest_same rs port r told i.at (record { seat = refl; links = record { out = refl; input = refl } })
        ∙ ap (λ (ss : List Seat). record (world_of rs) { seats = ss }) (sym (at_stays port (λ (x : Seat). x) (λ x. refl) (map seat_of rs)));
    rests = subst (RunRests plan) (sym list_is) (run_set plan port rs r told run i.at (record { guest = refl; plan = refl; key = refl }) (record { port = refl; table = refl; key = refl; mac = refl }) keep.device (record { out = refl; input = refl }) (told_rests r rest));
    keeps = changes_keep port ToldClosed rs c.told c.tells keeps;
    progress = ap progress_of list_is ∙ progress_set rs port told;
  }

  none : r.driver.calls.asked ≡ None
  none = rest.caught_up.none

  nothing : due_in_stage r.driver.at.stage r.driver.at.closed (next_of r.driver.plan r.driver.at) ≡ due.Nothing
  nothing = sym (ap (λ (o : Option CommandView). due_of r.driver.plan r.driver.at (is_some o)) none) ∙ i.closable

  due_told : due_at port c.told ≡ due_in_stage r.driver.at.stage true (next_of r.driver.plan r.driver.at)
  due_told = ap due_in told_at ∙ ap (λ (o : Option CommandView). due_of r.driver.plan told.driver.at (is_some o)) none

  -- its ends have met
  stays : StaysNow r.driver.at.stage (next_of r.driver.plan r.driver.at) → WasClosed plan port rs rs'
  stays n =
      let same : rs' ≡ c.told = subst (λ (b : Bool). QuiescesBy b port c.told rs') (ap is_closing due_told ∙ n.closing_) c.quiesces in
      let off = is_off r.driver r.device (stands_of r rest keep) (over_hand r.driver.at.stage n.over) in
      let x = subst (StepSo plan port closed told.driver.at rs) (sym same) (step_as plan port (λ s. s) closed told.driver.at rs c.told r i.at (idle_closed r off) told_step) in record {
        guest = r;
        at = i.at;
        after = told.driver.at;
        over = n.over;
        done = refl;
        stand = record { world_is = x.world; progress_is = x.progress; rests = x.rests; keeps = x.keeps };
      }

  -- it quiesces its device
  quiesces : QuiescesNow r.driver.at.stage (next_of r.driver.plan r.driver.at) → WasClosed plan port rs rs'
  quiesces n =
      let f : FollowsOn port c.told rs' = subst (λ (b : Bool). QuiescesBy b port c.told rs') (ap is_closing (due_told ∙ n.closing_)) c.quiesces in
      let run' = told_step.rests in let keeps' = told_step.keeps in let empty' = step_empties plan port (λ s. s) told.driver.at rs c.told told_step empty in
      let same : f.acts.before ≡ told = some_same (slice_get c.told port) f.acts.before told f.acts.at told_at in
      let v : DriverView = f.acts.before.driver in let w : DriverView = f.acts.does.1.acted in
      let now : due_now v ≡ due.Close = sym (ap due_in f.acts.at) ∙ due_told ∙ n.closing_ in
      let q : QuiescesAfter End v.at.done v w = quiesces_by End v.at.done v w f.acts.does.0 (knows plan port c.told rs' run' keeps' empty' f) (subst (λ (d : Due). ActsSo d v f.acts.does.0 w) now f.acts.does.1.acts) in
      let s : SendsStop quiesce_dev End v w = record {
        active = ap (λ (x : GuestView). x.driver.at.stage) same ∙ n.active;
        mid = q.mid;
        reaps = q.reaps;
        done = v.at.done;
        stops = q.stops;
        order = refl;
        setup = setup_done v.plan v.at w.at (ap (λ (x : DriverView). x.at.done) q.stops.is);
      } in
      let m = stop_met plan port c.told rs' run' keeps' empty' f quiesce_dev End s in
      let stage : m.last.stage ≡ Ended = ap (λ (x : Progress). x.stage) m.is in
      let x = finish plan port c.told rs' run' keeps' empty' f (λ z. emptied (stopped quiesce_dev z)) m.last m.step (λ e. absurd (cc (sym stage ∙ e))) in
      let y : StepSo plan port (λ z. emptied (stopped quiesce_dev z)) m.last rs rs' = step_trans plan port (λ z. z) (λ z. emptied (stopped quiesce_dev z)) told.driver.at m.last rs c.told rs' told_step x in
      let on = is_on r.driver r.device (stands_of r rest keep) n.active in
      let z = step_as plan port (λ z. emptied (stopped quiesce_dev z)) closed m.last rs rs' r i.at (on_closed r on) y in
      let shut : m.last.closed ≡ true = ap (λ (p : Progress). p.closed) m.is ∙ ap (λ (p : DriverView). p.at.closed) q.stops.is ∙ ap (λ (p : DriverView). p.at.closed) q.reaps.is ∙ ap (λ (p : GuestView). p.driver.at.closed) same in record {
        guest = r;
        at = i.at;
        after = m.last;
        over = λ j. shut j && is_over_in (stage j);
        done = ap (λ (p : Progress). p.done) m.is ∙ ap (λ (p : DriverView). p.at.done) q.stops.is ∙ ap (λ (p : GuestView). p.driver.at.done) same;
        stand = record { world_is = z.world; progress_is = z.progress; rests = z.rests; keeps = z.keeps };
      }

  was_closed_now : WasClosed plan port rs rs'
  was_closed_now = elim (idle_in r.driver.at.stage r.driver.at.closed (next_of r.driver.plan r.driver.at) (stands_rest r.driver r.device (stands_of r rest keep)) nothing) [
    | inl n ↦ quiesces n
    | inr n ↦ stays n
  ]

-- ------------------------------------------------------------ by whether it is over

pub was_closed : (plan : Plan) (port : ℕ) (rs rs' : List GuestView) → RunRests plan rs → AllKeep rs → AreEmptied (world_of rs) → IsClosableOn port rs → ClosesBy (is_over_on port rs) port rs rs' → WasClosed plan port rs rs'
was_closed plan port rs rs' run keeps empty i c = by_over (is_over_on port rs) refl c
  where
    by_over : (b : Bool) → is_over_on port rs ≡ b → ClosesBy b port rs rs' → WasClosed plan port rs rs'
    by_over true e h =
        let both : is_over i.guest.driver.at && not (is_some i.guest.driver.calls.asked) ≡ true = sym (ap over_in i.at) ∙ e in
        subst (WasClosed plan port rs) (sym h) (over_stays plan port rs i.guest run keeps i.at (and_parts (is_over i.guest.driver.at) (not (is_some i.guest.driver.calls.asked)) both).0)
    by_over false e h = was_closed_now plan port rs rs' run keeps empty i h
