-- The guest at a port of a run: what is known of it, and what calls ask of it.
use Rattle.std.proofs.Common.{◌≡◌, ℕ, ◌≤◌, ◌<◌, Bool, true, false, true≢false, ◌&&◌, List, length, map, sym, ap, ◌∙◌, arith, Option, Some, is_some}
use Rattle.std.specs.Option.{option_map}
use Rattle.std.specs.List.{slice_get}
use Rattle.vmx_device_state.specs.declared.turn.CommandView.{CommandView}
use Rattle.vmx_switch.specs.declared.answer.TheConstants.{MAX_PORTS}
use Rattle.vmx_model.specs.declared.guest.GuestPlan.{GuestPlan}
use Rattle.vmx_model.specs.declared.plan.Plan.{Plan}
use Rattle.vmx_model.specs.Serial.{Seat}
use Rattle.vmx_model.proofs.Sends.{some_there, past}
use Rattle.vmx_plan_bounds.proofs.Few.{guests_few}
use Rattle.vmx_device_looks.specs.Queues.{all_at}
use Rattle.vmx_driver_steps.specs.declared.progress.Progress.{Progress}
use Rattle.vmx_driver_steps.specs.declared.progress.Stage.{Stage}
use Rattle.vmx_driver_steps.specs.declared.progress.Stage.TheVariants.{Fresh, Active, Stopping, Held, Quiet, Ended}
use Rattle.vmx_driver_steps.specs.declared.progress.Due.{Due}
use Rattle.vmx_driver_steps.specs.declared.progress.Due.TheVariants as due
use Rattle.vmx_driver_steps.specs.Progress.{due_of, due_in as due_in_stage, next_by, next_of, is_over_in}
use Rattle.vmx_replay_runs.specs.Short.{AreShort}
use Rattle.vmx_replay_due.specs.Standing.{StandsAt}
use Rattle.vmx_replay_worlds.specs.Guests.{GuestView, seat_of}
use Rattle.vmx_replay_worlds.specs.Worlds.{world_of}
use Rattle.vmx_replay_worlds.proofs.Lists.{get_map}
use Rattle.vmx_replay_settled.specs.Settled.{ArePaired, BothKeep}
use Rattle.vmx_replay_settled.specs.Linked.{HasLinksIn}
use Rattle.vmx_replay_chains.specs.Chains.{IsPairedOn, IsAlikeOn, devices_of, due_in, due_at}
use Rattle.vmx_replay_calls.specs.Resting.{IsGuestAt, Rests, RunRests}
use Rattle.vmx_replay_calls.specs.Results.{progress_of}
use Rattle.vmx_replay_calls.proofs.Runs.{guest_at}
use Rattle.vmx_replay_calls.proofs.Wired.{links_in}
use Rattle.vmx_replay_actors.specs.Runs.{AreSettled, IsOpen, IsShut}
use Rattle.vmx_replay_actors.proofs.Few.{commands_few}

-- the guest at a port, with what stands between two calls
pub record Here (plan : Plan) (rs : List GuestView) (port : ℕ) : Type 0 where
  pub guest : GuestView
  pub at : slice_get rs port ≡ Some guest
  pub is : IsGuestAt plan port guest
  pub rest : Rests guest
  pub keep : BothKeep guest.driver guest.device
  pub pair : ArePaired guest.driver guest.device

pub here : (plan : Plan) (rs : List GuestView) (port : ℕ) → AreSettled plan rs → port < length plan.guests → Here plan rs port
here plan rs port s lt =
    let count = s.rests.count in
    let found : (r : GuestView) × (slice_get rs port ≡ Some r) = some_there rs port (omega (arith, count, lt)) in record {
      guest = found.0;
      at = found.1;
      is = guest_at plan rs port found.0 s.rests.guests found.1;
      rest = all_at Rests rs port found.0 found.1 s.rests.rest;
      keep = all_at (λ (r : GuestView). BothKeep r.driver r.device) rs port found.0 found.1 s.keeps;
      pair = all_at (λ (r : GuestView). ArePaired r.driver r.device) rs port found.0 found.1 s.paired;
    }

-- ------------------------------------------------------------ what every call asks

pub few_guests : (plan : Plan) (rs : List GuestView) → RunRests plan rs → length rs ≤ MAX_PORTS
few_guests plan rs r = let count = r.count in let few = guests_few plan in omega (arith, count, few)

pub below_guests : (plan : Plan) (rs : List GuestView) (port : ℕ) → RunRests plan rs → port < length plan.guests → port < length rs
below_guests plan rs port r lt = let count = r.count in omega (arith, count, lt)

pub links_on : (plan : Plan) (rs : List GuestView) (port : ℕ) → RunRests plan rs → port < length plan.guests → HasLinksIn port (devices_of rs)
links_on plan rs port r lt = links_in plan port rs r (below_guests plan rs port r lt)

module _ (plan : Plan) (rs : List GuestView) (port : ℕ) (h : Here plan rs port) where
  abbrev pub plan_of : GuestPlan
  plan_of = h.guest.driver.plan

  abbrev pub progress : Progress
  progress = h.guest.driver.at

  pub planned : slice_get plan.guests port ≡ Some plan_of
  planned = h.is.there_ ∙ ap Some (sym h.is.planned)

  pub progress_at : slice_get (progress_of rs) port ≡ Some progress
  progress_at = get_map (λ (r : GuestView). r.driver.at) rs port ∙ ap (option_map (λ (r : GuestView). r.driver.at)) h.at

  -- no command is outstanding
  pub due_is : due_at port rs ≡ due_of plan_of progress false
  due_is = ap due_in h.at ∙ ap (λ (o : Option CommandView). due_of plan_of progress (is_some o)) h.rest.caught_up.none

  pub alike_on : IsAlikeOn port rs
  alike_on = record { guest = h.guest; at = h.at; alike = h.rest.caught_up }

  -- few entries and few commands are behind it
  pub pair_on : (k n m : ℕ) → AreShort k (world_of rs) → k ≤ n → 514 ≤ m → IsPairedOn n m port rs
  pair_on k n m short le few = record {
    guest = h.guest;
    at = h.at;
    paired = h.pair;
    entries_ = (
        let there : slice_get (map seat_of rs) port ≡ Some (seat_of h.guest) = get_map seat_of rs port ∙ ap (option_map seat_of) h.at in
        let own : length h.guest.device.entries ≤ k = all_at (λ (s : Seat). length s.entries ≤ k) (map seat_of rs) port (seat_of h.guest) there short in
        omega (arith, own, le));
    commands_ = (let own = commands_few h.guest.driver h.guest.device h.keep.driver h.rest.caught_up in omega (arith, own, few));
  }

  -- ---------------------------------------------------------- open and shut

  module _ (number : ℕ) where
    pub stands : IsOpen number plan_of progress → StandsAt number plan_of progress
    stands o = record { under = h.keep.driver.under; settled = h.keep.settled; unclosed = o.unclosed; waits = o.waits; gone = o.gone }

    shut_stage : (g : Stage) (closed : Bool) (next : Due) → is_over_in g ≡ true → next ≡ due.Nothing → due_in_stage g closed next ≡ due.Nothing
    shut_stage Quiet closed next e none = none
    shut_stage Ended closed next e none = refl_nothing
      where
        refl_nothing : due.Nothing ≡ due.Nothing
        refl_nothing = cc
    shut_stage Fresh closed next e none = absurd (true≢false (sym e))
    shut_stage Active closed next e none = absurd (true≢false (sym e))
    shut_stage (Stopping t) closed next e none = absurd (true≢false (sym e))
    shut_stage (Held t) closed next e none = absurd (true≢false (sym e))

    both_true : (a b : Bool) → (a && b) ≡ true → (a ≡ true) × (b ≡ true)
    both_true true true e = (e, e)
    both_true true false e = absurd (true≢false (sym e))
    both_true false b e = absurd (true≢false (sym e))

    pub shut_script : IsShut number plan_of progress → length plan_of.script ≤ progress.done
    shut_script s = let end = (h.keep.driver.under.closed (both_true progress.closed (is_over_in progress.stage) s.over).0).0 in omega (arith, end)

    -- with a driver that is over nothing is due
    pub shut_due : IsShut number plan_of progress → due_of plan_of progress false ≡ due.Nothing
    shut_due s =
        let parts = both_true progress.closed (is_over_in progress.stage) s.over in
        let end = h.keep.driver.under.closed parts.0 in
        let script = past plan_of.script progress.done (let e = end.0 in omega (arith, e)) in
        let frames = past plan_of.capture.records progress.next (let e = end.1 in omega (arith, e)) in
        let none : next_of plan_of progress ≡ due.Nothing = (λ i. next_by progress.next (script i) (frames i)) in
        shut_stage progress.stage progress.closed (next_of plan_of progress) parts.1 none
