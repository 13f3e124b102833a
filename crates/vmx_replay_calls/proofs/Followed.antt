-- What follows a command that a driver sent, in the serial run: its answer, the meeting of all ends, and the activation behind them.
use Rattle.std.proofs.Common.{◌≡◌, ℕ, ◌+◌, List, set, refl, sym, ap, ◌∙◌, subst, Some, None}
use Rattle.std.specs.List.{slice_get}
use Rattle.vmx_layout.specs.Command.{number_of}
use Rattle.vmx_layout.specs.declared.command.Command.TheVariants.{ActivateDev}
use Rattle.vmx_ends.specs.HandedEnds.{ends_handed}
use Rattle.vmx_model.specs.declared.plan.Plan.{Plan}
use Rattle.vmx_model.specs.Serial.{Seat, World, activated, emptied, set_command}
use Rattle.vmx_model.specs.Turns.{AreEmptied, at_guest}
use Rattle.vmx_device_looks.specs.Queues.{all_at}
use Rattle.vmx_device_laws.proofs.PairingIn.{some_same}
use Rattle.vmx_driver_steps.specs.declared.progress.Then.{Then}
use Rattle.vmx_driver_steps.specs.declared.progress.Progress.{Progress}
use Rattle.vmx_driver_steps.specs.declared.progress.Stage.TheVariants.{Held}
use Rattle.vmx_driver_steps.specs.Progress.{setup_now}
use Rattle.vmx_driver_steps.specs.Parting.{after}
use Rattle.vmx_driver_steps.specs.Driver.{DriverView}
use Rattle.vmx_driver_steps.specs.Driving.{PassesOver}
use Rattle.vmx_replay_settled.specs.Settled.{BothKeep, Settles}
use Rattle.vmx_replay_worlds.specs.Guests.{GuestView}
use Rattle.vmx_replay_worlds.specs.Worlds.{world_of}
use Rattle.vmx_replay_worlds.proofs.Lists.{at_twice, at_stays, set_set}
use Rattle.vmx_replay_worlds.proofs.Moved.{guest_same}
use Rattle.vmx_replay_chains.specs.Chains.{ChangesOn, ActsOn, AnswersOn, Meets}
use Rattle.vmx_replay_calls.specs.Commands.{SendsStop, SendsUpdate, SendsActivation}
use Rattle.vmx_replay_calls.specs.Resting.{Rests, RunRests, AllKeep}
use Rattle.vmx_replay_calls.specs.Results.{progress_of, WasDone, WasStopped, Holds}
use Rattle.vmx_replay_calls.proofs.Steps.{GuestPassed, Met}
use Rattle.vmx_replay_calls.proofs.Notes.{stands_of}
use Rattle.vmx_replay_calls.proofs.Whole.{GuestKeeps, guest_keeps}
use Rattle.vmx_replay_calls.proofs.Progress.{progress_set}
use Rattle.vmx_replay_calls.proofs.Resting.{rests_on, run_set}
use Rattle.vmx_replay_calls.proofs.Zipped.{links_keep}
use Rattle.vmx_replay_calls.proofs.Settling.{settles_none, changes_keep}
use Rattle.vmx_replay_calls.proofs.Asking.{commanded}
use Rattle.vmx_replay_calls.proofs.Answered.{stands_rest, stops_in, stops_progress, updates_in, updates_progress, activates_in, activates_progress}
use Rattle.vmx_replay_calls.proofs.Meeting.{was_met, met_at, met_over, met_progress}
use Rattle.vmx_replay_calls.proofs.AllMet.{AllMet, all_met, met_none, rest_meets_none}

-- ------------------------------------------------------------ what always holds

pub answers_keep : (port : ℕ) (rs rs' : List GuestView) → AnswersOn port rs rs' → AllKeep rs → AllKeep rs'
answers_keep port rs rs' a k = changes_keep port _ a.told rs' a.acts (links_keep port a.turned a.told a.links (changes_keep port _ rs a.turned a.turns k))

-- ------------------------------------------------------------ a step of one guest

-- the guests after a step of the one at a port: the world, how far its driver is, and what stands
pub record StepSo (plan : Plan) (port : ℕ) (change : Seat → Seat) (at : Progress) (rs rs' : List GuestView) : Type 0 where
  pub world : world_of rs' ≡ at_guest port change (world_of rs)
  pub rests : RunRests plan rs'
  pub keeps : AllKeep rs'
  pub progress : progress_of rs' ≡ set (progress_of rs) port at

pub step_trans : (plan : Plan) (port : ℕ) (f g : Seat → Seat) (a b : Progress) (rs ms rs' : List GuestView) → StepSo plan port f a rs ms → StepSo plan port g b ms rs' → StepSo plan port (λ s. g (f s)) b rs rs'
step_trans plan port f g a b rs ms rs' x y = record {
  world = y.world ∙ ap (at_guest port g) x.world ∙ ap (λ (ss : List Seat). record (world_of rs) { seats = ss }) (at_twice port g f (world_of rs).seats);
  rests = y.rests;
  keeps = y.keeps;
  progress = y.progress ∙ ap (λ (ps : List Progress). set ps port b) x.progress ∙ set_set (progress_of rs) port a b;
}

-- nothing waits on links behind it
pub step_empties : (plan : Plan) (port : ℕ) (f : Seat → Seat) (a : Progress) (rs rs' : List GuestView) → StepSo plan port f a rs rs' → AreEmptied (world_of rs) → AreEmptied (world_of rs')
step_empties plan port f a rs rs' x e = subst (λ (w : World). AreEmptied w) (sym x.world) e

-- ------------------------------------------------------------ the command

module _ (plan : Plan) (port : ℕ) (rs ms rs' : List GuestView) (run : RunRests plan rs) (keeps : AllKeep rs) (empty : AreEmptied (world_of rs)) (acts : ActsOn port rs ms) (answers : AnswersOn port ms rs') where
  abbrev v : DriverView
  v = acts.before.driver

  abbrev sent : DriverView
  sent = acts.does.1.acted

  all_keep : AllKeep rs'
  all_keep = answers_keep port ms rs' answers (changes_keep port _ rs ms acts keeps)

  module _ (number : ℕ) (t : Then) (s : SendsStop number t v sent) where
    stop_asks : sent.calls.asked ≡ Some (record { number = number; image = s.stops.image; ends = None })
    stop_asks = ap (λ (x : DriverView). x.calls.asked) s.stops.is

    stop_turns : sent.calls.turns ≡ v.calls.turns
    stop_turns = ap (λ (x : DriverView). x.calls.turns) s.stops.is ∙ ap (λ (x : DriverView). x.calls.turns) s.reaps.is

    pub stop_was : WasStopped plan port number t rs rs'
    stop_was = stops_in plan port acts.before sent _ rs rs' run empty (commanded plan port rs ms rs' run keeps acts answers _ stop_asks stop_turns) number t s

    pub stop_progress : progress_of rs' ≡ set (progress_of rs) port (record sent.at { stage = Held t })
    stop_progress = stops_progress plan port acts.before sent _ rs rs' run empty (commanded plan port rs ms rs' run keeps acts answers _ stop_asks stop_turns) number t s

    pub stop_keeps : AllKeep rs'
    stop_keeps = all_keep

  module _ (number : ℕ) (s : SendsUpdate number v sent) where
    update_asks : sent.calls.asked ≡ Some (record { number = number; image = s.updates.image; ends = None })
    update_asks = ap (λ (x : DriverView). x.calls.asked) s.updates.is

    update_turns : sent.calls.turns ≡ v.calls.turns
    update_turns = ap (λ (x : DriverView). x.calls.turns) s.updates.is ∙ ap (λ (x : DriverView). x.calls.turns) s.reaps.is

    pub update_was : WasDone plan port (λ z. set_command (record z { setup = setup_now v.plan sent.at }) number) rs rs'
    update_was = updates_in plan port acts.before sent _ rs rs' run empty (commanded plan port rs ms rs' run keeps acts answers _ update_asks update_turns) number s

    pub update_step : StepSo plan port (λ z. set_command (record z { setup = setup_now v.plan sent.at }) number) sent.at rs rs'
    update_step = record {
      world = update_was.world;
      rests = update_was.rests;
      keeps = all_keep;
      progress = updates_progress plan port acts.before sent _ rs rs' run empty (commanded plan port rs ms rs' run keeps acts answers _ update_asks update_turns) number s;
    }

  module _ (s : SendsActivation v sent) where
    activation_asks : sent.calls.asked ≡ Some (record { number = number_of ActivateDev; image = s.activates.image; ends = Some (ends_handed s.activates.txs s.activates.rxs) })
    activation_asks = ap (λ (x : DriverView). x.calls.asked) s.activates.is

    activation_turns : sent.calls.turns ≡ v.calls.turns
    activation_turns = ap (λ (x : DriverView). x.calls.turns) s.activates.is

    pub activation_was : WasDone plan port (activated v.guest v.plan) rs rs'
    activation_was = activates_in plan port acts.before sent _ rs rs' run empty (commanded plan port rs ms rs' run keeps acts answers _ activation_asks activation_turns) s

    pub activation_step : StepSo plan port (activated v.guest v.plan) sent.at rs rs'
    activation_step = record {
      world = activation_was.world;
      rests = activation_was.rests;
      keeps = all_keep;
      progress = activates_progress plan port acts.before sent _ rs rs' run empty (commanded plan port rs ms rs' run keeps acts answers _ activation_asks activation_turns) s;
    }

-- ------------------------------------------------------------ the meeting

module _ (plan : Plan) (port : ℕ) (t : Then) (rs rs' : List GuestView) (keeps : AllKeep rs) (h : Holds plan port t rs) (m : ChangesOn port Meets rs rs') where
  abbrev pub meets : Meets h.guest m.after
  meets = subst (λ (r : GuestView). Meets r m.after) (some_same (slice_get rs port) m.before h.guest m.at h.at) m.does

  all : AllMet t h.guest.driver meets.last
  all = all_met t h.guest.driver meets.met.steps meets.last h.caught_up.none h.stage meets.met.met meets.met.meets

  abbrev met : Met port t h.guest rs rs'
  met = record {
    at = h.at;
    keeps = (all_at (λ (r : GuestView). BothKeep r.driver r.device) rs port h.guest h.at keeps).driver;
    acts = all.acts;
    last = all.last;
    up = all.up;
    driver = meets.last;
    meets = all.meets;
    driver_keeps = all.keeps;
    told = m.after;
    passed = settles_none meets.last h.guest.device m.after meets.settles all.none;
    kept = m.keeps;
    is = m.is;
  }

  -- its driver when all met
  abbrev pub ends_last : DriverView
  ends_last = meets.last

  pub ends_met : WasDone plan port emptied rs rs'
  ends_met = was_met plan port t rs rs' h met

  pub ends_met_step : StepSo plan port emptied ends_last.at rs rs'
  ends_met_step = record { world = ends_met.world; rests = ends_met.rests; keeps = changes_keep port Meets rs rs' m keeps; progress = met_progress plan port t rs rs' h met }

  pub ends_met_at : ends_last.at ≡ record h.guest.driver.at { stage = after t; ended = h.guest.driver.at.ended + 1; next = ends_last.at.next }
  ends_met_at = met_at plan port t rs rs' h met

  pub ends_met_over : PassesOver h.guest.driver.plan h.guest.driver.at.next ends_last.at.next
  ends_met_over = met_over plan port t rs rs' h met

-- where no ends came back, notes alone go
module _ (plan : Plan) (port : ℕ) (rs rs' : List GuestView) (run : RunRests plan rs) (keeps : AllKeep rs) (m : ChangesOn port Meets rs rs') where
  abbrev r : GuestView
  r = m.before

  rest : Rests r
  rest = all_at Rests rs port r m.at run.rest

  keep : BothKeep r.driver r.device
  keep = all_at (λ (x : GuestView). BothKeep x.driver x.device) rs port r m.at keeps

  no_acts : m.does.last ≡ r.driver
  no_acts = met_none r.driver m.does.met.steps m.does.last (rest_meets_none r.driver rest.caught_up.none (stands_rest r.driver r.device (stands_of r rest keep))) m.does.met.meets

  passed : GuestPassed r m.after
  passed = settles_none r.driver r.device m.after (subst (λ (v : DriverView). Settles v r.device m.after.driver m.after.device) no_acts m.does.settles) rest.caught_up.none

  kept : GuestKeeps r m.after
  kept = guest_keeps r m.after passed

  pub none_met : StepSo plan port (λ s. s) r.driver.at rs rs'
  none_met = record {
    world = ap world_of m.is ∙ guest_same rs port r m.after m.at kept.same ∙ ap (λ (ss : List Seat). record (world_of rs) { seats = ss }) (sym (at_stays port (λ (x : Seat). x) (λ x. refl) (world_of rs).seats));
    rests = subst (RunRests plan) (sym m.is) (run_set plan port rs r m.after run m.at kept.driver kept.device m.keeps.device (record { out = kept.out; input = kept.input }) (rests_on r m.after rest keep passed));
    keeps = changes_keep port Meets rs rs' m keeps;
    progress = ap (λ (xs : List GuestView). progress_of xs) m.is ∙ progress_set rs port m.after ∙ ap (set (progress_of rs) port) kept.at;
  }
