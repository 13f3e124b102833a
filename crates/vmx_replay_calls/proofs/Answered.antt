-- A command with its notes, in the serial run.
use Rattle.std.proofs.Common.{◌≡◌, ◌≢◌, ℕ, ◌+◌, Bool, false, true≢false, List, length, map, set, refl, sym, ap, ◌∙◌, subst, arith, Some, None, Option}
use Rattle.std.specs.Prelude.{⊤, is_some}
use Rattle.std.specs.List.{slice_get, AllByRecursion}
use Rattle.std.proofs.lemmas.List.{length-set}
use Rattle.vmx_link.specs.Views.{LinkOutView}
use Rattle.vmx_io.specs.declared.handed.HandedView.{HandedView}
use Rattle.vmx_ends.specs.Transmit.{TxDriverView}
use Rattle.vmx_ends.specs.Receive.{RxDriverView}
use Rattle.vmx_device_state.specs.SetupView.{SetupView}
use Rattle.vmx_machine_state.specs.Views.{ActiveView, MachineView, state_by}
use Rattle.vmx_model.specs.declared.plan.Plan.{Plan}
use Rattle.vmx_model.specs.Bags.{EachQueue, Pairwise}
use Rattle.vmx_model.specs.Serial.{Seat, activated, set_command}
use Rattle.vmx_model.specs.Turns.{AreEmptied, at_guest}
use Rattle.vmx_device_looks.specs.Queues.{all_at, all_set, each_set}
use Rattle.vmx_device_laws.specs.Views.{DeviceView}
use Rattle.vmx_device_laws.specs.Keeps.{Keeps as DeviceKeeps}
use Rattle.vmx_device_laws.specs.Pairs.{tx_of, rx_of}
use Rattle.vmx_device_laws.proofs.Pairing.{get_set_other}
use Rattle.vmx_driver_steps.specs.declared.progress.Then.{Then}
use Rattle.vmx_driver_steps.specs.declared.progress.Stage.{Stage}
use Rattle.vmx_driver_steps.specs.declared.progress.Stage.TheVariants.{Fresh, Active, Stopping, Held, Quiet, Ended}
use Rattle.vmx_driver_steps.specs.Progress.{in_hand, setup_now}
use Rattle.vmx_driver_steps.specs.Driver.{DriverView, state_in}
use Rattle.vmx_driver_steps.specs.Driving.{TakesBack, TakesEnds, KeepsEnds}
use Rattle.vmx_actor_laws.specs.Joint.{AreCaughtUp}
use Rattle.vmx_actor_laws.proofs.Joint.{leads_its_device}
use Rattle.vmx_note_laws.specs.Queues.{IsBehindRx, IsToldRx}
use Rattle.vmx_trusted_turns.specs.Trusted.{IsTrusted}
use Rattle.vmx_replay_worlds.specs.Guests.{GuestView, seat_of}
use Rattle.vmx_replay_worlds.specs.Worlds.{out_part, in_part, world_of}
use Rattle.vmx_replay_worlds.specs.Moves.{IsSameGuest}
use Rattle.vmx_replay_worlds.specs.Ports.{AreAtPorts, HasAll}
use Rattle.vmx_replay_worlds.proofs.Lists.{get_set, set_set, pair_at}
use Rattle.vmx_replay_worlds.proofs.Moved.{guest_moves}
use Rattle.vmx_replay_steps.specs.Between.{IsThrough, WasSent, IsNoted}
use Rattle.vmx_replay_steps.specs.Turns.{StandsTogether}
use Rattle.vmx_replay_steps.specs.Commands.{AnswersBetween, WasAnswered, StopsBetween, UpdatesBetween, ActivatesBetween, stopped}
use Rattle.vmx_replay_steps.proofs.Polled.{no_items, none_in}
use Rattle.vmx_replay_steps.proofs.Standing.{led_active}
use Rattle.vmx_replay_steps.proofs.Stopped.{was_stopped}
use Rattle.vmx_replay_steps.proofs.Updated.{was_updated, stands_updated, behind_updated}
use Rattle.vmx_replay_steps.proofs.Activated.{was_activated, stands_activated, behind_activated}
use Rattle.vmx_replay_calls.specs.Commands.{SendsStop, SendsUpdate, SendsActivation}
use Rattle.vmx_replay_calls.specs.Results.{progress_of, WasDone, WasStopped}
use Rattle.vmx_replay_calls.proofs.Steps.{IsNearGuest, AreNear, Commanded}
use Rattle.vmx_replay_calls.specs.Selves.{IsOneDevice, IsOneDriver}
use Rattle.vmx_replay_calls.specs.Resting.{guest_of, IsGuestAt, Rests, HasNone, AreKnown, RunRests}
use Rattle.vmx_replay_calls.proofs.Pairs.{pair_refl, pair_set, pair_both, pair_length}
use Rattle.vmx_replay_calls.proofs.Goes.{GoesOut, turn_outs}
use Rattle.vmx_replay_calls.proofs.Near.{guest_refl, near_seat, near_outs, near_ins, near_world, near_guests, near_rests, near_rest}
use Rattle.vmx_replay_calls.proofs.Selves.{one_device, one_driver, stays_itself}
use Rattle.vmx_replay_calls.proofs.Notes.{same_trans, QueueNotes, queue_notes, queue_sent, queue_through, queue_trusted, idle_hand}
use Rattle.vmx_replay_calls.proofs.Runs.{run_ports, run_all, guest_at, known_after}
use Rattle.vmx_replay_calls.proofs.Posted.{HasSameLinks, links_refl, known_back}
use Rattle.vmx_replay_calls.proofs.Progress.{progress_set, near_progress}
use Rattle.vmx_replay_calls.proofs.Whole.{GuestKeeps, guest_keeps, idle_pass}
use Rattle.vmx_replay_calls.proofs.Commanded as commanded

-- ------------------------------------------------------------ stages without ends under way

abbrev pub AtRest : Stage → Type 0
AtRest Fresh = ⊤
AtRest Active = ⊤
AtRest (Stopping t) = ⊥
AtRest (Held t) = ⊥
AtRest Quiet = ⊤
AtRest Ended = ⊤

rest_free : (g : Stage) → in_hand g ≡ 0 → AtRest g
rest_free Fresh e = tt
rest_free Active e = tt
rest_free (Stopping t) e = absurd (omega (arith, e))
rest_free (Held t) e = absurd (omega (arith, e))
rest_free Quiet e = tt
rest_free Ended e = tt

free_by : (g : Stage) (s : SetupView) → AtRest g → state_by None ≡ state_in g s → in_hand g ≡ 0
free_by Fresh s r e = refl
free_by Active s r e = absurd (cc e)
free_by (Stopping t) s r e = absurd r
free_by (Held t) s r e = absurd r
free_by Quiet s r e = refl
free_by Ended s r e = refl

keeps_rest : (g : Stage) (ends : Option HandedView) (v w : DriverView) → AtRest g → TakesEnds g ends v w → KeepsEnds v w
keeps_rest Fresh ends v w r t = t
keeps_rest Active ends v w r t = t
keeps_rest (Stopping x) ends v w r t = absurd r
keeps_rest (Held x) ends v w r t = absurd r
keeps_rest Quiet ends v w r t = t
keeps_rest Ended ends v w r t = t

pub stands_rest : (v : DriverView) (d : DeviceView) → StandsTogether v d → AtRest v.at.stage
stands_rest v d s = by_active d.machine.active refl
  where
    by_active : (o : Option ActiveView) → d.machine.active ≡ o → AtRest v.at.stage
    by_active None e = rest_free v.at.stage (idle_hand v d s e).2
    by_active (Some x) e = subst AtRest (sym (led_active v d x s e).0) tt

none_active : (o : Option ActiveView) → is_some o ≡ false → o ≡ None
none_active None e = refl
none_active (Some a) e = absurd (true≢false e)

-- ------------------------------------------------------------ the command

module _ (plan : Plan) (port : ℕ) (guest : GuestView) (sent : DriverView) (worked : Bool) (rs rs' : List GuestView) (run : RunRests plan rs) (emptied : AreEmptied (world_of rs)) (c : Commanded port guest sent worked rs rs') (one : IsOneDriver guest.driver sent) where
  rest : Rests guest
  rest = all_at Rests rs port guest c.at run.rest

  ports : AreAtPorts rs
  ports = run_ports plan rs run.guests

  all : AllByRecursion (HasAll (length rs)) rs
  all = run_all plan rs run.guests run.count

  abbrev ls : List LinkOutView
  ls = (commanded.links port guest sent worked rs rs' c rest ports all emptied).0

  between : AnswersBetween guest.driver sent c.driver ls worked c.asked.device c.device
  between = commanded.answers_between port guest sent worked rs rs' c rest ports all emptied

  keeps : DeviceKeeps c.device
  keeps = commanded.keeps port guest sent worked rs rs' c rest ports all emptied

  caught_up : AreCaughtUp c.driver c.device
  caught_up = commanded.caught_up port guest sent worked rs rs' c rest ports all emptied

  near : AreNear (set rs port c.told) c.mid
  near = commanded.near_after port guest sent worked rs rs' c rest ports all emptied

  here_near : IsNearGuest c.told c.here
  here_near = commanded.here_near port guest sent worked rs rs' c rest ports all emptied

  here_noted : IsNoted sent c.here.driver
  here_noted = commanded.here_noted port guest sent worked rs rs' c rest ports all emptied

  here_stage : c.here.driver.at.stage ≡ sent.at.stage
  here_stage = ap (λ (x : DriverView). x.at.stage) here_noted.is

  notes : GuestKeeps (guest_of c.driver c.here.device) c.last
  notes = guest_keeps (guest_of c.driver c.here.device) c.last c.passed

  machine : c.here.device.machine ≡ c.device.machine
  machine = ap (λ (d : DeviceView). d.machine) here_near.is ∙ ap (λ (d : DeviceView). d.machine) c.answers.device

  asked_machine : c.asked.device.machine ≡ guest.device.machine
  asked_machine = ap (λ (d : DeviceView). d.machine) c.asks.device

  -- the guest is the same one
  here_self : IsOneDevice c.device c.here.device
  here_self = record {
    port = ap (λ (d : DeviceView). d.port) here_near.is ∙ ap (λ (d : DeviceView). d.port) c.answers.device;
    table = ap (λ (d : DeviceView). d.table) here_near.is ∙ ap (λ (d : DeviceView). d.table) c.answers.device;
    key = ap (λ (d : DeviceView). d.key) here_near.is ∙ ap (λ (d : DeviceView). d.key) c.answers.device;
    mac = ap (λ (m : MachineView). m.mac) machine;
  }

  self : IsOneDevice guest.device c.last.device
  self = one_device guest.device c.device c.last.device (commanded.self port guest sent worked rs rs' c rest ports all emptied) (one_device c.device c.here.device c.last.device here_self notes.device)

  noted_one : IsOneDriver sent c.here.driver
  noted_one = record { guest = ap (λ (x : DriverView). x.guest) here_noted.is; plan = ap (λ (x : DriverView). x.plan) here_noted.is; key = ap (λ (x : DriverView). x.key) here_noted.is }

  takes_one : IsOneDriver c.here.driver c.driver
  takes_one = record { guest = c.takes.same.0; plan = c.takes.same.1; key = c.takes.same.2 }

  driver_self : IsOneDriver guest.driver c.last.driver
  driver_self = one_driver guest.driver sent c.last.driver one (one_driver sent c.here.driver c.last.driver noted_one (one_driver c.here.driver c.driver c.last.driver takes_one notes.driver))

  last_here : IsGuestAt plan port c.last
  last_here = stays_itself plan port guest c.last (guest_at plan rs port guest run.guests c.at) driver_self self c.kept.device

  -- ---------------------------------------------------------- all guests

  near_last : AreNear (set rs port c.last) rs'
  near_last = subst (AreNear (set rs port c.last)) (sym c.is)
      (subst (λ (xs : List GuestView). AreNear xs (set c.mid port c.last)) (set_set rs port c.told c.last) (pair_both IsNearGuest (set rs port c.told) c.mid port c.last c.last near (guest_refl c.last)))

  told_near : IsNearGuest (guest_of c.driver c.told.device) (guest_of c.driver c.here.device)
  told_near = record { driver = refl; is = here_near.is; out = here_near.out; input = here_near.input }

  told_same : IsSameGuest (guest_of c.driver c.device) (guest_of c.driver c.here.device)
  told_same = record {
    seat = near_seat (guest_of c.driver c.told.device) (guest_of c.driver c.here.device) told_near ∙ ap (λ (d : DeviceView). seat_of (guest_of c.driver d)) c.answers.device;
    links = record {
      out = near_outs (guest_of c.driver c.told.device) (guest_of c.driver c.here.device) told_near ∙ ap (λ (d : DeviceView). map out_part d.out) c.answers.device;
      input = near_ins (guest_of c.driver c.told.device) (guest_of c.driver c.here.device) told_near ∙ ap (λ (d : DeviceView). map in_part d.input) c.answers.device;
    };
  }

  last_same : IsSameGuest (guest_of c.driver c.device) c.last
  last_same = same_trans (guest_of c.driver c.device) (guest_of c.driver c.here.device) c.last told_same notes.same

  -- the world, by what the command came to
  world : (change : Seat → Seat) → WasAnswered change guest.driver c.driver c.asked.device c.device → world_of rs' ≡ at_guest port change (world_of rs)
  world change w = near_world (set rs port c.last) rs' near_last ∙ guest_moves rs (set rs port c.last) port change (record {
    before = guest;
    after = c.last;
    at = c.at;
    is = refl;
    seat = last_same.seat ∙ w.seat ∙ ap (λ (d : DeviceView). change (seat_of (guest_of guest.driver d))) c.asks.device;
    links = record {
      out = last_same.links.out ∙ w.links.out ∙ ap (λ (d : DeviceView). map out_part d.out) c.asks.device;
      input = last_same.links.input ∙ w.links.input ∙ ap (λ (d : DeviceView). map in_part d.input) c.asks.device;
    };
  })

  -- what is known of links
  outs : Pairwise GoesOut guest.device.out c.told.device.out
  outs = subst (λ (x : List LinkOutView × List LinkOutView). Pairwise GoesOut x.0 x.1) (λ i. (ap (λ (d : DeviceView). d.out) c.asks.device i, sym (ap (λ (d : DeviceView). d.out) c.answers.device) i)) (turn_outs worked c.asked.device c.device c.once)

  known_mid : AreKnown c.mid
  known_mid = known_after rs c.mid port guest c.told c.at outs (commanded.ports_after port guest sent worked rs rs' c rest ports all emptied) c.links run.links

  known_last : AreKnown rs'
  known_last = subst AreKnown (sym c.is) (known_back c.mid (set c.mid port c.last) (pair_set HasSameLinks c.mid c.mid port c.here c.last (pair_refl HasSameLinks links_refl c.mid) c.here_at (record { out = notes.out; input = notes.input })) known_mid)

  guests_after : EachQueue (IsGuestAt plan) 0 rs'
  guests_after =
      let z : port ≡ 0 + port = omega arith in
      near_guests plan (set rs port c.last) rs' near_last (each_set (IsGuestAt plan) (IsGuestAt plan) 0 rs port c.last (λ n x ne g. g) (subst (λ (n : ℕ). IsGuestAt plan n c.last) z last_here) run.guests)

  count_after : length rs' ≡ length plan.guests
  count_after = pair_length IsNearGuest (set rs port c.last) rs' near_last ∙ length-set rs port c.last ∙ run.count

  done : (change : Seat → Seat) → WasAnswered change guest.driver c.driver c.asked.device c.device → Rests c.last → WasDone plan port change rs rs'
  done change w h = record {
    world = world change w;
    rests = record { guests = guests_after; count = count_after; rest = near_rest (set rs port c.last) rs' near_last (all_set Rests rs port c.last h run.rest); links = known_last };
  }

  caught_up_last : AreCaughtUp c.last.driver c.last.device
  caught_up_last = record {
    none = notes.asked ∙ caught_up.none;
    same = notes.turns ∙ caught_up.same ∙ sym (notes.served ∙ commanded.served port guest sent worked rs rs' c rest ports all emptied);
  }

  -- how far its driver is
  progress : progress_of rs' ≡ set (progress_of rs) port c.last.driver.at
  progress = near_progress (set rs port c.last) rs' near_last ∙ progress_set rs port c.last

  last_at : c.last.driver.at ≡ record sent.at { stage = c.driver.at.stage }
  last_at = notes.at ∙ c.takes.at ∙ ap (λ (x : DriverView). record x.at { stage = c.driver.at.stage }) here_noted.is

  -- ---------------------------------------------------------- a stop

  module _ (number : ℕ) (t : Then) (s : SendsStop number t guest.driver sent) where
    stop : StopsBetween number t guest.driver sent c.driver ls worked c.asked.device c.device
    stop = record { answers = between; active = s.active; mid = s.mid; reaps = s.reaps; done = s.done; stops = s.stops; order = s.order; setup = s.setup }

    stop_was : WasAnswered (stopped number) guest.driver c.driver c.asked.device c.device
    stop_was = was_stopped number t guest.driver sent c.driver ls worked c.asked.device c.device stop

    idle : c.here.device.machine.active ≡ None
    idle = ap (λ (m : MachineView). m.active) machine ∙ none_active c.device.machine.active (ap (λ (x : Seat). x.active) stop_was.seat)

    pass : (c.last.driver ≡ c.passed.mid.driver) × (c.last.device ≡ c.passed.mid.device)
    pass = idle_pass (guest_of c.driver c.here.device) c.last c.passed idle

    last_machine : c.last.device.machine ≡ c.here.device.machine
    last_machine = ap (λ (d : DeviceView). d.machine) pass.1 ∙ ap (λ (d : DeviceView). d.machine) c.passed.regs.device

    takes_back : TakesBack t c.takes.answer.ends c.here.driver c.driver
    takes_back = subst (λ (g : Stage). TakesEnds g c.takes.answer.ends c.here.driver c.driver) (here_stage ∙ ap (λ (x : DriverView). x.at.stage) s.stops.is) c.takes.ends

    stage : c.last.driver.at.stage ≡ Held t
    stage = ap (λ (x : DriverView). x.at.stage) pass.0 ∙ ap (λ (x : DriverView). x.at.stage) c.passed.regs.driver ∙ takes_back.stage

    pub progress_stopped : progress_of rs' ≡ set (progress_of rs) port (record sent.at { stage = Held t })
    progress_stopped = progress ∙ ap (set (progress_of rs) port) (last_at ∙ ap (λ (g : Stage). record sent.at { stage = g }) takes_back.stage)

    others : (n : ℕ) (r : GuestView) → n ≢ port → slice_get rs' n ≡ Some r → Rests r
    others n r ne at =
        let x = pair_at IsNearGuest (set rs port c.last) rs' n r near_last at in
        near_rests x.0 r x.2 (all_at Rests rs n x.0 (sym (get_set_other rs port c.last n ne) ∙ x.1) run.rest)

    pub was_stopped_in : WasStopped plan port number t rs rs'
    was_stopped_in = record {
      world = world (stopped number) stop_was;
      holds = record {
        guest = c.last;
        at = ap (λ (xs : List GuestView). slice_get xs port) c.is ∙ get_set c.mid port c.here c.last c.here_at;
        stage = stage;
        idle = ap (λ (m : MachineView). m.active) last_machine ∙ idle;
        caught_up = caught_up_last;
        trusted = subst IsTrusted (sym (last_machine ∙ machine)) stop_was.trusted;
        guests = guests_after;
        count = count_after;
        links = known_last;
        rest = others;
      };
    }

  -- ---------------------------------------------------------- no ends under way

  module _ (now : AtRest sent.at.stage) where
    keeps_ends : KeepsEnds c.here.driver c.driver
    keeps_ends = keeps_rest c.here.driver.at.stage c.takes.answer.ends c.here.driver c.driver (subst AtRest (sym here_stage) now) c.takes.ends

    rest_now : AtRest c.driver.at.stage
    rest_now = subst AtRest (sym (keeps_ends.stage ∙ here_stage)) now

    progress_rest : progress_of rs' ≡ set (progress_of rs) port sent.at
    progress_rest = progress ∙ ap (set (progress_of rs) port) (last_at ∙ ap (λ (g : Stage). record sent.at { stage = g }) (keeps_ends.stage ∙ here_stage))

    none_here : HasNone c.driver c.here.device
    none_here e =
        let off : c.device.machine.active ≡ None = ap (λ (m : MachineView). m.active) (sym machine) ∙ e in
        let free = free_by c.driver.at.stage (setup_now c.driver.plan c.driver.at) rest_now (ap state_by (sym off) ∙ (leads_its_device c.driver c.device c.driver_keeps keeps caught_up).state) in
        (no_items c.driver.tx (c.driver_keeps.tx_count ∙ none_in c.driver.at.stage c.driver.plan.setup.tx_queues free), no_items c.driver.rx (c.driver_keeps.rx_count ∙ none_in c.driver.at.stage c.driver.plan.setup.rx_queues free))

    mid_tx : c.passed.mid.driver.tx ≡ c.driver.tx
    mid_tx = ap (λ (x : DriverView). x.tx) c.passed.regs.driver

    mid_rx : c.passed.mid.driver.rx ≡ c.driver.rx
    mid_rx = ap (λ (x : DriverView). x.rx) c.passed.regs.driver

    mid_machine : c.passed.mid.device.machine ≡ c.device.machine
    mid_machine = ap (λ (d : DeviceView). d.machine) c.passed.regs.device ∙ machine

    none_mid : HasNone c.passed.mid.driver c.passed.mid.device
    none_mid e = let h = none_here (ap (λ (m : MachineView). m.active) (sym (ap (λ (d : DeviceView). d.machine) c.passed.regs.device)) ∙ e) in (mid_tx ∙ h.0, mid_rx ∙ h.1)

    told : QueueNotes c.passed.mid.driver c.passed.mid.device c.last.driver c.last.device
    told = queue_notes c.passed.mid.driver c.passed.mid.device c.last.driver c.last.device c.passed.queues none_mid

    sent_after : Pairwise WasSent c.driver.tx (tx_of c.device.machine.active)
    sent_after = subst (λ (x : List TxDriverView × MachineView). Pairwise WasSent x.0 (tx_of x.1.active)) (λ i. (mid_tx i, mid_machine i)) (queue_sent c.passed.mid.driver c.passed.mid.device c.last.driver c.last.device told)

    rests_last : StandsTogether c.driver c.device → Pairwise IsBehindRx c.driver.rx (rx_of c.device.machine.active) → Rests c.last
    rests_last s behind = record {
      caught_up = caught_up_last;
      trusted = queue_trusted c.passed.mid.driver c.passed.mid.device c.last.driver c.last.device told (subst IsTrusted (sym mid_machine) s.trusted);
      through_ = queue_through c.passed.mid.driver c.passed.mid.device c.last.driver c.last.device told (subst (λ (x : List TxDriverView × MachineView). Pairwise IsThrough x.0 (tx_of x.1.active)) (λ i. (sym mid_tx i, sym mid_machine i)) s.through);
      told_tx = told.told_tx;
      told_rx = told.told_rx (subst (λ (x : List RxDriverView × MachineView). Pairwise IsBehindRx x.0 (rx_of x.1.active)) (λ i. (sym mid_rx i, sym mid_machine i)) behind);
    }

  -- ---------------------------------------------------------- an update

  module _ (number : ℕ) (s : SendsUpdate number guest.driver sent) where
    update_rest : AtRest sent.at.stage
    update_rest = subst AtRest (sym (ap (λ (x : DriverView). x.at.stage) s.updates.is ∙ ap (λ (x : DriverView). x.at.stage) s.reaps.is)) (stands_rest guest.driver c.asked.device between.stands)

    abbrev update : UpdatesBetween number guest.driver sent c.driver ls worked c.asked.device c.device
    update = record { answers = between; mid = s.mid; reaps = s.reaps; done = s.done; updates = s.updates; part = s.part; order = s.order; sent = sent_after update_rest }

    update_behind : Pairwise IsBehindRx c.driver.rx (rx_of c.device.machine.active)
    update_behind = behind_updated number guest.driver sent c.driver ls worked c.asked.device c.device update (subst (λ (m : MachineView). Pairwise IsToldRx guest.driver.rx (rx_of m.active)) (sym asked_machine) rest.told_rx)

    pub progress_updated : progress_of rs' ≡ set (progress_of rs) port sent.at
    progress_updated = progress_rest update_rest

    pub was_updated_in : WasDone plan port (λ z. set_command (record z { setup = setup_now guest.driver.plan sent.at }) number) rs rs'
    was_updated_in = done (λ z. set_command (record z { setup = setup_now guest.driver.plan sent.at }) number) (was_updated number guest.driver sent c.driver ls worked c.asked.device c.device update)
        (rests_last update_rest (stands_updated number guest.driver sent c.driver ls worked c.asked.device c.device update) update_behind)

  -- ---------------------------------------------------------- an activation

  module _ (s : SendsActivation guest.driver sent) where
    new_rest : AtRest sent.at.stage
    new_rest = subst AtRest (sym (ap (λ (x : DriverView). x.at.stage) s.activates.is)) tt

    activation : ActivatesBetween guest.driver sent c.driver ls worked c.asked.device c.device
    activation = record { answers = between; free = s.free; done = s.done; activates = s.activates; setup = s.setup; sent = sent_after new_rest }

    pub progress_activated : progress_of rs' ≡ set (progress_of rs) port sent.at
    progress_activated = progress_rest new_rest

    pub was_activated_in : WasDone plan port (activated guest.driver.guest guest.driver.plan) rs rs'
    was_activated_in = done (activated guest.driver.guest guest.driver.plan) (was_activated guest.driver sent c.driver ls worked c.asked.device c.device activation)
        (rests_last new_rest (stands_activated guest.driver sent c.driver ls worked c.asked.device c.device activation) (behind_activated guest.driver sent c.driver ls worked c.asked.device c.device activation))

-- ------------------------------------------------------------ by what was sent

stop_one : (number : ℕ) (t : Then) (v sent : DriverView) → SendsStop number t v sent → IsOneDriver v sent
stop_one number t v sent s = record {
  guest = ap (λ (x : DriverView). x.guest) s.stops.is ∙ ap (λ (x : DriverView). x.guest) s.reaps.is;
  plan = ap (λ (x : DriverView). x.plan) s.stops.is ∙ ap (λ (x : DriverView). x.plan) s.reaps.is;
  key = ap (λ (x : DriverView). x.key) s.stops.is ∙ ap (λ (x : DriverView). x.key) s.reaps.is;
}

update_one : (number : ℕ) (v sent : DriverView) → SendsUpdate number v sent → IsOneDriver v sent
update_one number v sent s = record {
  guest = ap (λ (x : DriverView). x.guest) s.updates.is ∙ ap (λ (x : DriverView). x.guest) s.reaps.is;
  plan = ap (λ (x : DriverView). x.plan) s.updates.is ∙ ap (λ (x : DriverView). x.plan) s.reaps.is;
  key = ap (λ (x : DriverView). x.key) s.updates.is ∙ ap (λ (x : DriverView). x.key) s.reaps.is;
}

activation_one : (v sent : DriverView) → SendsActivation v sent → IsOneDriver v sent
activation_one v sent s = record {
  guest = ap (λ (x : DriverView). x.guest) s.activates.is;
  plan = ap (λ (x : DriverView). x.plan) s.activates.is;
  key = ap (λ (x : DriverView). x.key) s.activates.is;
}

module _ (plan : Plan) (port : ℕ) (guest : GuestView) (sent : DriverView) (worked : Bool) (rs rs' : List GuestView) (run : RunRests plan rs) (emptied : AreEmptied (world_of rs)) (c : Commanded port guest sent worked rs rs') where
  module _ (number : ℕ) (t : Then) (s : SendsStop number t guest.driver sent) where
    pub stops_in : WasStopped plan port number t rs rs'
    stops_in = was_stopped_in plan port guest sent worked rs rs' run emptied c (stop_one number t guest.driver sent s) number t s

    pub stops_progress : progress_of rs' ≡ set (progress_of rs) port (record sent.at { stage = Held t })
    stops_progress = progress_stopped plan port guest sent worked rs rs' run emptied c (stop_one number t guest.driver sent s) number t s

  module _ (number : ℕ) (s : SendsUpdate number guest.driver sent) where
    pub updates_in : WasDone plan port (λ z. set_command (record z { setup = setup_now guest.driver.plan sent.at }) number) rs rs'
    updates_in = was_updated_in plan port guest sent worked rs rs' run emptied c (update_one number guest.driver sent s) number s

    pub updates_progress : progress_of rs' ≡ set (progress_of rs) port sent.at
    updates_progress = progress_updated plan port guest sent worked rs rs' run emptied c (update_one number guest.driver sent s) number s

  module _ (s : SendsActivation guest.driver sent) where
    pub activates_in : WasDone plan port (activated guest.driver.guest guest.driver.plan) rs rs'
    activates_in = was_activated_in plan port guest sent worked rs rs' run emptied c (activation_one guest.driver sent s) s

    pub activates_progress : progress_of rs' ≡ set (progress_of rs) port sent.at
    activates_progress = progress_activated plan port guest sent worked rs rs' run emptied c (activation_one guest.driver sent s) s
