-- An update: the setup in force changes, and nothing else.
use Rattle.std.proofs.Common.{◌≡◌, ℕ, ◌+◌, Bool, true, false, List, [], ◌∷◌, ◌++◌, length, map, refl, sym, ap, ap₂, ◌∙◌, subst, append-nil, Some, None, Option, inr, if◌then◌else◌}
use Rattle.std.specs.Prelude.{is_some}
use Rattle.std.specs.List.{AllByRecursion}
use Rattle.vmx_io.specs.declared.handed.HandedView.{HandedView}
use Rattle.vmx_shared_area.specs.declared.setup.Setup.{Setup}
use Rattle.vmx_link.specs.Views.{LinkOutView}
use Rattle.vmx_ends.specs.Transmit.{TxDriverView, TxDeviceView}
use Rattle.vmx_ends.specs.TransmitCore.{TxCore}
use Rattle.vmx_ends.specs.Receive.{RxDriverView, RxDeviceView}
use Rattle.vmx_ends.specs.ReceiveCore.{RxCore}
use Rattle.vmx_device_state.specs.Deals.{Deal, Passes, deal_of, Held as HeldEnds}
use Rattle.vmx_device_state.specs.DeviceState as state
use Rattle.vmx_device_state.specs.SetupView.{SetupView, setup_view}
use Rattle.vmx_device_state.specs.declared.turn.AnswerView.{AnswerView}
use Rattle.vmx_device_state.specs.declared.turn.CommandView.{CommandView}
use Rattle.vmx_device_state.specs.declared.turn.Turn.{Turn}
use Rattle.vmx_machine_state.specs.Views.{EndsView, ActiveView, MachineView, ends_of, state_by, state_of}
use Rattle.vmx_machine_state.specs.Ends.{ends_held}
use Rattle.vmx_model.specs.declared.guest.GuestPlan.{GuestPlan}
use Rattle.vmx_model.specs.declared.journal.Entry.TheVariants as entry
use Rattle.vmx_model.specs.Bags.{Pairwise}
use Rattle.vmx_model.specs.Lists.{count}
use Rattle.vmx_model.specs.Serial.{Seat, quiet_setting, active_setting, set_command}
use Rattle.vmx_device_looks.specs.Commands.{ShowsState}
use Rattle.vmx_device_laws.specs.Views.{DeviceView}
use Rattle.vmx_device_laws.specs.Pairs.{tx_of, rx_of}
use Rattle.vmx_device_laws.proofs.Pairwise.{turn_pairs}
use Rattle.vmx_driver_steps.specs.declared.progress.Stage.{Stage}
use Rattle.vmx_driver_steps.specs.declared.progress.Stage.TheVariants.{Fresh, Active, Stopping, Held, Quiet, Ended}
use Rattle.vmx_driver_steps.specs.Progress.{in_hand, setup_now}
use Rattle.vmx_driver_steps.specs.Driver.{DriverView, GivesBack, state_in}
use Rattle.vmx_driver_steps.specs.Driving.{UpdatesBy, TakesEnds, KeepsEnds}
use Rattle.vmx_driver_steps.specs.Near.{IsNearRx}
use Rattle.vmx_actor_laws.proofs.Joint.{leads_its_device}
use Rattle.vmx_note_laws.specs.Queues.{IsToldRx, IsBehindRx}
use Rattle.vmx_replay_worlds.specs.Guests.{live_tx, live_rx, met_tx, met_rx, joined, is_arrival, begun_by, ends_by, seat_of}
use Rattle.vmx_replay_worlds.specs.Worlds.{out_part, in_part}
use Rattle.vmx_trusted_turns.specs.Trusted.{IsTrusted}
use Rattle.vmx_replay_worlds.specs.Ports.{IsBare}
use Rattle.vmx_replay_steps.specs.Between.{IsThrough, IsNoted}
use Rattle.vmx_replay_steps.specs.Turns.{StandsTogether, RestsAfter}
use Rattle.vmx_replay_steps.specs.Commands.{WasAnswered, UpdatesBetween}
use Rattle.vmx_replay_steps.proofs.Standing.{Split, tx_where_ends, rx_where_ends}
use Rattle.vmx_replay_steps.proofs.Idled.{rests, rests_rx}
use Rattle.vmx_replay_steps.proofs.Sent.{reaped_live, reaped_through}
use Rattle.vmx_replay_steps.proofs.Answered.{Served, served, rest}
use Rattle.vmx_replay_steps.proofs.Commanded.{dealt, no_errors_after, shows_idle, shows_active, no_arrival, near_txs, near_rxs, near_through, ends_same, state_same}

-- an update brings no ends
keeps_by : (g : Stage) (ends : Option HandedView) (v1 v2 : DriverView) (past : List Turn) (o : Option CommandView) (h : HeldEnds) → GivesBack g past o h → o ≡ None → TakesEnds g ends v1 v2 → KeepsEnds v1 v2
keeps_by Fresh ends v1 v2 past o h g none t = t
keeps_by Active ends v1 v2 past o h g none t = t
keeps_by (Stopping x) ends v1 v2 past o h g none t = absurd (let both : None ≡ Some g.1 = sym none ∙ g.2 in cc both)
keeps_by (Held x) ends v1 v2 past o h g none t = t
keeps_by Quiet ends v1 v2 past o h g none t = t
keeps_by Ended ends v1 v2 past o h g none t = t

-- the journal after an update, by whether the device is active
abbrev AfterSetting : Bool → ℕ → SetupView → List SetupView → Option ℕ → List SetupView → Type 0
AfterSetting true number s was index now = (index ≡ Some (length was)) × (now ≡ was ++ s ∷ [])
AfterSetting false number s was index now = (index ≡ None) × (now ≡ was)

by_state : (o : Option ActiveView) (setups : List Setup) (index : Option ℕ) (new : List Setup) (g : Stage) (s : SetupView) (number : ℕ) → state_by o ≡ state_in g s → ShowsState setups index new (state_by o) → AfterSetting (is_some o) number s (map setup_view setups) index (map setup_view new)
by_state None setups index new g s number e h = let i = shows_idle setups index new state.Idle h refl in (i.0, ap (map setup_view) i.1)
by_state (Some a) setups index new g s number e h = shows_active setups index new (state.Active a.setup) s h (active_in g (sym e))
  where
    active_in : (g : Stage) → state_in g s ≡ state.Active a.setup → state.Active a.setup ≡ state.Active s
    active_in Fresh f = absurd (cc f)
    active_in Active f = sym f
    active_in (Stopping t) f = absurd (cc f)
    active_in (Held t) f = absurd (cc f)
    active_in Quiet f = absurd (cc f)
    active_in Ended f = absurd (cc f)

-- a driver's ends that heard and gave notes are behind a device's that were told all before, and did nothing since
behind_near : (ds ds' : List RxDriverView) (es : List RxDeviceView) → Pairwise IsNearRx ds ds' → Pairwise IsToldRx ds es → Pairwise IsBehindRx ds' es
behind_near [] [] [] n t = tt
behind_near [] [] (e ∷ es) n t = absurd t
behind_near [] (d' ∷ ds') es n t = absurd n
behind_near (d ∷ ds) [] es n t = absurd n
behind_near (d ∷ ds) (d' ∷ ds') [] n t = absurd t
behind_near (d ∷ ds) (d' ∷ ds') (e ∷ es) n t = (
  record {
    key = ap (λ (x : RxDriverView). x.key) n.0.is ∙ t.0.key;
    heard = inr ([], append-nil e.heard ∙ t.0.received ∙ sym (ap (λ (x : RxDriverView). x.received) n.0.is));
  },
  behind_near ds ds' es n.1 t.1,
)

module _ (number : ℕ) (v v1 v2 : DriverView) (links : List LinkOutView) (worked : Bool) (old new : DeviceView) (b : UpdatesBetween number v v1 v2 links worked old new) where
  p : UpdatesBy number b.done (record v { tx = b.mid.tx }) v1
  p = subst (λ (m : DriverView). UpdatesBy number b.done m v1) b.reaps.is b.updates

  n : IsNoted v1 b.answers.told
  n = b.answers.noted

  s : Served (record { number = number; image = p.image; ends = None }) b.answers.told v2 b.answers.takes old b.answers.once.asked
  s = served v v1 v2 links worked old new b.answers (record { number = number; image = p.image; ends = None }) (ap (λ (x : DriverView). x.calls.asked) p.is) (ap (λ (x : DriverView). x.calls.turns) p.is)

  number_is : s.obeys.number ≡ number
  number_is = ap (λ (c : CommandView). c.number) s.command

  value_is : s.obeys.value ≡ 0
  value_is = ap (λ (a : AnswerView). a.value) s.answer ∙ b.answers.takes.zero

  deal : deal_of s.obeys.number s.obeys.value ≡ Passes
  deal = dealt s.obeys.number number s.obeys.value _ number_is value_is b.order

  machine : b.answers.once.asked.machine ≡ s.obeys.machine
  machine = ap (λ (d : DeviceView). d.machine) s.obeys.is

  -- the ends stay
  pub ends : (is_some b.answers.once.asked.machine.active ≡ is_some old.machine.active) × (tx_of b.answers.once.asked.machine.active ≡ tx_of old.machine.active) × (rx_of b.answers.once.asked.machine.active ≡ rx_of old.machine.active)
  ends = ends_same old.machine.active b.answers.once.asked.machine.active (ap ends_of machine ∙ s.obeys.answers.applied.held ∙ ap (λ (d : Deal). ends_held d (ends_of old.machine) s.obeys.answers.given) deal)

  pub keeps : KeepsEnds b.answers.told v2
  keeps = keeps_by v.at.stage b.answers.takes.answer.ends b.answers.told v2 v.calls.turns v.calls.asked _ b.answers.stands.driver.commands.gives b.answers.stands.caught_up.none
      (subst (λ (g : Stage). TakesEnds g b.answers.takes.answer.ends b.answers.told v2) (ap (λ (x : DriverView). x.at.stage) n.is ∙ ap (λ (x : DriverView). x.at.stage) p.is) b.answers.takes.ends)

  back : ◌≡◌ {A = EndsView} (record { tx = v2.tx_held; rx = v2.rx_held }) (record { tx = v.tx_held; rx = v.rx_held })
  back = λ i. record { tx = (keeps.tx.1 ∙ ap (λ (x : DriverView). x.tx_held) n.is ∙ ap (λ (x : DriverView). x.tx_held) p.is) i; rx = (keeps.rx.1 ∙ ap (λ (x : DriverView). x.rx_held) n.is ∙ ap (λ (x : DriverView). x.rx_held) p.is) i }

  setup : setup_now v2.plan v2.at ≡ setup_now v.plan v1.at
  setup = (λ i. setup_now (b.answers.plan i) (b.answers.takes.at i)) ∙ ap (λ (x : DriverView). setup_now x.plan x.at) n.is ∙ ap (λ (g : GuestPlan). setup_now g v1.at) (ap (λ (x : DriverView). x.plan) p.is)

  begun : begun_by v2 ≡ begun_by v
  begun = (λ i. (b.answers.takes.at i).ended + in_hand (keeps.stage i)) ∙ ap (λ (x : DriverView). x.at.ended + in_hand x.at.stage) n.is ∙ ap (λ (x : DriverView). x.at.ended + in_hand x.at.stage) p.is

  -- the state to which the driver brought the device
  led : state_by b.answers.once.asked.machine.active ≡ state_in v2.at.stage (setup_now v2.plan v2.at)
  led = sym (state_same b.answers.once.asked.machine.active new.machine.active (turn_pairs worked old new b.answers.once).setup) ∙ (leads_its_device v2 new b.answers.driver b.answers.device b.answers.caught_up).state

  shows : AfterSetting (is_some old.machine.active) number (setup_now v.plan v1.at) (map setup_view old.setups) s.obeys.setup (map setup_view s.obeys.setups)
  shows = subst (λ (z : Bool × SetupView). AfterSetting z.0 number z.1 (map setup_view old.setups) s.obeys.setup (map setup_view s.obeys.setups)) (λ i. (ends.0 i, setup i))
      (by_state b.answers.once.asked.machine.active old.setups s.obeys.setup s.obeys.setups v2.at.stage (setup_now v2.plan v2.at) number led (subst (λ (m : MachineView). ShowsState old.setups s.obeys.setup s.obeys.setups (state_of m)) (sym machine) s.obeys.shows))

  txs : joined live_tx v2.tx (ends_by b.answers.once.asked.machine.active (record { tx = v2.tx_held; rx = v2.rx_held })).tx ≡ joined live_tx v.tx (ends_by old.machine.active (record { tx = v.tx_held; rx = v.rx_held })).tx
  txs = (λ i. joined live_tx (keeps.tx.0 i) (ends_by b.answers.once.asked.machine.active (back i)).tx)
      ∙ near_txs v1.tx b.answers.told.tx (ends_by b.answers.once.asked.machine.active (record { tx = v.tx_held; rx = v.rx_held })).tx n.tx
      ∙ ap (λ (x : DriverView). joined live_tx x.tx (ends_by b.answers.once.asked.machine.active (record { tx = v.tx_held; rx = v.rx_held })).tx) p.is
      ∙ reaped_live v.tx b.mid.tx (ends_by b.answers.once.asked.machine.active (record { tx = v.tx_held; rx = v.rx_held })).tx b.reaps.tx
      ∙ tx_where_ends v.tx old.machine.active b.answers.once.asked.machine.active (record { tx = v.tx_held; rx = v.rx_held }) ends.0 (ap (joined live_tx v.tx) ends.1)

  rxs : joined live_rx v2.rx (ends_by b.answers.once.asked.machine.active (record { tx = v2.tx_held; rx = v2.rx_held })).rx ≡ joined live_rx v.rx (ends_by old.machine.active (record { tx = v.tx_held; rx = v.rx_held })).rx
  rxs = (λ i. joined live_rx (keeps.rx.0 i) (ends_by b.answers.once.asked.machine.active (back i)).rx)
      ∙ near_rxs v1.rx b.answers.told.rx (ends_by b.answers.once.asked.machine.active (record { tx = v.tx_held; rx = v.rx_held })).rx n.rx
      ∙ ap (λ (x : DriverView). joined live_rx x.rx (ends_by b.answers.once.asked.machine.active (record { tx = v.tx_held; rx = v.rx_held })).rx) p.is
      ∙ rx_where_ends v.rx old.machine.active b.answers.once.asked.machine.active (record { tx = v.tx_held; rx = v.rx_held }) ends.0 (ap (joined live_rx v.rx) ends.2)

  tx_facts : v2.tx_facts ≡ v.tx_facts
  tx_facts = b.answers.takes.facts.0 ∙ ap (λ (x : DriverView). x.tx_facts) n.is ∙ ap (λ (x : DriverView). x.tx_facts) p.is

  rx_facts : v2.rx_facts ≡ v.rx_facts
  rx_facts = b.answers.takes.facts.1 ∙ ap (λ (x : DriverView). x.rx_facts) n.is ∙ ap (λ (x : DriverView). x.rx_facts) p.is

  -- the seat with the new setup, before the journal says so
  abbrev changed_seat : Seat
  changed_seat = record (seat_of (record { driver = v; device = old })) { setup = setup_now v.plan v1.at }

  journal : seat_of (record { driver = v2; device = b.answers.once.asked }) ≡ record changed_seat { entries = old.entries ++ entry.Setting number 0 s.obeys.setup ∷ []; setups = map setup_view s.obeys.setups }
  journal = λ i. record {
    active = ends.0 i;
    setup = setup i;
    begun = begun i;
    seen = (ap (λ (d : DeviceView). count is_arrival d.entries) s.obeys.is ∙ no_arrival old.entries s.obeys.number s.obeys.value s.obeys.setup) i;
    entries = (ap (λ (d : DeviceView). d.entries) s.obeys.is ∙ (λ j. old.entries ++ entry.Setting (number_is j) (value_is j) s.obeys.setup ∷ [])) i;
    setups = ap (λ (d : DeviceView). map setup_view d.setups) s.obeys.is i;
    received = (b.answers.takes.received ∙ ap (λ (x : DriverView). x.received) n.is ∙ ap (λ (x : DriverView). x.received) p.is) i;
    tx = ap₂ (λ fs (cs : List TxCore). map met_tx fs ++ cs) tx_facts txs i;
    rx = ap₂ (λ fs (cs : List RxCore). map met_rx fs ++ cs) rx_facts rxs i;
  }

  by_active : (a : Bool) → is_some old.machine.active ≡ a → AfterSetting a number (setup_now v.plan v1.at) (map setup_view old.setups) s.obeys.setup (map setup_view s.obeys.setups)
      → record changed_seat { entries = old.entries ++ entry.Setting number 0 s.obeys.setup ∷ []; setups = map setup_view s.obeys.setups } ≡ (if a then active_setting number changed_seat else quiet_setting number changed_seat)
  by_active true e h = λ i. record changed_seat { entries = old.entries ++ entry.Setting number 0 (h.0 i) ∷ []; setups = h.1 i }
  by_active false e h = λ i. record changed_seat { entries = old.entries ++ entry.Setting number 0 (h.0 i) ∷ []; setups = h.1 i }

  seat : seat_of (record { driver = v2; device = b.answers.once.asked }) ≡ set_command (record (seat_of (record { driver = v; device = old })) { setup = setup_now v.plan v1.at }) number
  seat = journal ∙ by_active (is_some old.machine.active) refl shows

  trusts : IsTrusted b.answers.once.asked.machine
  trusts = record {
    tx_stopped = ap (λ (m : MachineView). m.tx_stopped) machine ∙ no_errors_after s.obeys.number s.obeys.value old.machine.tx_stopped s.obeys.machine.tx_stopped s.obeys.answers.applied.tx_errors b.answers.stands.trusted.tx_stopped;
    rx_stopped = ap (λ (m : MachineView). m.rx_stopped) machine ∙ no_errors_after s.obeys.number s.obeys.value old.machine.rx_stopped s.obeys.machine.rx_stopped s.obeys.answers.applied.rx_errors b.answers.stands.trusted.rx_stopped;
    tx = subst (AllByRecursion (λ (e : TxDeviceView). e.given ≡ false)) (sym ends.1) b.answers.stands.trusted.tx;
    rx = subst (AllByRecursion (λ (e : RxDeviceView). e.given ≡ false)) (sym ends.2) b.answers.stands.trusted.rx;
  }

  through_ : Pairwise IsThrough v2.tx (tx_of b.answers.once.asked.machine.active)
  through_ = subst (λ (z : List TxDriverView × List TxDeviceView). Pairwise IsThrough z.0 z.1) (λ i. (sym keeps.tx.0 i, sym ends.1 i))
      (near_through v1.tx b.answers.told.tx (tx_of old.machine.active) n.tx
      (subst (λ (x : DriverView). Pairwise IsThrough x.tx (tx_of old.machine.active)) (sym p.is) (reaped_through v.tx b.mid.tx (tx_of old.machine.active) b.reaps.tx b.answers.stands.through)))

  input : b.answers.once.asked.input ≡ old.input
  input = ap (λ (d : DeviceView). d.input) s.obeys.is

  -- the rest of the turn found nothing
  parts : Split b.answers.once.asked new
  parts = rest v v1 v2 links worked old new b.answers (record { number = number; image = p.image; ends = None }) (ap (λ (x : DriverView). x.calls.asked) p.is) (ap (λ (x : DriverView). x.calls.turns) p.is)

  bare : Pairwise IsBare links b.answers.once.asked.input
  bare = subst (Pairwise IsBare links) (sym input) b.answers.bare

  after : RestsAfter v2 b.answers.once.asked new
  after = rests v2 links b.answers.once.asked new parts trusts through_ bare b.sent b.answers.pushed

  pub was_updated : WasAnswered (λ s. set_command (record s { setup = setup_now v.plan v1.at }) number) v v2 old new
  was_updated = record {
    seat = after.same.seat ∙ seat;
    links = record {
      out = after.same.links.out ∙ ap (λ (d : DeviceView). map out_part d.out) s.obeys.is;
      input = after.same.links.input ∙ ap (map in_part) input;
    };
    trusted = after.trusted;
  }

  pub stands_updated : StandsTogether v2 new
  stands_updated = record { driver = b.answers.driver; device = b.answers.device; caught_up = b.answers.caught_up; trusted = after.trusted; through = after.through_ }

  -- notes of the receive queues may go behind it where they had told all before it
  near : Pairwise IsNearRx v.rx v2.rx
  near = subst (λ (z : List RxDriverView × List RxDriverView). Pairwise IsNearRx z.0 z.1) (λ i. (ap (λ (x : DriverView). x.rx) p.is i, sym keeps.rx.0 i)) n.rx

  rx_now : rx_of new.machine.active ≡ rx_of old.machine.active
  rx_now = rests_rx links b.answers.once.asked new parts bare b.answers.pushed ∙ ends.2

  pub behind_updated : Pairwise IsToldRx v.rx (rx_of old.machine.active) → Pairwise IsBehindRx v2.rx (rx_of new.machine.active)
  behind_updated told = subst (Pairwise IsBehindRx v2.rx) (sym rx_now) (behind_near v.rx v2.rx (rx_of old.machine.active) near told)
