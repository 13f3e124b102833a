-- A quiesce or a reset: the device goes idle, and its ends come back to its driver as they were.
use Rattle.std.proofs.Common.{◌≡◌, ℕ, ◌+◌, Bool, false, List, [], ◌∷◌, ◌++◌, map, sym, ap, ap₂, ◌∙◌, subst, Some, None, Option}
use Rattle.std.specs.Prelude.{is_some}
use Rattle.std.specs.Option.{option_map}
use Rattle.std.specs.List.{AllByRecursion}
use Rattle.vmx_io.specs.declared.handed.HandedView.{HandedView}
use Rattle.vmx_link.specs.Views.{LinkOutView}
use Rattle.vmx_ends.specs.Transmit.{TxDeviceView}
use Rattle.vmx_ends.specs.Receive.{RxDeviceView}
use Rattle.vmx_ends.specs.HandedEnds.{ends_handed, tx_numbers, rx_numbers}
use Rattle.vmx_ends.specs.HandedLaws.{ends_tell}
use Rattle.vmx_device_state.specs.Deals.{Deal, Stops, deal_of}
use Rattle.vmx_device_state.specs.SetupView.{setup_view}
use Rattle.vmx_device_state.specs.declared.turn.AnswerView.{AnswerView}
use Rattle.vmx_device_state.specs.declared.turn.CommandView.{CommandView}
use Rattle.vmx_machine_state.specs.Views.{EndsView, ActiveView, MachineView, ends_of, state_by, state_of, handed_of}
use Rattle.vmx_machine_state.specs.Ends.{ends_held, ends_back}
use Rattle.vmx_model.specs.declared.guest.GuestPlan.{GuestPlan}
use Rattle.vmx_model.specs.declared.journal.Entry.TheVariants as entry
use Rattle.vmx_model.specs.Bags.{Pairwise}
use Rattle.vmx_model.specs.Lists.{count}
use Rattle.vmx_device_laws.specs.Views.{DeviceView}
use Rattle.vmx_device_laws.specs.Pairs.{tx_of, rx_of}
use Rattle.vmx_device_laws.proofs.CommandKeeps.{no_ends}
use Rattle.vmx_driver_steps.specs.declared.progress.Then.{Then}
use Rattle.vmx_driver_steps.specs.declared.progress.Stage.{Stage}
use Rattle.vmx_driver_steps.specs.Progress.{in_hand, setup_now}
use Rattle.vmx_driver_steps.specs.Driver.{DriverView}
use Rattle.vmx_driver_steps.specs.Driving.{StopsBy, TakesBack, TakesEnds}
use Rattle.vmx_replay_worlds.specs.Guests.{live_tx, live_rx, met_tx, met_rx, joined, is_arrival, begun_by, ends_by, seat_of}
use Rattle.vmx_replay_worlds.specs.Worlds.{out_part, in_part}
use Rattle.vmx_trusted_turns.specs.Trusted.{IsTrusted}
use Rattle.vmx_replay_worlds.specs.Ports.{IsBare}
use Rattle.vmx_replay_steps.specs.Between.{IsNoted}
use Rattle.vmx_replay_steps.specs.Commands.{WasAnswered, StopsBetween, stopped}
use Rattle.vmx_replay_steps.proofs.Standing.{active_led}
use Rattle.vmx_replay_steps.proofs.Idled.{rests_idle}
use Rattle.vmx_replay_steps.proofs.Sent.{reaped_live}
use Rattle.vmx_replay_steps.proofs.Answered.{Served, served, rest}
use Rattle.vmx_replay_steps.proofs.Commanded.{dealt, no_errors_after, shows_idle, no_arrival, passed_tx, passed_rx, near_txs, near_rxs}

-- ends that came back from a device are those that it had
module _ (txs : List TxDeviceView) (rxs : List RxDeviceView) (e : EndsView) (h : ends_handed txs rxs ≡ handed_of e) where
  both : (map tx_numbers txs ≡ map tx_numbers e.tx) × (map rx_numbers rxs ≡ map rx_numbers e.rx)
  both = ends_tell txs e.tx rxs e.rx (ap (λ (x : HandedView). x.tx) h) (ap (λ (x : HandedView). x.lists) h)

module _ (number : ℕ) (t : Then) (v v1 v2 : DriverView) (links : List LinkOutView) (worked : Bool) (old new : DeviceView) (b : StopsBetween number t v v1 v2 links worked old new) where
  -- the act, from the driver's state but for what was reaped
  p : StopsBy number t b.done (record v { tx = b.mid.tx }) v1
  p = subst (λ (m : DriverView). StopsBy number t b.done m v1) b.reaps.is b.stops

  n : IsNoted v1 b.answers.told
  n = b.answers.noted

  s : Served (record { number = number; image = p.image; ends = None }) b.answers.told v2 b.answers.takes old b.answers.once.asked
  s = served v v1 v2 links worked old new b.answers (record { number = number; image = p.image; ends = None }) (ap (λ (x : DriverView). x.calls.asked) p.is) (ap (λ (x : DriverView). x.calls.turns) p.is)

  number_is : s.obeys.number ≡ number
  number_is = ap (λ (c : CommandView). c.number) s.command

  value_is : s.obeys.value ≡ 0
  value_is = ap (λ (a : AnswerView). a.value) s.answer ∙ b.answers.takes.zero

  deal : deal_of s.obeys.number s.obeys.value ≡ Stops
  deal = dealt s.obeys.number number s.obeys.value _ number_is value_is b.order

  was : (x : ActiveView) × (old.machine.active ≡ Some x)
  was = active_led v old b.answers.stands b.active

  machine : b.answers.once.asked.machine ≡ s.obeys.machine
  machine = ap (λ (d : DeviceView). d.machine) s.obeys.is

  -- the device goes idle
  none : b.answers.once.asked.machine.active ≡ None
  none = no_ends b.answers.once.asked.machine.active (ap ends_of machine ∙ s.obeys.answers.applied.held ∙ ap (λ (d : Deal). ends_held d (ends_of old.machine) s.obeys.answers.given) deal)

  -- and its ends go back
  back : b.answers.takes.answer.ends ≡ Some (handed_of was.0.ends)
  back =
      sym (ap (λ (a : AnswerView). a.ends) s.answer) ∙ ap (option_map handed_of) (s.obeys.answers.applied.ends ∙ ap (λ (d : Deal). ends_back d (ends_of old.machine) s.obeys.answers.given) deal
      ∙ ap (λ (o : Option ActiveView). ends_back Stops (option_map (λ (a : ActiveView). a.ends) o) s.obeys.answers.given) was.1)

  takes : TakesBack t b.answers.takes.answer.ends b.answers.told v2
  takes = subst (λ (g : Stage). TakesEnds g b.answers.takes.answer.ends b.answers.told v2) (ap (λ (x : DriverView). x.at.stage) n.is ∙ ap (λ (x : DriverView). x.at.stage) p.is) b.answers.takes.ends

  handed : ends_handed takes.txs takes.rxs ≡ handed_of was.0.ends
  handed = let same : Some (ends_handed takes.txs takes.rxs) ≡ Some (handed_of was.0.ends) = sym takes.handed ∙ back in cc same

  txs : joined live_tx v2.tx v2.tx_held ≡ joined live_tx v.tx (ends_by old.machine.active (record { tx = v.tx_held; rx = v.rx_held })).tx
  txs = passed_tx b.answers.told.tx takes.txs v2.tx v2.tx_held was.0.ends.tx takes.tx (both takes.txs takes.rxs was.0.ends handed).0 ∙ near_txs v1.tx b.answers.told.tx was.0.ends.tx n.tx
      ∙ ap (λ (x : DriverView). joined live_tx x.tx was.0.ends.tx) p.is ∙ reaped_live v.tx b.mid.tx was.0.ends.tx b.reaps.tx
      ∙ ap (λ (o : Option ActiveView). joined live_tx v.tx (ends_by o (record { tx = v.tx_held; rx = v.rx_held })).tx) (sym was.1)

  rxs : joined live_rx v2.rx v2.rx_held ≡ joined live_rx v.rx (ends_by old.machine.active (record { tx = v.tx_held; rx = v.rx_held })).rx
  rxs = passed_rx b.answers.told.rx takes.rxs v2.rx v2.rx_held was.0.ends.rx takes.rx (both takes.txs takes.rxs was.0.ends handed).1 ∙ near_rxs v1.rx b.answers.told.rx was.0.ends.rx n.rx
      ∙ ap (λ (x : DriverView). joined live_rx x.rx was.0.ends.rx) p.is
      ∙ ap (λ (o : Option ActiveView). joined live_rx v.rx (ends_by o (record { tx = v.tx_held; rx = v.rx_held })).rx) (sym was.1)

  setup : setup_now v2.plan v2.at ≡ setup_now v.plan v.at
  setup = (λ i. setup_now (b.answers.plan i) (b.answers.takes.at i)) ∙ ap (λ (x : DriverView). setup_now x.plan x.at) n.is ∙ ap (λ (g : GuestPlan). setup_now g v1.at) (ap (λ (x : DriverView). x.plan) p.is) ∙ b.setup

  begun : begun_by v2 ≡ begun_by v
  begun = (λ i. (b.answers.takes.at i).ended + in_hand (takes.stage i)) ∙ ap (λ (x : DriverView). x.at.ended + 1) n.is ∙ ap (λ (x : DriverView). x.at.ended + 1) p.is ∙ ap (λ (g : Stage). v.at.ended + in_hand g) (sym b.active)

  shows : (s.obeys.setup ≡ None) × (s.obeys.setups ≡ old.setups)
  shows = shows_idle old.setups s.obeys.setup s.obeys.setups (state_of s.obeys.machine) s.obeys.shows (ap state_of (sym machine) ∙ ap state_by none)

  entries : b.answers.once.asked.entries ≡ old.entries ++ entry.Setting number 0 None ∷ []
  entries = ap (λ (d : DeviceView). d.entries) s.obeys.is ∙ (λ i. old.entries ++ entry.Setting (number_is i) (value_is i) (shows.0 i) ∷ [])

  seat : seat_of (record { driver = v2; device = b.answers.once.asked }) ≡ stopped number (seat_of (record { driver = v; device = old }))
  seat = λ i. record {
    active = ap (λ (o : Option ActiveView). is_some o) none i;
    setup = setup i;
    begun = begun i;
    seen = (ap (count is_arrival) entries ∙ no_arrival old.entries number 0 None) i;
    entries = entries i;
    setups = (ap (λ (d : DeviceView). map setup_view d.setups) s.obeys.is ∙ ap (map setup_view) shows.1) i;
    received = (b.answers.takes.received ∙ ap (λ (x : DriverView). x.received) n.is ∙ ap (λ (x : DriverView). x.received) p.is) i;
    tx = (ap₂ (λ fs cs. map met_tx fs ++ cs) (b.answers.takes.facts.0 ∙ ap (λ (x : DriverView). x.tx_facts) n.is ∙ ap (λ (x : DriverView). x.tx_facts) p.is) (ap (λ (o : Option ActiveView). joined live_tx v2.tx (ends_by o (record { tx = v2.tx_held; rx = v2.rx_held })).tx) none ∙ txs)) i;
    rx = (ap₂ (λ fs cs. map met_rx fs ++ cs) (b.answers.takes.facts.1 ∙ ap (λ (x : DriverView). x.rx_facts) n.is ∙ ap (λ (x : DriverView). x.rx_facts) p.is) (ap (λ (o : Option ActiveView). joined live_rx v2.rx (ends_by o (record { tx = v2.tx_held; rx = v2.rx_held })).rx) none ∙ rxs)) i;
  }

  trusts : IsTrusted b.answers.once.asked.machine
  trusts = record {
    tx_stopped = ap (λ (m : MachineView). m.tx_stopped) machine ∙ no_errors_after s.obeys.number s.obeys.value old.machine.tx_stopped s.obeys.machine.tx_stopped s.obeys.answers.applied.tx_errors b.answers.stands.trusted.tx_stopped;
    rx_stopped = ap (λ (m : MachineView). m.rx_stopped) machine ∙ no_errors_after s.obeys.number s.obeys.value old.machine.rx_stopped s.obeys.machine.rx_stopped s.obeys.answers.applied.rx_errors b.answers.stands.trusted.rx_stopped;
    tx = subst (λ (o : Option ActiveView). AllByRecursion (λ (e : TxDeviceView). e.given ≡ false) (tx_of o)) (sym none) tt;
    rx = subst (λ (o : Option ActiveView). AllByRecursion (λ (e : RxDeviceView). e.given ≡ false) (rx_of o)) (sym none) tt;
  }

  pub was_stopped : WasAnswered (stopped number) v v2 old new
  was_stopped =
      let input : b.answers.once.asked.input ≡ old.input = ap (λ (d : DeviceView). d.input) s.obeys.is in
      let r = rests_idle v2 links b.answers.once.asked new (rest v v1 v2 links worked old new b.answers (record { number = number; image = p.image; ends = None }) (ap (λ (x : DriverView). x.calls.asked) p.is) (ap (λ (x : DriverView). x.calls.turns) p.is)) none trusts
      (subst (Pairwise IsBare links) (sym input) b.answers.bare) b.answers.pushed in record {
        seat = r.0.seat ∙ seat;
        links = record {
          out = r.0.links.out ∙ ap (λ (d : DeviceView). map out_part d.out) s.obeys.is;
          input = r.0.links.input ∙ ap (map in_part) input;
        };
        trusted = r.1;
      }
