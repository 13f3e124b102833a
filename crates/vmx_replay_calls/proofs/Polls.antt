-- A poll, with the notes after it.
use Rattle.std.proofs.Common.{◌≡◌, ℕ, ◌-◌, Bool, true, false, List, [], length, refl, sym, ap, ◌∙◌, subst, Some, None, Option, if◌then◌else◌}
use Rattle.std.specs.Prelude.{is_some}
use Rattle.vmx_ends.specs.Transmit.{TxDriverView}
use Rattle.vmx_regs.specs.declared.known.Calls.{Calls}
use Rattle.vmx_machine_state.specs.Views.{ActiveView}
use Rattle.vmx_model.specs.Bags.{Pairwise}
use Rattle.vmx_model.specs.Serial.{Seat, poll}
use Rattle.vmx_model.specs.Turns.{comes_up}
use Rattle.vmx_device_laws.specs.Pairs.{tx_of, rx_of}
use Rattle.vmx_driver_steps.specs.Progress.{in_hand}
use Rattle.vmx_driver_steps.specs.Driver.{DriverView}
use Rattle.vmx_note_laws.specs.Queues.{IsToldRx, IsBehindRx}
use Rattle.vmx_replay_runs.specs.Runs.{live_poll, live_up}
use Rattle.vmx_replay_worlds.specs.Guests.{GuestView, ends_by, ends_of, seat_of}
use Rattle.vmx_replay_worlds.specs.Moves.{IsSameGuest}
use Rattle.vmx_replay_steps.specs.Between.{IsThrough, WasDelivered}
use Rattle.vmx_replay_steps.specs.Polls.{PollsBetween}
use Rattle.vmx_replay_steps.specs.Turns.{StandsTogether}
use Rattle.vmx_replay_steps.proofs.Standing.{led_active}
use Rattle.vmx_replay_steps.proofs.Polled.{poll_seat, poll_count, poll_idle, no_polls}
use Rattle.vmx_replay_guests.proofs.GoOn.{poll_goes_on}
use Rattle.vmx_replay_calls.specs.Resting.{guest_of, Rests, HasNone}
use Rattle.vmx_replay_calls.proofs.Steps.{Polled}
use Rattle.vmx_replay_calls.proofs.Outcomes.{PolledSo}
use Rattle.vmx_replay_calls.proofs.Notes.{behind_driver, stands_of, QueueNotes, queue_notes, queues_same, queue_delivered, queue_through, queue_trusted, queue_calls, queue_served, idle_hand}

-- the seat is active just where the device is
active_is : (s : Seat) (b : Bool) → s.active ≡ b → (live_poll s ≡ (if b then poll (s.begun - 1) s else s)) × (live_up s ≡ (if b then comes_up (s.begun - 1) s else []))
active_is s b e = (ap (λ (x : Bool). if x then poll (s.begun - 1) s else s) e, ap (λ (x : Bool). if x then comes_up (s.begun - 1) s else []) e)

module _ (n : ℕ) (r r' : GuestView) (rest : Rests r) (p : Polled n r r') where
  stands : StandsTogether r.driver r.device
  stands = stands_of r rest p.keep

  tx_same : p.driver.tx ≡ r.driver.tx
  tx_same = ap (λ (v : DriverView). v.tx) p.polls.is

  calls_same : p.driver.calls ≡ r.driver.calls
  calls_same = ap (λ (v : DriverView). v.calls) p.polls.is

  none : HasNone p.driver r.device
  none e =
      let h = idle_hand r.driver r.device stands e in
      (tx_same ∙ h.0, (no_polls r.driver.calls.interrupts r.driver.plan.setup.tx_queues r.driver.at.ended 0 r.driver.rx p.driver.rx p.polls.up p.polls.mid p.driver.masks h.1 p.polls.polls).0)

  notes : QueueNotes p.driver r.device r'.driver r'.device
  notes = queue_notes p.driver r.device r'.driver r'.device p.passed none

  same : IsSameGuest (guest_of p.driver r.device) r'
  same = queues_same p.driver r.device r'.driver r'.device p.passed none

  behind : Pairwise IsBehindRx p.driver.rx (rx_of r.device.machine.active)
  behind = behind_driver r.driver.rx p.driver.rx (rx_of r.device.machine.active) rest.told_rx (poll_goes_on r.driver p.driver n p.polls)

  rests : Rests r'
  rests = record {
    caught_up = record {
      none = ap (λ (c : Calls). c.asked) (queue_calls p.driver r.device r'.driver r'.device notes ∙ calls_same) ∙ rest.caught_up.none;
      same = ap (λ (c : Calls). c.turns) (queue_calls p.driver r.device r'.driver r'.device notes ∙ calls_same) ∙ rest.caught_up.same ∙ sym (ap (λ (c : Calls). c.served) (queue_served p.driver r.device r'.driver r'.device notes));
    };
    trusted = queue_trusted p.driver r.device r'.driver r'.device notes rest.trusted;
    through_ = queue_through p.driver r.device r'.driver r'.device notes (subst (λ (ds : List TxDriverView). Pairwise IsThrough ds (tx_of r.device.machine.active)) (sym tx_same) rest.through_);
    told_tx = notes.told_tx;
    told_rx = notes.told_rx behind;
  }

  -- by the device's state
  by_active : (o : Option ActiveView) → r.device.machine.active ≡ o → (seat_of (guest_of p.driver r.device) ≡ live_poll (seat_of r)) × (n ≡ length (live_up (seat_of r)))
  by_active None e =
      let h = idle_hand r.driver r.device stands e in let i = poll_idle r n p.driver p.keep.driver h.2 p.polls in let a = active_is (seat_of r) false (ap (λ (o : Option ActiveView). is_some o) e) in
      (i.0 ∙ sym a.0, i.1 ∙ ap length (sym a.1))
  by_active (Some x) e =
      let hand : in_hand r.driver.at.stage ≡ 1 = ap in_hand (led_active r.driver r.device x stands e).0 in
      let ends : (ends_of r).rx ≡ rx_of r.device.machine.active = ap (λ (o : Option ActiveView). (ends_by o (record { tx = r.driver.tx_held; rx = r.driver.rx_held })).rx) e ∙ sym (ap rx_of e) in
      let b : PollsBetween r n p.driver = record {
        keeps = p.keep.driver;
        hand = hand;
        told = subst (Pairwise IsToldRx r.driver.rx) (sym ends) rest.told_rx;
        polls = p.polls;
        delivered = subst (Pairwise WasDelivered p.driver.rx) (sym ends) (queue_delivered p.driver r.device r'.driver r'.device notes);
      } in
      let a = active_is (seat_of r) true (ap (λ (o : Option ActiveView). is_some o) e) in
      (poll_seat r n p.driver b ∙ sym a.0, poll_count r n p.driver b ∙ ap length (sym a.1))

  pub was_polled : PolledSo n r r'
  was_polled = let h = by_active r.device.machine.active refl in record { seat = same.seat ∙ h.0; count = h.1; links = record { out = same.links.out; input = same.links.input }; rests = rests }
