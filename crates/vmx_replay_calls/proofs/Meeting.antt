-- The meeting of all ends that came back to a driver, in the serial run.
use Rattle.std.proofs.Common.{◌≡◌, ℕ, ◌+◌, List, [], ◌∷◌, length, set, sym, ap, ◌∙◌, subst, arith, Some, None, Option, inl, inr}
use Rattle.std.specs.List.{slice_get, AllByRecursion}
use Rattle.std.proofs.lemmas.Bool.Decides.{eqb_tells}
use Rattle.std.proofs.lemmas.List.{length-set}
use Rattle.vmx_ends.specs.Transmit.{TxDriverView}
use Rattle.vmx_ends.specs.Receive.{RxDriverView}
use Rattle.vmx_regs.specs.declared.known.Calls.{Calls}
use Rattle.vmx_machine_state.specs.Views.{ActiveView, MachineView}
use Rattle.vmx_model.specs.declared.guest.GuestPlan.{GuestPlan}
use Rattle.vmx_model.specs.declared.plan.Plan.{Plan}
use Rattle.vmx_model.specs.Bags.{EachQueue, Pairwise}
use Rattle.vmx_model.specs.Serial.{emptied}
use Rattle.vmx_device_looks.specs.Queues.{each_set}
use Rattle.vmx_device_laws.specs.Views.{DeviceView}
use Rattle.vmx_device_laws.specs.Pairs.{tx_of, rx_of}
use Rattle.vmx_device_laws.proofs.Pairing.{get_set_other}
use Rattle.vmx_device_laws.proofs.PairingIn.{some_same}
use Rattle.vmx_driver_steps.specs.declared.progress.Then.{Then}
use Rattle.vmx_driver_steps.specs.Driver.{DriverView}
use Rattle.vmx_driver_steps.specs.declared.progress.Progress.{Progress}
use Rattle.vmx_driver_steps.specs.Parting.{after}
use Rattle.vmx_driver_steps.specs.Driving.{PassesOver, HandsUpSome, MeetsEmpty}
use Rattle.vmx_note_laws.specs.Queues.{IsToldTx, IsToldRx}
use Rattle.vmx_trusted_turns.specs.Trusted.{IsTrusted}
use Rattle.vmx_replay_worlds.specs.Guests.{GuestView}
use Rattle.vmx_replay_worlds.proofs.Lists.{get_set}
use Rattle.vmx_replay_worlds.proofs.Moved.{guest_moves}
use Rattle.vmx_replay_steps.specs.Between.{IsThrough}
use Rattle.vmx_replay_steps.specs.Commands.{HandUp, MeetsBetween}
use Rattle.vmx_replay_steps.proofs.Meeting.{meets_is}
use Rattle.vmx_replay_calls.specs.Selves.{IsOneDriver}
use Rattle.vmx_replay_calls.specs.Resting.{guest_of, IsGuestAt, Rests, AreKnown}
use Rattle.vmx_replay_calls.specs.Results.{progress_of, WasDone, Holds}
use Rattle.vmx_replay_calls.proofs.Steps.{Met}
use Rattle.vmx_replay_calls.proofs.Progress.{progress_set}
use Rattle.vmx_replay_calls.proofs.Pairs.{pair_refl, pair_set}
use Rattle.vmx_replay_calls.proofs.Selves.{one_driver, stays_itself}
use Rattle.vmx_replay_calls.proofs.Runs.{guest_at}
use Rattle.vmx_replay_calls.proofs.Room.{all_by}
use Rattle.vmx_replay_calls.proofs.Posted.{HasSameLinks, links_refl, known_back}
use Rattle.vmx_replay_calls.proofs.Whole.{GuestKeeps, guest_keeps, idle_pass}

-- what acts leave as it was
record ActsKeep (v w : DriverView) : Type 0 where
  pub driver : IsOneDriver v w
  pub calls : w.calls ≡ v.calls

acts_refl : (v w : DriverView) → w ≡ v → ActsKeep v w
acts_refl v w e = record { driver = record { guest = ap (λ (x : DriverView). x.guest) e; plan = ap (λ (x : DriverView). x.plan) e; key = ap (λ (x : DriverView). x.key) e }; calls = ap (λ (x : DriverView). x.calls) e }

acts_trans : (u v w : DriverView) → ActsKeep u v → ActsKeep v w → ActsKeep u w
acts_trans u v w a b = record { driver = one_driver u v w a.driver b.driver; calls = b.calls ∙ a.calls }

one_up : (v w : DriverView) → HandsUpSome v w → ActsKeep v w
one_up v w h = record {
  driver = record {
    guest = ap (λ (x : DriverView). x.guest) h.polls.is ∙ ap (λ (x : DriverView). x.guest) h.reaps.is;
    plan = ap (λ (x : DriverView). x.plan) h.polls.is ∙ ap (λ (x : DriverView). x.plan) h.reaps.is;
    key = ap (λ (x : DriverView). x.key) h.polls.is ∙ ap (λ (x : DriverView). x.key) h.reaps.is;
  };
  calls = ap (λ (x : DriverView). x.calls) h.polls.is ∙ ap (λ (x : DriverView). x.calls) h.reaps.is;
}

all_up : (acts : List DriverView) (v w : DriverView) → HandUp v acts w → ActsKeep v w
all_up [] v w h = acts_refl v w h
all_up (m ∷ acts) v w h = acts_trans v m w (one_up v m h.0) (all_up acts m w h.1)

up_at : (acts : List DriverView) (v w : DriverView) → HandUp v acts w → w.at ≡ v.at
up_at [] v w h = ap (λ (x : DriverView). x.at) h
up_at (m ∷ acts) v w h = up_at acts m w h.1 ∙ ap (λ (x : DriverView). x.at) h.0.polls.is ∙ ap (λ (x : DriverView). x.at) h.0.reaps.is

last_up : (t : Then) (v w : DriverView) → MeetsEmpty t v w → ActsKeep v w
last_up t v w h = record {
  driver = record {
    guest = ap (λ (x : DriverView). x.guest) h.meets.is ∙ ap (λ (x : DriverView). x.guest) h.polls.is ∙ ap (λ (x : DriverView). x.guest) h.reaps.is;
    plan = ap (λ (x : DriverView). x.plan) h.meets.is ∙ ap (λ (x : DriverView). x.plan) h.polls.is ∙ ap (λ (x : DriverView). x.plan) h.reaps.is;
    key = ap (λ (x : DriverView). x.key) h.meets.is ∙ ap (λ (x : DriverView). x.key) h.polls.is ∙ ap (λ (x : DriverView). x.key) h.reaps.is;
  };
  calls = ap (λ (x : DriverView). x.calls) h.meets.is ∙ ap (λ (x : DriverView). x.calls) h.polls.is ∙ ap (λ (x : DriverView). x.calls) h.reaps.is;
}

module _ (plan : Plan) (port : ℕ) (t : Then) (rs rs' : List GuestView) (h : Holds plan port t rs) (m : Met port t h.guest rs rs') where
  acts : ActsKeep h.guest.driver m.driver
  acts = acts_trans h.guest.driver m.last m.driver (all_up m.acts h.guest.driver m.last m.up) (last_up t m.last m.driver m.meets)

  between : MeetsBetween t h.guest m.last m.driver
  between = record { keeps = m.keeps; stage = h.stage; idle = h.idle; acts = m.acts; up = m.up; meets = m.meets }

  notes : GuestKeeps (guest_of m.driver h.guest.device) m.told
  notes = guest_keeps (guest_of m.driver h.guest.device) m.told m.passed

  pass : (m.told.driver ≡ m.passed.mid.driver) × (m.told.device ≡ m.passed.mid.device)
  pass = idle_pass (guest_of m.driver h.guest.device) m.told m.passed h.idle

  machine : m.told.device.machine ≡ h.guest.device.machine
  machine = ap (λ (d : DeviceView). d.machine) pass.1 ∙ ap (λ (d : DeviceView). d.machine) m.passed.regs.device

  none : m.told.device.machine.active ≡ None
  none = ap (λ (x : MachineView). x.active) machine ∙ h.idle

  no_tx : m.told.driver.tx ≡ []
  no_tx = ap (λ (x : DriverView). x.tx) pass.0 ∙ ap (λ (x : DriverView). x.tx) m.passed.regs.driver ∙ ap (λ (x : DriverView). x.tx) m.meets.meets.is

  no_rx : m.told.driver.rx ≡ []
  no_rx = ap (λ (x : DriverView). x.rx) pass.0 ∙ ap (λ (x : DriverView). x.rx) m.passed.regs.driver ∙ ap (λ (x : DriverView). x.rx) m.meets.meets.is

  rests : Rests m.told
  rests = record {
    caught_up = record {
      none = notes.asked ∙ ap (λ (c : Calls). c.asked) acts.calls ∙ h.caught_up.none;
      same = notes.turns ∙ ap (λ (c : Calls). c.turns) acts.calls ∙ h.caught_up.same ∙ sym notes.served;
    };
    trusted = subst IsTrusted (sym machine) h.trusted;
    through_ = subst (λ (x : List TxDriverView × Option ActiveView). Pairwise IsThrough x.0 (tx_of x.1)) (λ i. (sym no_tx i, sym none i)) tt;
    told_tx = subst (λ (x : List TxDriverView × Option ActiveView). Pairwise IsToldTx x.0 (tx_of x.1)) (λ i. (sym no_tx i, sym none i)) tt;
    told_rx = subst (λ (x : List RxDriverView × Option ActiveView). Pairwise IsToldRx x.0 (rx_of x.1)) (λ i. (sym no_rx i, sym none i)) tt;
  }

  told_here : IsGuestAt plan port m.told
  told_here = stays_itself plan port h.guest m.told (guest_at plan rs port h.guest h.guests m.at) (one_driver h.guest.driver m.driver m.told.driver acts.driver notes.driver) notes.device m.kept.device

  each_rests : (n : ℕ) (r : GuestView) → slice_get (set rs port m.told) n ≡ Some r → Rests r
  each_rests n r at = elim (eqb_tells n port) [
    | inl same ↦ (
        let is : r ≡ m.told = some_same (slice_get (set rs port m.told) port) r m.told (ap (slice_get (set rs port m.told)) (sym same.1) ∙ at) (get_set rs port h.guest m.told m.at) in
        subst Rests (sym is) rests
        )
    | inr away ↦ h.rest n r (away.1) (sym (get_set_other rs port m.told n (away.1)) ∙ at)
  ]

  -- how far its driver is
  pub met_at : m.driver.at ≡ record h.guest.driver.at { stage = after t; ended = h.guest.driver.at.ended + 1; next = m.driver.at.next }
  met_at = ap (λ (x : DriverView). x.at) m.meets.meets.is
      ∙ ap (λ (s : Progress). record s { stage = after t; ended = s.ended + 1; next = m.driver.at.next }) (ap (λ (x : DriverView). x.at) m.meets.polls.is ∙ ap (λ (x : DriverView). x.at) m.meets.reaps.is ∙ up_at m.acts h.guest.driver m.last m.up)

  pub met_over : PassesOver h.guest.driver.plan h.guest.driver.at.next m.driver.at.next
  met_over = subst (λ (x : GuestPlan × ℕ). PassesOver x.0 x.1 m.driver.at.next)
      (λ i. (
        (ap (λ (x : DriverView). x.plan) m.meets.polls.is ∙ ap (λ (x : DriverView). x.plan) m.meets.reaps.is ∙ (all_up m.acts h.guest.driver m.last m.up).driver.plan) i,
        (ap (λ (x : DriverView). x.at.next) m.meets.polls.is ∙ ap (λ (x : DriverView). x.at.next) m.meets.reaps.is ∙ ap (λ (s : Progress). s.next) (up_at m.acts h.guest.driver m.last m.up)) i,
      ))
      m.meets.meets.over

  pub met_progress : progress_of rs' ≡ set (progress_of rs) port m.driver.at
  met_progress = ap (λ (xs : List GuestView). progress_of xs) m.is ∙ progress_set rs port m.told ∙ ap (set (progress_of rs) port) notes.at

  pub was_met : WasDone plan port emptied rs rs'
  was_met = record {
    world = guest_moves rs rs' port emptied (record {
      before = h.guest;
      after = m.told;
      at = m.at;
      is = m.is;
      seat = notes.same.seat ∙ meets_is t h.guest m.last m.driver between;
      links = record { out = notes.same.links.out; input = notes.same.links.input };
    });
    rests = record {
      guests = subst (EachQueue (IsGuestAt plan) 0) (sym m.is) (let z : port ≡ 0 + port = omega arith in each_set (IsGuestAt plan) (IsGuestAt plan) 0 rs port m.told (λ n x ne g. g) (subst (λ (n : ℕ). IsGuestAt plan n m.told) z told_here) h.guests);
      count = ap (λ (xs : List GuestView). length xs) m.is ∙ length-set rs port m.told ∙ h.count;
      rest = subst (AllByRecursion Rests) (sym m.is) (all_by Rests (set rs port m.told) each_rests);
      links = subst AreKnown (sym m.is) (known_back rs (set rs port m.told) (pair_set HasSameLinks rs rs port h.guest m.told (pair_refl HasSameLinks links_refl rs) m.at (record { out = notes.out; input = notes.input })) h.links);
    };
  }
