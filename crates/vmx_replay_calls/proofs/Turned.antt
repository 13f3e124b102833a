-- A turn of a device with the notes after it: what they tell of it, and what stands after it.
use Rattle.std.proofs.Common.{◌≡◌, ℕ, Bool, List, length, set, refl, sym, ap, ◌∙◌, subst, Some, None, Option}
use Rattle.std.specs.Option.{option_map}
use Rattle.std.specs.List.{AllByRecursion}
use Rattle.vmx_link.specs.Views.{LinkOutView}
use Rattle.vmx_regs.specs.declared.known.Calls.{Calls}
use Rattle.vmx_ends.specs.Transmit.{TxDriverView}
use Rattle.vmx_ends.specs.Receive.{RxDriverView}
use Rattle.vmx_machine_state.specs.Views.{ActiveView, MachineView, setup_of}
use Rattle.vmx_model.specs.Bags.{Pairwise}
use Rattle.vmx_device_laws.specs.Views.{DeviceView}
use Rattle.vmx_device_laws.specs.Keeps.{Keeps as DeviceKeeps}
use Rattle.vmx_device_laws.specs.Pairs.{tx_of, rx_of}
use Rattle.vmx_device_laws.specs.Steps.{CommandStep, TurnsOnce}
use Rattle.vmx_device_laws.proofs.Pairwise.{turn_pairs}
use Rattle.vmx_driver_steps.specs.Driver.{DriverView}
use Rattle.vmx_actor_laws.specs.Joint.{AreCaughtUp}
use Rattle.vmx_note_laws.specs.Queues.{IsToldRx, IsBehindRx}
use Rattle.vmx_trusted_turns.specs.Trusted.{IsTrusted}
use Rattle.vmx_replay_worlds.specs.Guests.{GuestView}
use Rattle.vmx_replay_worlds.specs.Moves.{IsSameGuest}
use Rattle.vmx_replay_worlds.specs.Ports.{AreAtPorts, HasAll, IsLinkOf}
use Rattle.vmx_replay_steps.specs.Between.{IsThrough, WasSent, WasPosted, HeardAfter}
use Rattle.vmx_replay_steps.proofs.Standing.{no_command}
use Rattle.vmx_replay_guests.specs.Passing.{RegsPassed}
use Rattle.vmx_replay_guests.proofs.GoOn.{turn_goes_on}
use Rattle.vmx_replay_calls.proofs.Steps.{AreNear, Turned}
use Rattle.vmx_replay_calls.specs.Selves.{IsOneDevice, IsOneDriver}
use Rattle.vmx_replay_calls.specs.Resting.{guest_of, Rests, HasNone, MayTurn}
use Rattle.vmx_replay_calls.proofs.Linking.{Stepped}
use Rattle.vmx_replay_calls.proofs.Linking as linking
use Rattle.vmx_replay_calls.proofs.Selves.{turn_self}
use Rattle.vmx_replay_calls.proofs.Notes.{behind_device, same_trans, regs_same, regs_asked, regs_turns, regs_served, regs_caught_up, QueueNotes, queue_notes, queues_same, queue_sent, queue_posted, queue_through, queue_trusted, queue_calls, queue_served}

-- ------------------------------------------------------------ a turn in which no command was answered

setup_some : (o o' : Option ActiveView) → option_map (λ (a : ActiveView). a.setup) o' ≡ option_map (λ (a : ActiveView). a.setup) o → o' ≡ None → o ≡ None
setup_some None o' e n = refl
setup_some (Some a) o' e n = absurd (let x : None ≡ Some a.setup = sym (ap (option_map (λ (a : ActiveView). a.setup)) n) ∙ e in cc x)

-- an idle device was idle before
pub was_idle : (worked : Bool) (d d' : DeviceView) (t : TurnsOnce worked d d') → t.asked.machine ≡ d.machine → d'.machine.active ≡ None → d.machine.active ≡ None
was_idle worked d d' t same none = setup_some d.machine.active d'.machine.active ((turn_pairs worked d d' t).setup ∙ ap setup_of same) none

asked_same : (b : Bool) (v : DriverView) (d asked d' : DeviceView) → CommandStep b d asked → d'.calls ≡ asked.calls → v.calls.turns ≡ d.calls.served → v.calls.turns ≡ d'.calls.served → asked.machine ≡ d.machine
asked_same b v d asked d' c same before now = ap (λ (x : DeviceView). x.machine) (no_command b v d asked d' c same before now).is

-- ------------------------------------------------------------ what notes tell of it

module _ (port : ℕ) (guest : GuestView) (worked : Bool) (rs rs' : List GuestView) (t : Turned port guest worked rs rs') (may : MayTurn guest) where
  abbrev v : DriverView
  v = guest.driver

  regs : RegsPassed v t.device t.passed.mid.driver t.passed.mid.device
  regs = t.passed.regs

  pub caught_up : AreCaughtUp v t.device
  caught_up = regs_caught_up v t.device t.passed.mid.driver t.passed.mid.device regs may.caught_up.none

  machine : t.passed.mid.device.machine ≡ t.device.machine
  machine = ap (λ (d : DeviceView). d.machine) regs.device

  mid_tx : t.passed.mid.driver.tx ≡ v.tx
  mid_tx = ap (λ (x : DriverView). x.tx) regs.driver

  mid_rx : t.passed.mid.driver.rx ≡ v.rx
  mid_rx = ap (λ (x : DriverView). x.rx) regs.driver

  -- an idle device's driver has no queues
  none : HasNone v t.device
  none e =
      let same = asked_same t.once.answered v guest.device t.once.asked t.device t.once.command (turn_pairs worked guest.device t.device t.once).same.3 may.caught_up.same caught_up.same in
      may.none (was_idle worked guest.device t.device t.once same e)

  none_mid : HasNone t.passed.mid.driver t.passed.mid.device
  none_mid e = let h = none (ap (λ (m : MachineView). m.active) (sym machine) ∙ e) in (mid_tx ∙ h.0, mid_rx ∙ h.1)

  pub notes : QueueNotes t.passed.mid.driver t.passed.mid.device t.told.driver t.told.device
  notes = queue_notes t.passed.mid.driver t.passed.mid.device t.told.driver t.told.device t.passed.queues none_mid

  pub sent : Pairwise WasSent v.tx (tx_of t.device.machine.active)
  sent = subst (λ (x : List TxDriverView × MachineView). Pairwise WasSent x.0 (tx_of x.1.active)) (λ i. (mid_tx i, machine i)) (queue_sent t.passed.mid.driver t.passed.mid.device t.told.driver t.told.device notes)

  pub posted : Pairwise WasPosted v.rx (rx_of t.device.machine.active)
  posted = subst (λ (x : List RxDriverView × MachineView). Pairwise WasPosted x.0 (rx_of x.1.active)) (λ i. (mid_rx i, machine i)) (queue_posted t.passed.mid.driver t.passed.mid.device t.told.driver t.told.device notes)

  -- the machine between the command's look and the others is as before
  pub unasked : t.once.asked.machine ≡ guest.device.machine
  unasked = asked_same t.once.answered v guest.device t.once.asked t.device t.once.command (turn_pairs worked guest.device t.device t.once).same.3 may.caught_up.same caught_up.same

  -- what always holds of the device after it
  pub keeps : DeviceKeeps t.device
  keeps = t.device_keeps

  pub self : IsOneDevice guest.device t.device
  self = turn_self worked guest.device t.device t.once

  -- the notes of registers and queues after it
  pub told_same : IsSameGuest (guest_of v t.device) t.told
  told_same = same_trans (guest_of v t.device) t.passed.mid t.told
      (regs_same v t.device t.passed.mid.driver t.passed.mid.device regs)
      (queues_same t.passed.mid.driver t.passed.mid.device t.told.driver t.told.device t.passed.queues none_mid)

  pub told_driver : IsOneDriver v t.told.driver
  told_driver = record {
    guest = ap (λ (x : DriverView). x.guest) notes.driver ∙ ap (λ (x : DriverView). x.guest) regs.driver;
    plan = ap (λ (x : DriverView). x.plan) notes.driver ∙ ap (λ (x : DriverView). x.plan) regs.driver;
    key = ap (λ (x : DriverView). x.key) notes.driver ∙ ap (λ (x : DriverView). x.key) regs.driver;
  }

  pub told_self : IsOneDevice t.device t.told.device
  told_self = record {
    port = ap (λ (d : DeviceView). d.port) notes.device ∙ ap (λ (d : DeviceView). d.port) regs.device;
    table = ap (λ (d : DeviceView). d.table) notes.device ∙ ap (λ (d : DeviceView). d.table) regs.device;
    key = ap (λ (d : DeviceView). d.key) notes.device ∙ ap (λ (d : DeviceView). d.key) regs.device;
    mac = notes.mac ∙ ap (λ (d : DeviceView). d.machine.mac) regs.device;
  }

  pub told_input : t.told.device.input ≡ t.device.input
  told_input = ap (λ (d : DeviceView). d.input) notes.device ∙ ap (λ (d : DeviceView). d.input) regs.device

  pub told_out : t.told.device.out ≡ t.device.out
  told_out = ap (λ (d : DeviceView). d.out) notes.device ∙ ap (λ (d : DeviceView). d.out) regs.device

  -- the receive ends had heard what the driver knows, and so are told again
  behind : Pairwise IsBehindRx t.passed.mid.driver.rx (rx_of t.passed.mid.device.machine.active)
  behind =
      let was : Pairwise IsToldRx v.rx (rx_of t.once.asked.machine.active) = subst (λ (m : MachineView). Pairwise IsToldRx v.rx (rx_of m.active)) (sym unasked) may.told_rx in
      let on : Pairwise IsBehindRx v.rx (rx_of t.device.machine.active) =
      behind_device v.rx (rx_of t.once.asked.machine.active) (rx_of t.device.machine.active) was (turn_goes_on worked guest.device t.device t.once) in
      subst (λ (x : List RxDriverView × MachineView). Pairwise IsBehindRx x.0 (rx_of x.1.active)) (λ i. (sym mid_rx i, sym machine i)) on

  -- what stands after the turn stands after the notes
  pub rests_told : IsTrusted t.device.machine → Pairwise IsThrough v.tx (tx_of t.device.machine.active) → Rests t.told
  rests_told trusted through_ = record {
    caught_up = record {
      none = ap (λ (c : Calls). c.asked) (queue_calls t.passed.mid.driver t.passed.mid.device t.told.driver t.told.device notes) ∙ regs_asked v t.device t.passed.mid.driver t.passed.mid.device regs ∙ may.caught_up.none;
      same = ap (λ (c : Calls). c.turns) (queue_calls t.passed.mid.driver t.passed.mid.device t.told.driver t.told.device notes) ∙ regs_turns v t.device t.passed.mid.driver t.passed.mid.device regs ∙ caught_up.same
          ∙ sym (ap (λ (c : Calls). c.served) (queue_served t.passed.mid.driver t.passed.mid.device t.told.driver t.told.device notes) ∙ regs_served v t.device t.passed.mid.driver t.passed.mid.device regs);
    };
    trusted = queue_trusted t.passed.mid.driver t.passed.mid.device t.told.driver t.told.device notes (subst IsTrusted (sym machine) trusted);
    through_ = queue_through t.passed.mid.driver t.passed.mid.device t.told.driver t.told.device notes (subst (λ (x : List TxDriverView × MachineView). Pairwise IsThrough x.0 (tx_of x.1.active)) (λ i. (sym mid_tx i, sym machine i)) through_);
    told_tx = notes.told_tx;
    told_rx = notes.told_rx behind;
  }

  pub stepped : Stepped rs port guest t.device t.told
  stepped = record { at = t.at; self = self; told_self = told_self; input = told_input; out = told_out; was = t.keep.device; keeps = keeps }

  -- ---------------------------------------------------------- among all guests

  module _ (ports : AreAtPorts rs) (all : AllByRecursion (HasAll (length rs)) rs) where
    pub ports_after : AreAtPorts (set rs port t.told)
    ports_after = linking.ports_after rs rs' port guest t.device t.told stepped ports all t.links

    -- the senders' ends of the links to it
    abbrev pub links : (ls : List LinkOutView) × Pairwise (IsLinkOf rs port) ls guest.device.input
    links = linking.links rs rs' port guest t.device t.told stepped ports all t.links

    pub heard : HeardAfter v links.0 t.device
    heard = record { caught_up = caught_up; sent = sent; pushed = linking.pushed rs rs' port guest t.device t.told stepped ports all t.links }

    pub near_after : AreNear (set rs port t.told) rs'
    near_after = linking.near_after rs rs' port guest t.device t.told stepped ports all t.links
