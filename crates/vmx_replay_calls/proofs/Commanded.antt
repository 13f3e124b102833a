-- A command with its notes: what is known of the turn that answers it, and of the act that takes the answer.
use Rattle.std.proofs.Common.{◌≡◌, ℕ, Bool, List, length, set, sym, ap, ◌∙◌, subst, arith, None}
use Rattle.std.specs.List.{slice_get, AllByRecursion}
use Rattle.vmx_link.specs.Views.{LinkOutView}
use Rattle.vmx_ends.specs.Transmit.{TxDriverView}
use Rattle.vmx_ends.specs.Receive.{RxDriverView}
use Rattle.vmx_regs.specs.declared.known.Calls.{Calls}
use Rattle.vmx_machine_state.specs.Views.{MachineView}
use Rattle.vmx_model.specs.Bags.{Pairwise}
use Rattle.vmx_model.specs.Turns.{AreEmptied}
use Rattle.vmx_device_laws.specs.Views.{DeviceView}
use Rattle.vmx_device_laws.specs.Keeps.{Keeps as DeviceKeeps}
use Rattle.vmx_device_laws.specs.Pairs.{tx_of}
use Rattle.vmx_device_laws.proofs.PairingIn.{some_same}
use Rattle.vmx_driver_steps.specs.Driver.{DriverView}
use Rattle.vmx_driver_steps.specs.Near.{IsNearTx, IsNearRx}
use Rattle.vmx_actor_laws.specs.Joint.{AreCaughtUp}
use Rattle.vmx_trusted_turns.specs.Trusted.{IsTrusted}
use Rattle.vmx_replay_worlds.specs.Guests.{GuestView}
use Rattle.vmx_replay_worlds.specs.Worlds.{world_of}
use Rattle.vmx_replay_worlds.specs.Ports.{AreAtPorts, HasAll, IsLinkOf, IsBare}
use Rattle.vmx_replay_worlds.proofs.Linked.{links_bare}
use Rattle.vmx_replay_steps.specs.Between.{IsThrough, IsNoted}
use Rattle.vmx_replay_steps.specs.Turns.{StandsTogether}
use Rattle.vmx_replay_steps.specs.Commands.{AnswersBetween}
use Rattle.vmx_replay_calls.proofs.Steps.{IsNearGuest, AreNear, Commanded}
use Rattle.vmx_replay_calls.specs.Selves.{IsOneDevice}
use Rattle.vmx_replay_calls.specs.Resting.{Rests}
use Rattle.vmx_replay_calls.proofs.Pairs.{pair_from, pair_trans}
use Rattle.vmx_replay_calls.proofs.Selves.{turn_self, one_device}
use Rattle.vmx_replay_calls.proofs.Notes.{regs_noted, regs_served, regs_caught_up}
use Rattle.vmx_replay_calls.proofs.Linking.{Stepped}
use Rattle.vmx_replay_calls.proofs.Linking as linking

-- ------------------------------------------------------------ notes one after the other

near_tx_trans : (x y z : TxDriverView) → IsNearTx x y → IsNearTx y z → IsNearTx x z
near_tx_trans x y z a b = record { is = b.is ∙ ap (λ (d : TxDriverView). record d { looks = z.looks; heard = z.heard; notes_given = z.notes_given; notes_heard = z.notes_heard }) a.is; more = let l = a.more in let m = b.more in omega (arith, l, m) }

near_rx_trans : (x y z : RxDriverView) → IsNearRx x y → IsNearRx y z → IsNearRx x z
near_rx_trans x y z a b = record { is = b.is ∙ ap (λ (d : RxDriverView). record d { looks = z.looks; heard = z.heard; notes_given = z.notes_given; notes_heard = z.notes_heard }) a.is; more = let l = a.more in let m = b.more in omega (arith, l, m) }

pub noted_trans : (u v w : DriverView) → IsNoted u v → IsNoted v w → IsNoted u w
noted_trans u v w a b = record {
  asked = b.asked ∙ a.asked;
  turns = b.turns ∙ a.turns;
  tx = pair_trans IsNearTx near_tx_trans u.tx v.tx w.tx a.tx b.tx;
  rx = pair_trans IsNearRx near_rx_trans u.rx v.rx w.rx a.rx b.rx;
  is = b.is ∙ ap (λ (x : DriverView). record x { calls = w.calls; masks = w.masks; tx = w.tx; rx = w.rx }) a.is;
}

-- ------------------------------------------------------------ the command

module _ (port : ℕ) (guest : GuestView) (sent : DriverView) (worked : Bool) (rs rs' : List GuestView) (c : Commanded port guest sent worked rs rs') (rest : Rests guest) (ports : AreAtPorts rs) (all : AllByRecursion (HasAll (length rs)) rs) (emptied : AreEmptied (world_of rs)) where
  asked_machine : c.asked.device.machine ≡ guest.device.machine
  asked_machine = ap (λ (d : DeviceView). d.machine) c.asks.device

  asked_input : c.asked.device.input ≡ guest.device.input
  asked_input = ap (λ (d : DeviceView). d.input) c.asks.device

  -- the guest once its device was told of the command
  stands : StandsTogether guest.driver c.asked.device
  stands = record {
    driver = c.keep.driver;
    device = c.asked_keeps;
    caught_up = record { none = rest.caught_up.none; same = rest.caught_up.same ∙ sym (regs_served sent guest.device c.asked.driver c.asked.device c.asks) };
    trusted = subst IsTrusted (sym asked_machine) rest.trusted;
    through = subst (λ (m : MachineView). Pairwise IsThrough guest.driver.tx (tx_of m.active)) (sym asked_machine) rest.through_;
  }

  asked_self : IsOneDevice guest.device c.asked.device
  asked_self = record { port = ap (λ (d : DeviceView). d.port) c.asks.device; table = ap (λ (d : DeviceView). d.table) c.asks.device; key = ap (λ (d : DeviceView). d.key) c.asks.device; mac = ap (λ (m : MachineView). m.mac) asked_machine }

  pub self : IsOneDevice guest.device c.device
  self = one_device guest.device c.asked.device c.device asked_self (turn_self worked c.asked.device c.device c.once)

  pub keeps : DeviceKeeps c.device
  keeps = c.device_keeps

  told_self : IsOneDevice c.device c.told.device
  told_self = record { port = ap (λ (d : DeviceView). d.port) c.answers.device; table = ap (λ (d : DeviceView). d.table) c.answers.device; key = ap (λ (d : DeviceView). d.key) c.answers.device; mac = ap (λ (d : DeviceView). d.machine.mac) c.answers.device }

  pub stepped : Stepped rs port guest c.device c.told
  stepped = record { at = c.at; self = self; told_self = told_self; input = ap (λ (d : DeviceView). d.input) c.answers.device; out = ap (λ (d : DeviceView). d.out) c.answers.device; was = c.keep.device; keeps = keeps }

  pub near_after : AreNear (set rs port c.told) c.mid
  near_after = linking.near_after rs c.mid port guest c.device c.told stepped ports all c.links

  pub ports_after : AreAtPorts (set rs port c.told)
  ports_after = linking.ports_after rs c.mid port guest c.device c.told stepped ports all c.links

  -- the guest after notes of links
  pub here_near : IsNearGuest c.told c.here
  here_near =
      let p = pair_from IsNearGuest (set rs port c.told) c.mid port c.told near_after (linking.told_at rs c.mid port guest c.device c.told stepped ports all c.links) in
      subst (IsNearGuest c.told) (some_same (slice_get c.mid port) p.0 c.here p.1 c.here_at) p.2

  pub here_noted : IsNoted sent c.here.driver
  here_noted = subst (IsNoted sent) (sym here_near.driver) (noted_trans sent c.asked.driver c.told.driver (regs_noted sent guest.device c.asked.driver c.asked.device c.asks) (regs_noted c.asked.driver c.device c.told.driver c.told.device c.answers))

  none : c.driver.calls.asked ≡ None
  none = ap (λ (x : Calls). x.asked) c.takes.calls

  pub served : c.here.device.calls.served ≡ c.device.calls.served
  served = ap (λ (d : DeviceView). d.calls.served) here_near.is ∙ regs_served c.asked.driver c.device c.told.driver c.told.device c.answers

  pub caught_up : AreCaughtUp c.driver c.device
  caught_up = let h = regs_caught_up c.driver c.here.device c.passed.mid.driver c.passed.mid.device c.passed.regs none in record { none = h.none; same = h.same ∙ served }

  abbrev pub links : (ls : List LinkOutView) × Pairwise (IsLinkOf rs port) ls guest.device.input
  links = linking.links rs c.mid port guest c.device c.told stepped ports all c.links

  -- what the laws of commands ask
  pub answers_between : AnswersBetween guest.driver sent c.driver links.0 worked c.asked.device c.device
  answers_between = record {
    stands = stands;
    bare = subst (Pairwise IsBare links.0) (sym asked_input) (links_bare rs port guest ports c.at links.0 links.1 emptied);
    once = c.once;
    pushed = linking.pushed rs c.mid port guest c.device c.told stepped ports all c.links;
    told = c.here.driver;
    noted = here_noted;
    takes = c.takes;
    plan = c.takes.same.1;
    caught_up = caught_up;
    driver = c.driver_keeps;
    device = keeps;
  }
