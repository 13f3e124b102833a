-- Notes of a guest's registers and queues move nothing in the world; they tell what the step before them did, and what stands after them.
use Rattle.std.proofs.Common.{◌≡◌, ℕ, ◌<◌, List, [], ◌∷◌, append-nil, length, map, refl, sym, ap, ◌∙◌, subst, arith, Some, None, Option}
use Rattle.std.specs.Prelude.{is_some}
use Rattle.std.specs.Option.{option_map}
use Rattle.vmx_ends.specs.Transmit.{TxDriverView, TxDeviceView}
use Rattle.vmx_ends.specs.Receive.{RxDriverView, RxDeviceView}
use Rattle.vmx_regs.specs.declared.known.Calls.{Calls}
use Rattle.vmx_machine_state.specs.Views.{ActiveView, MachineView, setup_of}
use Rattle.vmx_model.specs.Bags.{Pairwise}
use Rattle.vmx_device_looks.specs.Looks.{with_tx, with_rx}
use Rattle.vmx_device_laws.specs.Views.{DeviceView}
use Rattle.vmx_device_laws.specs.Pairs.{tx_of, rx_of}
use Rattle.vmx_driver_steps.specs.declared.progress.Stage.{Stage}
use Rattle.vmx_driver_steps.specs.declared.progress.Stage.TheVariants.{Fresh, Active, Stopping, Held, Quiet, Ended}
use Rattle.vmx_driver_steps.specs.Progress.{in_hand, count_in}
use Rattle.vmx_driver_steps.specs.Driver.{DriverView}
use Rattle.vmx_driver_steps.specs.Near.{IsNearTx, IsNearRx}
use Rattle.vmx_actor_laws.specs.Joint.{AreCaughtUp}
use Rattle.vmx_note_laws.specs.Each.{EachPasses}
use Rattle.vmx_note_laws.specs.Queues.{IsToldTx, IsToldRx, IsBehindRx, PassesTx, PassesRx, GoesOnRxDriver, GoesOnRxDevice}
use Rattle.vmx_note_laws.proofs.Each.{each_goes_on}
use Rattle.vmx_note_laws.proofs.Queues.{goes_on_rx}
use Rattle.vmx_note_laws.proofs.Registers.{passes_same}
use Rattle.vmx_trusted_turns.specs.Trusted.{IsTrusted}
use Rattle.vmx_replay_worlds.specs.Guests.{GuestView, seat_of}
use Rattle.vmx_replay_worlds.specs.Worlds.{out_part, in_part}
use Rattle.vmx_replay_worlds.specs.Moves.{IsSameGuest}
use Rattle.vmx_replay_steps.specs.Between.{IsThrough, WasSent, WasPosted, WasDelivered, IsNoted}
use Rattle.vmx_replay_steps.specs.Turns.{StandsTogether}
use Rattle.vmx_replay_steps.proofs.Polled.{no_items, none_in}
use Rattle.vmx_replay_steps.proofs.Passed.{was_sent, was_posted, was_delivered, tx_driver, rx_driver, tx_device, rx_device}
use Rattle.vmx_replay_steps.proofs.Stands.{near_tx, near_rx, through_on, trusted_on}
use Rattle.vmx_replay_guests.specs.Passing.{RegsPassed, AllPassed, AreBehindRx, AreToldTx, AreToldRx, QueuesPassed, QueuesPassedBy}
use Rattle.vmx_replay_calls.specs.Resting.{guest_of, Rests, HasNone, MayTurn}
use Rattle.vmx_replay_settled.specs.Settled.{BothKeep}
use Rattle.vmx_replay_calls.proofs.Pairs.{pair_refl}

pub same_trans : (r m s : GuestView) → IsSameGuest r m → IsSameGuest m s → IsSameGuest r s
same_trans r m s a b = record { seat = b.seat ∙ a.seat; links = record { out = b.links.out ∙ a.links.out; input = b.links.input ∙ a.links.input } }

-- ------------------------------------------------------------ what a driver heard

near_tx_refl : (d : TxDriverView) → IsNearTx d d
near_tx_refl d = record { is = refl; more = omega arith }

near_rx_refl : (d : RxDriverView) → IsNearRx d d
near_rx_refl d = record { is = refl; more = omega arith }

tx_same : (v w : DriverView) → w.tx ≡ v.tx → Pairwise IsNearTx v.tx w.tx
tx_same v w e = subst (Pairwise IsNearTx v.tx) (sym e) (pair_refl IsNearTx near_tx_refl v.tx)

rx_same : (v w : DriverView) → w.rx ≡ v.rx → Pairwise IsNearRx v.rx w.rx
rx_same v w e = subst (Pairwise IsNearRx v.rx) (sym e) (pair_refl IsNearRx near_rx_refl v.rx)

-- ------------------------------------------------------------ receive ends that were told all, and went on

goes_refl : (d : RxDriverView) → GoesOnRxDriver d d
goes_refl d = record { key = refl; received = ([], append-nil d.received) }

device_refl : (e : RxDeviceView) → GoesOnRxDevice e e
device_refl e = record { key = refl; heard = refl }

pub behind_driver : (ds ds' : List RxDriverView) (es : List RxDeviceView) → Pairwise IsToldRx ds es → Pairwise GoesOnRxDriver ds ds' → Pairwise IsBehindRx ds' es
behind_driver ds ds' es told on = each_goes_on IsToldRx IsBehindRx GoesOnRxDriver GoesOnRxDevice goes_on_rx ds ds' es es told on (pair_refl GoesOnRxDevice device_refl es)

pub behind_device : (ds : List RxDriverView) (es es' : List RxDeviceView) → Pairwise IsToldRx ds es → Pairwise GoesOnRxDevice es es' → Pairwise IsBehindRx ds es'
behind_device ds es es' told on = each_goes_on IsToldRx IsBehindRx GoesOnRxDriver GoesOnRxDevice goes_on_rx ds ds es es' told (pair_refl GoesOnRxDriver goes_refl ds) on

pub behind_same : (ds : List RxDriverView) (es : List RxDeviceView) → Pairwise IsToldRx ds es → Pairwise IsBehindRx ds es
behind_same ds es told = behind_driver ds ds es told (pair_refl GoesOnRxDriver goes_refl ds)

-- ------------------------------------------------------------ registers

module _ (v : DriverView) (d : DeviceView) (v' : DriverView) (d' : DeviceView) (p : RegsPassed v d v' d') where
  pub regs_same : IsSameGuest (guest_of v d) (guest_of v' d')
  regs_same = record {
    seat = λ i. seat_of (guest_of (p.driver i) (p.device i));
    links = record { out = ap (λ (x : DeviceView). map out_part x.out) p.device; input = ap (λ (x : DeviceView). map in_part x.input) p.device };
  }

  pub regs_asked : v'.calls.asked ≡ v.calls.asked
  regs_asked = ap (λ (c : Calls). c.asked) p.regs.driver

  pub regs_turns : v'.calls.turns ≡ v.calls.turns
  regs_turns = ap (λ (c : Calls). c.turns) p.regs.driver

  pub regs_served : d'.calls.served ≡ d.calls.served
  regs_served = ap (λ (c : Calls). c.served) p.regs.device

  pub regs_serving : d'.calls.serving ≡ d.calls.serving
  regs_serving = ap (λ (c : Calls). c.serving) p.regs.device

  pub regs_noted : IsNoted v v'
  regs_noted = record {
    asked = regs_asked;
    turns = regs_turns;
    tx = tx_same v v' (ap (λ (x : DriverView). x.tx) p.driver);
    rx = rx_same v v' (ap (λ (x : DriverView). x.rx) p.driver);
    is = p.driver ∙ (λ i. record v { calls = v'.calls; masks = sym (ap (λ (x : DriverView). x.masks) p.driver) i; tx = sym (ap (λ (x : DriverView). x.tx) p.driver) i; rx = sym (ap (λ (x : DriverView). x.rx) p.driver) i });
  }

  -- with no command outstanding both sides knew the same turns before
  pub regs_caught_up : v.calls.asked ≡ None → AreCaughtUp v d
  regs_caught_up none = record { none = none; same = (passes_same v.calls v'.calls d.calls d'.calls p.regs none).0 }

-- ------------------------------------------------------------ queues

-- notes of all queues went both ways, also of none
pub record QueueNotes (v : DriverView) (d : DeviceView) (v' : DriverView) (d' : DeviceView) : Type 0 where
  pub tx : EachPasses PassesTx v.tx (tx_of d.machine.active) v'.tx (tx_of d'.machine.active)
  pub rx : EachPasses PassesRx v.rx (rx_of d.machine.active) v'.rx (rx_of d'.machine.active)
  pub driver : v' ≡ record v { tx = v'.tx; rx = v'.rx }
  pub device : d' ≡ record d { machine = d'.machine }
  pub active : is_some d'.machine.active ≡ is_some d.machine.active
  pub setup : setup_of d'.machine ≡ setup_of d.machine
  pub mac : d'.machine.mac ≡ d.machine.mac
  pub tx_stopped : d'.machine.tx_stopped ≡ d.machine.tx_stopped
  pub rx_stopped : d'.machine.rx_stopped ≡ d.machine.rx_stopped
  pub told_tx : AreToldTx v' d'
  pub told_rx : AreBehindRx v d → AreToldRx v' d'

module _ (vs : List TxDeviceView) where
  tx_active : (o : Option ActiveView) → is_some (option_map (λ (a : ActiveView). record a { ends = record a.ends { tx = vs } }) o) ≡ is_some o
  tx_active None = refl
  tx_active (Some a) = refl

  tx_setup : (o : Option ActiveView) → option_map (λ (a : ActiveView). a.setup) (option_map (λ (a : ActiveView). record a { ends = record a.ends { tx = vs } }) o) ≡ option_map (λ (a : ActiveView). a.setup) o
  tx_setup None = refl
  tx_setup (Some a) = refl

  tx_leaves_rx : (o : Option ActiveView) → rx_of (option_map (λ (a : ActiveView). record a { ends = record a.ends { tx = vs } }) o) ≡ rx_of o
  tx_leaves_rx None = refl
  tx_leaves_rx (Some a) = refl

module _ (vs : List RxDeviceView) where
  rx_active : (o : Option ActiveView) → is_some (option_map (λ (a : ActiveView). record a { ends = record a.ends { rx = vs } }) o) ≡ is_some o
  rx_active None = refl
  rx_active (Some a) = refl

  rx_setup : (o : Option ActiveView) → option_map (λ (a : ActiveView). a.setup) (option_map (λ (a : ActiveView). record a { ends = record a.ends { rx = vs } }) o) ≡ option_map (λ (a : ActiveView). a.setup) o
  rx_setup None = refl
  rx_setup (Some a) = refl

  rx_leaves_tx : (o : Option ActiveView) → tx_of (option_map (λ (a : ActiveView). record a { ends = record a.ends { rx = vs } }) o) ≡ tx_of o
  rx_leaves_tx None = refl
  rx_leaves_tx (Some a) = refl

module _ (v : DriverView) (d : DeviceView) (v' : DriverView) (d' : DeviceView) where
  -- notes of queues of an active device
  module _ (p : AllPassed v d v' d') where
    abbrev tx' : List TxDeviceView
    tx' = tx_of p.mid_d.machine.active

    abbrev rx' : List RxDeviceView
    rx' = rx_of d'.machine.active

    mid_machine : p.mid_d.machine ≡ with_tx tx' d.machine
    mid_machine = ap (λ (x : DeviceView). x.machine) p.tx.device

    machine : d'.machine ≡ with_rx rx' p.mid_d.machine
    machine = ap (λ (x : DeviceView). x.machine) p.rx.device

    mid_rx : rx_of p.mid_d.machine.active ≡ rx_of d.machine.active
    mid_rx = ap (λ (m : MachineView). rx_of m.active) mid_machine ∙ tx_leaves_rx tx' d.machine.active

    last_tx : tx_of d'.machine.active ≡ tx'
    last_tx = ap (λ (m : MachineView). tx_of m.active) machine ∙ rx_leaves_tx rx' p.mid_d.machine.active

    driver_tx : v'.tx ≡ p.mid_v.tx
    driver_tx = ap (λ (x : DriverView). x.tx) p.rx.driver

    driver_rx : p.mid_v.rx ≡ v.rx
    driver_rx = ap (λ (x : DriverView). x.rx) p.tx.driver

    all_notes : AreToldTx v' d' → (AreBehindRx v d → AreToldRx v' d') → QueueNotes v d v' d'
    all_notes told_tx told_rx = record {
      tx = subst (λ (x : List TxDriverView × List TxDeviceView). EachPasses PassesTx v.tx (tx_of d.machine.active) x.0 x.1) (λ i. (sym driver_tx i, sym last_tx i)) p.tx.tx;
      rx = subst (λ (x : List RxDriverView × List RxDeviceView). EachPasses PassesRx x.0 x.1 v'.rx (rx_of d'.machine.active)) (λ i. (driver_rx i, mid_rx i)) p.rx.rx;
      driver = p.rx.driver ∙ (λ i. record (p.tx.driver i) { rx = v'.rx }) ∙ ap (λ (ds : List TxDriverView). record v { tx = ds; rx = v'.rx }) (sym driver_tx);
      device = p.rx.device ∙ (λ i. record (p.tx.device i) { machine = with_rx rx' p.mid_d.machine }) ∙ ap (λ (m : MachineView). record d { machine = m }) (sym machine);
      active = ap (λ (m : MachineView). is_some m.active) machine ∙ rx_active rx' p.mid_d.machine.active ∙ ap (λ (m : MachineView). is_some m.active) mid_machine ∙ tx_active tx' d.machine.active;
      setup = ap setup_of machine ∙ rx_setup rx' p.mid_d.machine.active ∙ ap setup_of mid_machine ∙ tx_setup tx' d.machine.active;
      mac = ap (λ (m : MachineView). m.mac) machine ∙ ap (λ (m : MachineView). m.mac) mid_machine;
      tx_stopped = ap (λ (m : MachineView). m.tx_stopped) machine ∙ ap (λ (m : MachineView). m.tx_stopped) mid_machine;
      rx_stopped = ap (λ (m : MachineView). m.rx_stopped) machine ∙ ap (λ (m : MachineView). m.rx_stopped) mid_machine;
      told_tx = told_tx;
      told_rx = told_rx;
    }

    all_same : IsSameGuest (guest_of v d) (guest_of v' d')
    all_same =
        same_trans (guest_of v d) (guest_of p.mid_v d) (guest_of v' d') (tx_driver (guest_of v d) p.mid_v (tx_of d.machine.active) tx' p.tx.tx p.tx.driver)
        (same_trans (guest_of p.mid_v d) (guest_of p.mid_v p.mid_d) (guest_of v' d') (tx_device (guest_of p.mid_v d) p.mid_d v.tx p.mid_v.tx p.tx.tx p.tx.device)
        (same_trans (guest_of p.mid_v p.mid_d) (guest_of v' p.mid_d) (guest_of v' d') (rx_driver (guest_of p.mid_v p.mid_d) v' (rx_of p.mid_d.machine.active) rx' p.rx.rx p.rx.driver)
        (rx_device (guest_of v' p.mid_d) d' p.mid_v.rx v'.rx p.rx.rx p.rx.device)))

  -- each side by itself
  pub device_same : QueuesPassed v d v' d' → (x : DriverView) → IsSameGuest (guest_of x d) (guest_of x d')
  device_same q x = by_device d.machine.active q
    where
      by_device : (o : Option ActiveView) → QueuesPassedBy o v d v' d' → IsSameGuest (guest_of x d) (guest_of x d')
      by_device None h = record { seat = ap (λ (y : DeviceView). seat_of (guest_of x y)) h.1; links = record { out = ap (λ (y : DeviceView). map out_part y.out) h.1; input = ap (λ (y : DeviceView). map in_part y.input) h.1 } }
      by_device (Some a) h = same_trans (guest_of x d) (guest_of x h.0.mid_d) (guest_of x d') (tx_device (guest_of x d) h.0.mid_d v.tx h.0.mid_v.tx h.0.tx.tx h.0.tx.device) (rx_device (guest_of x h.0.mid_d) d' h.0.mid_v.rx v'.rx h.0.rx.rx h.0.rx.device)

  pub driver_same : QueuesPassed v d v' d' → (x : DeviceView) → IsSameGuest (guest_of v x) (guest_of v' x)
  driver_same q x = by_driver d.machine.active q
    where
      by_driver : (o : Option ActiveView) → QueuesPassedBy o v d v' d' → IsSameGuest (guest_of v x) (guest_of v' x)
      by_driver None h = record { seat = ap (λ (y : DriverView). seat_of (guest_of y x)) h.0; links = record { out = refl; input = refl } }
      by_driver (Some a) h = same_trans (guest_of v x) (guest_of h.0.mid_v x) (guest_of v' x) (tx_driver (guest_of v x) h.0.mid_v (tx_of d.machine.active) (tx_of h.0.mid_d.machine.active) h.0.tx.tx h.0.tx.driver)
          (rx_driver (guest_of h.0.mid_v x) v' (rx_of h.0.mid_d.machine.active) (rx_of d'.machine.active) h.0.rx.rx h.0.rx.driver)

  -- notes of no queue
  module _ (same_v : v' ≡ v) (same_d : d' ≡ d) (none : d.machine.active ≡ None) (no_tx : v.tx ≡ []) (no_rx : v.rx ≡ []) where
    none' : d'.machine.active ≡ None
    none' = ap (λ (x : DeviceView). x.machine.active) same_d ∙ none

    no_tx' : v'.tx ≡ []
    no_tx' = ap (λ (x : DriverView). x.tx) same_v ∙ no_tx

    no_rx' : v'.rx ≡ []
    no_rx' = ap (λ (x : DriverView). x.rx) same_v ∙ no_rx

    none_notes : QueueNotes v d v' d'
    none_notes = record {
      tx = subst (λ (x : List TxDriverView × List TxDeviceView × List TxDriverView × List TxDeviceView). EachPasses PassesTx x.0 x.1 x.2 x.3) (λ i. (sym no_tx i, tx_of (sym none i), sym no_tx' i, tx_of (sym none' i))) tt;
      rx = subst (λ (x : List RxDriverView × List RxDeviceView × List RxDriverView × List RxDeviceView). EachPasses PassesRx x.0 x.1 x.2 x.3) (λ i. (sym no_rx i, rx_of (sym none i), sym no_rx' i, rx_of (sym none' i))) tt;
      driver = same_v ∙ (λ i. record v { tx = sym (ap (λ (x : DriverView). x.tx) same_v) i; rx = sym (ap (λ (x : DriverView). x.rx) same_v) i });
      device = same_d ∙ ap (λ (m : MachineView). record d { machine = m }) (sym (ap (λ (x : DeviceView). x.machine) same_d));
      active = ap (λ (x : DeviceView). is_some x.machine.active) same_d;
      setup = ap (λ (x : DeviceView). setup_of x.machine) same_d;
      mac = ap (λ (x : DeviceView). x.machine.mac) same_d;
      tx_stopped = ap (λ (x : DeviceView). x.machine.tx_stopped) same_d;
      rx_stopped = ap (λ (x : DeviceView). x.machine.rx_stopped) same_d;
      told_tx = subst (λ (x : List TxDriverView × List TxDeviceView). Pairwise IsToldTx x.0 x.1) (λ i. (sym no_tx' i, tx_of (sym none' i))) tt;
      told_rx = λ behind. subst (λ (x : List RxDriverView × List RxDeviceView). Pairwise IsToldRx x.0 x.1) (λ i. (sym no_rx' i, rx_of (sym none' i))) tt;
    }

  by_active : (o : Option ActiveView) → d.machine.active ≡ o → QueuesPassedBy o v d v' d' → HasNone v d → QueueNotes v d v' d' × IsSameGuest (guest_of v d) (guest_of v' d')
  by_active None e q none = (
    none_notes q.0 q.1 e (none e).0 (none e).1,
    record {
      seat = λ i. seat_of (guest_of (q.0 i) (q.1 i));
      links = record { out = ap (λ (x : DeviceView). map out_part x.out) q.1; input = ap (λ (x : DeviceView). map in_part x.input) q.1 };
    },
  )
  by_active (Some a) e q none = (all_notes q.0 q.1 q.2, all_same q.0)

  pub queue_notes : QueuesPassed v d v' d' → HasNone v d → QueueNotes v d v' d'
  queue_notes q none = (by_active d.machine.active refl q none).0

  pub queues_same : QueuesPassed v d v' d' → HasNone v d → IsSameGuest (guest_of v d) (guest_of v' d')
  queues_same q none = (by_active d.machine.active refl q none).1

  module _ (q : QueueNotes v d v' d') where
    pub queue_sent : Pairwise WasSent v.tx (tx_of d.machine.active)
    queue_sent = was_sent v.tx (tx_of d.machine.active) v'.tx (tx_of d'.machine.active) q.tx

    pub queue_posted : Pairwise WasPosted v.rx (rx_of d.machine.active)
    queue_posted = was_posted v.rx (rx_of d.machine.active) v'.rx (rx_of d'.machine.active) q.rx

    pub queue_delivered : Pairwise WasDelivered v.rx (rx_of d.machine.active)
    queue_delivered = was_delivered v.rx (rx_of d.machine.active) v'.rx (rx_of d'.machine.active) q.rx

    pub queue_through : Pairwise IsThrough v.tx (tx_of d.machine.active) → Pairwise IsThrough v'.tx (tx_of d'.machine.active)
    queue_through t = through_on v.tx (tx_of d.machine.active) v'.tx (tx_of d'.machine.active) q.tx t

    pub queue_trusted : IsTrusted d.machine → IsTrusted d'.machine
    queue_trusted t = trusted_on d.machine d'.machine v.tx v'.tx v.rx v'.rx q.tx q.rx q.tx_stopped q.rx_stopped t

    pub queue_calls : v'.calls ≡ v.calls
    queue_calls = ap (λ (x : DriverView). x.calls) q.driver

    pub queue_served : d'.calls ≡ d.calls
    queue_served = ap (λ (x : DeviceView). x.calls) q.device

    pub queue_noted : IsNoted v v'
    queue_noted = record {
      asked = ap (λ (c : Calls). c.asked) queue_calls;
      turns = ap (λ (c : Calls). c.turns) queue_calls;
      tx = near_tx v.tx (tx_of d.machine.active) v'.tx (tx_of d'.machine.active) q.tx;
      rx = near_rx v.rx (rx_of d.machine.active) v'.rx (rx_of d'.machine.active) q.rx;
      is = q.driver ∙ (λ i. record v { calls = sym queue_calls i; masks = sym (ap (λ (x : DriverView). x.masks) q.driver) i; tx = v'.tx; rx = v'.rx });
    }

-- ------------------------------------------------------------ nothing in hand

-- a driver that stands with an idle device has no queues in hand
no_hand : (g : Stage) (many : ℕ) → 0 < many → count_in g many ≡ 0 → in_hand g ≡ 0
no_hand Fresh many low e = refl
no_hand Active many low e = absurd (omega (arith, low, e))
no_hand (Stopping t) many low e = absurd (omega (arith, low, e))
no_hand (Held t) many low e = absurd (omega (arith, low, e))
no_hand Quiet many low e = refl
no_hand Ended many low e = refl

no_pairs : (ds : List TxDriverView) → Pairwise IsThrough ds [] → ds ≡ []
no_pairs [] h = refl
no_pairs (d ∷ ds) h = absurd h

pub idle_hand : (v : DriverView) (d : DeviceView) → StandsTogether v d → d.machine.active ≡ None → (v.tx ≡ []) × (v.rx ≡ []) × (in_hand v.at.stage ≡ 0)
idle_hand v d s none =
    let tx : v.tx ≡ [] = no_pairs v.tx (subst (λ (o : Option ActiveView). Pairwise IsThrough v.tx (tx_of o)) none s.through) in
    let low = v.plan.setup.tx_queues_low in
    let free : in_hand v.at.stage ≡ 0 = no_hand v.at.stage v.plan.setup.tx_queues (omega (arith, low)) (sym s.driver.tx_count ∙ ap length tx) in
    (tx, no_items v.rx (s.driver.rx_count ∙ none_in v.at.stage v.plan.setup.rx_queues free), free)

-- ------------------------------------------------------------ a guest that rests

pub stands_of : (r : GuestView) → Rests r → BothKeep r.driver r.device → StandsTogether r.driver r.device
stands_of r h k = record { driver = k.driver; device = k.device; caught_up = h.caught_up; trusted = h.trusted; through = h.through_ }

pub may_turn : (r : GuestView) → Rests r → BothKeep r.driver r.device → MayTurn r
may_turn r h k = record { caught_up = h.caught_up; told_rx = h.told_rx; none = λ e. (let i = idle_hand r.driver r.device (stands_of r h k) e in (i.0, i.1)) }
