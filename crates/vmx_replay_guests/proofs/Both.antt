-- Notes both ways between the ends of all queues.
use Rattle.std.proofs.Common.{◌≡◌, ℕ, List, [], ◌∷◌, map, refl, sym, ap, ◌∙◌, subst, Some, None, Option}
use Rattle.vmx_ends.specs.Transmit.{TxDriverView, TxDeviceView}
use Rattle.vmx_ends.specs.Receive.{RxDriverView, RxDeviceView}
use Rattle.vmx_machine_state.specs.Views.{ActiveView, MachineView}
use Rattle.vmx_model.specs.Bags.{Pairwise}
use Rattle.vmx_device_looks.specs.Looks.{with_tx, with_rx}
use Rattle.vmx_device_laws.specs.Views.{DeviceView}
use Rattle.vmx_device_laws.specs.Pairs.{tx_of, rx_of}
use Rattle.vmx_driver_steps.specs.Driver.{DriverView}
use Rattle.vmx_actor_laws.specs.Joint.{AreOfItsQueues}
use Rattle.vmx_note_laws.specs.Queues.{AreOneTx, IsToldTx, PassesTx, AreOneRx, IsBehindRx, IsToldRx, PassesRx}
use Rattle.vmx_note_laws.proofs.Each.{each_passes}
use Rattle.vmx_note_laws.proofs.Queues.{passes_told_tx, passes_told_rx}
use Rattle.vmx_replay_guests.specs.Passing.{AllTxPassed, AllRxPassed, HoldsItsQueues, AreToldTx, AreToldRx, AreBehindRx, QueuesPassed, QueuesPassedBy}

-- the same keys in the same order are pairs
module _ {D E : Type 0} (key : D → List ℕ) (key' : E → List ℕ) where
  pub pairs_by_key : (ds : List D) (es : List E) → map key' es ≡ map key ds → Pairwise (λ (d : D) (e : E). key d ≡ key' e) ds es
  pairs_by_key [] [] h = tt
  pairs_by_key [] (e ∷ es) h = absurd (cc h)
  pairs_by_key (d ∷ ds) [] h = absurd (cc h)
  pairs_by_key (d ∷ ds) (e ∷ es) h = let here : key' e ≡ key d = cc h in let rest : map key' es ≡ map key ds = cc h in (sym here, pairs_by_key ds es rest)

pub tx_pairs : (v : DriverView) (a : ActiveView) → AreOfItsQueues v a.ends → Pairwise AreOneTx v.tx a.ends.tx
tx_pairs v a h = pairs_by_key (λ (d : TxDriverView). d.key) (λ (e : TxDeviceView). e.key) v.tx a.ends.tx h.tx

pub rx_pairs : (v : DriverView) (a : ActiveView) → AreOfItsQueues v a.ends → Pairwise AreOneRx v.rx a.ends.rx
rx_pairs v a h = pairs_by_key (λ (d : RxDriverView). d.key) (λ (e : RxDeviceView). e.key) v.rx a.ends.rx h.rx

-- ends of the other side stay
rx_beside : (vs : List TxDeviceView) (o : Option ActiveView) (m : MachineView) → rx_of (with_tx vs (record m { active = o })).active ≡ rx_of o
rx_beside vs None m = refl
rx_beside vs (Some a) m = refl

tx_beside : (vs : List RxDeviceView) (o : Option ActiveView) (m : MachineView) → tx_of (with_rx vs (record m { active = o })).active ≡ tx_of o
tx_beside vs None m = refl
tx_beside vs (Some a) m = refl

pub tx_pairs_of : (v : DriverView) (d : DeviceView) (a : ActiveView) → d.machine.active ≡ Some a → HoldsItsQueues v d.machine.active → Pairwise AreOneTx v.tx (tx_of d.machine.active)
tx_pairs_of v d a act h = subst (λ (o : Option ActiveView). Pairwise AreOneTx v.tx (tx_of o)) (sym act) (tx_pairs v a (subst (HoldsItsQueues v) act h))

pub rx_pairs_of : (v : DriverView) (d : DeviceView) (a : ActiveView) → d.machine.active ≡ Some a → HoldsItsQueues v d.machine.active → Pairwise AreOneRx v.rx (rx_of d.machine.active)
rx_pairs_of v d a act h = subst (λ (o : Option ActiveView). Pairwise AreOneRx v.rx (rx_of o)) (sym act) (rx_pairs v a (subst (HoldsItsQueues v) act h))

module _ (v : DriverView) (d : DeviceView) (v1 : DriverView) (d1 : DeviceView) (p : AllTxPassed v d v1 d1) where
  pub rx_driver : v1.rx ≡ v.rx
  rx_driver = ap (λ (x : DriverView). x.rx) p.driver

  pub rx_device : rx_of d1.machine.active ≡ rx_of d.machine.active
  rx_device = ap (λ (x : DeviceView). rx_of x.machine.active) p.device ∙ rx_beside (tx_of d1.machine.active) d.machine.active d.machine

  pub still_pairs : Pairwise AreOneRx v.rx (rx_of d.machine.active) → Pairwise AreOneRx v1.rx (rx_of d1.machine.active)
  still_pairs h = subst (λ (x : List RxDriverView × List RxDeviceView). Pairwise AreOneRx x.0 x.1) (λ i. (sym rx_driver i, sym rx_device i)) h

  module _ (v2 : DriverView) (d2 : DeviceView) (r : AllRxPassed v1 d1 v2 d2) where
    pub tx_driver : v2.tx ≡ v1.tx
    tx_driver = ap (λ (x : DriverView). x.tx) r.driver

    pub tx_device : tx_of d2.machine.active ≡ tx_of d1.machine.active
    tx_device = ap (λ (x : DeviceView). tx_of x.machine.active) r.device ∙ tx_beside (rx_of d2.machine.active) d1.machine.active d1.machine

    pub told_tx : Pairwise AreOneTx v.tx (tx_of d.machine.active) → AreToldTx v2 d2
    told_tx h = subst (λ (x : List TxDriverView × List TxDeviceView). Pairwise IsToldTx x.0 x.1) (λ i. (sym tx_driver i, sym tx_device i))
        (each_passes AreOneTx IsToldTx PassesTx passes_told_tx v.tx v1.tx (tx_of d.machine.active) (tx_of d1.machine.active) h p.tx)

    pub told_rx : AreBehindRx v d → AreToldRx v2 d2
    told_rx h = each_passes IsBehindRx IsToldRx PassesRx passes_told_rx v1.rx v2.rx (rx_of d1.machine.active) (rx_of d2.machine.active)
        (subst (λ (x : List RxDriverView × List RxDeviceView). Pairwise IsBehindRx x.0 x.1) (λ i. (sym rx_driver i, sym rx_device i)) h) r.rx

    pub queues_passed : (a : ActiveView) → d.machine.active ≡ Some a → Pairwise AreOneTx v.tx (tx_of d.machine.active) → QueuesPassed v d v2 d2
    queues_passed a act h = subst (λ (o : Option ActiveView). QueuesPassedBy o v d v2 d2) (sym act) (record { mid_v = v1; mid_d = d1; tx = p; rx = r }, told_tx h, told_rx)

pub none_passed : (v : DriverView) (d : DeviceView) → d.machine.active ≡ None → QueuesPassed v d v d
none_passed v d act = subst (λ (o : Option ActiveView). QueuesPassedBy o v d v d) (sym act) (refl, refl)
