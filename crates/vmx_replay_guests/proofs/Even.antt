-- Ends that were even are even after notes both ways.
use Rattle.std.proofs.Common.{◌≡◌, suc, Bool, true, false, true≢false, List, [], ◌∷◌, length, refl, sym, ap, ◌∙◌, subst, Some, None, Option}
use Rattle.std.specs.Prelude.{option_map}
use Rattle.std.specs.List.{AllByRecursion}
use Rattle.vmx_ends.specs.Transmit.{TxDriverView, TxDeviceView}
use Rattle.vmx_ends.specs.Receive.{RxDriverView, RxDeviceView}
use Rattle.vmx_ends.specs.HandedEnds.{handed_of, all_of, is_whole_tx, is_whole_rx}
use Rattle.vmx_ends.specs.HandedLaws.{whole_tx, whole_rx, is_whole_tx_by, is_whole_rx_by}
use Rattle.vmx_device_state.specs.Deals.{IsWhole}
use Rattle.vmx_machine_state.specs.Views.{ActiveView, MachineView, ends_of}
use Rattle.vmx_device_looks.specs.Looks.{with_tx, with_rx}
use Rattle.vmx_device_laws.specs.Views.{DeviceView, AreWhole}
use Rattle.vmx_device_laws.specs.Pairs.{tx_of, rx_of}
use Rattle.vmx_device_laws.proofs.Lists.{and_both}
use Rattle.vmx_device_laws.proofs.Wholes.{both_true}
use Rattle.vmx_driver_steps.specs.Driver.{DriverView}
use Rattle.vmx_driver.specs.Stocked.{AreEven}
use Rattle.vmx_note_laws.specs.Each.{EachPasses}
use Rattle.vmx_note_laws.specs.Queues.{PassesTx, PassesRx}
use Rattle.vmx_replay_guests.specs.Passing.{AllTxPassed, AllRxPassed, QueuesPassed, QueuesPassedBy}

-- ------------------------------------------------------------ the driver's ends

even_tx : (ds ds' : List TxDriverView) (es es' : List TxDeviceView) → EachPasses PassesTx ds es ds' es' → AllByRecursion (λ (d : TxDriverView). d.notes_given ≡ d.notes_heard) ds → AllByRecursion (λ (d : TxDriverView). d.notes_given ≡ d.notes_heard) ds'
even_tx [] [] [] [] p h = tt
even_tx [] [] [] (y ∷ es') p h = absurd p
even_tx [] [] (e ∷ es) es' p h = absurd p
even_tx [] (x ∷ ds') [] es' p h = absurd p
even_tx [] (x ∷ ds') (e ∷ es) es' p h = absurd p
even_tx (d ∷ ds) [] [] es' p h = absurd p
even_tx (d ∷ ds) [] (e ∷ es) es' p h = absurd p
even_tx (d ∷ ds) (d' ∷ ds') [] es' p h = absurd p
even_tx (d ∷ ds) (d' ∷ ds') (e ∷ es) [] p h = absurd p
even_tx (d ∷ ds) (d' ∷ ds') (e ∷ es) (e' ∷ es') p h = (ap (λ (x : TxDriverView). x.notes_given) p.0.driver ∙ ap suc h.0 ∙ sym (ap (λ (x : TxDriverView). x.notes_heard) p.0.driver), even_tx ds ds' es es' p.1 h.1)

even_rx : (ds ds' : List RxDriverView) (es es' : List RxDeviceView) → EachPasses PassesRx ds es ds' es' → AllByRecursion (λ (d : RxDriverView). d.notes_given ≡ d.notes_heard) ds → AllByRecursion (λ (d : RxDriverView). d.notes_given ≡ d.notes_heard) ds'
even_rx [] [] [] [] p h = tt
even_rx [] [] [] (y ∷ es') p h = absurd p
even_rx [] [] (e ∷ es) es' p h = absurd p
even_rx [] (x ∷ ds') [] es' p h = absurd p
even_rx [] (x ∷ ds') (e ∷ es) es' p h = absurd p
even_rx (d ∷ ds) [] [] es' p h = absurd p
even_rx (d ∷ ds) [] (e ∷ es) es' p h = absurd p
even_rx (d ∷ ds) (d' ∷ ds') [] es' p h = absurd p
even_rx (d ∷ ds) (d' ∷ ds') (e ∷ es) [] p h = absurd p
even_rx (d ∷ ds) (d' ∷ ds') (e ∷ es) (e' ∷ es') p h = (ap (λ (x : RxDriverView). x.notes_given) p.0.driver ∙ ap suc h.0 ∙ sym (ap (λ (x : RxDriverView). x.notes_heard) p.0.driver), even_rx ds ds' es es' p.1 h.1)

-- ------------------------------------------------------------ the device's ends

whole_all_tx : (ds ds' : List TxDriverView) (es es' : List TxDeviceView) → EachPasses PassesTx ds es ds' es' → all_of is_whole_tx es ≡ true → all_of is_whole_tx es' ≡ true
whole_all_tx [] [] [] [] p h = refl
whole_all_tx [] [] [] (y ∷ es') p h = absurd p
whole_all_tx [] [] (e ∷ es) es' p h = absurd p
whole_all_tx [] (x ∷ ds') [] es' p h = absurd p
whole_all_tx [] (x ∷ ds') (e ∷ es) es' p h = absurd p
whole_all_tx (d ∷ ds) [] [] es' p h = absurd p
whole_all_tx (d ∷ ds) [] (e ∷ es) es' p h = absurd p
whole_all_tx (d ∷ ds) (d' ∷ ds') [] es' p h = absurd p
whole_all_tx (d ∷ ds) (d' ∷ ds') (e ∷ es) [] p h = absurd p
whole_all_tx (d ∷ ds) (d' ∷ ds') (e ∷ es) (e' ∷ es') p h =
    let both = and_both (is_whole_tx e) (all_of is_whole_tx es) h in let w = whole_tx e both.0 in let is = p.0.device in
    both_true (is_whole_tx e') (all_of is_whole_tx es')
    (is_whole_tx_by e' (ap (λ (x : TxDeviceView). x.completed) is ∙ w.0 ∙ sym (ap (λ (x : TxDeviceView). length x.taken) is), ap (λ (x : TxDeviceView). x.notes_given) is ∙ ap suc w.1 ∙ sym (ap (λ (x : TxDeviceView). x.notes_heard) is)))
    (whole_all_tx ds ds' es es' p.1 both.1)

whole_all_rx : (ds ds' : List RxDriverView) (es es' : List RxDeviceView) → EachPasses PassesRx ds es ds' es' → all_of is_whole_rx es ≡ true → all_of is_whole_rx es' ≡ true
whole_all_rx [] [] [] [] p h = refl
whole_all_rx [] [] [] (y ∷ es') p h = absurd p
whole_all_rx [] [] (e ∷ es) es' p h = absurd p
whole_all_rx [] (x ∷ ds') [] es' p h = absurd p
whole_all_rx [] (x ∷ ds') (e ∷ es) es' p h = absurd p
whole_all_rx (d ∷ ds) [] [] es' p h = absurd p
whole_all_rx (d ∷ ds) [] (e ∷ es) es' p h = absurd p
whole_all_rx (d ∷ ds) (d' ∷ ds') [] es' p h = absurd p
whole_all_rx (d ∷ ds) (d' ∷ ds') (e ∷ es) [] p h = absurd p
whole_all_rx (d ∷ ds) (d' ∷ ds') (e ∷ es) (e' ∷ es') p h =
    let both = and_both (is_whole_rx e) (all_of is_whole_rx es) h in let w = whole_rx e both.0 in let is = p.0.device in
    both_true (is_whole_rx e') (all_of is_whole_rx es')
    (is_whole_rx_by e' (ap (λ (x : RxDeviceView). x.notes_given) is ∙ ap suc w ∙ sym (ap (λ (x : RxDeviceView). x.notes_heard) is)))
    (whole_all_rx ds ds' es es' p.1 both.1)

-- an active machine with other ends is whole where they are
pub whole_with : (o : Option ActiveView) (m : MachineView) → IsWhole (option_map handed_of (ends_of (record m { active = o }))) → (all_of is_whole_tx (tx_of o) ≡ true) × (all_of is_whole_rx (rx_of o) ≡ true)
whole_with None m w = (refl, refl)
whole_with (Some a) m w = and_both (all_of is_whole_tx a.ends.tx) (all_of is_whole_rx a.ends.rx) w

with_tx_whole : (vs : List TxDeviceView) (o : Option ActiveView) (m : MachineView) → all_of is_whole_tx vs ≡ true → all_of is_whole_rx (rx_of o) ≡ true → IsWhole (option_map handed_of (ends_of (with_tx vs (record m { active = o }))))
with_tx_whole vs None m a b = tt
with_tx_whole vs (Some x) m a b = both_true (all_of is_whole_tx vs) (all_of is_whole_rx x.ends.rx) a b

with_rx_whole : (vs : List RxDeviceView) (o : Option ActiveView) (m : MachineView) → all_of is_whole_tx (tx_of o) ≡ true → all_of is_whole_rx vs ≡ true → IsWhole (option_map handed_of (ends_of (with_rx vs (record m { active = o }))))
with_rx_whole vs None m a b = tt
with_rx_whole vs (Some x) m a b = both_true (all_of is_whole_tx x.ends.tx) (all_of is_whole_rx vs) a b

whole_passed_tx : (v v' : DriverView) (d d' : DeviceView) → AllTxPassed v d v' d' → AreWhole d → AreWhole d'
whole_passed_tx v v' d d' p w =
    let both = whole_with d.machine.active d.machine w in
    subst AreWhole (sym p.device) (with_tx_whole (tx_of d'.machine.active) d.machine.active d.machine (whole_all_tx v.tx v'.tx (tx_of d.machine.active) (tx_of d'.machine.active) p.tx both.0) both.1)

whole_passed_rx : (v v' : DriverView) (d d' : DeviceView) → AllRxPassed v d v' d' → AreWhole d → AreWhole d'
whole_passed_rx v v' d d' p w =
    let both = whole_with d.machine.active d.machine w in
    subst AreWhole (sym p.device) (with_rx_whole (rx_of d'.machine.active) d.machine.active d.machine both.0 (whole_all_rx v.rx v'.rx (rx_of d.machine.active) (rx_of d'.machine.active) p.rx both.1))

even_passed_tx : (v v' : DriverView) (d d' : DeviceView) → AllTxPassed v d v' d' → AreEven v → AreEven v'
even_passed_tx v v' d d' p e = record {
  tx = even_tx v.tx v'.tx (tx_of d.machine.active) (tx_of d'.machine.active) p.tx e.tx;
  rx = subst (AllByRecursion (λ (x : RxDriverView). x.notes_given ≡ x.notes_heard)) (sym (ap (λ (x : DriverView). x.rx) p.driver)) e.rx;
}

even_passed_rx : (v v' : DriverView) (d d' : DeviceView) → AllRxPassed v d v' d' → AreEven v → AreEven v'
even_passed_rx v v' d d' p e = record {
  tx = subst (AllByRecursion (λ (x : TxDriverView). x.notes_given ≡ x.notes_heard)) (sym (ap (λ (x : DriverView). x.tx) p.driver)) e.tx;
  rx = even_rx v.rx v'.rx (rx_of d.machine.active) (rx_of d'.machine.active) p.rx e.rx;
}

-- ------------------------------------------------------------ all of them

pub stays_even : (v v' : DriverView) (d d' : DeviceView) → QueuesPassed v d v' d' → AreEven v → AreEven v'
stays_even v v' d d' p e = by_active d.machine.active p
  where
    by_active : (o : Option ActiveView) → QueuesPassedBy o v d v' d' → AreEven v'
    by_active None q = subst AreEven (sym q.0) e
    by_active (Some a) q = even_passed_rx q.0.mid_v v' q.0.mid_d d' q.0.rx (even_passed_tx v q.0.mid_v d q.0.mid_d q.0.tx e)

pub stays_whole : (v v' : DriverView) (d d' : DeviceView) → QueuesPassed v d v' d' → AreWhole d → AreWhole d'
stays_whole v v' d d' p w = by_active d.machine.active p
  where
    by_active : (o : Option ActiveView) → QueuesPassedBy o v d v' d' → AreWhole d'
    by_active None q = subst AreWhole (sym q.1) w
    by_active (Some a) q = whole_passed_rx q.0.mid_v v' q.0.mid_d d' q.0.rx (whole_passed_tx v q.0.mid_v d q.0.mid_d q.0.tx w)
