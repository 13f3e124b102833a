-- New ends: what an activation may hand over.
use Rattle.std.proofs.Common.{◌≡◌, ℕ, suc, true, false, ◌&&◌, ◌||◌, List, [], ◌∷◌, ◌++◌, length, map, refl, ap, sym, ◌∙◌, subst}
use Rattle.vmx_ends.specs.Transmit.{TxDriverView, TxDeviceView}
use Rattle.vmx_ends.specs.Receive.{RxDriverView, RxDeviceView}
use Rattle.vmx_ends.specs.ReceiveClauses as rx
use Rattle.vmx_ends.specs.Queues.{AreNewQueues, AreNewRxQueues, queue_name, made_tx}
use Rattle.vmx_ends.specs.HandedEnds.{ends_handed, all_of, any_of, is_whole_tx, is_whole_rx, is_fresh_tx, is_fresh_rx}
use Rattle.vmx_model.specs.declared.guest.GuestPlan.{GuestPlan}
use Rattle.vmx_model.specs.Bags.{EachQueue}
use Rattle.std.specs.Prelude.{Some, None}
use Rattle.std.specs.List.{AllByRecursion}
use Rattle.vmx_layout.specs.Command.{number_of}
use Rattle.vmx_layout.specs.declared.command.Command.TheVariants.{ActivateDev}
use Rattle.vmx_shared_area.specs.Layout.{image_of}
use Rattle.vmx_shared_area.specs.declared.setup.Setup.{Setup}
use Rattle.vmx_device_state.specs.SetupView.{SetupView, setup_view}
use Rattle.vmx_device_state.specs.Deals.{Held as HeldEnds, held_as}
use Rattle.vmx_device_state.specs.DeviceState as state
use Rattle.vmx_device_state.specs.declared.turn.CommandView.{CommandView}
use Rattle.vmx_model.specs.declared.deeds.Action.{Action}
use Rattle.vmx_model.specs.declared.deeds.Deed.{Deed}
use Rattle.vmx_model.specs.declared.deeds.Deed.TheVariants as deed
use Rattle.vmx_model.specs.Plan.{changed, after_script, first_setup}
use Rattle.vmx_driver_steps.specs.Progress.{setup_now, begun_actions}
use Rattle.vmx_driver_steps.specs.Sending.{activation_leads}
use Rattle.vmx_driver_steps.specs.Driver.{DriverView, Leads, other_ends}
use Rattle.vmx_driver_steps.specs.Asking.{IsNewTx, IsNewRx}

pub record NewTxs (g : ℕ) (p : GuestPlan) (a q : ℕ) (ds : List TxDriverView) (es : List TxDeviceView) : Type 0 where
  pub each : EachQueue (IsNewTx g p a) q ds
  pub even : AllByRecursion (λ (d : TxDriverView). d.notes_given ≡ d.notes_heard) ds
  pub len : length es ≡ length ds
  pub keys : map (λ (e : TxDeviceView). e.key) es ≡ map (λ (d : TxDriverView). d.key) ds
  pub whole : all_of is_whole_tx es ≡ true
  pub fresh : all_of is_fresh_tx es ≡ true
  pub given : any_of (λ (e : TxDeviceView). e.given) es ≡ false

pub new_txs : (g : ℕ) (p : GuestPlan) (a q : ℕ) (ds : List TxDriverView) (es : List TxDeviceView) → AreNewQueues (λ (n : ℕ). made_tx (queue_name g a n) p.setup.tx_ring p.piece p.setup.tx_data) q ds es → NewTxs g p a q ds es
new_txs g p a q [] [] h = record { each = tt; even = tt; len = refl; keys = refl; whole = refl; fresh = refl; given = refl }
new_txs g p a q [] (e ∷ es) h = absurd h
new_txs g p a q (d ∷ ds) [] h = absurd h
new_txs g p a q (d ∷ ds) (e ∷ es) h = let r = new_txs g p a (suc q) ds es h.1 in let nd = h.0.0 in let ne = h.0.1 in record {
  each = ((ap (λ (v : TxDriverView). v.made) nd, ap (λ (v : TxDriverView). v.sent) nd, ap (λ (v : TxDriverView). v.reaped) nd), r.each);
  even = (ap (λ (v : TxDriverView). v.notes_given) nd ∙ sym (ap (λ (v : TxDriverView). v.notes_heard) nd), r.even);
  len = ap suc r.len;
  keys = λ i. sym (ap (λ (v : TxDriverView). v.key) nd) i ∷ r.keys i;
  whole = (λ i. ap is_whole_tx ne i && all_of is_whole_tx es) ∙ r.whole;
  fresh = (λ i. ap is_fresh_tx ne i && all_of is_fresh_tx es) ∙ r.fresh;
  given = (λ i. ap (λ (v : TxDeviceView). v.given) ne i || any_of (λ (v : TxDeviceView). v.given) es) ∙ r.given;
}

pub record NewRxs (g : ℕ) (p : GuestPlan) (a q : ℕ) (ds : List RxDriverView) (es : List RxDeviceView) : Type 0 where
  pub each : EachQueue (IsNewRx g p a) q ds
  pub even : AllByRecursion (λ (d : RxDriverView). d.notes_given ≡ d.notes_heard) ds
  pub len : length es ≡ length ds
  pub keys : map (λ (e : RxDeviceView). e.key) es ≡ map (λ (d : RxDriverView). d.key) ds
  pub whole : all_of is_whole_rx es ≡ true
  pub fresh : all_of is_fresh_rx es ≡ true
  pub given : any_of (λ (e : RxDeviceView). e.given) es ≡ false

pub new_rxs : (g : ℕ) (p : GuestPlan) (a q : ℕ) (ds : List RxDriverView) (es : List RxDeviceView) → AreNewRxQueues (λ (n : ℕ). rx.made_rx (queue_name g a n) p.setup.rx_ring1 p.setup.rx_ring2 p.bodies p.setup.rx_queues p.setup.rx_data) q ds es → NewRxs g p a q ds es
new_rxs g p a q [] [] h = record { each = tt; even = tt; len = refl; keys = refl; whole = refl; fresh = refl; given = refl }
new_rxs g p a q [] (e ∷ es) h = absurd h
new_rxs g p a q (d ∷ ds) [] h = absurd h
new_rxs g p a q (d ∷ ds) (e ∷ es) h = let r = new_rxs g p a (suc q) ds es h.1 in let nd = h.0.0 in let ne = h.0.1 in record {
  each = ((ap (λ (v : RxDriverView). v.made) nd, ap (λ (v : RxDriverView). v.received) nd), r.each);
  even = (ap (λ (v : RxDriverView). v.notes_given) nd ∙ sym (ap (λ (v : RxDriverView). v.notes_heard) nd), r.even);
  len = ap suc r.len;
  keys = λ i. sym (ap (λ (v : RxDriverView). v.key) nd) i ∷ r.keys i;
  whole = (λ i. ap is_whole_rx ne i && all_of is_whole_rx es) ∙ r.whole;
  fresh = (λ i. ap is_fresh_rx ne i && all_of is_fresh_rx es) ∙ r.fresh;
  given = (λ i. ap (λ (v : RxDeviceView). v.given) ne i || any_of (λ (v : RxDeviceView). v.given) es) ∙ r.given;
}

-- the bag of new ends is whole and fresh, and has the keys of the driver's
pub record IsNewBag (tx : List TxDriverView) (rx : List RxDriverView) (txs : List TxDeviceView) (rxs : List RxDeviceView) : Type 0 where
  pub ends : held_as (ends_handed txs rxs) ≡ other_ends tx rx
  pub whole : (ends_handed txs rxs).whole ≡ true
  pub fresh : (ends_handed txs rxs).fresh ≡ true

pub new_bag : (g : ℕ) (p : GuestPlan) (a : ℕ) (tx : List TxDriverView) (rx : List RxDriverView) (txs : List TxDeviceView) (rxs : List RxDeviceView) → NewTxs g p a 0 tx txs → NewRxs g p a 0 rx rxs → IsNewBag tx rx txs rxs
new_bag g p a tx rx txs rxs x y = record { ends = λ i. record { keys = x.keys i ++ y.keys i; tx = x.len i; rx = y.len i; given = x.given i || y.given i }; whole = λ i. x.whole i && y.whole i; fresh = λ i. x.fresh i && y.fresh i }

-- queues are not changed by deeds
pub queues_stay : (s : SetupView) (acts : List Action) → ((after_script s acts).tx_queues ≡ s.tx_queues) × ((after_script s acts).rx_queues ≡ s.rx_queues)
queues_stay s [] = (refl, refl)
queues_stay s (a ∷ rest) = let ih = queues_stay (changed s a.deed) rest in let here = step a.deed in (ih.0 ∙ here.0, ih.1 ∙ here.1)
  where
    step : (d : Deed) → ((changed s d).tx_queues ≡ s.tx_queues) × ((changed s d).rx_queues ≡ s.rx_queues)
    step deed.Quiesce = (refl, refl)
    step deed.Activate = (refl, refl)
    step deed.Reset = (refl, refl)
    step (deed.Mode m) = (refl, refl)
    step (deed.Multicast t) = (refl, refl)
    step (deed.Vlans t) = (refl, refl)
    step (deed.Rss n t) = (refl, refl)

-- an activation with new ends leads to an active device that holds them
pub new_leads : (v : DriverView) (s : Setup) (done : ℕ) (c : CommandView) (tx : List TxDriverView) (rx : List RxDriverView) (txs : List TxDeviceView) (rxs : List RxDeviceView)
    → Leads v.calls.turns None state.Idle None → setup_view s ≡ setup_now v.plan v.at → c.number ≡ number_of ActivateDev → c.image ≡ image_of s → c.ends ≡ Some (ends_handed txs rxs) → IsNewBag tx rx txs rxs
    → length tx ≡ v.plan.setup.tx_queues → length rx ≡ v.plan.setup.rx_queues → Leads v.calls.turns (Some c) (state.Active (setup_now v.plan v.at)) (Some (other_ends tx rx))
new_leads v s done c tx rx txs rxs led is number image ends bag many_tx many_rx =
    let stay = queues_stay (first_setup v.plan) (begun_actions v.plan v.at) in
    let tx_is : (ends_handed txs rxs).tx ≡ s.tx_queues = ap (λ (h : HeldEnds). h.tx) bag.ends ∙ many_tx ∙ sym stay.0 ∙ sym (ap (λ (x : SetupView). x.tx_queues) is) in
    let rx_is : (ends_handed txs rxs).rx ≡ s.rx_queues = ap (λ (h : HeldEnds). h.rx) bag.ends ∙ many_rx ∙ sym stay.1 ∙ sym (ap (λ (x : SetupView). x.rx_queues) is) in
    subst (λ (x : SetupView × HeldEnds). Leads v.calls.turns (Some c) (state.Active x.0) (Some x.1)) (λ i. (is i, bag.ends i)) (activation_leads v.calls.turns s c (ends_handed txs rxs) led number image ends tx_is rx_is)
