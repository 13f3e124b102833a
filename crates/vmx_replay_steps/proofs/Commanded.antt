-- What an answered command did to the device, by the deal of its ends.
use Rattle.std.proofs.Common.{◌≡◌, ℕ, suc, ◌+◌, Bool, true, false, List, [], ◌∷◌, ◌++◌, length, map, refl, sym, ap, ap₂, ◌∙◌, arith, Some, None, Option, if◌then◌else◌}
use Rattle.std.specs.Prelude.{is_some}
use Rattle.std.specs.Option.{option_map}
use Rattle.vmx_shared_area.specs.declared.setup.Setup.{Setup}
use Rattle.vmx_ends.specs.Transmit.{TxDriverView, TxDeviceView}
use Rattle.vmx_ends.specs.TransmitCore.{TxCore}
use Rattle.vmx_ends.specs.Receive.{RxDriverView, RxDeviceView}
use Rattle.vmx_ends.specs.ReceiveCore.{RxCore}
use Rattle.vmx_ends.specs.HandedEnds.{tx_numbers, rx_numbers}
use Rattle.vmx_ends.specs.HandedLaws.{tx_tells, rx_tells}
use Rattle.vmx_device_state.specs.Deals.{deal_by, deal_of}
use Rattle.vmx_device_state.specs.DeviceState as state
use Rattle.vmx_device_state.specs.Orders.{order_of}
use Rattle.vmx_device_state.specs.declared.order.Order.{Order}
use Rattle.vmx_device_state.specs.SetupView.{SetupView, setup_view}
use Rattle.vmx_machine_state.specs.Views.{EndsView, ActiveView, state_by, no_errors}
use Rattle.vmx_machine_state.specs.Stopped.{clears, errors_after}
use Rattle.vmx_model.specs.declared.journal.Entry.{Entry}
use Rattle.vmx_model.specs.declared.journal.Entry.TheVariants as entry
use Rattle.vmx_model.specs.Bags.{Pairwise}
use Rattle.vmx_model.specs.Lists.{count}
use Rattle.vmx_device_looks.specs.Commands.{ShowsState}
use Rattle.vmx_device_laws.specs.Pairs.{tx_of, rx_of}
use Rattle.vmx_device_laws.proofs.Lists.{count_append}
use Rattle.vmx_driver_steps.specs.Queues.{PassedAllTx, PassedAllRx}
use Rattle.vmx_driver_steps.specs.Near.{IsNearTx, IsNearRx}
use Rattle.vmx_replay_worlds.specs.Guests.{live_tx, live_rx, plain_look, joined, is_arrival}
use Rattle.vmx_replay_steps.specs.Between.{IsThrough}

-- ------------------------------------------------------------ by the command's order

pub dealt : (number n value : ℕ) (o : Order) → number ≡ n → value ≡ 0 → order_of n ≡ o → deal_of number value ≡ deal_by o
dealt number n value o e z h = ap₂ deal_of e z ∙ ap deal_by h

-- no queue is stopped after an answer where none was
pub no_errors_after : (number value : ℕ) (errors new : List (Option ℕ)) → new ≡ errors_after number value errors → errors ≡ no_errors → new ≡ no_errors
no_errors_after number value errors new e none = e ∙ step (clears number value)
  where
    step : (b : Bool) → (if b then no_errors else errors) ≡ no_errors
    step true = refl
    step false = none

-- ------------------------------------------------------------ what the journal shows

abbrev SetupsOf : List Setup → List SetupView
SetupsOf xs = map setup_view xs

idle_active : (d : state.DeviceState) (s : SetupView) → d ≡ state.Idle → d ≡ state.Active s → ⊥
idle_active d s e f = let both : state.Idle ≡ state.Active s = sym e ∙ f in absurd (cc both)

pub shows_idle : (setups : List Setup) (index : Option ℕ) (new : List Setup) (d : state.DeviceState) → ShowsState setups index new d → d ≡ state.Idle → (index ≡ None) × (new ≡ setups)
shows_idle setups None new d h e = (refl, h.shows.1)
shows_idle setups (Some n) new d h e = absurd (idle_active d _ e h.shows.1.2)

push_map : (xs : List Setup) (x : Setup) → map setup_view (xs ++ x ∷ []) ≡ map setup_view xs ++ setup_view x ∷ []
push_map [] x = refl
push_map (y ∷ xs) x = ap (λ (zs : List SetupView). setup_view y ∷ zs) (push_map xs x)

map_long : (xs : List Setup) → length xs ≡ length (map setup_view xs)
map_long [] = refl
map_long (x ∷ xs) = ap suc (map_long xs)

pub shows_active : (setups : List Setup) (index : Option ℕ) (new : List Setup) (d : state.DeviceState) (s : SetupView) → ShowsState setups index new d → d ≡ state.Active s → (index ≡ Some (length (map setup_view setups))) × (map setup_view new ≡ map setup_view setups ++ s ∷ [])
shows_active setups None new d s h e = absurd (idle_active d s h.shows.0 e)
shows_active setups (Some n) new d s h e =
    let is = h.shows.1 in
    let same : setup_view is.0 ≡ s = (let both : state.Active (setup_view is.0) ≡ state.Active s = sym is.2 ∙ e in cc both) in
    (ap (λ (k : ℕ). Some k) (h.shows.0 ∙ map_long setups), ap (map setup_view) is.1 ∙ push_map setups is.0 ∙ ap (λ (x : SetupView). map setup_view setups ++ x ∷ []) same)

-- a command is no arrival
pub no_arrival : (es : List Entry) (number value : ℕ) (setup : Option ℕ) → count is_arrival (es ++ entry.Setting number value setup ∷ []) ≡ count is_arrival es
no_arrival es number value setup = count_append is_arrival es (entry.Setting number value setup ∷ []) ∙ plus_zero (count is_arrival es)
  where
    plus_zero : (n : ℕ) → n + 0 ≡ n
    plus_zero n = omega arith

-- ------------------------------------------------------------ ends across a bag

-- two ends with the same numbers look the same to the core
same_tx : (d : TxDriverView) (e e' : TxDeviceView) → tx_numbers e ≡ tx_numbers e' → live_tx d e ≡ live_tx d e'
same_tx d e e' h = let t = tx_tells e e' h in λ i. record { made = d.made; sent = d.sent; reaped = t.0 i; completed = t.0 i; taken = length (t.1 i) }

same_rx : (d : RxDriverView) (e e' : RxDeviceView) → rx_numbers e ≡ rx_numbers e' → live_rx d e ≡ live_rx d e'
same_rx d e e' h = let t = rx_tells e e' h in λ i. record { made = d.made; delivered = t.0 i; received = length d.received; refused = map (plain_look d.made) (t.1 i) }

pub passed_tx : (ds : List TxDriverView) (es : List TxDeviceView) (ds' : List TxDriverView) (es' was : List TxDeviceView) → PassedAllTx ds es ds' es' → map tx_numbers es ≡ map tx_numbers was → joined live_tx ds' es' ≡ joined live_tx ds was
passed_tx [] [] [] [] was h e = refl
passed_tx [] [] [] (e' ∷ es') was h e = absurd h
passed_tx [] [] (d' ∷ ds') es' was h e = absurd h
passed_tx [] (e ∷ es) ds' es' was h same = absurd h
passed_tx (d ∷ ds) [] ds' es' was h same = absurd h
passed_tx (d ∷ ds) (e ∷ es) [] es' was h same = absurd h
passed_tx (d ∷ ds) (e ∷ es) (d' ∷ ds') [] was h same = absurd h
passed_tx (d ∷ ds) (e ∷ es) (d' ∷ ds') (e' ∷ es') [] h same = absurd (cc same)
passed_tx (d ∷ ds) (e ∷ es) (d' ∷ ds') (e' ∷ es') (w ∷ was) h same =
    let head : tx_numbers e ≡ tx_numbers w = cc same in let tail : map tx_numbers es ≡ map tx_numbers was = cc same in
    ap₂ (λ (c : TxCore) (cs : List TxCore). c ∷ cs) (ap₂ live_tx h.0.driver h.0.device ∙ same_tx d e w head) (passed_tx ds es ds' es' was h.1 tail)

pub passed_rx : (ds : List RxDriverView) (es : List RxDeviceView) (ds' : List RxDriverView) (es' was : List RxDeviceView) → PassedAllRx ds es ds' es' → map rx_numbers es ≡ map rx_numbers was → joined live_rx ds' es' ≡ joined live_rx ds was
passed_rx [] [] [] [] was h e = refl
passed_rx [] [] [] (e' ∷ es') was h e = absurd h
passed_rx [] [] (d' ∷ ds') es' was h e = absurd h
passed_rx [] (e ∷ es) ds' es' was h same = absurd h
passed_rx (d ∷ ds) [] ds' es' was h same = absurd h
passed_rx (d ∷ ds) (e ∷ es) [] es' was h same = absurd h
passed_rx (d ∷ ds) (e ∷ es) (d' ∷ ds') [] was h same = absurd h
passed_rx (d ∷ ds) (e ∷ es) (d' ∷ ds') (e' ∷ es') [] h same = absurd (cc same)
passed_rx (d ∷ ds) (e ∷ es) (d' ∷ ds') (e' ∷ es') (w ∷ was) h same =
    let head : rx_numbers e ≡ rx_numbers w = cc same in let tail : map rx_numbers es ≡ map rx_numbers was = cc same in
    ap₂ (λ (c : RxCore) (cs : List RxCore). c ∷ cs) (ap₂ live_rx h.0.driver h.0.device ∙ same_rx d e w head) (passed_rx ds es ds' es' was h.1 tail)

-- ------------------------------------------------------------ notes between

pub near_txs : (ds ds' : List TxDriverView) (es : List TxDeviceView) → Pairwise IsNearTx ds ds' → joined live_tx ds' es ≡ joined live_tx ds es
near_txs [] [] es h = refl
near_txs [] (d' ∷ ds') es h = absurd h
near_txs (d ∷ ds) [] es h = absurd h
near_txs (d ∷ ds) (d' ∷ ds') [] h = refl
near_txs (d ∷ ds) (d' ∷ ds') (e ∷ es) h = ap₂ (λ (c : TxCore) (cs : List TxCore). c ∷ cs) (ap (λ (z : TxDriverView). live_tx z e) h.0.is) (near_txs ds ds' es h.1)

pub near_rxs : (ds ds' : List RxDriverView) (es : List RxDeviceView) → Pairwise IsNearRx ds ds' → joined live_rx ds' es ≡ joined live_rx ds es
near_rxs [] [] es h = refl
near_rxs [] (d' ∷ ds') es h = absurd h
near_rxs (d ∷ ds) [] es h = absurd h
near_rxs (d ∷ ds) (d' ∷ ds') [] h = refl
near_rxs (d ∷ ds) (d' ∷ ds') (e ∷ es) h = ap₂ (λ (c : RxCore) (cs : List RxCore). c ∷ cs) (ap (λ (z : RxDriverView). live_rx z e) h.0.is) (near_rxs ds ds' es h.1)

pub near_through : (ds ds' : List TxDriverView) (es : List TxDeviceView) → Pairwise IsNearTx ds ds' → Pairwise IsThrough ds es → Pairwise IsThrough ds' es
near_through [] [] [] h t = tt
near_through [] [] (e ∷ es) h t = absurd t
near_through [] (d' ∷ ds') es h t = absurd h
near_through (d ∷ ds) [] es h t = absurd h
near_through (d ∷ ds) (d' ∷ ds') [] h t = absurd t
near_through (d ∷ ds) (d' ∷ ds') (e ∷ es) h t = (t.0 ∙ sym (ap (λ (z : TxDriverView). z.sent) h.0.is), near_through ds ds' es h.1 t.1)

-- ------------------------------------------------------------ where the ends are

pub some_active : (o : Option ActiveView) (e : EndsView) → option_map (λ (a : ActiveView). a.ends) o ≡ Some e → (a : ActiveView) × (o ≡ Some a) × (a.ends ≡ e)
some_active None e h = absurd (cc h)
some_active (Some a) e h = (a, refl, cc h)

-- the same ends: the device is active as before
pub ends_same : (o o' : Option ActiveView) → option_map (λ (a : ActiveView). a.ends) o' ≡ option_map (λ (a : ActiveView). a.ends) o → (is_some o' ≡ is_some o) × (tx_of o' ≡ tx_of o) × (rx_of o' ≡ rx_of o)
ends_same None None e = (refl, refl, refl)
ends_same None (Some a') e = absurd (cc e)
ends_same (Some a) None e = absurd (cc e)
ends_same (Some a) (Some a') e = let same : a'.ends ≡ a.ends = cc e in (refl, ap (λ (x : EndsView). x.tx) same, ap (λ (x : EndsView). x.rx) same)

-- the state is known by the setup in force
pub state_same : (o o' : Option ActiveView) → option_map (λ (a : ActiveView). a.setup) o' ≡ option_map (λ (a : ActiveView). a.setup) o → state_by o' ≡ state_by o
state_same None None e = refl
state_same None (Some a') e = absurd (cc e)
state_same (Some a) None e = absurd (cc e)
state_same (Some a) (Some a') e = ap state.Active (cc e)
