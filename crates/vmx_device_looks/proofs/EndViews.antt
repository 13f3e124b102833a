-- From the clauses of an end to those of the machine that holds it.
use Rattle.std.proofs.Common.{◌≡◌, ℕ, ◌<◌, List, length, map, set, get_or, sym, ap, ◌∙◌, subst, Some}
use Rattle.std.proofs.lemmas.List.{map-set, length-map}
use Rattle.std.specs.List.{slice_get}
use Rattle.std.specs.Prelude.{option_map}
use Rattle.vmx_io.specs.Views.{viewed}
use Rattle.vmx_ends.specs.Transmit.{TxDeviceView, TxNoteView}
use Rattle.vmx_ends.specs.TransmitClauses.{TakesFrame, FindsNone, ShowsFault, Completes, NotesDevice, DeviceHears}
use Rattle.vmx_ends.specs.Receive.{RxDeviceView, RxNoteView}
use Rattle.vmx_ends.specs.ReceiveClauses.{Delivers, GrowsDelivered}
use Rattle.vmx_ends.specs.ReceiveClauses as rx
use Rattle.vmx_ends.specs.declared.meta.TxMark.{TxMark}
use Rattle.vmx_ends.specs.declared.answers.EndFault.{EndFault}
use Rattle.vmx_ends.specs.declared.answers.Deliver.{Deliver}
use Rattle.vmx_machine_state.specs.Views.{EndsView, ActiveView, MachineView, with_ends, ends_of, holding}
use Rattle.vmx_model.specs.Meta.{Arrival}
use Rattle.vmx_device_looks.specs.Looks.{TxAt, RxAt, TakesOne, TakesNone, TakesBad, DeliversAs, with_tx, with_rx}
use Rattle.vmx_device_looks.specs.Notes.{NotesTx, HearsTx, NotesRx, HearsRx}
use Rattle.vmx_device_looks.specs.Queues.{get_at, get_lt}

-- the machine with ends of which just the transmit side is another
new_tx : (m : MachineView) (a : ActiveView) → m.active ≡ Some a → (e : EndsView) → e.rx ≡ a.ends.rx → with_ends m e ≡ with_tx e.tx m
new_tx m a act e rx = λ i. record m { active = both i }
  where
    both : option_map (holding e) m.active ≡ option_map (λ (x : ActiveView). record x { ends = record x.ends { tx = e.tx } }) m.active
    both = ap (option_map (holding e)) act ∙ (λ i. Some (record a { ends = record { tx = e.tx; rx = rx i } })) ∙ sym (ap (option_map (λ (x : ActiveView). record x { ends = record x.ends { tx = e.tx } })) act)

new_rx : (m : MachineView) (a : ActiveView) → m.active ≡ Some a → (e : EndsView) → e.tx ≡ a.ends.tx → with_ends m e ≡ with_rx e.rx m
new_rx m a act e tx = λ i. record m { active = both i }
  where
    both : option_map (holding e) m.active ≡ option_map (λ (x : ActiveView). record x { ends = record x.ends { rx = e.rx } }) m.active
    both = ap (option_map (holding e)) act ∙ (λ i. Some (record a { ends = record { tx = tx i; rx = e.rx } })) ∙ sym (ap (option_map (λ (x : ActiveView). record x { ends = record x.ends { rx = e.rx } })) act)

module _ {T R : Type 0} (tv : T → TxDeviceView) (rv : R → RxDeviceView) (m : MachineView) (txs : List T) (rxs : List R) (held : Some (record { tx = map tv txs; rx = map rv rxs }) ≡ ends_of m) (q : ℕ) where
  same : (a : ActiveView) → m.active ≡ Some a → record { tx = map tv txs; rx = map rv rxs } ≡ a.ends
  same a act = let e : Some (record { tx = map tv txs; rx = map rv rxs }) ≡ Some a.ends = held ∙ ap (option_map (λ (x : ActiveView). x.ends)) act in cc

  txs_are : (a : ActiveView) → m.active ≡ Some a → map tv txs ≡ a.ends.tx
  txs_are a act = ap (λ (e : EndsView). e.tx) (same a act)

  rxs_are : (a : ActiveView) → m.active ≡ Some a → map rv rxs ≡ a.ends.rx
  rxs_are a act = ap (λ (e : EndsView). e.rx) (same a act)

  pub tx_lt : TxAt m q → q < length txs
  tx_lt h = let l : q < length (map tv txs) = subst (λ (vs : List TxDeviceView). q < length vs) (sym (txs_are h.active h.is_active)) (get_lt h.active.ends.tx q h.end h.at) in rw length-map at l

  pub rx_lt : RxAt m q → q < length rxs
  rx_lt h = let l : q < length (map rv rxs) = subst (λ (vs : List RxDeviceView). q < length vs) (sym (rxs_are h.active h.is_active)) (get_lt h.active.ends.rx q h.end h.at) in rw length-map at l

  module _ (h : TxAt m q) (x : T) (is : x ≡ get_or txs q x) where
    -- the end that is lent is the machine's
    tx_here : TxAt m q
    tx_here = record {
      active = h.active;
      is_active = h.is_active;
      end = tv x;
      at = subst (λ (vs : List TxDeviceView). slice_get vs q ≡ Some (tv x)) (txs_are h.active h.is_active) (get_at (map tv txs) q (tv x) (rw length-map (tx_lt h)) (sym (viewed tv txs q x (tx_lt h) is)));
    }

    pub tx_end_is : h.end ≡ tv x
    unfolding tx_here
    tx_end_is = let both : Some h.end ≡ Some (tv x) = sym h.at ∙ tx_here.at in cc both

    set_tx : (y : T) → with_ends m (record { tx = map tv (set txs q y); rx = map rv rxs }) ≡ with_tx (set h.active.ends.tx q (tv y)) m
    set_tx y = new_tx m h.active h.is_active (record { tx = map tv (set txs q y); rx = map rv rxs }) (rxs_are h.active h.is_active)
        ∙ ap (λ (vs : List TxDeviceView). with_tx vs m) (map-set tv txs q y ∙ (λ i. set (txs_are h.active h.is_active i) q (tv y)))

    pub takes_one : (place : ℕ) (into : List ℕ) (mark : TxMark) (v : TxDeviceView) (y : T) → TakesFrame (tv x) into place mark v → Completes v (tv y) → TakesOne q place into mark m (with_ends m (record { tx = map tv (set txs q y); rx = map rv rxs }))
    unfolding tx_here
    takes_one place into mark v y takes done = record { here = tx_here; mid = v; after = tv y; takes = takes; completes = done; is = set_tx y }

    pub takes_none : (word : ℕ) (y : T) → FindsNone (tv x) word (tv y) → TakesNone q m (with_ends m (record { tx = map tv (set txs q y); rx = map rv rxs }))
    unfolding tx_here
    takes_none word y finds = record { here = tx_here; after = tv y; word = word; finds = finds; is = set_tx y }

    pub takes_bad : (words : List ℕ) (fault : EndFault) (y : T) → ShowsFault (tv x) words fault (tv y) → TakesBad q fault m (with_ends m (record { tx = map tv (set txs q y); rx = map rv rxs }))
    unfolding tx_here
    takes_bad words fault y shows = record { here = tx_here; after = tv y; words = words; shows = shows; is = set_tx y }

    pub notes_tx : (note : TxNoteView) (y : T) → NotesDevice (tv x) note (tv y) → NotesTx q note m (with_ends m (record { tx = map tv (set txs q y); rx = map rv rxs }))
    unfolding tx_here
    notes_tx note y notes = record { here = tx_here; after = tv y; notes = notes; is = set_tx y }

    pub hears_tx : (note : TxNoteView) (y : T) → DeviceHears (tv x) note (tv y) → HearsTx q note m (with_ends m (record { tx = map tv (set txs q y); rx = map rv rxs }))
    unfolding tx_here
    hears_tx note y hears = record { here = tx_here; after = tv y; hears = hears; is = set_tx y }

  module _ (h : RxAt m q) (x : R) (is : x ≡ get_or rxs q x) where
    rx_here : RxAt m q
    rx_here = record {
      active = h.active;
      is_active = h.is_active;
      end = rv x;
      at = subst (λ (vs : List RxDeviceView). slice_get vs q ≡ Some (rv x)) (rxs_are h.active h.is_active) (get_at (map rv rxs) q (rv x) (rw length-map (rx_lt h)) (sym (viewed rv rxs q x (rx_lt h) is)));
    }

    pub rx_end_is : h.end ≡ rv x
    unfolding rx_here
    rx_end_is = let both : Some h.end ≡ Some (rv x) = sym h.at ∙ rx_here.at in cc both

    set_rx : (y : R) → with_ends m (record { tx = map tv txs; rx = map rv (set rxs q y) }) ≡ with_rx (set h.active.ends.rx q (rv y)) m
    set_rx y = new_rx m h.active h.is_active (record { tx = map tv txs; rx = map rv (set rxs q y) }) (txs_are h.active h.is_active)
        ∙ ap (λ (vs : List RxDeviceView). with_rx vs m) (map-set rv rxs q y ∙ (λ i. set (rxs_are h.active h.is_active i) q (rv y)))

    pub delivers_as : (what : Arrival) (answer : Deliver) (y : R) → Delivers (rv x) what.frame what.meta answer (rv y) → GrowsDelivered (rv x) (rv y) → DeliversAs q what answer m (with_ends m (record { tx = map tv txs; rx = map rv (set rxs q y) }))
    unfolding rx_here
    delivers_as what answer y gives grows = record { here = rx_here; after = rv y; gives = gives; grows = grows; is = set_rx y }

    pub notes_rx : (note : RxNoteView) (y : R) → rx.NotesDevice (rv x) note (rv y) → NotesRx q note m (with_ends m (record { tx = map tv txs; rx = map rv (set rxs q y) }))
    unfolding rx_here
    notes_rx note y notes = record { here = rx_here; after = rv y; notes = notes; is = set_rx y }

    pub hears_rx : (note : RxNoteView) (y : R) → rx.DeviceHears (rv x) note (rv y) → HearsRx q note m (with_ends m (record { tx = map tv txs; rx = map rv (set rxs q y) }))
    unfolding rx_here
    hears_rx note y hears = record { here = rx_here; after = rv y; hears = hears; is = set_rx y }
