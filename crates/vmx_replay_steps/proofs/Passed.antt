-- Notes of all queues: they change nothing that the world has, and say what a step between them did.
use Rattle.std.proofs.Common.{◌≡◌, List, [], ◌∷◌, ◌++◌, map, refl, ap, ap₂, ◌∙◌, Some, None, Option}
use Rattle.std.specs.Option.{option_map}
use Rattle.vmx_ends.specs.Transmit.{TxDriverView, TxDeviceView}
use Rattle.vmx_ends.specs.Receive.{RxDriverView, RxDeviceView}
use Rattle.vmx_machine_state.specs.Views.{ActiveView}
use Rattle.vmx_model.specs.Bags.{Pairwise}
use Rattle.vmx_device_looks.specs.Looks.{with_tx, with_rx}
use Rattle.vmx_device_laws.specs.Views.{DeviceView}
use Rattle.vmx_device_laws.specs.Pairs.{tx_of, rx_of}
use Rattle.vmx_driver_steps.specs.Driver.{DriverView}
use Rattle.vmx_note_laws.specs.Each.{EachPasses}
use Rattle.vmx_note_laws.specs.Queues.{PassesTx, PassesRx}
use Rattle.vmx_replay_worlds.specs.Guests.{GuestView, live_tx, live_rx, met_tx, met_rx, joined, ends_of, seat_of}
use Rattle.vmx_replay_worlds.specs.Worlds.{out_part, in_part}
use Rattle.vmx_replay_worlds.specs.Moves.{IsSameGuest}
use Rattle.vmx_replay_steps.specs.Between.{IsToldSent, WasSent, WasPosted, WasDelivered}

-- ------------------------------------------------------------ pairwise

module _ {D E : Type 0} (R : D → E → D → E → Type 0) (P : D → E → Type 0) where
  before_pairs : ((d : D) (e : E) (d' : D) (e' : E) → R d e d' e' → P d e) → (ds : List D) (es : List E) (ds' : List D) (es' : List E) → EachPasses R ds es ds' es' → Pairwise P ds es
  before_pairs f [] [] [] [] h = tt
  before_pairs f [] [] [] (e' ∷ es') h = absurd h
  before_pairs f [] [] (d' ∷ ds') es' h = absurd h
  before_pairs f [] (e ∷ es) ds' es' h = absurd h
  before_pairs f (d ∷ ds) [] ds' es' h = absurd h
  before_pairs f (d ∷ ds) (e ∷ es) [] es' h = absurd h
  before_pairs f (d ∷ ds) (e ∷ es) (d' ∷ ds') [] h = absurd h
  before_pairs f (d ∷ ds) (e ∷ es) (d' ∷ ds') (e' ∷ es') h = (f d e d' e' h.0, before_pairs f ds es ds' es' h.1)

  across_pairs : ((d : D) (e : E) (d' : D) (e' : E) → R d e d' e' → P d e') → (ds : List D) (es : List E) (ds' : List D) (es' : List E) → EachPasses R ds es ds' es' → Pairwise P ds es'
  across_pairs f [] [] [] [] h = tt
  across_pairs f [] [] [] (e' ∷ es') h = absurd h
  across_pairs f [] [] (d' ∷ ds') es' h = absurd h
  across_pairs f [] (e ∷ es) ds' es' h = absurd h
  across_pairs f (d ∷ ds) [] ds' es' h = absurd h
  across_pairs f (d ∷ ds) (e ∷ es) [] es' h = absurd h
  across_pairs f (d ∷ ds) (e ∷ es) (d' ∷ ds') [] h = absurd h
  across_pairs f (d ∷ ds) (e ∷ es) (d' ∷ ds') (e' ∷ es') h = (f d e d' e' h.0, across_pairs f ds es ds' es' h.1)

pub told_sent : (ds : List TxDriverView) (es : List TxDeviceView) (ds' : List TxDriverView) (es' : List TxDeviceView) → EachPasses PassesTx ds es ds' es' → Pairwise IsToldSent ds es'
told_sent ds es ds' es' h = across_pairs PassesTx IsToldSent (λ d e d' e' p. p.sent) ds es ds' es' h

pub was_sent : (ds : List TxDriverView) (es : List TxDeviceView) (ds' : List TxDriverView) (es' : List TxDeviceView) → EachPasses PassesTx ds es ds' es' → Pairwise WasSent ds es
was_sent ds es ds' es' h = before_pairs PassesTx WasSent (λ d e d' e' p. p.within) ds es ds' es' h

pub was_posted : (ds : List RxDriverView) (es : List RxDeviceView) (ds' : List RxDriverView) (es' : List RxDeviceView) → EachPasses PassesRx ds es ds' es' → Pairwise WasPosted ds es
was_posted ds es ds' es' h = before_pairs PassesRx WasPosted (λ d e d' e' p. p.seen) ds es ds' es' h

pub was_delivered : (ds : List RxDriverView) (es : List RxDeviceView) (ds' : List RxDriverView) (es' : List RxDeviceView) → EachPasses PassesRx ds es ds' es' → Pairwise WasDelivered ds es
was_delivered ds es ds' es' h = before_pairs PassesRx WasDelivered (λ d e d' e' p. p.within) ds es ds' es' h

-- ------------------------------------------------------------ queues look the same

module _ {D E C : Type 0} (R : D → E → D → E → Type 0) (live : D → E → C) where
  drivers_same : ((d : D) (e : E) (d' : D) (e' : E) → R d e d' e' → (y : E) → live d' y ≡ live d y) → (ds : List D) (es : List E) (ds' : List D) (es' : List E) → EachPasses R ds es ds' es' → (ys : List E) → joined live ds' ys ≡ joined live ds ys
  drivers_same f [] [] [] [] h ys = refl
  drivers_same f [] [] [] (e' ∷ es') h ys = absurd h
  drivers_same f [] [] (d' ∷ ds') es' h ys = absurd h
  drivers_same f [] (e ∷ es) ds' es' h ys = absurd h
  drivers_same f (d ∷ ds) [] ds' es' h ys = absurd h
  drivers_same f (d ∷ ds) (e ∷ es) [] es' h ys = absurd h
  drivers_same f (d ∷ ds) (e ∷ es) (d' ∷ ds') [] h ys = absurd h
  drivers_same f (d ∷ ds) (e ∷ es) (d' ∷ ds') (e' ∷ es') h [] = refl
  drivers_same f (d ∷ ds) (e ∷ es) (d' ∷ ds') (e' ∷ es') h (y ∷ ys) = ap₂ (λ (c : C) (cs : List C). c ∷ cs) (f d e d' e' h.0 y) (drivers_same f ds es ds' es' h.1 ys)

  devices_same : ((d : D) (e : E) (d' : D) (e' : E) → R d e d' e' → (x : D) → live x e' ≡ live x e) → (ds : List D) (es : List E) (ds' : List D) (es' : List E) → EachPasses R ds es ds' es' → (xs : List D) → joined live xs es' ≡ joined live xs es
  devices_same f [] [] [] [] h xs = refl
  devices_same f [] [] [] (e' ∷ es') h xs = absurd h
  devices_same f [] [] (d' ∷ ds') es' h xs = absurd h
  devices_same f [] (e ∷ es) ds' es' h xs = absurd h
  devices_same f (d ∷ ds) [] ds' es' h xs = absurd h
  devices_same f (d ∷ ds) (e ∷ es) [] es' h xs = absurd h
  devices_same f (d ∷ ds) (e ∷ es) (d' ∷ ds') [] h xs = absurd h
  devices_same f (d ∷ ds) (e ∷ es) (d' ∷ ds') (e' ∷ es') h [] = refl
  devices_same f (d ∷ ds) (e ∷ es) (d' ∷ ds') (e' ∷ es') h (x ∷ xs) = ap₂ (λ (c : C) (cs : List C). c ∷ cs) (f d e d' e' h.0 x) (devices_same f ds es ds' es' h.1 xs)

-- ------------------------------------------------------------ guests

-- of a driver
pub tx_driver : (r : GuestView) (v : DriverView) (es es' : List TxDeviceView) → EachPasses PassesTx r.driver.tx es v.tx es' → v ≡ record r.driver { tx = v.tx } → IsSameGuest r (record r { driver = v })
tx_driver r v es es' h is = record {
  seat = ap (λ (w : DriverView). seat_of (record r { driver = w })) is
      ∙ (λ i. record (seat_of r) { tx = map met_tx r.driver.tx_facts ++ drivers_same PassesTx live_tx (λ d e d' e' p y. ap (λ (z : TxDriverView). live_tx z y) p.driver) r.driver.tx es v.tx es' h (ends_of r).tx i });
  links = record { out = refl; input = refl };
}

pub rx_driver : (r : GuestView) (v : DriverView) (es es' : List RxDeviceView) → EachPasses PassesRx r.driver.rx es v.rx es' → v ≡ record r.driver { rx = v.rx } → IsSameGuest r (record r { driver = v })
rx_driver r v es es' h is = record {
  seat = ap (λ (w : DriverView). seat_of (record r { driver = w })) is
      ∙ (λ i. record (seat_of r) { rx = map met_rx r.driver.rx_facts ++ drivers_same PassesRx live_rx (λ d e d' e' p y. ap (λ (z : RxDriverView). live_rx z y) p.driver) r.driver.rx es v.rx es' h (ends_of r).rx i });
  links = record { out = refl; input = refl };
}

-- a device with other transmit ends, where it is active
abbrev tx_active : List TxDeviceView → Option ActiveView → Option ActiveView
tx_active vs o = option_map (λ (a : ActiveView). record a { ends = record a.ends { tx = vs } }) o

abbrev rx_active : List RxDeviceView → Option ActiveView → Option ActiveView
rx_active vs o = option_map (λ (a : ActiveView). record a { ends = record a.ends { rx = vs } }) o

abbrev with_active : GuestView → Option ActiveView → GuestView
with_active r o = record r { device = record r.device { machine = record r.device.machine { active = o } } }

tx_seat : (r : GuestView) (vs : List TxDeviceView) (o : Option ActiveView) → joined live_tx r.driver.tx vs ≡ joined live_tx r.driver.tx (tx_of o) → seat_of (with_active r (tx_active vs o)) ≡ seat_of (with_active r o)
tx_seat r vs None h = refl
tx_seat r vs (Some a) h = λ i. record (seat_of (with_active r (Some a))) { tx = map met_tx r.driver.tx_facts ++ h i }

rx_seat : (r : GuestView) (vs : List RxDeviceView) (o : Option ActiveView) → joined live_rx r.driver.rx vs ≡ joined live_rx r.driver.rx (rx_of o) → seat_of (with_active r (rx_active vs o)) ≡ seat_of (with_active r o)
rx_seat r vs None h = refl
rx_seat r vs (Some a) h = λ i. record (seat_of (with_active r (Some a))) { rx = map met_rx r.driver.rx_facts ++ h i }

-- of a device
pub tx_device : (r : GuestView) (d : DeviceView) (ds ds' : List TxDriverView) → EachPasses PassesTx ds (tx_of r.device.machine.active) ds' (tx_of d.machine.active) → d ≡ record r.device { machine = with_tx (tx_of d.machine.active) r.device.machine } → IsSameGuest r (record r { device = d })
tx_device r d ds ds' h is = record {
  seat = ap (λ (x : DeviceView). seat_of (record r { device = x })) is
      ∙ tx_seat r (tx_of d.machine.active) r.device.machine.active (devices_same PassesTx live_tx (λ y e d' e' p x. ap (live_tx x) p.device) ds (tx_of r.device.machine.active) ds' (tx_of d.machine.active) h r.driver.tx);
  links = record { out = ap (λ (x : DeviceView). map out_part x.out) is; input = ap (λ (x : DeviceView). map in_part x.input) is };
}

pub rx_device : (r : GuestView) (d : DeviceView) (ds ds' : List RxDriverView) → EachPasses PassesRx ds (rx_of r.device.machine.active) ds' (rx_of d.machine.active) → d ≡ record r.device { machine = with_rx (rx_of d.machine.active) r.device.machine } → IsSameGuest r (record r { device = d })
rx_device r d ds ds' h is = record {
  seat = ap (λ (x : DeviceView). seat_of (record r { device = x })) is
      ∙ rx_seat r (rx_of d.machine.active) r.device.machine.active (devices_same PassesRx live_rx (λ y e d' e' p x. ap (live_rx x) p.device) ds (rx_of r.device.machine.active) ds' (rx_of d.machine.active) h r.driver.rx);
  links = record { out = ap (λ (x : DeviceView). map out_part x.out) is; input = ap (λ (x : DeviceView). map in_part x.input) is };
}
