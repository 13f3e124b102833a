-- Notes move nothing that the world has of a guest.
use Rattle.std.proofs.Common.{◌≡◌, ℕ, suc, Bool, true, false, List, ◌++◌, map, set, refl, ap, sym, ◌∙◌, Some, Option, ◌⊎◌, inl, inr}
use Rattle.std.specs.Option.{option_map}
use Rattle.std.specs.List.{slice_get}
use Rattle.vmx_ends.specs.Transmit.{TxDriverView, TxDeviceView, TxNoteView}
use Rattle.vmx_ends.specs.TransmitClauses as tx
use Rattle.vmx_ends.specs.Receive.{RxDriverView, RxDeviceView, RxNoteView}
use Rattle.vmx_ends.specs.ReceiveClauses as rx
use Rattle.vmx_link.specs.Views.{LinkOutView, LinkInView, LinkNoteView}
use Rattle.vmx_machine_state.specs.Views.{ActiveView, MachineView}
use Rattle.vmx_device_looks.specs.Looks.{TxAt, RxAt, with_tx, with_rx}
use Rattle.vmx_device_laws.specs.Views.{DeviceView}
use Rattle.vmx_device_laws.specs.LinkNotes.{NotesLink, HearsLink}
use Rattle.vmx_device_laws.specs.declared.side.LinkSide.{LinkSide}
use Rattle.vmx_device_laws.specs.declared.side.LinkSide.TheVariants as side
use Rattle.vmx_driver_steps.specs.Driver.{DriverView}
use Rattle.vmx_driver_steps.specs.Near.{IsNearTx, IsNearRx}
use Rattle.vmx_replay_worlds.specs.Guests.{GuestView, live_tx, live_rx, met_tx, met_rx, joined, ends_of, seat_of}
use Rattle.vmx_replay_worlds.specs.Worlds.{out_part, in_part}
use Rattle.vmx_replay_worlds.specs.Moves.{IsSameGuest, KeepsLinks}
use Rattle.vmx_replay_worlds.specs.Notes.{NearsTx, NearsRx, DriverNotes, MachineNotes, DeviceNotes}
use Rattle.vmx_replay_worlds.proofs.Lists.{map_same}
use Rattle.vmx_replay_worlds.proofs.Queues.{joined_left, joined_right}

no_links : (r : GuestView) (v : DriverView) → KeepsLinks r (record r { driver = v })
no_links r v = record { out = refl; input = refl }

-- ------------------------------------------------------------ drivers

near_live_tx : (d d' : TxDriverView) → IsNearTx d d' → (e : TxDeviceView) → live_tx d' e ≡ live_tx d e
near_live_tx d d' n e = ap (λ (x : TxDriverView). live_tx x e) n.is

near_live_rx : (d d' : RxDriverView) → IsNearRx d d' → (e : RxDeviceView) → live_rx d' e ≡ live_rx d e
near_live_rx d d' n e = ap (λ (x : RxDriverView). live_rx x e) n.is

near_tx : (r : GuestView) (q : ℕ) (v : DriverView) → NearsTx q r.driver v → IsSameGuest r (record r { driver = v })
near_tx r q v n = record {
  seat = ap (λ (w : DriverView). seat_of (record r { driver = w })) n.is ∙ (λ i. record (seat_of r) { tx = map met_tx r.driver.tx_facts ++ cores i });
  links = no_links r v;
}
  where
    cores : joined live_tx (set r.driver.tx q n.end') (ends_of r).tx ≡ joined live_tx r.driver.tx (ends_of r).tx
    cores = joined_left live_tx r.driver.tx (ends_of r).tx q n.end n.end' n.at (near_live_tx n.end n.end' n.near)

near_rx : (r : GuestView) (q : ℕ) (v : DriverView) → NearsRx q r.driver v → IsSameGuest r (record r { driver = v })
near_rx r q v n = record {
  seat = ap (λ (w : DriverView). seat_of (record r { driver = w })) n.is ∙ (λ i. record (seat_of r) { rx = map met_rx r.driver.rx_facts ++ cores i });
  links = no_links r v;
}
  where
    cores : joined live_rx (set r.driver.rx q n.end') (ends_of r).rx ≡ joined live_rx r.driver.rx (ends_of r).rx
    cores = joined_left live_rx r.driver.rx (ends_of r).rx q n.end n.end' n.at (near_live_rx n.end n.end' n.near)

pub driver_notes : (r : GuestView) (v : DriverView) → DriverNotes r.driver v → IsSameGuest r (record r { driver = v })
driver_notes r v h = elim h [
  | inl n ↦ near_tx r n.0 v n.1
  | inr h2 ↦ elim h2 [
    | inl n ↦ near_rx r n.0 v n.1
    | inr n ↦ record { seat = ap (λ (w : DriverView). seat_of (record r { driver = w })) n.2; links = no_links r v }
  ]
]

-- ------------------------------------------------------------ a device's queue ends

module _ (r : GuestView) (q : ℕ) (m : MachineView) where
  -- the transmit end of a queue was replaced by one that looks the same
  tx_end : (here : TxAt r.device.machine q) (after : TxDeviceView) → m ≡ with_tx (set here.active.ends.tx q after) r.device.machine → ((d : TxDriverView) → live_tx d after ≡ live_tx d here.end) → seat_of (record r { device = record r.device { machine = m } }) ≡ seat_of r
  tx_end here after is same = ap (λ (x : MachineView). seat_of (record r { device = record r.device { machine = x } })) is ∙ by_active
    where
      vs : List TxDeviceView
      vs = set here.active.ends.tx q after

      cores : joined live_tx r.driver.tx vs ≡ joined live_tx r.driver.tx here.active.ends.tx
      cores = joined_right live_tx r.driver.tx here.active.ends.tx q here.end after here.at same

      by_active : seat_of (record r { device = record r.device { machine = with_tx vs r.device.machine } }) ≡ seat_of r
      by_active =
          ap (λ (o : Option ActiveView). seat_of (record r { device = record r.device { machine = record r.device.machine { active = option_map (λ (a : ActiveView). record a { ends = record a.ends { tx = vs } }) o } } })) here.is_active
          ∙ (λ i. record (seat_of (record r { device = record r.device { machine = record r.device.machine { active = Some here.active } } })) { tx = map met_tx r.driver.tx_facts ++ cores i })
          ∙ ap (λ (o : Option ActiveView). seat_of (record r { device = record r.device { machine = record r.device.machine { active = o } } })) (sym here.is_active)

  rx_end : (here : RxAt r.device.machine q) (after : RxDeviceView) → m ≡ with_rx (set here.active.ends.rx q after) r.device.machine → ((d : RxDriverView) → live_rx d after ≡ live_rx d here.end) → seat_of (record r { device = record r.device { machine = m } }) ≡ seat_of r
  rx_end here after is same = ap (λ (x : MachineView). seat_of (record r { device = record r.device { machine = x } })) is ∙ by_active
    where
      vs : List RxDeviceView
      vs = set here.active.ends.rx q after

      cores : joined live_rx r.driver.rx vs ≡ joined live_rx r.driver.rx here.active.ends.rx
      cores = joined_right live_rx r.driver.rx here.active.ends.rx q here.end after here.at same

      by_active : seat_of (record r { device = record r.device { machine = with_rx vs r.device.machine } }) ≡ seat_of r
      by_active =
          ap (λ (o : Option ActiveView). seat_of (record r { device = record r.device { machine = record r.device.machine { active = option_map (λ (a : ActiveView). record a { ends = record a.ends { rx = vs } }) o } } })) here.is_active
          ∙ (λ i. record (seat_of (record r { device = record r.device { machine = record r.device.machine { active = Some here.active } } })) { rx = map met_rx r.driver.rx_facts ++ cores i })
          ∙ ap (λ (o : Option ActiveView). seat_of (record r { device = record r.device { machine = record r.device.machine { active = o } } })) (sym here.is_active)

-- an end over given words stays as it was
tx_noted : (e e' : TxDeviceView) (n : TxNoteView) (d : TxDriverView) → tx.NotesDevice e n e' → live_tx d e' ≡ live_tx d e
tx_noted e e' n d h = step e.given refl
  where
    step : (b : Bool) → e.given ≡ b → live_tx d e' ≡ live_tx d e
    step false g = ap (live_tx d) (h.0 g).1
    step true g = ap (live_tx d) (h.1 g).1

rx_noted : (e e' : RxDeviceView) (n : RxNoteView) (d : RxDriverView) → rx.NotesDevice e n e' → live_rx d e' ≡ live_rx d e
rx_noted e e' n d h = step e.given refl
  where
    step : (b : Bool) → e.given ≡ b → live_rx d e' ≡ live_rx d e
    step false g = ap (live_rx d) (h.0 g).1
    step true g = ap (live_rx d) (h.1 g).1

machine_notes : (r : GuestView) (m : MachineView) → MachineNotes r.device.machine m → seat_of (record r { device = record r.device { machine = m } }) ≡ seat_of r
machine_notes r m h = elim h [
  | inl t ↦ elim t.2 [
    | inl n ↦ tx_end r t.0 m n.here n.after n.is (λ d. tx_noted n.here.end n.after t.1 d n.notes)
    | inr n ↦ tx_end r t.0 m n.here n.after n.is (λ d. ap (live_tx d) n.hears.is)
  ]
  | inr t ↦ elim t.2 [
    | inl n ↦ rx_end r t.0 m n.here n.after n.is (λ d. rx_noted n.here.end n.after t.1 d n.notes)
    | inr n ↦ rx_end r t.0 m n.here n.after n.is (λ d. ap (live_rx d) n.hears.is)
  ]
]

-- ------------------------------------------------------------ a device's links

out_same : (r : GuestView) (d : DeviceView) (k : ℕ) (link after : LinkOutView) (out : List LinkOutView) → slice_get r.device.out k ≡ Some link → out ≡ set r.device.out k after → out_part after ≡ out_part link → d ≡ record r.device { out = out } → IsSameGuest r (record r { device = d })
out_same r d k link after out at is part whole = record {
  seat = ap (λ (x : DeviceView). seat_of (record r { device = x })) whole;
  links = record {
    out = ap (λ (x : DeviceView). map out_part x.out) whole ∙ ap (map out_part) is ∙ map_same out_part r.device.out k link after at part;
    input = ap (λ (x : DeviceView). map in_part x.input) whole;
  };
}

in_same : (r : GuestView) (d : DeviceView) (k : ℕ) (link after : LinkInView) (input : List LinkInView) → slice_get r.device.input k ≡ Some link → input ≡ set r.device.input k after → in_part after ≡ in_part link → d ≡ record r.device { input = input } → IsSameGuest r (record r { device = d })
in_same r d k link after input at is part whole = record {
  seat = ap (λ (x : DeviceView). seat_of (record r { device = x })) whole;
  links = record {
    out = ap (λ (x : DeviceView). map out_part x.out) whole;
    input = ap (λ (x : DeviceView). map in_part x.input) whole ∙ ap (map in_part) is ∙ map_same in_part r.device.input k link after at part;
  };
}

link_notes : (r : GuestView) (d : DeviceView) (s : LinkSide) (port : ℕ) (n : LinkNoteView) → NotesLink s port n r.device d ⊎ HearsLink s port n r.device d → IsSameGuest r (record r { device = d })
link_notes r d side.Out port n h = elim h [
  | inl (k, out, p, e, is) ↦ out_same r d k e.link (record e.link { notes_given = suc e.link.notes_given }) out e.at e.is refl is
  | inr (k, out, p, e, is) ↦ out_same r d k e.link _ out e.at e.is refl is
]
link_notes r d side.In port n h = elim h [
  | inl (k, input, p, e, is) ↦ in_same r d k e.link (record e.link { notes_given = suc e.link.notes_given }) input e.at e.is refl is
  | inr (k, input, p, e, is) ↦ in_same r d k e.link _ input e.at e.is refl is
]

pub device_notes : (r : GuestView) (d : DeviceView) → DeviceNotes r.device d → IsSameGuest r (record r { device = d })
device_notes r d h = elim h [
  | inl m ↦ record {
    seat = ap (λ (x : DeviceView). seat_of (record r { device = x })) m.1 ∙ machine_notes r d.machine m.0;
    links = record { out = ap (λ (x : DeviceView). map out_part x.out) m.1; input = ap (λ (x : DeviceView). map in_part x.input) m.1 };
  }
  | inr h2 ↦ elim h2 [
    | inl n ↦ link_notes r d n.0 n.1 n.2 n.3
    | inr n ↦ record {
      seat = ap (λ (x : DeviceView). seat_of (record r { device = x })) n.2;
      links = record { out = ap (λ (x : DeviceView). map out_part x.out) n.2; input = ap (λ (x : DeviceView). map in_part x.input) n.2 };
    }
  ]
]
