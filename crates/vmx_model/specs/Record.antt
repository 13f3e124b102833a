-- A record has the lists of a world; the words of looks, keys and images are left open.
use Rattle.std.specs.Prelude.{◌≡◌, ℕ, List, [], map, take, Some, slice_get}
use Rattle.vmx_ends.specs.declared.frames.Sent.{Sent}
use Rattle.vmx_ends.specs.declared.frames.Delivery.{Delivery}
use Rattle.vmx_ends.specs.declared.made.TxMade.{TxMade}
use Rattle.vmx_ends.specs.declared.made.RxMade.{RxMade}
use Rattle.vmx_ends.specs.Frames.{sent_of}
use Rattle.vmx_ends.specs.Transmit.{TxView}
use Rattle.vmx_ends.specs.Receive.{RxView}
use Rattle.vmx_ends.specs.LinkView.{LinkView}
use Rattle.vmx_ends.specs.TransmitCore as tx
use Rattle.vmx_ends.specs.ReceiveCore as rx
use Rattle.vmx_model.specs.Types.{Packet}
use Rattle.vmx_device_state.specs.SetupView.{setup_view}
use Rattle.vmx_model.specs.Views.{Need, GuestView, RecordView}
use Rattle.vmx_model.specs.Account.{need}
use Rattle.vmx_model.specs.Stats.{tx_counts, rx_counts}
use Rattle.vmx_model.specs.Serial.{Seat, World, Wire, Carried}

-- a transmit queue's lists
pub record TxLists : Type 0 where
  pub made : TxMade
  pub sent : List Sent
  pub taken : List Sent
  pub completed : ℕ
  pub reaped : ℕ

-- of the facts of a queue
abbrev pub lists_of_tx : TxView → TxLists
lists_of_tx v = record { made = v.made; sent = v.sent; taken = sent_of v.taken; completed = v.completed; reaped = v.reaped }

-- of a core
abbrev pub lists_of_tx_core : tx.TxCore → TxLists
lists_of_tx_core c = record { made = c.made; sent = c.sent; taken = take c.taken c.sent; completed = c.completed; reaped = c.reaped }

-- a receive queue's lists without the words of its looks
pub record RxLists : Type 0 where
  pub made : RxMade
  pub delivered : List Delivery
  pub received : List Delivery
  pub refused : List Need

-- of the facts of a queue
abbrev pub lists_of_rx : RxView → RxLists
lists_of_rx v = record { made = v.made; delivered = v.delivered; received = v.received; refused = map need v.refused }

-- of a core
abbrev pub lists_of_rx_core : rx.RxCore → RxLists
lists_of_rx_core c = record { made = c.made; delivered = c.delivered; received = take c.received c.delivered; refused = map need c.refused }

-- a packet without the proof of its length
abbrev pub carried_of : Packet → Carried
carried_of p = record { tag = p.tag; frame = p.frame }

-- a link without its looks
abbrev pub wire_of : LinkView → Wire
wire_of l = record { from = l.from; to = l.to; pushed = map carried_of l.pushed; pulled = map carried_of l.pulled }

-- a record has the lists of a run, its statistics are counts of these lists, and no link was found full
pub record HasLists (r : RecordView) (w : World) : Type 0 where
  pub entries : map (λ (v : GuestView). v.entries) r.guests ≡ map (λ (s : Seat). s.entries) w.seats
  pub setups : map (λ (v : GuestView). map setup_view v.setups) r.guests ≡ map (λ (s : Seat). s.setups) w.seats
  pub received : map (λ (v : GuestView). v.received) r.guests ≡ map (λ (s : Seat). s.received) w.seats
  pub tx : map (λ (v : GuestView). map lists_of_tx v.tx) r.guests ≡ map (λ (s : Seat). map lists_of_tx_core s.tx) w.seats
  pub rx : map (λ (v : GuestView). map lists_of_rx v.rx) r.guests ≡ map (λ (s : Seat). map lists_of_rx_core s.rx) w.seats
  pub links : map wire_of r.links ≡ w.wires
  pub tx_stats : (g : ℕ) (v : GuestView) → slice_get r.guests g ≡ Some v → v.tx_stats ≡ tx_counts v.tx v.entries
  pub rx_stats : (g : ℕ) (v : GuestView) → slice_get r.guests g ≡ Some v → v.rx_stats ≡ rx_counts r.links g v.entries
  pub never_full : map (λ (l : LinkView). l.full) r.links ≡ map (λ (l : Wire). []) w.wires
