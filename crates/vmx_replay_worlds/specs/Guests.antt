-- A guest of a run as contracts see its two actors, and the seat of the serial run that it stands for.
use Rattle.std.specs.Prelude.{ℕ, ◌+◌, Bool, true, false, List, [], ◌∷◌, ◌++◌, length, map, Option, Some, None, is_some}
use Rattle.vmx_layout.specs.declared.TheConstants.{RX_DESC_GENERATION_BIT}
use Rattle.vmx_ends.specs.declared.made.RxMade.{RxMade}
use Rattle.vmx_ends.specs.Words.{missed_word}
use Rattle.vmx_ends.specs.Transmit.{TxDriverView, TxDeviceView, TxView}
use Rattle.vmx_ends.specs.TransmitCore.{TxCore}
use Rattle.vmx_ends.specs.Receive.{RxDriverView, RxDeviceView, RxView}
use Rattle.vmx_ends.specs.ReceiveClauses.{ring_size}
use Rattle.vmx_ends.specs.ReceiveCore.{RxCore}
use Rattle.vmx_device_state.specs.SetupView.{setup_view}
use Rattle.vmx_machine_state.specs.Views.{EndsView, ActiveView}
use Rattle.vmx_model.specs.declared.journal.Entry.{Entry}
use Rattle.vmx_model.specs.declared.journal.Entry.TheVariants as entry
use Rattle.vmx_model.specs.Lists.{count}
use Rattle.vmx_model.specs.Serial.{Seat}
use Rattle.vmx_device_laws.specs.Views.{DeviceView}
use Rattle.vmx_driver_steps.specs.Progress.{in_hand, setup_now}
use Rattle.vmx_driver_steps.specs.Driver.{DriverView}

-- a guest: its driver and its device
pub record GuestView : Type 0 where
  pub driver : DriverView
  pub device : DeviceView

-- ------------------------------------------------------------ queues

-- The two ends of a transmit queue. What is completed counts as reaped, since a driver reaps before each act.
abbrev pub live_tx : TxDriverView → TxDeviceView → TxCore
live_tx d e = record { made = d.made; sent = d.sent; reaped = e.completed; completed = e.completed; taken = length e.taken }

-- the same of a queue whose ends have met
abbrev pub met_tx : TxView → TxCore
met_tx f = record { made = f.made; sent = f.sent; reaped = f.completed; completed = f.completed; taken = length f.taken }

-- a look that refused a frame, with the word of a form that keeps no descriptors: words of looks are each form's own
abbrev pub plain_look : RxMade → ℕ × ℕ × ℕ → ℕ × ℕ × ℕ
plain_look m x = (x.0, x.1, missed_word RX_DESC_GENERATION_BIT (ring_size m x.0) x.1)

-- the two ends of a receive queue
abbrev pub live_rx : RxDriverView → RxDeviceView → RxCore
live_rx d e = record { made = d.made; delivered = e.delivered; received = length d.received; refused = map (plain_look d.made) e.refused }

abbrev pub met_rx : RxView → RxCore
met_rx f = record { made = f.made; delivered = f.delivered; received = length f.received; refused = map (plain_look f.made) f.refused }

-- queue by queue
abbrev pub joined : {X Y Z : Type 0} → (X → Y → Z) → List X → List Y → List Z
joined f [] ys = []
joined f (x ∷ xs) [] = []
joined f (x ∷ xs) (y ∷ ys) = f x y ∷ joined f xs ys

-- those of the machine, or else those that its driver got back
abbrev pub ends_by : Option ActiveView → EndsView → EndsView
ends_by (Some a) back = a.ends
ends_by None back = back

-- the device's ends, wherever they are
abbrev pub ends_of : GuestView → EndsView
ends_of r = ends_by r.device.machine.active (record { tx = r.driver.tx_held; rx = r.driver.rx_held })

-- the transmit queues of all activations so far
abbrev pub tx_cores : GuestView → List TxCore
tx_cores r = map met_tx r.driver.tx_facts ++ joined live_tx r.driver.tx (ends_of r).tx

-- the receive queues
abbrev pub rx_cores : GuestView → List RxCore
rx_cores r = map met_rx r.driver.rx_facts ++ joined live_rx r.driver.rx (ends_of r).rx

-- ------------------------------------------------------------ guests

-- a copy that reached the guest
abbrev pub is_arrival : Entry → Bool
is_arrival (entry.In from place fate) = true
is_arrival (entry.Out tag target way) = false
is_arrival (entry.Lost tag) = false
is_arrival (entry.Setting number answer setup) = false

-- how many activations were sent
abbrev pub begun_by : DriverView → ℕ
begun_by v = v.at.ended + in_hand v.at.stage

-- The seat of the guest: the device's state, journal and queues, and what its driver begun and handed up.
abbrev pub seat_of : GuestView → Seat
seat_of r = record {
  active = is_some r.device.machine.active;
  setup = setup_now r.driver.plan r.driver.at;
  begun = begun_by r.driver;
  seen = count is_arrival r.device.entries;
  entries = r.device.entries;
  setups = map setup_view r.device.setups;
  received = r.driver.received;
  tx = tx_cores r;
  rx = rx_cores r;
}
