-- What notes tell the two ends of a queue of each other, and what an end that was told all does next.
use Rattle.std.specs.Prelude.{◌≡◌, ◌≤◌, ℕ, suc, List, ◌∷◌, ◌++◌, false, length, [], ◌⊎◌}
use mathlib.Core.List.{IsPrefix}
use Rattle.vmx_ends.specs.declared.frames.Sent.{Sent}
use Rattle.vmx_ends.specs.declared.frames.Delivery.{Delivery}
use Rattle.vmx_ends.specs.declared.meta.TxMark.{TxMark}
use Rattle.vmx_ends.specs.Frames.{sent_of, sent_as}
use Rattle.vmx_ends.specs.Transmit.{TxDriverView, TxDeviceView, TxNoteView}
use Rattle.vmx_ends.specs.TransmitClauses as tx
use Rattle.vmx_ends.specs.Receive.{RxDriverView, RxDeviceView, RxNoteView, posted1, posted2, consumed1, consumed2}
use Rattle.vmx_ends.specs.ReceiveClauses as rx
use Rattle.vmx_ends.specs.Queues.{driver_passed, device_passed, driver_passed_rx, device_passed_rx}

-- ------------------------------------------------------------ a transmit queue

-- two ends of one queue
abbrev pub AreOneTx : TxDriverView → TxDeviceView → Type 0
AreOneTx d e = d.key ≡ e.key

-- Each end was told all that the other did, and what both did is in order.
pub record IsToldTx (d : TxDriverView) (e : TxDeviceView) : Type 0 where
  pub key : d.key ≡ e.key
  pub made : d.made ≡ e.made
  pub given : e.given ≡ false
  pub sent : length d.sent ≤ length e.heard
  pub completed : e.completed ≤ d.heard
  pub within : IsPrefix (sent_of e.taken) d.sent
  pub reaped : d.reaped ≤ e.completed

-- the device's end heard a note of its driver's, and then the driver's heard one of the device's
pub record NotesBothTx (d : TxDriverView) (e : TxDeviceView) (d' : TxDriverView) (e' : TxDeviceView) : Type 0 where
  pub told : TxDeviceView
  pub hears : tx.DeviceHears e (tx.driver_note d) told
  pub back : TxNoteView
  pub notes : tx.NotesDevice told back e'
  pub heard : tx.DriverHears (record d { notes_given = suc d.notes_given }) back d'

-- notes went both ways, and nothing else happened
pub record PassesTx (d : TxDriverView) (e : TxDeviceView) (d' : TxDriverView) (e' : TxDeviceView) : Type 0 where
  pub driver : d' ≡ driver_passed d e
  pub device : e' ≡ device_passed e d
  pub made : d.made ≡ e.made
  pub given : e.given ≡ false
  pub sent : length d.sent ≤ length e'.heard
  pub completed : e.completed ≤ d'.heard
  pub within : IsPrefix (sent_of e.taken) d.sent
  pub reaped : d.reaped ≤ e.completed

-- a device's end takes the frame that its driver sent behind those taken
pub record TakesNextSent (d : TxDriverView) (e : TxDeviceView) (frame : List ℕ) (mark : TxMark) : Type 0 where
  pub more : List Sent
  pub next : d.sent ≡ sent_of e.taken ++ sent_as frame mark ∷ more

-- ------------------------------------------------------------ a receive queue

abbrev pub AreOneRx : RxDriverView → RxDeviceView → Type 0
AreOneRx d e = d.key ≡ e.key

-- What the device's end heard begins what the driver's received, or it has delivered nothing yet. So it is from the making of a queue on, where notes go both ways before the first frame is delivered.
pub record IsBehindRx (d : RxDriverView) (e : RxDeviceView) : Type 0 where
  pub key : d.key ≡ e.key
  pub heard : (e.delivered ≡ []) ⊎ IsPrefix e.heard d.received

-- Each end was told all that the other did, and what both did is in order; the device consumed, and knows of, no position beyond those that the driver posted.
pub record IsToldRx (d : RxDriverView) (e : RxDeviceView) : Type 0 where
  pub key : d.key ≡ e.key
  pub made : d.made ≡ e.made
  pub given : e.given ≡ false
  pub received : e.heard ≡ d.received
  pub delivered : length e.delivered ≤ length d.heard
  pub within : IsPrefix d.received e.delivered
  pub consumed : (consumed1 e ≤ posted1 d.made d.received) × (consumed2 e ≤ posted2 d.made d.received)
  pub seen : (e.seen1 ≤ posted1 d.made d.received) × (e.seen2 ≤ posted2 d.made d.received)

pub record NotesBothRx (d : RxDriverView) (e : RxDeviceView) (d' : RxDriverView) (e' : RxDeviceView) : Type 0 where
  pub told : RxDeviceView
  pub hears : rx.DeviceHears e (rx.driver_note d) told
  pub back : RxNoteView
  pub notes : rx.NotesDevice told back e'
  pub heard : rx.DriverHears (record d { notes_given = suc d.notes_given }) back d'

pub record PassesRx (d : RxDriverView) (e : RxDeviceView) (d' : RxDriverView) (e' : RxDeviceView) : Type 0 where
  pub driver : d' ≡ driver_passed_rx d e
  pub device : e' ≡ device_passed_rx e d
  pub made : d.made ≡ e.made
  pub given : e.given ≡ false
  pub told : IsPrefix e'.heard e.delivered
  pub delivered : length e.delivered ≤ length d'.heard
  pub within : IsPrefix d.received e.delivered
  pub consumed : (consumed1 e ≤ posted1 d.made d.received) × (consumed2 e ≤ posted2 d.made d.received)
  pub seen : (e.seen1 ≤ posted1 d.made d.received) × (e.seen2 ≤ posted2 d.made d.received)

-- an end that received more or nothing
pub record GoesOnRxDriver (d d' : RxDriverView) : Type 0 where
  pub key : d'.key ≡ d.key
  pub received : IsPrefix d.received d'.received

-- an end that heard nothing new
pub record GoesOnRxDevice (e e' : RxDeviceView) : Type 0 where
  pub key : e'.key ≡ e.key
  pub heard : e'.heard ≡ e.heard

-- a driver's end receives the frame that its device delivered behind those received
pub record ReceivesNext (d : RxDriverView) (e : RxDeviceView) (x : Delivery) : Type 0 where
  pub more : List Delivery
  pub next : e.delivered ≡ d.received ++ x ∷ more
