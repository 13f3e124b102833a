-- Calls on notes of the ends that a machine holds.
use Rattle.std.specs.Prelude.{◌≡◌, ℕ, true, slice_set}
use Rattle.vmx_ends.specs.Transmit.{TxDeviceView, TxNoteView}
use Rattle.vmx_ends.specs.Receive.{RxDeviceView, RxNoteView}
use Rattle.vmx_ends.specs.TransmitClauses as tx
use Rattle.vmx_ends.specs.ReceiveClauses as rx
use Rattle.vmx_machine_state.specs.Views.{MachineView}
use Rattle.vmx_device_looks.specs.Looks.{TxAt, RxAt, with_tx, with_rx}

-- the transmit end of queue q gave a note
pub record NotesTx (q : ℕ) (note : TxNoteView) (old new : MachineView) : Type 0 where
  pub here : TxAt old q
  pub after : TxDeviceView
  pub notes : tx.NotesDevice here.end note after
  pub is : new ≡ with_tx (slice_set here.active.ends.tx q after) old

-- it heard one
pub record HearsTx (q : ℕ) (note : TxNoteView) (old new : MachineView) : Type 0 where
  pub here : TxAt old q
  pub after : TxDeviceView
  pub hears : tx.DeviceHears here.end note after
  pub is : new ≡ with_tx (slice_set here.active.ends.tx q after) old

-- a note of the driver of queue q
pub record FitsTx (m : MachineView) (q : ℕ) (note : TxNoteView) : Type 0 where
  pub here : TxAt m q
  pub key : note.key ≡ here.end.key
  pub side : note.of_driver ≡ true

-- the same of a receive end
pub record NotesRx (q : ℕ) (note : RxNoteView) (old new : MachineView) : Type 0 where
  pub here : RxAt old q
  pub after : RxDeviceView
  pub notes : rx.NotesDevice here.end note after
  pub is : new ≡ with_rx (slice_set here.active.ends.rx q after) old

pub record HearsRx (q : ℕ) (note : RxNoteView) (old new : MachineView) : Type 0 where
  pub here : RxAt old q
  pub after : RxDeviceView
  pub hears : rx.DeviceHears here.end note after
  pub is : new ≡ with_rx (slice_set here.active.ends.rx q after) old

pub record FitsRx (m : MachineView) (q : ℕ) (note : RxNoteView) : Type 0 where
  pub here : RxAt m q
  pub key : note.key ≡ here.end.key
  pub side : note.of_driver ≡ true
