-- Calls on notes, as they change a guest's driver and device.
use Rattle.std.specs.Prelude.{◌≡◌, ◌⊎◌, ℕ, slice_index_or, slice_set}
use Rattle.vmx_ends.specs.Transmit.{TxDriverView, TxNoteView}
use Rattle.vmx_ends.specs.Receive.{RxDriverView, RxNoteView}
use Rattle.vmx_link.specs.Views.{LinkNoteView}
use Rattle.vmx_regs.specs.declared.known.Calls.{Calls}
use Rattle.vmx_regs.specs.declared.known.Masks.{Masks}
use Rattle.vmx_machine_state.specs.Views.{MachineView}
use Rattle.vmx_device_looks.specs.Notes.{NotesTx, HearsTx, NotesRx, HearsRx}
use Rattle.vmx_device_laws.specs.Views.{DeviceView}
use Rattle.vmx_device_laws.specs.LinkNotes.{NotesLink, HearsLink}
use Rattle.vmx_device_laws.specs.declared.side.LinkSide.{LinkSide}
use Rattle.vmx_driver_steps.specs.Driver.{DriverView}
use Rattle.vmx_driver_steps.specs.Near.{IsNearTx, IsNearRx}

-- the driver's end of a transmit queue gave or heard a note
pub record NearsTx (q : ℕ) (old new : DriverView) : Type 0 where
  pub end : TxDriverView
  pub at : end ≡ slice_index_or old.tx q end
  pub end' : TxDriverView
  pub near : IsNearTx end end'
  pub is : new ≡ record old { tx = slice_set old.tx q end' }

-- the same of a receive queue
pub record NearsRx (q : ℕ) (old new : DriverView) : Type 0 where
  pub end : RxDriverView
  pub at : end ≡ slice_index_or old.rx q end
  pub end' : RxDriverView
  pub near : IsNearRx end end'
  pub is : new ≡ record old { rx = slice_set old.rx q end' }

-- one of the driver's notes, or one that it heard
abbrev pub DriverNotes : DriverView → DriverView → Type 0
DriverNotes old new = ((q : ℕ) × NearsTx q old new) ⊎ ((q : ℕ) × NearsRx q old new) ⊎ ((calls : Calls) × (masks : Masks) × (new ≡ record old { calls = calls; masks = masks }))

-- a queue end of the machine gave or heard a note
abbrev pub MachineNotes : MachineView → MachineView → Type 0
MachineNotes old new =
    ((q : ℕ) × (n : TxNoteView) × (NotesTx q n old new ⊎ HearsTx q n old new))
    ⊎ ((q : ℕ) × (n : RxNoteView) × (NotesRx q n old new ⊎ HearsRx q n old new))

-- one of the device's notes, or one that it heard
abbrev pub DeviceNotes : DeviceView → DeviceView → Type 0
DeviceNotes old new =
    (MachineNotes old.machine new.machine × (new ≡ record old { machine = new.machine }))
    ⊎ ((side : LinkSide) × (port : ℕ) × (n : LinkNoteView) × (NotesLink side port n old new ⊎ HearsLink side port n old new))
    ⊎ ((calls : Calls) × (masks : Masks) × (new ≡ record old { calls = calls; masks = masks }))
