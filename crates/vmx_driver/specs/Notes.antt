-- What the calls on notes do: `note` and `hear` of the named end.
use Rattle.std.specs.Prelude.{◌≡◌, ℕ, suc, false, List, slice_index_or, slice_set}
use Rattle.vmx_ends.specs.Transmit.{TxDriverView, TxNoteView}
use Rattle.vmx_ends.specs.Receive.{RxDriverView, RxNoteView}
use Rattle.vmx_ends.specs.TransmitClauses as tx
use Rattle.vmx_ends.specs.ReceiveClauses as rx
use Rattle.vmx_driver_steps.specs.Driver.{DriverView}

-- the end of a transmit queue gave a note
pub record NotesTx (q : ℕ) (old : DriverView) (note : TxNoteView) (new : DriverView) : Type 0 where
  pub end : TxDriverView
  pub at : end ≡ slice_index_or old.tx q end
  pub tells : note ≡ tx.driver_note end
  pub is : new ≡ record old { tx = slice_set old.tx q (record end { notes_given = suc end.notes_given }) }

-- a note of the device's end of this queue
abbrev pub FitsTx : ℕ → List TxDriverView → TxNoteView → Type 0
FitsTx q ends note = ((d : TxDriverView) → d ≡ slice_index_or ends q d → note.key ≡ d.key) × (note.of_driver ≡ false)

-- it was heard
pub record HearsTx (q : ℕ) (old : DriverView) (note : TxNoteView) (new : DriverView) : Type 0 where
  pub end : TxDriverView
  pub at : end ≡ slice_index_or old.tx q end
  pub end' : TxDriverView
  pub hears : tx.DriverHears end note end'
  pub is : new ≡ record old { tx = slice_set old.tx q end' }

-- the same of a receive queue
pub record NotesRx (q : ℕ) (old : DriverView) (note : RxNoteView) (new : DriverView) : Type 0 where
  pub end : RxDriverView
  pub at : end ≡ slice_index_or old.rx q end
  pub tells : note ≡ rx.driver_note end
  pub is : new ≡ record old { rx = slice_set old.rx q (record end { notes_given = suc end.notes_given }) }

abbrev pub FitsRx : ℕ → List RxDriverView → RxNoteView → Type 0
FitsRx q ends note = ((d : RxDriverView) → d ≡ slice_index_or ends q d → note.key ≡ d.key) × (note.of_driver ≡ false)

pub record HearsRx (q : ℕ) (old : DriverView) (note : RxNoteView) (new : DriverView) : Type 0 where
  pub end : RxDriverView
  pub at : end ≡ slice_index_or old.rx q end
  pub end' : RxDriverView
  pub hears : rx.DriverHears end note end'
  pub is : new ≡ record old { rx = slice_set old.rx q end' }
