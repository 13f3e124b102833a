-- What contracts see of a note.
use Rattle.vmx_ring_laws.specs.Keys.{key_of}
use Rattle.vmx_ends.specs.Receive.{RxNoteView}
use Rattle.vmx_rx_ends.specs.Views.{note_seen}
use Rattle.vmx_rx_counted.specs.declared.notes.RingRxNote.{RingRxNote}

abbrev pub note_view : RingRxNote → RxNoteView
note_view n = note_seen (key_of n.seat.table_id) n.seat.me.0
