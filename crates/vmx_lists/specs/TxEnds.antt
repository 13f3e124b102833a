-- What contracts see of the two ends of a transmit queue, of a note and of the facts.
use Rattle.std.specs.Prelude.{ℕ, List, false, None}
use Rattle.vmx_ring_laws.specs.Keys.{key_of}
use Rattle.vmx_ends.specs.Transmit.{TxDriverView, TxDeviceView, TxNoteView, TxView}
use Rattle.vmx_ends.specs.TransmitClauses.{no_note}
use Rattle.vmx_lists.specs.declared.tx.ListTxDriver.{ListTxDriver}
use Rattle.vmx_lists.specs.declared.tx.ListTxDevice.{ListTxDevice}
use Rattle.vmx_lists.specs.declared.tx.TxSlip.{TxSlip}
use Rattle.vmx_lists.specs.declared.tx.ListTxNote.{ListTxNote}
use Rattle.vmx_lists.specs.declared.tx.ListTxNote.TheVariants.{Told, Nothing}
use Rattle.vmx_lists.specs.declared.tx.ListTxFacts.{ListTxFacts}
use Rattle.vmx_lists.specs.declared.tx.log.TxLog.{TxLog}
use Rattle.vmx_lists.specs.TxRing.{known}

abbrev pub driver_seen : List ℕ → TxLog → TxDriverView
driver_seen key v = record { key = key; made = v.made; sent = v.sent; reaped = v.reaped; looks = v.reap_looks; heard = v.heard_completed; notes_given = v.driver_given; notes_heard = v.driver_heard }

abbrev pub driver_view : ListTxDriver → TxDriverView
driver_view d = driver_seen (key_of d.seat.table_id) d.seat.me.0

abbrev pub device_seen : List ℕ → TxLog → TxDeviceView
device_seen key v = record { key = key; made = v.made; taken = v.taken; completed = v.completed; looks = v.take_looks; heard = v.heard_sent; given = false; bad = None; notes_given = v.device_given; notes_heard = v.device_heard }

abbrev pub device_view : ListTxDevice → TxDeviceView
device_view d = device_seen (key_of d.seat.table_id) d.seat.me.0

abbrev pub slip_view : TxSlip → TxNoteView
slip_view s = let v = s.seat.me.0 in record { key = key_of s.seat.table_id; made = v.made; of_driver = v.tells_sent; frames = v.latest; done = v.latest_done }

abbrev pub note_view : ListTxNote → TxNoteView
note_view (Told slip) = slip_view slip
note_view Nothing = no_note

abbrev pub facts_view : ListTxFacts → TxView
facts_view f = let v = known f.badge.views in record { key = key_of f.badge.table_id; made = v.made; sent = v.sent; taken = v.taken; completed = v.completed; reaped = v.reaped }
