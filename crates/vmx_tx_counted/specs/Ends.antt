-- What contracts see of the two ends of a transmit queue, of a note and of the facts.
use Rattle.vmx_ring_laws.specs.Keys.{key_of}
use Rattle.vmx_ends.specs.Transmit.{TxDriverView, TxDeviceView, TxNoteView, TxView}
use Rattle.vmx_tx_ring.specs.declared.known.TxKnown.{TxKnown}
use Rattle.vmx_tx_ring.specs.Seats.{known, driver_seen, device_seen}
use Rattle.vmx_tx_counted.specs.declared.ends.RingTxDriver.{RingTxDriver}
use Rattle.vmx_tx_counted.specs.declared.ends.RingTxDevice.{RingTxDevice}
use Rattle.vmx_tx_counted.specs.declared.ends.RingTxNote.{RingTxNote}
use Rattle.vmx_tx_counted.specs.declared.ends.RingTxFacts.{RingTxFacts}

abbrev pub driver_view : RingTxDriver → TxDriverView
driver_view d = driver_seen (key_of d.writer.seat.table_id) d.writer.seat.me.0

abbrev pub device_view : RingTxDevice → TxDeviceView
device_view d = device_seen (key_of d.reader.seat.table_id) d.reader.seat.me.0

abbrev pub note_view : RingTxNote → TxNoteView
note_view n = let v : TxKnown = n.seat.me.0 in record { key = key_of n.seat.table_id; made = v.news.made; of_driver = v.of_driver; frames = v.news.frames; done = v.news.done }

abbrev pub facts_view : RingTxFacts → TxView
facts_view f = let v : TxKnown = known f.meeting.badge.views in record { key = key_of f.meeting.badge.table_id; made = v.made; sent = v.driver.at.sent; taken = v.device.at.taken; completed = v.device.at.completed; reaped = v.driver.at.reaped }
