-- What contracts see of the two ends, of a note and of the facts.
use Rattle.std.specs.Prelude.{ℕ, List, take, false, if◌then◌else◌, None}
use Rattle.vmx_ring_laws.specs.Keys.{key_of}
use Rattle.vmx_ends.specs.Receive.{RxDeviceView, RxDriverView, RxNoteView, RxView, posted1, posted2}
use Rattle.vmx_ends.specs.ReceiveClauses.{no_note}
use Rattle.vmx_lists.specs.declared.rx.ListRxDriver.{ListRxDriver}
use Rattle.vmx_lists.specs.declared.rx.ListRxDevice.{ListRxDevice}
use Rattle.vmx_lists.specs.declared.rx.RxSlip.{RxSlip}
use Rattle.vmx_lists.specs.declared.rx.ListRxNote.{ListRxNote}
use Rattle.vmx_lists.specs.declared.rx.ListRxNote.TheVariants.{Told, Nothing}
use Rattle.vmx_lists.specs.declared.rx.ListRxFacts.{ListRxFacts}
use Rattle.vmx_lists.specs.declared.rx.log.RxLog.{RxLog}
use Rattle.vmx_lists.specs.RxRing.{known}

abbrev pub driver_seen : List ℕ → RxLog → RxDriverView
driver_seen key v = record { key = key; made = v.made; received = v.received; looks = v.missed; heard = v.heard_delivered; notes_given = v.driver_given; notes_heard = v.driver_heard }

abbrev pub driver_view : ListRxDriver → RxDriverView
driver_view d = driver_seen (key_of d.seat.table_id) d.seat.me.0

abbrev pub device_seen : List ℕ → RxLog → RxDeviceView
device_seen key v = record {
  key = key;
  made = v.made;
  delivered = v.delivered;
  refused = v.refused;
  looks = v.looks;
  seen1 = posted1 v.made (take v.seen v.delivered);
  seen2 = posted2 v.made (take v.seen v.delivered);
  heard = v.heard_received;
  given = false;
  bad = None;
  notes_given = v.device_given;
  notes_heard = v.device_heard;
}

abbrev pub device_view : ListRxDevice → RxDeviceView
device_view d = device_seen (key_of d.seat.table_id) d.seat.me.0

abbrev pub slip_view : RxSlip → RxNoteView
slip_view s = let v = s.seat.me.0 in record {
  key = key_of s.seat.table_id;
  made = v.made;
  of_driver = v.tells_received;
  frames = if v.tells_received then v.heard_received else v.heard_delivered;
  seen1 = v.told1;
  seen2 = v.told2;
}

abbrev pub note_view : ListRxNote → RxNoteView
note_view (Told slip) = slip_view slip
note_view Nothing = no_note

abbrev pub facts_view : ListRxFacts → RxView
facts_view f = let v = known f.badge.views in record { key = key_of f.badge.table_id; made = v.made; delivered = v.delivered; received = v.received; refused = v.refused }
