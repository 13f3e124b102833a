-- What contracts see of the two ends, of a note and of the facts.
use Rattle.std.specs.Prelude.{◌≡◌, ◌+◌, ℕ, List, Bool, false, None}
use Rattle.vmx_ends.specs.Receive.{RxDeviceView, RxDriverView, RxNoteView, RxView}
use Rattle.atomic_table.specs.Seated.{TableId}
use Rattle.vmx_ends.specs.ReceiveClauses.{made_of}
use Rattle.vmx_ends.specs.declared.made.RxShape.{RxShape}
use Rattle.vmx_rx_ring.specs.declared.known.Known.{Known}
use Rattle.vmx_rx_ring.specs.Words.{count, more_words}

-- the table of a queue of this shape has its words, and one more where completions are counted
abbrev pub HasWords : Bool → TableId → RxShape → Type 0
HasWords counted id s = id.words ≡ count (made_of s) + count (made_of s) + count (made_of s) + count (made_of s) + more_words counted

abbrev pub device_seen : List ℕ → Known → RxDeviceView
device_seen key v = let e = v.device in record {
  key = key;
  made = v.made;
  delivered = e.delivered;
  refused = e.refused;
  looks = e.looks;
  seen1 = e.seen1;
  seen2 = e.seen2;
  heard = e.heard;
  given = false;
  bad = None;
  notes_given = e.notes_given;
  notes_heard = e.notes_heard;
}

abbrev pub driver_seen : List ℕ → Known → RxDriverView
driver_seen key v = let g = v.driver in record { key = key; made = v.made; received = g.received; looks = g.looks; heard = g.heard; notes_given = g.notes_given; notes_heard = g.notes_heard }

abbrev pub note_seen : List ℕ → Known → RxNoteView
note_seen key v = record { key = key; made = v.made; of_driver = v.of_driver; frames = v.frames; seen1 = v.told1; seen2 = v.told2 }

abbrev pub facts_seen : List ℕ → Known → RxView
facts_seen key v = record { key = key; made = v.made; delivered = v.device.delivered; received = v.driver.received; refused = v.device.refused }
