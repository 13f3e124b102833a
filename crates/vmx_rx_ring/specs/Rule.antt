-- The rule of a receive queue's table, which holds between any two steps.
use Rattle.std.specs.Prelude.{vec_len, ◌≡◌, ◌≢◌, ℕ, suc, ◌+◌, ◌%◌, ◌<◌, ◌≤◌, ◌⊎◌, List, [], ◌∷◌, ◌++◌, length, take, drop, Option, Some, Bool, true, false, slice_index, All}
use mathlib.Core.Option.{some}
use mathlib.Core.Option as maybe
use mathlib.Core.List.{IsPrefix}
use lib.ListN.{get_elem?}
use Rattle.atomic_table.specs.Table.{State}
use Rattle.vmx_ring_laws.specs.Lap.{Lap}
use Rattle.vmx_ring_laws.specs.Views.{total}
use Rattle.vmx_ring_laws.specs.Views as seats
use Rattle.vmx_ends.specs.declared.made.RxMade.{RxMade}
use Rattle.vmx_ends.specs.declared.frames.Delivery.{Delivery}
use Rattle.vmx_ends.specs.Frames.{IsFrame}
use Rattle.vmx_ends.specs.Receive.{used, took1, took2, in_ring}
use Rattle.vmx_ends.specs.ReceiveClauses.{IsRefusal}
use Rattle.vmx_rx_ring.specs.declared.known.Buffer.{Buffer}
use Rattle.vmx_rx_ring.specs.declared.known.Entry.{Entry}
use Rattle.vmx_rx_ring.specs.declared.known.DeviceKnows.{DeviceKnows}
use Rattle.vmx_rx_ring.specs.declared.known.DriverKnows.{DriverKnows}
use Rattle.vmx_rx_ring.specs.declared.known.Known.{Known}
use Rattle.vmx_rx_ring.specs.Words.{room_at, count, slot, slot_of, second1, second2, address, cell, Shows, Waits, more_words, Counts, flat, lies, TagFits}
use Rattle.vmx_ends.specs.declared.limits.TheConstants.{MAX_DESCRIPTORS, MAX_BODIES}

-- The last published position of each index shows in the words from `base` on. A ring that is made full has no other.
abbrev pub Posts : List ℕ → ℕ → ℕ → ℕ → (ℕ → ℕ) → Type 0
Posts words base n posted entry = (p : ℕ) → p < posted → posted ≤ p + n → slice_index words (base + p % n) ≡ entry p

-- The positions of the entries rise in each ring, from a1 and a2 on, and end below b1 and b2.
abbrev pub Rising : ℕ → ℕ → List Entry → ℕ → ℕ → Type 0
Rising a1 a2 [] b1 b2 = (a1 ≤ b1) × (a2 ≤ b2)
Rising a1 a2 (e ∷ es) b1 b2 = ((e.ring ≡ 1) × (a1 ≤ e.position) × Rising (suc e.position) a2 es b1 b2) ⊎ ((e.ring ≡ 2) × (a2 ≤ e.position) × Rising a1 (suc e.position) es b1 b2)

-- a position of a ring from a1 or a2 on and below b1 or b2
abbrev pub Between : ℕ → ℕ → ℕ → ℕ → ℕ → ℕ → Type 0
Between a1 a2 ring p b1 b2 = ((ring ≡ 1) × (a1 ≤ p) × (p < b1)) ⊎ ((ring ≡ 2) × (a2 ≤ p) × (p < b2))

-- what the words and slots stand for
pub record Numbers : Type 0 where
  pub log : List Entry
  pub published : ℕ
  pub read : ℕ
  pub back1 : ℕ
  pub back2 : ℕ
  pub gone1 : ℕ
  pub gone2 : ℕ
  pub opened : List ℕ
  pub filling : Option (ℕ × ℕ)
  pub reading : Bool

-- the words alone; where completions are counted, one word more tells how many are visible
pub record Rings (counted : Bool) (m : RxMade) (words : List ℕ) (y : Numbers) : Type 0 where
  pub some1 : 0 < m.size1
  pub some2 : 0 < m.size2
  pub as_many_words : length words ≡ count m + count m + count m + count m + more_words counted
  pub posts1 : Posts words 0 m.size1 (m.size1 + y.back1) (second1 m)
  pub posts2 : Posts words m.size1 m.size2 (m.size2 + y.back2) (second2 m)
  pub low : (k : ℕ) → k < count m → slice_index words (count m + k) ≡ address m k
  pub lap : Lap (count m) (cell (count m) words) (Shows counted (count m) y.published) (Waits counted (count m)) y.log y.read
  pub count_word : Counts counted m words y.published
  pub read_published : y.read ≤ y.published
  pub published_log : y.published ≤ length y.log
  pub rising : Rising y.back1 y.back2 (drop y.read y.log) y.gone1 y.gone2
  pub within1 : y.gone1 ≤ m.size1 + y.back1
  pub within2 : y.gone2 ≤ m.size2 + y.back2
  pub reach : (ring p : ℕ) → y.filling ≡ Some (ring, p) → Between y.gone1 y.gone2 ring p (m.size1 + y.back1) (m.size2 + y.back2)
  pub there : y.reading ≡ true → y.read < y.published
  pub opened_word : (w : ℕ) → y.opened ≡ w ∷ [] → slice_index words (count m + count m + count m + length y.log % count m) ≡ w

-- a buffer that is at home has the bytes of its descriptor
abbrev pub Rooms : RxMade → List (maybe.Option Buffer) → Type 0
Rooms m homes = (k : ℕ) (x : Buffer) → get_elem? homes k ≡ some (some x) → vec_len x.bytes ≡ room_at m k

-- the buffers: each is at home unless its end has it out, and that of an unread completion has the piece
pub record Homes (m : RxMade) (homes : List (maybe.Option Buffer)) (y : Numbers) : Type 0 where
  pub as_many_slots : length homes ≡ count m
  pub at_home : (k : ℕ) → k < count m → ((ring p : ℕ) → y.filling ≡ Some (ring, p) → slot m ring p ≢ k) → ((e : Entry) → y.reading ≡ true → get_elem? y.log y.read ≡ some e → slot_of m e ≢ k)
      → (x : Buffer) × (get_elem? homes k ≡ some (some x))
  pub rooms : Rooms m homes
  pub filled : (q : ℕ) (e : Entry) → y.read ≤ q → get_elem? y.log q ≡ some e → (q ≡ y.read → y.reading ≡ false) → (x : Buffer) × (get_elem? homes (slot_of m e) ≡ some (some x)) × (take (length e.bytes) (lies e.in_data x) ≡ e.bytes)

-- all that was done, and by which seats
pub record Story : Type 0 where
  pub made : RxMade
  pub device_seat : ℕ
  pub driver_seat : ℕ
  pub e : DeviceKnows
  pub d : DriverKnows

abbrev pub numbers : RxMade → DeviceKnows → DriverKnows → Numbers
numbers m e d = record {
  log = flat m e.delivered ++ e.staged;
  published = length (flat m e.delivered);
  read = d.read;
  back1 = d.back1;
  back2 = d.back2;
  gone1 = e.gone1;
  gone2 = e.gone2;
  opened = e.opened;
  filling = e.filling;
  reading = d.reading;
}

-- Where a frame's chain lies: each piece at the next position of its ring, the head behind the bodies passed over. c1 and c2 are the positions of the two supplies before the frame.
pub record IsPlaced (c1 c2 : ℕ) (d : Delivery) : Type 0 where
  pub head : get_elem? d.chain 0 ≡ some (1, c1 + d.passed)
  pub spots : (j : ℕ) (s : ℕ × ℕ) → get_elem? d.chain j ≡ some s
      → ((s.0 ≡ 1) × (s.1 ≡ c1 + d.passed + in_ring 1 (take j d.chain))) ⊎ ((s.0 ≡ 2) × (s.1 ≡ c2 + in_ring 2 (take j d.chain)))
  pub few : d.passed + length d.chain ≤ MAX_DESCRIPTORS
  pub near : d.passed ≤ MAX_BODIES

-- what the last notes told is true
pub record Latest (m : RxMade) (told_driver : List Delivery) (made_driver : RxMade) (delivered received told_device : List Delivery) (made_device : RxMade) (told1 told2 back1 back2 : ℕ) : Type 0 where
  pub driver's : IsPrefix told_driver received × (made_driver ≡ m)
  pub device's : IsPrefix told_device delivered × (made_device ≡ m)
  pub posted : (told1 ≤ m.size1 + back1) × (told2 ≤ m.size2 + back2)
  pub gone : (used took1 told_device ≤ m.size1 + back1) × (used took2 told_device ≤ m.size2 + back2)

-- what the two ends know of each other, whatever the words are
pub record Knows (m : RxMade) (e : DeviceKnows) (d : DriverKnows) : Type 0 where
  pub full : m.full ≡ true
  pub received : IsPrefix d.received e.delivered
  pub placed : (t : ℕ) (x : Delivery) → get_elem? e.delivered t ≡ some x → IsPlaced (used took1 (take t e.delivered)) (used took2 (take t e.delivered)) x × IsFrame x.frame × TagFits x.meta.tci
  pub seen1 : e.seen1 ≤ m.size1 + d.back1
  pub seen2 : e.seen2 ≤ m.size2 + d.back2
  pub refusals : All (IsRefusal m) e.refused
  pub heard : IsPrefix e.heard d.received
  pub heard1 : used took1 e.heard ≤ d.back1
  pub heard2 : used took2 e.heard ≤ d.back2
  pub told : IsPrefix d.heard e.delivered
  pub latest : Latest m e.latest e.latest_made e.delivered d.received d.latest d.latest_made d.latest1 d.latest2 d.back1 d.back2

-- what a note tells is true
pub record IsNews (y : Story) (v : Known) : Type 0 where
  pub device's : v.of_device ≡ true → (v.made ≡ y.made) × IsPrefix v.frames y.e.delivered × (v.told1 ≤ y.made.size1 + y.d.back1) × (v.told2 ≤ y.made.size2 + y.d.back2) × (used took1 v.frames ≤ y.made.size1 + y.d.back1) × (used took2 v.frames ≤ y.made.size2 + y.d.back2)
  pub driver's : v.of_driver ≡ true → (v.made ≡ y.made) × IsPrefix v.frames y.d.received × (used took1 v.frames ≤ y.d.back1) × (used took2 v.frames ≤ y.d.back2)

pub record Fits (y : Story) (seat : ℕ) (v : Known) : Type 0 where
  pub device's : v.delivers ≡ true → (seat ≡ y.device_seat) × (v.made ≡ y.made) × (v.device ≡ y.e)
  pub driver's : v.receives ≡ true → (seat ≡ y.driver_seat) × (v.made ≡ y.made) × (v.driver ≡ y.d)
  pub news : IsNews y v

abbrev pub flag : Bool → ℕ
flag true = 1
flag false = 0

abbrev pub by_device : Known → ℕ
by_device v = flag v.of_device

abbrev pub by_driver : Known → ℕ
by_driver v = flag v.of_driver

pub record Kept (counted : Bool) (y : Story) (s : State Buffer Known) : Type 0 where
  pub rings : Rings counted y.made s.words (numbers y.made y.e y.d)
  pub homes : Homes y.made s.homes (numbers y.made y.e y.d)
  pub knows : Knows y.made y.e y.d
  pub each : seats.All (Fits y) s.views
  -- each note that was given is out, or was heard
  pub device_notes : total by_device s.views + y.d.notes_heard ≡ y.e.notes_given
  pub driver_notes : total by_driver s.views + y.e.notes_heard ≡ y.d.notes_given

-- the rule
pub record Queue (counted : Bool) (s : State Buffer Known) : Type 0 where
  pub story : Story
  pub kept : Kept counted story s
