-- What each step of a receive queue tells the seat that takes it.
use Rattle.std.specs.Prelude.{vec_len, ◌<◌, ◌≡◌, ℕ, suc, ◌+◌, ◌%◌, ◌^◌, ◌≤◌, List, [], ◌∷◌, ◌++◌, length, take, Option, Some, None, Bool, true, false, ◌==◌, if◌then◌else◌, All}
use mathlib.Core.Option.{some}
use mathlib.Core.List.{IsPrefix}
use lib.ListN.{get_elem?}
use Rattle.atomic_table.specs.Table.{Me, Step}
use Rattle.vmx_genring.specs.Rings.{generation}
use Rattle.vmx_ends.specs.Words.{bit, IsMissed, missed_word}
use Rattle.vmx_ends.specs.ReceiveClauses.{IsRefusal}
use Rattle.vmx_ends.specs.Frames.{IsFrame, IsComparable, larger}
use Rattle.vmx_ends.specs.Receive.{used, took1, took2, posted1, posted2}
use Rattle.vmx_ends.specs.declared.frames.Delivery.{Delivery}
use Rattle.vmx_rx_ring.specs.declared.known.Buffer.{Buffer}
use Rattle.vmx_rx_ring.specs.declared.known.Entry.{Entry}
use Rattle.vmx_rx_ring.specs.declared.known.DeviceKnows.{DeviceKnows}
use Rattle.vmx_rx_ring.specs.declared.known.DriverKnows.{DriverKnows}
use Rattle.vmx_rx_ring.specs.declared.known.Known.{Known}
use Rattle.vmx_rx_ring.specs.Words.{room_at, count, slot, slot_of, with_bit, entries, flat, lies, TagFits}
use Rattle.vmx_rx_ring.specs.Rule.{IsPlaced}
use Rattle.vmx_layout.specs.declared.TheConstants.{RX_DESC_GENERATION_BIT, COMPLETION_GENERATION_BIT}
use Rattle.vmx_layout.specs.declared.rx_comp.TheConstants.{LEN_WIDTH}

abbrev pub Seated : Type 0
Seated = Me Buffer Known

abbrev pub with_device : Known → DeviceKnows → Known
with_device v e = record v { device = e }

abbrev pub with_driver : Known → DriverKnows → Known
with_driver v g = record v { driver = g }

-- the walk's loads of second words: the search for a head, a further piece in ring 1, one in ring 2
abbrev pub saw_head : DeviceKnows → DeviceKnows
saw_head e = record e { head = e.next1; next1 = suc e.next1; seen1 = larger e.seen1 (suc e.next1) }

abbrev pub saw_one : DeviceKnows → DeviceKnows
saw_one e = record e { next1 = suc e.next1; seen1 = larger e.seen1 (suc e.next1) }

abbrev pub saw_two : DeviceKnows → DeviceKnows
saw_two e = record e { next2 = suc e.next2; seen2 = larger e.seen2 (suc e.next2) }

-- the frame is refused, and the walk goes back to where nothing is consumed
abbrev pub refuses : DeviceKnows → ℕ → ℕ → ℕ → DeviceKnows
refuses e ring p word = record e { refused = e.refused ++ (ring, p, word) ∷ []; next1 = e.gone1; next2 = e.gone2 }

abbrev pub looks_past : DeviceKnows → ℕ → DeviceKnows
looks_past e word = record e { looks = e.looks ++ (e.next1, word) ∷ [] }

abbrev pub head_looked : Step Buffer → Seated → ℕ → Seated → Type 0
head_looked st m r m' = let v = m.0 in let e = v.device in
    (bit RX_DESC_GENERATION_BIT r ≡ generation v.made.size1 e.next1 → m' ≡ (with_device v (saw_head e), []))
    × (IsMissed RX_DESC_GENERATION_BIT v.made.size1 e.next1 r → (m' ≡ (with_device v (refuses e 1 e.next1 r), [])) × (posted1 v.made e.heard ≤ e.next1))

abbrev pub one_looked : Step Buffer → Seated → ℕ → Seated → Type 0
one_looked st m r m' = let v = m.0 in let e = v.device in
    (bit RX_DESC_GENERATION_BIT r ≡ generation v.made.size1 e.next1 → m' ≡ (with_device v (saw_one e), []))
    × (IsMissed RX_DESC_GENERATION_BIT v.made.size1 e.next1 r → (m' ≡ (with_device v (looks_past e r), [])) × (posted1 v.made e.heard ≤ e.next1))

abbrev pub two_looked : Step Buffer → Seated → ℕ → Seated → Type 0
two_looked st m r m' = let v = m.0 in let e = v.device in
    (bit RX_DESC_GENERATION_BIT r ≡ generation v.made.size2 e.next2 → m' ≡ (with_device v (saw_two e), []))
    × (IsMissed RX_DESC_GENERATION_BIT v.made.size2 e.next2 r → (m' ≡ (with_device v (refuses e 2 e.next2 r), [])) × (posted2 v.made e.heard ≤ e.next2))

-- the load of a descriptor's first word takes its buffer out
abbrev pub fills : DeviceKnows → ℕ → ℕ → Bool → DeviceKnows
fills e ring p in_entry = record e { filling = Some (ring, p); in_data = in_entry }

abbrev pub took : ℕ → ℕ → Bool → Seated → Seated → Type 0
took ring p in_entry m m' = (x : Buffer) × (m' ≡ (with_device m.0 (fills m.0.device ring p in_entry), (slot m.0.made ring p, x) ∷ [])) × (vec_len x.bytes ≡ room_at m.0.made (slot m.0.made ring p))

abbrev pub head_taken : Step Buffer → Seated → ℕ → Seated → Type 0
head_taken st m r m' = took 1 m.0.device.head false m m'

-- that of a head whose frame lies in its data entry
abbrev pub data_taken : Step Buffer → Seated → ℕ → Seated → Type 0
data_taken st m r m' = took 1 m.0.device.head true m m'

abbrev pub one_taken : Step Buffer → Seated → ℕ → Seated → Type 0
one_taken st m r m' = took 1 m.0.device.gone1 false m m'

abbrev pub two_taken : Step Buffer → Seated → ℕ → Seated → Type 0
two_taken st m r m' = took 2 m.0.device.gone2 false m m'

-- the store of a completion's first word
abbrev pub opens : DeviceKnows → ℕ → DeviceKnows
opens e w = record e { opened = w ∷ [] }

abbrev pub opened : Step Buffer → Seated → ℕ → Seated → Type 0
opened st m r m' = m' ≡ (with_device m.0 (opens m.0.device r), m.1)

-- the store of its second word stages it, and puts the buffer home
abbrev pub spot_in : Option (ℕ × ℕ) → ℕ × ℕ
spot_in None = (0, 0)
spot_in (Some s) = s

abbrev pub word_in : List ℕ → ℕ
word_in [] = 0
word_in (w ∷ ws) = w

abbrev pub items_in : Bool → List (ℕ × Buffer) → List ℕ
items_in in_entry [] = []
items_in in_entry (c ∷ cs) = lies in_entry c.1

-- the completion that a store of this second word makes
abbrev pub new_entry : DeviceKnows → ℕ → List (ℕ × Buffer) → Entry
new_entry e r c = record { ring = (spot_in e.filling).0; position = (spot_in e.filling).1; first = word_in e.opened; body = r % 2 ^ COMPLETION_GENERATION_BIT; in_data = e.in_data; bytes = take (r % 2 ^ LEN_WIDTH) (items_in e.in_data c) }

abbrev pub stages : DeviceKnows → Entry → DeviceKnows
stages e x = record e {
  staged = e.staged ++ x ∷ [];
  opened = [];
  filling = None;
  in_data = false;
  gone1 = if x.ring == 1 then suc x.position else e.gone1;
  gone2 = if x.ring == 1 then e.gone2 else suc x.position;
}

abbrev pub staged : Step Buffer → Seated → ℕ → Seated → Type 0
staged st m r m' = m' ≡ (with_device m.0 (stages m.0.device (new_entry m.0.device r m.1)), [])

-- the store that publishes a frame's completions
abbrev pub delivers : DeviceKnows → Delivery → DeviceKnows
delivers e d = record e { delivered = e.delivered ++ d ∷ []; staged = [] }

abbrev pub published : Step Buffer → Seated → ℕ → Seated → Type 0
published st m r m' = let e = m.0.device in
    (d : Delivery) × (entries m.0.made d ≡ e.staged) × IsPlaced (used took1 e.delivered) (used took2 e.delivered) d × (m' ≡ (with_device m.0 (delivers e d), []))

-- the driver's load of a frame's first completion
abbrev pub receives : DriverKnows → Delivery → DriverKnows
receives g d = record g { received = g.received ++ d ∷ [] }

abbrev pub finds_none : DriverKnows → ℕ → DriverKnows
finds_none g word = record g { looks = g.looks ++ (g.read, word) ∷ [] }

-- the entry that the driver reads next
abbrev pub IsNext : Known → Entry → Type 0
IsNext v x = get_elem? (flat v.made v.driver.received) v.driver.read ≡ some x

-- a second word tells this completion, whatever its generation's bit is
abbrev pub Tells : Entry → ℕ → Type 0
Tells x r = (b : Bool) × (r ≡ with_bit COMPLETION_GENERATION_BIT x.body b)

pub record Found (v : Known) (d : Delivery) : Type 0 where
  pub placed : IsPlaced (used took1 v.driver.received) (used took2 v.driver.received) d
  pub frame : IsFrame d.frame
  pub tag : TagFits d.meta.tci
  pub comparable : IsComparable (v.driver.received ++ d ∷ []) v.driver.heard

abbrev pub completion_looked : Step Buffer → Seated → ℕ → Seated → Type 0
completion_looked st m r m' = let v = m.0 in let g = v.driver in
    (bit COMPLETION_GENERATION_BIT r ≡ generation (count v.made) g.read → (d : Delivery) × Found v d × (m' ≡ (with_driver v (receives g d), [])) × ((x : Entry) → IsNext (with_driver v (receives g d)) x → Tells x r))
    × (IsMissed COMPLETION_GENERATION_BIT (count v.made) g.read r → (m' ≡ (with_driver v (finds_none g r), [])) × (length g.heard ≤ length g.received))

-- the driver's load of the word that counts the visible completions; where it finds no more than are read, the look's word is made up
abbrev pub count_looked : Step Buffer → Seated → ℕ → Seated → Type 0
count_looked st m r m' = let v = m.0 in let g = v.driver in
    (g.read < r → (d : Delivery) × Found v d × (m' ≡ (with_driver v (receives g d), [])))
    × (r ≤ g.read → (m' ≡ (with_driver v (finds_none g (missed_word COMPLETION_GENERATION_BIT (count v.made) g.read)), [])) × (length g.heard ≤ length g.received))

-- the load of a second word within a frame
abbrev pub second_loaded : Step Buffer → Seated → ℕ → Seated → Type 0
second_loaded st m r m' = (m' ≡ m) × (x : Entry) × IsNext m.0 x × Tells x r

-- the load of a first word takes the buffer out
abbrev pub reads : DriverKnows → DriverKnows
reads g = record g { reading = true }

abbrev pub grabbed : Step Buffer → Seated → ℕ → Seated → Type 0
grabbed st m r m' = (x : Entry) × IsNext m.0 x × (r ≡ x.first) × (b : Buffer) × (m' ≡ (with_driver m.0 (reads m.0.driver), (slot_of m.0.made x, b) ∷ [])) × (take (length x.bytes) (lies x.in_data b) ≡ x.bytes) × (vec_len b.bytes ≡ room_at m.0.made (slot_of m.0.made x))

-- a load that tells nothing
abbrev pub peeked : Step Buffer → Seated → ℕ → Seated → Type 0
peeked st m r m' = m' ≡ m

-- a passed-over descriptor is posted back; that of the completion, in ring 1 or ring 2
abbrev pub skipped : Step Buffer → Seated → ℕ → Seated → Type 0
skipped st m r m' = m' ≡ (with_driver m.0 (record m.0.driver { back1 = suc m.0.driver.back1 }), m.1)

abbrev pub returned1 : Step Buffer → Seated → ℕ → Seated → Type 0
returned1 st m r m' = m' ≡ (with_driver m.0 (record m.0.driver { back1 = suc m.0.driver.back1; read = suc m.0.driver.read; reading = false }), [])

abbrev pub returned2 : Step Buffer → Seated → ℕ → Seated → Type 0
returned2 st m r m' = m' ≡ (with_driver m.0 (record m.0.driver { back2 = suc m.0.driver.back2; read = suc m.0.driver.read; reading = false }), [])

-- what an end knows of the other's lists after it heard a note
pub record DeviceKnowsNews (v : Known) : Type 0 where
  pub made_is : v.device.latest_made ≡ v.made
  pub latest : IsPrefix v.device.latest v.device.delivered
  pub heard : IsPrefix v.device.heard v.device.delivered

abbrev pub device_heard : Step Buffer → Seated → ℕ → Seated → Type 0
device_heard st m r m' = (m' ≡ m) × DeviceKnowsNews m.0

pub record DriverKnowsNews (v : Known) : Type 0 where
  pub made_is : v.driver.latest_made ≡ v.made
  pub latest : IsComparable v.driver.latest v.driver.received
  pub heard : IsComparable v.driver.heard v.driver.received
  pub gone : (used took1 v.driver.latest ≤ v.made.size1 + v.driver.back1) × (used took2 v.driver.latest ≤ v.made.size2 + v.driver.back2)
  pub posted : (v.driver.latest1 ≤ v.made.size1 + v.driver.back1) × (v.driver.latest2 ≤ v.made.size2 + v.driver.back2)

abbrev pub driver_heard : Step Buffer → Seated → ℕ → Seated → Type 0
driver_heard st m r m' = (m' ≡ m) × DriverKnowsNews m.0

-- what stands between the two ends where one seat has both
pub record Meets (v : Known) : Type 0 where
  pub made_is : v.device.latest_made ≡ v.made
  pub received : IsPrefix v.driver.received v.device.delivered
  pub within : (v.device.gone1 ≤ v.made.size1 + v.driver.back1) × (v.device.gone2 ≤ v.made.size2 + v.driver.back2)
  pub refusals : All (IsRefusal v.made) v.device.refused
  pub full : v.made.full ≡ true

abbrev pub met : Step Buffer → Seated → ℕ → Seated → Type 0
met st m r m' = (m' ≡ m) × Meets m.0
