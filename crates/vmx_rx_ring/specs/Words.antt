-- The words of a receive queue. Words 0 to n - 1 are the second words of the descriptors, of ring 1 and then of ring 2; the next n are their first words; the next n the second words of the completions, and the last n their first words. n is the size of both rings together.
-- The slots are the buffers, in the same order as the descriptors. The bits of each word are those of vmx_layout.
use Rattle.std.specs.Prelude.{ℕ, ◌+◌, ◌-◌, ◌%◌, ◌^◌, ◌≡◌, ◌<◌, Bool, true, false, not, ◌==◌, List, [], ◌∷◌, ◌++◌, length, take, drop, if◌then◌else◌, slice_index, nat_lt, Option, Some, None}
use Rattle.vmx_layout.specs.Bits as bits
use Rattle.vmx_layout.specs.RxDesc as descriptor
use Rattle.vmx_layout.specs.RxComp as completion
use Rattle.vmx_layout.specs.Addresses.{rx_buffer}
use Rattle.vmx_layout.specs.declared.addresses.TheConstants.{DATA_ENTRY_SIZE}
use Rattle.vmx_layout.specs.declared.TheConstants.{COMPLETION_GENERATION_BIT}
use Rattle.vmx_layout.specs.declared.rx_comp.TheConstants.{TS, TCI, TCI_WIDTH, RX_COMPLETION_TYPE}
use Rattle.vmx_genring.specs.Rings.{generation}
use Rattle.vmx_ends.specs.Receive.{is_body, is_body_index}
use Rattle.vmx_ends.specs.Words.{bit}
use Rattle.vmx_ends.specs.declared.made.RxMade.{RxMade}
use Rattle.vmx_ends.specs.declared.meta.RxMeta.{RxMeta}
use Rattle.vmx_ends.specs.declared.frames.Delivery.{Delivery}
use Rattle.vmx_ends.specs.declared.limits.TheConstants.{HEAD_SIZE, BODY_SIZE}
use Rattle.vmx_rx_ring.specs.declared.known.Buffer.{Buffer}
use Rattle.vmx_rx_ring.specs.declared.known.Entry.{Entry}
use Rattle.vmx_rx_ring.specs.declared.known.Spot.{Spot}

abbrev pub count : RxMade → ℕ
count m = m.size1 + m.size2

-- the slot of the position p of a ring
abbrev pub slot : RxMade → ℕ → ℕ → ℕ
slot m ring p = if ring == 1 then p % m.size1 else m.size1 + p % m.size2

abbrev pub slot_of : RxMade → Entry → ℕ
slot_of m e = slot m e.ring e.position

abbrev pub spot_of : Spot → ℕ × ℕ
spot_of s = (s.ring, s.position)

-- the bytes of a BODY buffer and of a HEAD buffer, and of the buffer of a slot
abbrev pub buffer_size : Bool → ℕ
buffer_size true = BODY_SIZE
buffer_size false = HEAD_SIZE

abbrev pub room_at : RxMade → ℕ → ℕ
room_at m k = if nat_lt k m.size1 then buffer_size (is_body_index m.bodies k) else BODY_SIZE

-- a word whose bit k is told, and the rest
abbrev pub with_bit : ℕ → ℕ → Bool → ℕ
with_bit k rest b = rest + (if b then 2 ^ k else 0)

-- the second word of a descriptor, BODY or HEAD, of this generation
abbrev pub posted_word : Bool → Bool → ℕ
posted_word body generation = descriptor.second_word (record { len = buffer_size body; btype = bits.bit body; dtype = 0; generation = bits.bit generation })

-- that of a position of ring 1, and of ring 2
abbrev pub second1 : RxMade → ℕ → ℕ
second1 m p = posted_word (is_body m p) (generation m.size1 p)

abbrev pub second2 : RxMade → ℕ → ℕ
second2 m p = posted_word true (generation m.size2 p)

-- the first word: the guest's address of the buffer
abbrev pub address : RxMade → ℕ → ℕ
address m k = if nat_lt k m.size1 then rx_buffer m.name.queue 1 k else rx_buffer m.name.queue 2 (k - m.size1)

-- where a piece lies: in the data entry of its descriptor, or in its buffer
abbrev pub lies : Bool → Buffer → List ℕ
lies true b = b.entry.items
lies false b = b.bytes.items

-- completions: the two words of one cell, the second first
abbrev pub cell : ℕ → List ℕ → ℕ → ℕ × ℕ
cell n words i = (slice_index words (n + n + i), slice_index words (n + n + n + i))

-- the generation that the entry of position p shows, where so many are published: the first staged one has it inverted
abbrev pub shown_bit : ℕ → ℕ → ℕ → Bool
shown_bit n published p = if p == published then not (generation n p) else generation n p

-- what that bit shows: where one word counts the completions that are visible, it is 0 in all of them
abbrev pub shown_in : Bool → ℕ → ℕ → ℕ → Bool
shown_in true n published p = false
shown_in false n published p = shown_bit n published p

abbrev pub Shows : Bool → ℕ → ℕ → ℕ → Entry → ℕ × ℕ → Type 0
Shows counted n published p e w = (w.0 ≡ with_bit COMPLETION_GENERATION_BIT e.body (shown_in counted n published p)) × (e.body < 2 ^ COMPLETION_GENERATION_BIT) × (w.1 ≡ e.first)

abbrev pub Waits : Bool → ℕ → ℕ → ℕ × ℕ → Type 0
Waits true n p w = Unit {0}
Waits false n p w = bit COMPLETION_GENERATION_BIT w.0 ≡ not (generation n p)

-- how many words more there are, and what they tell: the number of completions that are visible
abbrev pub more_words : Bool → ℕ
more_words true = 1
more_words false = 0

abbrev pub Counts : Bool → RxMade → List ℕ → ℕ → Type 0
Counts true m words published = slice_index words (count m + count m + count m + count m) ≡ published
Counts false m words published = Unit {0}

-- a frame of one piece that is at most as long as a data entry lies there, where the queue has a data ring
abbrev pub in_data : RxMade → Bool → Bool → ℕ → Bool
in_data m true true len = if m.with_data then not (nat_lt DATA_ENTRY_SIZE len) else false
in_data m true false len = false
in_data m false eop len = false

-- which ring of which queue: of n queues, q is ring 1 of queue q, n + q its ring 2, and 2 n + q its data ring
abbrev pub ring_id : RxMade → Bool → ℕ → ℕ
ring_id m true ring = m.queues + m.queues + m.name.queue
ring_id m false ring = if ring == 1 then m.name.queue else m.queues + m.name.queue

abbrev pub index_in : RxMade → ℕ × ℕ → ℕ
index_in m spot = if spot.0 == 1 then spot.1 % m.size1 else spot.1 % m.size2

-- the hash and its kind stand in the first completion alone
abbrev pub hash_in : Bool → RxMeta → ℕ
hash_in sop meta = if sop then meta.hash else 0

abbrev pub kind_in : Bool → RxMeta → ℕ
kind_in sop meta = if sop then meta.kind else 0

-- the first word of a completion
abbrev pub first_word : RxMade → Bool → Bool → RxMeta → ℕ × ℕ → ℕ → ℕ
first_word m sop eop meta spot len = completion.first_word (record {
  rxd_idx = index_in m spot;
  eop = bits.bit eop;
  sop = bits.bit sop;
  rq_id = ring_id m (in_data m sop eop len) spot.0;
  rss_type = kind_in sop meta;
  cnc = 0;
  rss_hash = hash_in sop meta;
})

-- the tag that was taken off stands in the last completion alone
abbrev pub tag_in : Bool → RxMeta → Option ℕ
tag_in true meta = meta.tci
tag_in false meta = None

abbrev pub tag_there : Option ℕ → ℕ
tag_there None = 0
tag_there (Some tci) = 1

abbrev pub tag_bytes : Option ℕ → ℕ
tag_bytes None = 0
tag_bytes (Some tci) = tci

-- a tag fits into its field
abbrev pub TagFits : Option ℕ → Type 0
TagFits None = Unit {0}
TagFits (Some tci) = tci < 2 ^ TCI_WIDTH

-- the tag that a second word tells
abbrev pub told_tag : ℕ → Option ℕ
told_tag second = if bits.field second TS 1 == 1 then Some (bits.field second TCI TCI_WIDTH) else None

-- a completion's second word of generation 0: the piece's length, the tag, and the type
abbrev pub body_word : Option ℕ → ℕ → ℕ
body_word tag len = completion.second_word (record {
  len = len;
  err = 0;
  ts = tag_there tag;
  tci = tag_bytes tag;
  csum = 0;
  tuc = 0;
  udp = 0;
  tcp = 0;
  ipc = 0;
  v6 = 0;
  v4 = 0;
  frg = 0;
  fcs = 0;
  kind = RX_COMPLETION_TYPE;
  generation = 0;
})

abbrev pub body_of : Bool → RxMeta → List ℕ → ℕ
body_of eop meta bytes = body_word (tag_in eop meta) (length bytes)

abbrev pub entry : RxMade → Bool → Bool → RxMeta → ℕ × ℕ → List ℕ → Entry
entry m sop eop meta spot bytes = record { ring = spot.0; position = spot.1; first = first_word m sop eop meta spot (length bytes); body = body_of eop meta bytes; in_data = in_data m sop eop (length bytes); bytes = bytes }

abbrev pub room_of : Bool → ℕ
room_of true = HEAD_SIZE
room_of false = BODY_SIZE

abbrev pub entries_from : RxMade → Bool → RxMeta → List (ℕ × ℕ) → List ℕ → List Entry
entries_from m sop meta [] bytes = []
entries_from m sop meta (spot ∷ []) bytes = entry m sop true meta spot bytes ∷ []
entries_from m sop meta (spot ∷ next ∷ more) bytes = entry m sop false meta spot (take (room_of sop) bytes) ∷ entries_from m false meta (next ∷ more) (drop (room_of sop) bytes)

abbrev pub entries : RxMade → Delivery → List Entry
entries m d = entries_from m true d.meta d.chain d.frame

-- the completions of all delivered frames
abbrev pub flat : RxMade → List Delivery → List Entry
flat m [] = []
flat m (d ∷ ds) = entries m d ++ flat m ds
