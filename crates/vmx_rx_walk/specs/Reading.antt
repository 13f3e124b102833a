-- What the functions of the driver's reading do to what the driver knows.
use Rattle.std.specs.Prelude.{vec_len, ◌≡◌, ℕ, suc, ◌+◌, ◌*◌, ◌/◌, ◌%◌, ◌^◌, ◌<◌, ◌≤◌, ◌⊎◌, List, [], ◌∷◌, ◌++◌, length, take, drop, Bool, true, false, Option, ◌==◌, if◌then◌else◌}
use Rattle.vmx_layout.specs.Bits.{field}
use Rattle.vmx_ends.specs.ReceiveClauses.{made_of}
use Rattle.vmx_ends.specs.declared.made.RxShape.{RxShape}
use Rattle.vmx_rx_ring.specs.declared.known.Entry.{Entry}
use Rattle.vmx_rx_ring.specs.declared.known.DriverKnows.{DriverKnows}
use Rattle.vmx_rx_ring.specs.declared.known.Buffer.{Buffer}
use Rattle.vmx_ends.specs.declared.meta.RxMeta.{RxMeta}
use Rattle.vmx_rx_ring.specs.Words.{room_at, slot_of, index_in, flat, entries_from, body_of, lies, TagFits, told_tag}
use Rattle.vmx_rx_ring.specs.Tells.{Seated, with_driver, IsNext, Tells}
use Rattle.vmx_layout.specs.declared.rx_comp.TheConstants.{RX_COMPLETION_TYPE, RXD_IDX_WIDTH, UNNAMED, UNNAMED_WIDTH, RQ_ID, RQ_ID_WIDTH, UNNAMED_LAST, KIND, KIND_WIDTH}
use Rattle.vmx_io.specs.declared.buffer.TheConstants.{MAX_FRAME}

-- the driver's seat with nothing out
abbrev pub IsDriver : Seated → RxShape → Type 0
IsDriver m s = (m.0.receives ≡ true) × (m.0.delivers ≡ false) × (m.1 ≡ []) × (m.0.made ≡ made_of s)

-- the driver as it reads a piece: its buffer is out
abbrev pub IsHolding : Seated → RxShape → Type 0
IsHolding m s = (m.0.receives ≡ true) × (m.0.delivers ≡ false) × (m.0.driver.reading ≡ true) × (m.0.made ≡ made_of s)

-- the bits without a name are 0 in a first word
abbrev pub IsNamed : ℕ → Type 0
IsNamed first = (field first UNNAMED UNNAMED_WIDTH ≡ 0) × (field first UNNAMED_LAST 1 ≡ 0)

-- a second word tells this tag, and that it is a receive completion's
abbrev pub IsTagged : ℕ → Option ℕ → Type 0
IsTagged second tag = (told_tag second ≡ tag) × (field second KIND KIND_WIDTH ≡ RX_COMPLETION_TYPE)

-- the first word of a completion: its index, the ring, and whether it lies in the data ring
abbrev pub Points : RxShape → Entry → Type 0
Points s x = (x.first % 2 ^ RXD_IDX_WIDTH ≡ index_in (made_of s) (x.ring, x.position)) × IsNamed x.first × (((x.ring ≡ 1) × (x.in_data ≡ false) × (x.first / 2 ^ RQ_ID % 2 ^ RQ_ID_WIDTH < s.queues)) ⊎ ((x.ring ≡ 2) × (x.in_data ≡ false) × (s.queues ≤ x.first / 2 ^ RQ_ID % 2 ^ RQ_ID_WIDTH) × (x.first / 2 ^ RQ_ID % 2 ^ RQ_ID_WIDTH < s.queues + s.queues)) ⊎ ((x.ring ≡ 1) × (x.in_data ≡ true) × (s.queues + s.queues ≤ x.first / 2 ^ RQ_ID % 2 ^ RQ_ID_WIDTH)))

-- its descriptor is the next to be posted back, in ring 1 behind those that were passed over
abbrev pub IsDue : RxShape → DriverKnows → Entry → Type 0
IsDue s g x = ((x.ring ≡ 1) × (g.back1 ≤ x.position) × (x.position < g.back1 + s.size1)) ⊎ ((x.ring ≡ 2) × (x.position ≡ g.back2))

-- what the driver knows when the piece is read
abbrev pub has_read : DriverKnows → Entry → DriverKnows
has_read g x = record g {
  back1 = if x.ring == 1 then suc x.position else g.back1;
  back2 = if x.ring == 1 then g.back2 else suc x.position;
  read = suc g.read;
  reading = false;
}

-- the next piece can be read, its second word being told
pub record CanRead (s : RxShape) (m : Seated) (second len : ℕ) : Type 0 where
  pub piece : Entry
  pub next : IsNext m.0 piece
  pub points : Points s piece
  pub due : IsDue s m.0.driver piece
  pub eop : Bool
  pub meta : RxMeta
  pub body : piece.body ≡ body_of eop meta piece.bytes
  pub tag : TagFits meta.tci
  pub word : Tells piece second
  pub fits : len + length piece.bytes ≤ MAX_FRAME

pub record CanSkip (s : RxShape) (m : Seated) (fuel index : ℕ) : Type 0 where
  pub piece : Entry
  pub next : IsNext m.0 piece
  pub one : piece.ring ≡ 1
  pub at : index ≡ piece.position % s.size1
  pub below : m.0.driver.back1 ≤ piece.position
  pub near : piece.position < m.0.driver.back1 + fuel
  pub lap : fuel ≤ s.size1

-- a piece that is out with the driver
pub record Holds (s : RxShape) (m : Seated) (ring at len room : ℕ) (in_entry : Bool) : Type 0 where
  pub piece : Entry
  pub buffer : Buffer
  pub next : IsNext m.0 piece
  pub ring_is : piece.ring ≡ ring
  pub at_is : at ≡ index_in (made_of s) (ring, piece.position)
  pub due : IsDue s m.0.driver piece
  pub out : m.1 ≡ (slot_of m.0.made piece, buffer) ∷ []
  pub bytes : take (length piece.bytes) (lies in_entry buffer) ≡ piece.bytes
  pub room_is : vec_len buffer.bytes ≡ room_at m.0.made (slot_of m.0.made piece)
  pub len_is : len ≡ length piece.bytes
  pub fits : room + length piece.bytes ≤ MAX_FRAME

-- what reading the next piece does
abbrev pub ReadsNext : Seated → List ℕ → Seated → List ℕ → Type 0
ReadsNext m into m' into' = (x : Entry) → IsNext m.0 x → (m' ≡ (with_driver m.0 (record (has_read m.0.driver x) { reading = false }), [])) × (into' ≡ into ++ x.bytes)

-- where the next pieces lie, up to the positions q1 and q2 that are posted back then
abbrev pub Follows : ℕ → ℕ → List (ℕ × ℕ) → ℕ → ℕ → Type 0
Follows p q [] p' q' = (p ≡ p') × (q ≡ q')
Follows p q (s ∷ ss) p' q' = ((s.0 ≡ 1) × (s.1 ≡ p) × Follows (suc p) q ss p' q') ⊎ ((s.0 ≡ 2) × (s.1 ≡ q) × Follows p (suc q) ss p' q')

-- a frame, or the rest of one, that can be read: its completions are those that come next
pub record Reads (s : RxShape) (m : Seated) (fuel second room : ℕ) : Type 0 where
  pub sop : Bool
  pub meta : RxMeta
  pub spot : ℕ × ℕ
  pub chain : List (ℕ × ℕ)
  pub head : sop ≡ true → spot.0 ≡ 1
  pub bytes : List ℕ
  pub tag : TagFits meta.tci
  pub q1 : ℕ
  pub q2 : ℕ
  pub left_is : drop m.0.driver.read (flat m.0.made m.0.driver.received) ≡ entries_from m.0.made sop meta (spot ∷ chain) bytes
  pub lies : ((spot.0 ≡ 1) × (m.0.driver.back1 ≤ spot.1) × (spot.1 < m.0.driver.back1 + s.size1) × Follows (suc spot.1) m.0.driver.back2 chain q1 q2) ⊎ ((spot.0 ≡ 2) × (spot.1 ≡ m.0.driver.back2) × Follows m.0.driver.back1 (suc spot.1) chain q1 q2)
  pub word : (x : Entry) → IsNext m.0 x → Tells x second
  pub fits : room + length bytes ≤ MAX_FRAME
  pub few : length chain < fuel
  pub bounds : (q1 ≤ 3 * 2 ^ 62 + 32) × (q2 ≤ 3 * 2 ^ 62 + 32) × (m.0.driver.read + fuel < 2 ^ 62 + 32)

abbrev pub FrameRead : RxShape → Seated → ℕ → ℕ → List ℕ → Seated → List ℕ → Type 0
FrameRead s m fuel second into m' into' = (r : Reads s m fuel second (length into))
    → (m' ≡ (with_driver m.0 (record m.0.driver { read = suc (length r.chain) + m.0.driver.read; back1 = r.q1; back2 = r.q2; reading = false }), [])) × (into' ≡ into ++ r.bytes)

-- what the last completion tells
abbrev pub TagRead : RxShape → Seated → ℕ → ℕ → List ℕ → ℕ → Type 0
TagRead s m fuel second into last = (r : Reads s m fuel second (length into)) → IsTagged last r.meta.tci
