-- What each step tells its seat.
use Rattle.std.specs.Prelude.{◌≡◌, ◌≢◌, ℕ, suc, ◌+◌, ◌%◌, ◌≤◌, List, [], ◌∷◌, ◌++◌, length, true, false, take}
use Rattle.std.specs.Int.{bit_at}
use mathlib.Core.List.{IsPrefix}
use Rattle.atomic_table.specs.Table.{Me, Step}
use Rattle.vmx_layout.specs.TxDesc.{second_word}
use Rattle.vmx_layout.specs.declared.TheConstants.{TX_DESC_GENERATION_BIT}
use Rattle.vmx_genring.specs.Rings.{generation_bit}
use Rattle.vmx_ends.specs.declared.frames.Sent.{Sent}
use Rattle.vmx_ends.specs.Frames.{IsMarked, IsComparable, sent_of}
use Rattle.vmx_ends.specs.Transmit.{need, descriptors}
use Rattle.vmx_tx_ring.specs.declared.known.TxPiece.{TxPiece}
use Rattle.vmx_tx_ring.specs.declared.known.TxBuffer.{TxBuffer}
use Rattle.vmx_tx_ring.specs.declared.known.TxDriverAt.{TxDriverAt}
use Rattle.vmx_tx_ring.specs.declared.known.TxDeviceAt.{TxDeviceAt}
use Rattle.vmx_tx_ring.specs.declared.known.TxKnown.{TxKnown}
use Rattle.vmx_tx_ring.specs.Pieces.{chain, address, told_of, Shows, NumbersFit, next_in_data, piece_in}
use Rattle.vmx_tx_ring.specs.Rule.{next_of}

-- a seat, with the slots that it has out
abbrev pub Seated : Type 0
Seated = Me TxBuffer TxKnown

-- an end goes to another place of the ring
abbrev pub driver_at : TxKnown → TxDriverAt → TxKnown
driver_at v d = record v { driver = record v.driver { at = d } }

abbrev pub device_at : TxKnown → TxDeviceAt → TxKnown
device_at v e = record v { device = record v.device { at = e } }

-- the position of the next descriptor
abbrev pub next_at : TxKnown → ℕ
next_at v = next_of v.made v.driver.at

-- The driver stores the first word of the next descriptor, and its buffer is out with the driver.
abbrev pub to_fill : TxKnown → TxKnown
to_fill v = driver_at v (record v.driver.at { opened = true })

abbrev pub opened : Step TxBuffer → Seated → ℕ → Seated → Type 0
opened st m r m' = (b : TxBuffer) × (m' ≡ (to_fill m.0, (next_at m.0 % m.0.made.size, b) ∷ []))

-- It stores the second word: the piece that word and buffer tell is staged, and the buffer is at home.
abbrev pub with_piece : TxKnown → TxPiece → TxKnown
with_piece v x = driver_at v (record v.driver.at { opened = false; staged = v.driver.at.staged ++ x ∷ [] })

abbrev pub with_staged : TxKnown → ℕ → List (ℕ × TxBuffer) → TxKnown
with_staged v r [] = v
with_staged v r (c ∷ cs) = with_piece v (piece_in (next_in_data v.made v.driver.at.staged) r c.1)

abbrev pub staged : Step TxBuffer → Seated → ℕ → Seated → Type 0
staged st m r m' = m' ≡ (with_staged m.0 r m.1, [])

-- It stores the first staged entry's second word as it is: the frame of the staged pieces is sent.
abbrev pub with_sent : TxKnown → Sent → TxKnown
with_sent v s = driver_at v (record v.driver.at { staged = []; sent = v.driver.at.sent ++ s ∷ [] })

abbrev pub published : Step TxBuffer → Seated → ℕ → Seated → Type 0
published st m r m' = (s : Sent) × (m' ≡ (with_sent m.0 s, m.1)) × (m.0.driver.at.staged ≡ chain m.0.made s) × IsMarked s.frame s.mark

-- the word r shows a piece that its buffer has
pub record Found (v : TxKnown) (r : ℕ) (x : TxPiece) (b : TxBuffer) : Type 0 where
  pub word : r ≡ second_word (told_of (generation_bit v.made.size v.device.at.read) x)
  pub bytes : Shows x b
  pub numbers : NumbersFit x.numbers

-- the device has the next frame, with a piece out and more ahead
abbrev pub with_taken : TxKnown → Sent → TxPiece → List TxPiece → TxKnown
with_taken v s x more = device_at v (record v.device.at { emptying = true; at_hand = x; ahead = more; taken = v.device.at.taken ++ record { sent = s; descriptors = need v.made (length s.frame) } ∷ [] })

abbrev pub not_taken : TxKnown → ℕ → TxKnown
not_taken v r = record v { device = record v.device { looks = v.device.looks ++ (v.device.at.read, r) ∷ [] } }

-- what it finds with the first descriptor of the next frame
pub record FoundFrame (v : TxKnown) (r : ℕ) (m' : Seated) (s : Sent) (x : TxPiece) (more : List TxPiece) (b : TxBuffer) : Type 0 where
  pub is : m' ≡ (with_taken v s x more, (v.device.at.read % v.made.size, b) ∷ [])
  pub chain_is : chain v.made s ≡ x ∷ more
  pub found : Found v r x b
  pub frame : IsMarked s.frame s.mark
  pub comparable : IsComparable (sent_of (with_taken v s x more).device.at.taken) v.device.heard

-- The device's load of the second word behind all frames that it has taken: one more is there, or none.
abbrev pub device_looked : Step TxBuffer → Seated → ℕ → Seated → Type 0
device_looked st m r m' =
    (bit_at r TX_DESC_GENERATION_BIT ≡ generation_bit m.0.made.size m.0.device.at.read → (s : Sent) × (x : TxPiece) × (more : List TxPiece) × (b : TxBuffer) × FoundFrame m.0 r m' s x more b)
    × (bit_at r TX_DESC_GENERATION_BIT ≢ generation_bit m.0.made.size m.0.device.at.read → (m' ≡ (not_taken m.0 r, [])) × (length m.0.device.heard ≤ length m.0.device.at.taken))

-- Its load of a further second word of the frame: it is there.
abbrev pub with_next : TxKnown → TxPiece → List TxPiece → TxKnown
with_next v x more = device_at v (record v.device.at { emptying = true; at_hand = x; ahead = more })

abbrev pub device_went_on : Step TxBuffer → Seated → ℕ → Seated → Type 0
device_went_on st m r m' = (x : TxPiece) × (more : List TxPiece) × (b : TxBuffer) × (m' ≡ (with_next m.0 x more, (m.0.device.at.read % m.0.made.size, b) ∷ [])) × (m.0.device.at.ahead ≡ x ∷ more) × Found m.0 r x b

-- Its load of the first word, which is the address where the piece lies, puts the buffer home.
abbrev pub emptied : TxKnown → TxKnown
emptied v = device_at v (record v.device.at { emptying = false; read = suc v.device.at.read })

abbrev pub device_returned : Step TxBuffer → Seated → ℕ → Seated → Type 0
device_returned st m r m' = (m' ≡ (emptied m.0, [])) × (r ≡ address m.0.made.name.queue m.0.device.at.at_hand.in_data (m.0.device.at.read % m.0.made.size))

-- The numbers of both ends, where one seat has both parts.
abbrev pub met : Step TxBuffer → Seated → ℕ → Seated → Type 0
met st m r m' =
    let v : TxKnown = m.0 in
    (m' ≡ m) × (v.news.made ≡ v.made) × IsPrefix (sent_of v.device.at.taken) v.driver.at.sent × (v.driver.at.reaped ≤ v.device.at.completed) × (v.device.at.completed ≤ length v.device.at.taken)
    × (descriptors v.made v.driver.at.sent ≤ descriptors v.made (take v.driver.at.reaped v.driver.at.sent) + v.made.size)

-- What the last note told of the other end.
abbrev pub driver_told : Step TxBuffer → Seated → ℕ → Seated → Type 0
driver_told st m r m' = let v : TxKnown = m.0 in (m' ≡ m) × (v.news.made ≡ v.made) × IsPrefix v.news.frames v.driver.at.sent × (v.news.done ≤ length v.driver.at.sent)

abbrev pub device_told : Step TxBuffer → Seated → ℕ → Seated → Type 0
device_told st m r m' =
    let v : TxKnown = m.0 in (m' ≡ m) × (v.news.made ≡ v.made) × (v.news.done ≤ v.device.at.completed) × IsComparable v.news.frames (sent_of v.device.at.taken) × IsComparable (sent_of v.device.at.taken) v.device.heard
