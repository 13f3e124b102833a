-- What each step over the counting word tells its seat.
use Rattle.std.specs.Prelude.{◌≡◌, ℕ, suc, ◌+◌, ◌%◌, ◌<◌, ◌≤◌, [], ◌∷◌, ◌++◌, true, false}
use mathlib.Core.Option.{some}
use lib.ListN.{get_elem?}
use Rattle.atomic_table.specs.Table.{Step}
use Rattle.vmx_layout.specs.Bits.{bit, field}
use Rattle.vmx_layout.specs.declared.TheConstants.{COMPLETION_GENERATION_BIT}
use Rattle.vmx_layout.specs.declared.tx_desc.TheConstants.{EOP}
use Rattle.vmx_ends.specs.declared.frames.Sent.{Sent}
use Rattle.vmx_ends.specs.Frames.{IsFrame}
use Rattle.vmx_ends.specs.Words.{missed_word}
use Rattle.vmx_tx_ring.specs.declared.known.TxBuffer.{TxBuffer}
use Rattle.vmx_tx_ring.specs.declared.known.TxKnown.{TxKnown}
use Rattle.vmx_tx_ring.specs.declared.known.TxPiece.{TxPiece}
use Rattle.vmx_tx_ring.specs.Pieces.{chain}
use Rattle.vmx_tx_ring.specs.Tells.{Seated, driver_at, device_at}
use Rattle.vmx_tx_ring.specs.Walks.{returned_to}

-- the frame whose descriptors come back next
abbrev pub ComesNext : TxKnown → Sent → Type 0
ComesNext v s = get_elem? v.driver.at.sent v.driver.at.reaped ≡ some s

-- The driver's load of the counting word: one more frame is completed, or none.
abbrev pub to_check : TxKnown → TxKnown
to_check v = driver_at v (record v.driver.at { checking = true })

abbrev pub not_reaped : TxKnown → TxKnown
not_reaped v = record v { driver = record v.driver { looks = v.driver.looks ++ (v.driver.at.reaped, missed_word COMPLETION_GENERATION_BIT v.made.size v.driver.at.reaped) ∷ [] } }

abbrev pub driver_looked : Step TxBuffer → Seated → ℕ → Seated → Type 0
driver_looked st m r m' =
    (m.0.driver.at.reaped < r → (s : Sent) × (m' ≡ (to_check m.0, m.1)) × ComesNext m.0 s × IsFrame s.frame)
    × (r ≤ m.0.driver.at.reaped → (m' ≡ (not_reaped m.0, m.1)) × (m.0.driver.heard ≤ m.0.driver.at.reaped))

-- Its load of the second word of a descriptor of that frame: it tells whether the piece is the last one.
abbrev pub driver_walked : Step TxBuffer → Seated → ℕ → Seated → Type 0
driver_walked st m r m' =
    (m' ≡ m)
    × ((s : Sent) (j : ℕ) (x : TxPiece) → ComesNext m.0 s → get_elem? (chain m.0.made s) j ≡ some x → st.word ≡ (returned_to m.0 + j) % m.0.made.size → field r EOP 1 ≡ bit x.last)

-- Its second load of the counting word: the frame is reaped.
abbrev pub one_reaped : TxKnown → TxKnown
one_reaped v = driver_at v (record v.driver.at { reaped = suc v.driver.at.reaped; checking = false })

abbrev pub driver_reaped : Step TxBuffer → Seated → ℕ → Seated → Type 0
driver_reaped st m r m' = m' ≡ (one_reaped m.0, m.1)

-- The device stores the next number: the frame is completed.
abbrev pub one_completed : TxKnown → TxKnown
one_completed v = device_at v (record v.device.at { completed = suc v.device.at.completed; closing = false })

abbrev pub device_counted : Step TxBuffer → Seated → ℕ → Seated → Type 0
device_counted st m r m' = m' ≡ (one_completed m.0, m.1)
