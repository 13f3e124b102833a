-- What each step over the ring of completions tells its seat.
use Rattle.std.specs.Prelude.{◌≡◌, ◌≢◌, ℕ, suc, ◌<◌, ◌≤◌, [], ◌∷◌, ◌++◌, length, true, false, slice_index}
use Rattle.std.specs.Int.{bit_at}
use mathlib.Core.Option.{some}
use lib.ListN.{get_elem?}
use Rattle.atomic_table.specs.Table.{State, Step}
use Rattle.vmx_layout.specs.declared.TheConstants.{COMPLETION_GENERATION_BIT}
use Rattle.vmx_genring.specs.Rings.{generation_bit}
use Rattle.vmx_ends.specs.declared.frames.Sent.{Sent}
use Rattle.vmx_ends.specs.Transmit.{need}
use Rattle.vmx_tx_ring.specs.declared.known.TxBuffer.{TxBuffer}
use Rattle.vmx_tx_ring.specs.declared.known.TxKnown.{TxKnown}
use Rattle.vmx_tx_ring.specs.Tells.{Seated, driver_at, device_at}
use Rattle.vmx_tx_ring.specs.Rule.{Queue}
use Rattle.vmx_txq.specs.Completions.{completion, Rows}

-- The driver's load of the second word of the next completion: it is there, or it is not.
abbrev pub to_check : TxKnown → TxKnown
to_check v = driver_at v (record v.driver.at { checking = true })

abbrev pub not_reaped : TxKnown → ℕ → TxKnown
not_reaped v r = record v { driver = record v.driver { looks = v.driver.looks ++ (v.driver.at.reaped, r) ∷ [] } }

abbrev pub driver_looked : Step TxBuffer → Seated → ℕ → Seated → Type 0
driver_looked st m r m' =
    (bit_at r COMPLETION_GENERATION_BIT ≡ generation_bit m.0.made.size m.0.driver.at.reaped → (m' ≡ (to_check m.0, m.1)) × (m.0.driver.at.reaped < length m.0.driver.at.sent))
    × (bit_at r COMPLETION_GENERATION_BIT ≢ generation_bit m.0.made.size m.0.driver.at.reaped → (m' ≡ (not_reaped m.0 r, m.1)) × (m.0.driver.heard ≤ m.0.driver.at.reaped))

-- Its load of the first word, which has the index of the frame's last descriptor: the frame is reaped.
abbrev pub one_reaped : TxKnown → TxKnown
one_reaped v = driver_at v (record v.driver.at { reaped = suc v.driver.at.reaped; checking = false })

abbrev pub driver_reaped : Step TxBuffer → Seated → ℕ → Seated → Type 0
driver_reaped st m r m' =
    (s : Sent) × (m' ≡ (one_reaped m.0, m.1)) × (r ≡ (completion m.0.made m.0.driver.at.sent m.0.driver.at.reaped).first) × (get_elem? m.0.driver.at.sent m.0.driver.at.reaped ≡ some s)
    × (1 ≤ need m.0.made (length s.frame)) × (need m.0.made (length s.frame) ≤ m.0.made.size)

-- The device stores the first word of the next completion, and then the second one: the frame is completed.
abbrev pub to_close : TxKnown → TxKnown
to_close v = device_at v (record v.device.at { closing = true })

abbrev pub device_closed : Step TxBuffer → Seated → ℕ → Seated → Type 0
device_closed st m r m' = m' ≡ (to_close m.0, m.1)

abbrev pub one_completed : TxKnown → TxKnown
one_completed v = device_at v (record v.device.at { completed = suc v.device.at.completed; closing = false })

abbrev pub device_completed : Step TxBuffer → Seated → ℕ → Seated → Type 0
device_completed st m r m' = m' ≡ (one_completed m.0, m.1)

-- A load that changes nothing finds the word of a state that the rule allows, in which the driver did what it knows.
pub record Seen (v : TxKnown) (index r : ℕ) : Type 0 where
  pub state : State TxBuffer TxKnown
  pub allowed : Queue Rows state
  pub made_is : allowed.story.made ≡ v.made
  pub driver_is : allowed.story.d ≡ v.driver
  pub word_is : r ≡ slice_index state.words index

abbrev pub seen_only : Step TxBuffer → Seated → ℕ → Seated → Type 0
seen_only st m r m' = (m' ≡ m) × Seen m.0 st.word r
