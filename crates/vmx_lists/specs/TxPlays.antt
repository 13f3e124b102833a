-- What each step of a transmit queue tells.
use Rattle.std.specs.Prelude.{◌≡◌, ℕ, suc, ◌+◌, ◌%◌, ◌<◌, ◌≤◌, List, [], ◌∷◌, ◌++◌, length, true, false, take}
use mathlib.Core.List.{IsPrefix}
use Rattle.atomic_table.specs.Table.{Me, Step}
use Rattle.vmx_ends.specs.declared.frames.Sent.{Sent}
use Rattle.vmx_layout.specs.declared.TheConstants.{COMPLETION_GENERATION_BIT, TX_DESC_GENERATION_BIT}
use Rattle.vmx_ends.specs.Words.{missed_word}
use Rattle.vmx_ends.specs.Frames.{IsMarked, IsComparable, sent_of}
use Rattle.vmx_ends.specs.Transmit.{need, descriptors, found_in}
use Rattle.vmx_lists.specs.declared.tx.log.TxLog.{TxLog}
use Rattle.vmx_lists.specs.declared.tx.log.TxParcel.{TxParcel}
use Rattle.vmx_lists.specs.TxRing.{Shows}

abbrev pub Seated : Type 0
Seated = Me TxParcel TxLog

abbrev pub to_fill : TxLog → TxLog
to_fill v = record v { filling = true }

-- the driver's load before a post: there is room, and the next slot is out with it
abbrev pub driver_opened : Step TxParcel → Seated → ℕ → Seated → Type 0
driver_opened st m r m' = (length m.0.sent < m.0.reaped + st.slots) × (x : TxParcel) × (m' ≡ (to_fill m.0, (length m.0.sent % st.slots, x) ∷ []))

-- a frame goes last in the sent list with the parcel that is put home
abbrev pub with_sent : TxLog → List (ℕ × TxParcel) → TxLog
with_sent v [] = v
with_sent v (c ∷ cs) = record v { filling = false; sent = v.sent ++ record { frame = take c.1.len c.1.bytes.items; mark = c.1.mark } ∷ [] }

abbrev pub driver_stored : Step TxParcel → Seated → ℕ → Seated → Type 0
driver_stored st m r m' = m' ≡ (with_sent m.0 m.1, [])

abbrev pub one_reaped : TxLog → TxLog
one_reaped v = record v { reaped = suc v.reaped }

abbrev pub not_reaped : TxLog → TxLog
not_reaped v = record v { reap_looks = v.reap_looks ++ (v.reaped, missed_word COMPLETION_GENERATION_BIT v.made.size v.reaped) ∷ [] }

-- r frames are completed: the next one is reaped, or there is none
abbrev pub driver_looked : Step TxParcel → Seated → ℕ → Seated → Type 0
driver_looked st m r m' =
    (m.0.reaped < r → (m' ≡ (one_reaped m.0, m.1)) × (m.0.reaped < length m.0.sent))
    × (r ≤ m.0.reaped → (m' ≡ (not_reaped m.0, m.1)) × (m.0.heard_completed ≤ m.0.reaped))

abbrev pub to_empty : TxLog → Sent → TxLog
to_empty v s = record v { emptying = true; taken = v.taken ++ record { sent = s; descriptors = need v.made (length s.frame) } ∷ [] }

abbrev pub not_taken : TxLog → TxLog
not_taken v = record v { take_looks = v.take_looks ++ (found_in v.taken, missed_word TX_DESC_GENERATION_BIT v.made.size (found_in v.taken)) ∷ [] }

-- r frames are posted: the next one's slot is out with the device, or there is none
abbrev pub device_looked : Step TxParcel → Seated → ℕ → Seated → Type 0
device_looked st m r m' =
    (length m.0.taken < r → (s : Sent) × (x : TxParcel) × (m' ≡ (to_empty m.0 s, (length m.0.taken % st.slots, x) ∷ [])) × Shows s x × IsMarked s.frame s.mark × IsComparable (sent_of (to_empty m.0 s).taken) m.0.heard_sent)
    × (r ≤ length m.0.taken → (m' ≡ (not_taken m.0, [])) × (length m.0.heard_sent ≤ length m.0.taken))

abbrev pub emptied : TxLog → TxLog
emptied v = record v { emptying = false }

-- the device's load after a take: the slot is at home
abbrev pub device_returned : Step TxParcel → Seated → ℕ → Seated → Type 0
device_returned st m r m' = m' ≡ (emptied m.0, [])

abbrev pub one_completed : TxLog → TxLog
one_completed v = record v { completed = suc v.completed }

abbrev pub device_stored : Step TxParcel → Seated → ℕ → Seated → Type 0
device_stored st m r m' = m' ≡ (one_completed m.0, m.1)

-- both ends' lists, where one seat has both parts
abbrev pub met : Step TxParcel → Seated → ℕ → Seated → Type 0
met st m r m' =
    (m' ≡ m) × (m.0.latest_made ≡ m.0.made) × IsPrefix (sent_of m.0.taken) m.0.sent × (m.0.reaped ≤ m.0.completed) × (m.0.completed ≤ length m.0.taken)
    × (descriptors m.0.made m.0.sent ≤ descriptors m.0.made (take m.0.reaped m.0.sent) + m.0.made.size)

-- what the last note told
abbrev pub driver_told : Step TxParcel → Seated → ℕ → Seated → Type 0
driver_told st m r m' = (m' ≡ m) × (m.0.latest_made ≡ m.0.made) × IsPrefix m.0.latest m.0.sent × (m.0.latest_done ≤ length m.0.sent)

abbrev pub device_told : Step TxParcel → Seated → ℕ → Seated → Type 0
device_told st m r m' =
    (m' ≡ m) × (m.0.latest_made ≡ m.0.made) × (m.0.latest_done ≤ m.0.completed) × IsComparable m.0.latest (sent_of m.0.taken) × IsComparable (sent_of m.0.taken) m.0.heard_sent
