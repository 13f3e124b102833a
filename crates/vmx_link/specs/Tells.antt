-- What each step of a link tells the seat that takes it.
use Rattle.std.specs.Prelude.{◌≡◌, ◌≢◌, ℕ, ◌+◌, ◌*◌, ◌/◌, ◌%◌, ◌≤◌, List, [], ◌∷◌, ◌++◌, length, Option, Some, None, true, false}
use mathlib.Core.List.{IsPrefix}
use Rattle.atomic_table.specs.Table.{Me, Step}
use Rattle.vmx_ring_laws.specs.Lists.{AreComparable}
use Rattle.vmx_ends.specs.declared.packet.Packet.{Packet}
use Rattle.vmx_link.specs.declared.known.Known.{Known}

-- a seat's knowledge, and the slots that are out with it
abbrev pub Seated : Type 0
Seated = Me (Option Packet) Known

abbrev pub in_slot : Option Packet → List Packet
in_slot None = []
in_slot (Some x) = x ∷ []

-- the packet in the slot that is out with the seat
abbrev pub carried : List (ℕ × Option Packet) → List Packet
carried [] = []
carried (c ∷ cs) = in_slot c.1

abbrev pub writes : Known → Known
writes v = record v { busy = true }

abbrev pub saw_full : Known → ℕ → Known
saw_full v word = record v { full = v.full ++ (length v.pushed, word) ∷ [] }

abbrev pub has_pushed : Known → List Packet → Known
has_pushed v xs = record v { busy = false; pushed = v.pushed ++ xs }

abbrev pub takes_packet : Known → Packet → Known
takes_packet v x = record v { busy = true; pulled = v.pulled ++ x ∷ [] }

abbrev pub saw_empty : Known → ℕ → Known
saw_empty v word = record v { empty = v.empty ++ (length v.pulled, word) ∷ [] }

abbrev pub rests : Known → Known
rests v = record v { busy = false }

-- a look of the sender takes the free slot out where the word is the free one of its position; else the word is the one before, and room was not told of
abbrev pub out_loaded : Step (Option Packet) → Seated → ℕ → Seated → Type 0
out_loaded st m word m' = let round = 2 * (length m.0.pushed / st.slots) in
    (word ≡ round → m' ≡ (writes m.0, (length m.0.pushed % st.slots, None) ∷ []))
    × (word ≢ round → (m' ≡ (saw_full m.0 word, [])) × (word + 1 ≡ round) × (length m.0.heard_pulled + st.slots ≤ length m.0.pushed))

abbrev pub out_stored : Step (Option Packet) → Seated → ℕ → Seated → Type 0
out_stored st m word m' = m' ≡ (has_pushed m.0 (carried m.1), [])

-- a look of the receiver takes the slot with its packet out where the word is the filled one of its position; else the word is the free one, and no packet was told of;
-- what was told of stays comparable with what it has pulled
abbrev pub in_loaded : Step (Option Packet) → Seated → ℕ → Seated → Type 0
in_loaded st m word m' = let round = 2 * (length m.0.pulled / st.slots) in
    (word ≡ round + 1 → (x : Packet) × (m' ≡ (takes_packet m.0 x, (length m.0.pulled % st.slots, Some x) ∷ [])) × AreComparable m.0.heard_pushed (m.0.pulled ++ x ∷ []))
    × (word ≢ round + 1 → (m' ≡ (saw_empty m.0 word, [])) × (word ≡ round) × (length m.0.heard_pushed ≤ length m.0.pulled) × AreComparable m.0.heard_pushed m.0.pulled)

abbrev pub in_stored : Step (Option Packet) → Seated → ℕ → Seated → Type 0
in_stored st m word m' = m' ≡ (rests m.0, [])

-- what stands between the lists of the two ends, where one seat has both
pub record Meets (n : ℕ) (v : Known) : Type 0 where
  pub pulled : IsPrefix v.pulled v.pushed
  pub room : length v.pushed ≤ length v.pulled + n
  pub notes : v.sender_gave ≡ v.sender_heard → v.receiver_gave ≡ v.receiver_heard → (v.sender_heard ≡ v.receiver_gave) × (v.receiver_heard ≡ v.sender_gave)

abbrev pub met : Step (Option Packet) → Seated → ℕ → Seated → Type 0
met st m word m' = (m' ≡ m) × Meets st.slots m.0

-- what the sender has heard, beside its own list
pub record SenderKnows (v : Known) : Type 0 where
  pub heard : IsPrefix v.heard_pulled v.pushed
  pub last_pulled : IsPrefix v.last_pulled v.pushed
  pub last_pushed : IsPrefix v.last_pushed v.pushed

abbrev pub out_heard : Step (Option Packet) → Seated → ℕ → Seated → Type 0
out_heard st m word m' = (m' ≡ m) × SenderKnows m.0

-- what the receiver has heard, beside its own list
pub record ReceiverKnows (n : ℕ) (v : Known) : Type 0 where
  pub heard : AreComparable v.heard_pushed v.pulled
  pub room : length v.heard_pushed ≤ length v.pulled + n
  pub last_pushed : AreComparable v.last_pushed v.pulled
  pub last_pulled : IsPrefix v.last_pulled v.pulled

abbrev pub in_heard : Step (Option Packet) → Seated → ℕ → Seated → Type 0
in_heard st m word m' = (m' ≡ m) × ReceiverKnows st.slots m.0
