-- What each step of a receive queue tells.
use Rattle.std.specs.Prelude.{◌≡◌, ℕ, ◌+◌, ◌%◌, ◌<◌, ◌≤◌, List, [], ◌∷◌, ◌++◌, length, true, false, take, All}
use mathlib.Core.List.{IsPrefix}
use Rattle.atomic_table.specs.Table.{Me, Step}
use Rattle.vmx_ends.specs.declared.frames.Delivery.{Delivery}
use Rattle.vmx_layout.specs.declared.TheConstants.{COMPLETION_GENERATION_BIT, RX_DESC_GENERATION_BIT}
use Rattle.vmx_ends.specs.Words.{missed_word}
use Rattle.vmx_ends.specs.Receive.{used, took1, took2, pieces_of, posted1, posted2}
use Rattle.vmx_ends.specs.Walk.{further_pieces}
use Rattle.vmx_ends.specs.Core.{Outcome, takes, misses, outcome}
use Rattle.vmx_ends.specs.Frames.{IsFrame, IsComparable}
use Rattle.vmx_ends.specs.ReceiveClauses.{ring_size, IsRefusal}
use Rattle.vmx_lists.specs.declared.rx.log.RxLog.{RxLog}
use Rattle.vmx_lists.specs.declared.rx.log.RxParcel.{RxParcel}
use Rattle.vmx_lists.specs.RxRing.{Shows}

abbrev pub Seated : Type 0
Seated = Me RxParcel RxLog

-- what a delivery of suc k pieces comes to where the first r frames are received
abbrev pub sight : ℕ → RxLog → ℕ → Outcome
sight k v r = outcome v.made (used took1 v.delivered) (used took2 v.delivered) (posted1 v.made (take r v.delivered)) (posted2 v.made (take r v.delivered)) k

abbrev pub going : RxLog → ℕ → RxLog
going v r = record v { busy = true; seen = r }

abbrev pub refusing : RxLog → ℕ → ℕ → ℕ → List (ℕ × ℕ) → RxLog
refusing v r ring p looks = record v { seen = r; refused = v.refused ++ (ring, p, missed_word RX_DESC_GENERATION_BIT (ring_size v.made ring) p) ∷ []; looks = v.looks ++ looks }

abbrev pub LooksBy : Outcome → ℕ → Seated → ℕ → Seated → Type 0
LooksBy (takes passed end) n m r m' = (x : RxParcel) × (m' ≡ (going m.0 r, (length m.0.delivered % n, x) ∷ []))
LooksBy (misses ring p looks) n m r m' = m' ≡ (refusing m.0 r ring p looks, [])

-- the walk goes through, and a slot is out with the seat; or it does not. r frames are received
pub record LooksAround (m : Seated) (r : ℕ) : Type 0 where
  pub seen : m.0.seen ≤ r
  pub heard : length m.0.heard_received ≤ r
  pub behind : r ≤ length m.0.delivered
  pub within : length m.0.delivered ≤ r + m.0.made.size1
  pub heard1 : used took1 m.0.heard_received ≤ used took1 (take r m.0.delivered)
  pub heard2 : used took2 m.0.heard_received ≤ used took2 (take r m.0.delivered)
  pub within1 : used took1 m.0.delivered ≤ posted1 m.0.made (take r m.0.delivered)
  pub within2 : used took2 m.0.delivered ≤ posted2 m.0.made (take r m.0.delivered)

abbrev pub device_looked : ℕ → Step RxParcel → Seated → ℕ → Seated → Type 0
device_looked k st m r m' = LooksBy (sight k m.0 r) st.slots m r m' × LooksAround m r

-- what goes into the lists with a parcel
abbrev pub added : Outcome → RxParcel → List Delivery
added (takes passed end) x = record { frame = take x.len x.bytes.items; meta = x.meta; passed = passed; chain = end.chain } ∷ []
added (misses ring p looks) x = []

abbrev pub walk_looks : Outcome → List (ℕ × ℕ)
walk_looks (takes passed end) = end.looks
walk_looks (misses ring p looks) = looks

abbrev pub filled : RxLog → RxParcel → RxLog
filled v x = record v { busy = false; delivered = v.delivered ++ added (sight (further_pieces x.len) v v.seen) x; looks = v.looks ++ walk_looks (sight (further_pieces x.len) v v.seen) }

abbrev pub sent_off : RxLog → List (ℕ × RxParcel) → RxLog
sent_off v [] = v
sent_off v (c ∷ cs) = filled v c.1

abbrev pub device_stored : Step RxParcel → Seated → ℕ → Seated → Type 0
device_stored st m r m' = m' ≡ (sent_off m.0 m.1, [])

abbrev pub opening_it : RxLog → Delivery → RxLog
opening_it v d = record v { busy = true; received = v.received ++ d ∷ [] }

abbrev pub missing : RxLog → RxLog
missing v = record v { missed = v.missed ++ (used pieces_of v.received, missed_word COMPLETION_GENERATION_BIT (v.made.size1 + v.made.size2) (used pieces_of v.received)) ∷ [] }

abbrev pub at_rest : RxLog → RxLog
at_rest v = record v { busy = false }

-- r frames are delivered: the next one's slot is out with the seat, or there is none
abbrev pub driver_looked : Step RxParcel → Seated → ℕ → Seated → Type 0
driver_looked st m r m' =
    (length m.0.received < r → (d : Delivery) × (x : RxParcel) × (m' ≡ (opening_it m.0 d, (length m.0.received % st.slots, x) ∷ [])) × Shows d x × IsFrame d.frame × IsComparable (m.0.received ++ d ∷ []) m.0.heard_delivered)
    × (r ≤ length m.0.received → (m' ≡ (missing m.0, [])) × (length m.0.heard_delivered ≤ length m.0.received))
    × (length m.0.heard_delivered ≤ r)

abbrev pub driver_stored : Step RxParcel → Seated → ℕ → Seated → Type 0
driver_stored st m r m' = m' ≡ (at_rest m.0, [])

-- both ends' lists, where one seat has both parts
abbrev pub met : Step RxParcel → Seated → ℕ → Seated → Type 0
met st m r m' = (m' ≡ m) × (m.0.latest_made ≡ m.0.made) × IsPrefix m.0.received m.0.delivered × All (IsRefusal m.0.made) m.0.refused
    × (used took1 m.0.delivered ≤ posted1 m.0.made m.0.received) × (used took2 m.0.delivered ≤ posted2 m.0.made m.0.received)

abbrev pub device_told : Step RxParcel → Seated → ℕ → Seated → Type 0
device_told st m r m' = (m' ≡ m) × (m.0.latest_made ≡ m.0.made) × IsPrefix m.0.heard_received m.0.delivered × IsPrefix m.0.latest m.0.delivered

-- what the last note told, and what it knew as received
abbrev pub driver_told : Step RxParcel → Seated → ℕ → Seated → Type 0
driver_told st m r m' =
    (m' ≡ m) × (m.0.latest_made ≡ m.0.made) × IsComparable m.0.heard_delivered m.0.received × IsComparable m.0.latest m.0.received
    × (m.0.told1 ≤ posted1 m.0.made m.0.received) × (m.0.told2 ≤ posted2 m.0.made m.0.received)
    × (used took1 m.0.latest ≤ posted1 m.0.made m.0.received) × (used took2 m.0.latest ≤ posted2 m.0.made m.0.received)
