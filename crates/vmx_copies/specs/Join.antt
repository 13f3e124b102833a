-- How the rows of the table come out of sorted journals.
use Rattle.std.specs.Prelude.{◌≡◌, ℕ, ◌+◌, ◌<◌, ◌≤◌, Bool, nat_eq, nat_lt, List, [], ◌∷◌, ◌++◌, length, map, filter, filter_map, flat_map, slice_get, slice_index, slice_index_or, Option, Some, None}
use Rattle.vmx_switch.specs.Ports.{Wiring}
use Rattle.vmx_model.specs.declared.guest.GuestPlan.{GuestPlan}
use Rattle.vmx_model.specs.declared.journal.Entry.{Entry}
use Rattle.vmx_model.specs.declared.journal.Fate.{Fate}
use Rattle.vmx_model.specs.declared.journal.Way.{Way}
use Rattle.vmx_model.specs.declared.sending.Sending.{Sending}
use Rattle.vmx_model.specs.declared.journal.Fate.TheVariants as fate
use Rattle.vmx_model.specs.declared.journal.Way.TheVariants as way
use Rattle.vmx_model.specs.declared.sending.Sending.TheVariants as sending
use Rattle.vmx_model.specs.Lists.{Rises}
use Rattle.vmx_model.specs.Plan.{Captured, captured, wire, verdict_on, place_of}
use Rattle.vmx_model.specs.Wire.{targets}
use Rattle.vmx_model.specs.Account.{activations}
use Rattle.vmx_buckets.specs.declared.sends.Switched.{Switched}
use Rattle.vmx_buckets.specs.declared.sends.Toward.{Toward}
use Rattle.vmx_buckets.specs.Buckets.{key, at_key, switched_on, HasArrivals}
use Rattle.vmx_copies.specs.declared.copy.FrameCopy.{FrameCopy}

-- ------------------------------------------------------------ journals

-- the journal of a port, none where there is no such guest
abbrev pub entries_in : List (List Entry) → ℕ → List Entry
entries_in journals port = slice_index_or journals port []

-- by target and then sender, the fates of the packets that the target took
pub record HaveArrivals (journals : List (List Entry)) (came : List (List (List Fate))) : Type 0 where
  pub long : length came ≡ length journals
  pub each : (port : ℕ) → port < length journals → HasArrivals (entries_in journals port) (length journals) (at_key came port)

-- the fate of the packet of a place from a sender
abbrev pub arrival_at : List (List (List Fate)) → ℕ → ℕ → ℕ → Option Fate
arrival_at came target sender place = slice_get (at_key (at_key came target) sender) place

-- ------------------------------------------------------------ the copies of a frame

-- a row, where there is a fate
abbrev pub row_with : ℕ → ℕ → Option ℕ → Option Fate → Option FrameCopy
row_with g i to None = None
row_with g i to (Some f) = Some (record { sender = g; number = i; target = to; fate = f })

-- a full link is a fate of its own, a packet has that of its arrival
abbrev pub fate_by : List (List (List Fate)) → ℕ → ℕ → Way → Option Fate
fate_by came g to (way.Full look) = Some (fate.LinkFull look)
fate_by came g to (way.Link place) = arrival_at came to g place

abbrev pub row_to : List (List (List Fate)) → ℕ → ℕ → Option Toward → Option FrameCopy
row_to came g i None = row_with g i None (Some fate.NoPort)
row_to came g i (Some t) = row_with g i (Some t.target) (fate_by came g t.target t.way)

-- the row of what a journal gave to the switch
abbrev pub row_if : List (List (List Fate)) → ℕ → ℕ → Switched → Option FrameCopy
row_if came g i s = row_to came g i s.to

-- a frame that counts as one copy without target
abbrev pub alone : ℕ → ℕ → Fate → List FrameCopy
alone g i f = record { sender = g; number = i; target = None; fate = f } ∷ []

-- a copy of a frame that was not taken
abbrev pub discarded_for : ℕ → ℕ → ℕ → FrameCopy
discarded_for g i to = record { sender = g; number = i; target = Some to; fate = fate.Discarded }

-- the copies of a frame that was sent and not taken, by its targets
abbrev pub untaken : ℕ → ℕ → List ℕ → List FrameCopy
untaken g i [] = alone g i fate.NoPort
untaken g i (t ∷ ts) = map (discarded_for g i) (t ∷ ts)

-- what was given to the switch of this place, and of those before it
abbrev pub is_of : ℕ → Switched → Bool
is_of k s = nat_eq s.place k

abbrev pub is_before : ℕ → Switched → Bool
is_before k s = nat_lt s.place k

abbrev pub here : ℕ → List Switched → List Switched
here k sends = filter (is_of k) sends

abbrev pub before : ℕ → List Switched → List Switched
before k sends = filter (is_before k) sends

-- a frame of which nothing was given to the switch was not taken
abbrev pub sent_rows : List (List (List Fate)) → ℕ → ℕ → List ℕ → List Switched → List FrameCopy
sent_rows came g i tos [] = untaken g i tos
sent_rows came g i tos (s ∷ ss) = filter_map (row_if came g i) (s ∷ ss)

-- the rows of a captured frame, by the verdict on it
abbrev pub verdict_rows : Wiring → List (List (List Fate)) → List Entry → ℕ → ℕ → List ℕ → Sending → List FrameCopy
verdict_rows w came es g i frame sending.Down = alone g i fate.Down
verdict_rows w came es g i frame sending.Short = alone g i fate.Short
verdict_rows w came es g i frame sending.TooLong = alone g i fate.TooLong
verdict_rows w came es g i frame (sending.Sent a q k) = sent_rows came g i (targets w g frame) (here k (switched_on a q es))

abbrev pub frame_rows : Wiring → List (List (List Fate)) → List Entry → ℕ → GuestPlan → Captured → List FrameCopy
frame_rows w came es g p c = verdict_rows w came es g c.number (wire c) (verdict_on p c)

-- of a guest
abbrev pub guest_rows : Wiring → List (List (List Fate)) → List Entry → ℕ → GuestPlan → List FrameCopy
guest_rows w came es g p = flat_map (frame_rows w came es g p) (captured p)

-- of guests from port g on
abbrev pub rows_from : Wiring → List (List (List Fate)) → List (List Entry) → ℕ → List GuestPlan → List FrameCopy
rows_from w came journals g [] = []
rows_from w came journals g (p ∷ ps) = guest_rows w came (entries_in journals g) g p ++ rows_from w came journals (g + 1) ps

-- ------------------------------------------------------------ cursors

-- the places of what was given to the switch do not fall
abbrev pub IsInOrder : List Switched → Type 0
IsInOrder sends = Rises (λ (x y : Switched). x.place ≤ y.place) sends

-- those of each queue of a guest
abbrev pub AreInOrder : GuestPlan → List Entry → Type 0
AreInOrder p es = (a q : ℕ) → a < activations p → q < p.setup.tx_queues → IsInOrder (switched_on a q es)

-- and those of each queue of each guest
pub record AllInOrder (gs : List GuestPlan) (journals : List (List Entry)) : Type 0 where
  pub each : (g : ℕ) (p : GuestPlan) → slice_get gs g ≡ Some p → AreInOrder p (entries_in journals g)

-- each queue's cursor stands behind what was given of its frames before a captured number
pub record IsPassed (p : GuestPlan) (es : List Entry) (i : ℕ) (passed : List ℕ) : Type 0 where
  pub each : (a q : ℕ) → a < activations p → q < p.setup.tx_queues → slice_index passed (key a q) ≡ length (before (place_of p a q i) (switched_on a q es))
