-- The copies of a plan and the fates that a record gives them.
use Rattle.std.specs.Prelude.{ℕ, ◌+◌, Bool, ◌&&◌, nat_eq, nat_lt, if◌then◌else◌, List, [], ◌∷◌, ◌++◌, length, map, filter_map, flat_map, find, Option, Some, None, slice_get}
use Rattle.vmx_model.specs.Types.{GuestPlan, Plan, Tag, Entry, Fate, Way, Sending}
use Rattle.vmx_model.specs.declared.journal.Entry.TheVariants as entry
use Rattle.vmx_model.specs.declared.journal.Fate.TheVariants as fate
use Rattle.vmx_model.specs.declared.journal.Way.TheVariants as way
use Rattle.vmx_model.specs.declared.sending.Sending.TheVariants as sending
use Rattle.vmx_ends.specs.Transmit.{TxView}
use Rattle.vmx_model.specs.Views.{GuestView, RecordView}
use Rattle.vmx_model.specs.Plan.{Captured, captured, wire, verdict_on}
use Rattle.vmx_model.specs.Wire.{targets}
use Rattle.vmx_model.specs.Totals.{wiring}

-- two tags name one place of one queue
abbrev pub same_tag : Tag → Tag → Bool
same_tag s t = nat_eq s.guest t.guest && (nat_eq s.activation t.activation && (nat_eq s.queue t.queue && nat_eq s.place t.place))

-- the way that a frame took to a target
abbrev pub way_of : Tag → ℕ → Entry → Option Way
way_of t to (entry.Out tag target w) = if same_tag tag t && nat_eq target to then Some w else None
way_of t to (entry.Setting number answer setup) = None
way_of t to (entry.Lost tag) = None
way_of t to (entry.In from place f) = None

-- the fate of a sender's packet by its place in the link
abbrev pub fate_of : ℕ → ℕ → Entry → Option Fate
fate_of sender at (entry.In from place f) = if nat_eq from sender && nat_eq place at then Some f else None
fate_of sender at (entry.Setting number answer setup) = None
fate_of sender at (entry.Out tag target w) = None
fate_of sender at (entry.Lost tag) = None

-- the ways that the sender's journal shows of a copy
abbrev pub ways : Tag → ℕ → List Entry → List Way
ways t to sent = filter_map (way_of t to) sent

-- the fates that the target's journal shows of a packet
abbrev pub arrivals : ℕ → ℕ → List Entry → List Fate
arrivals sender at came = filter_map (fate_of sender at) came

-- a full link is a fate of its own, a packet has that of its arrival
abbrev pub way_fates : ℕ → List Entry → Way → List Fate
way_fates sender came (way.Full look) = fate.LinkFull look ∷ []
way_fates sender came (way.Link place) = arrivals sender place came

-- the fates of a sent frame's copy: `sent` is the sender's journal, `came` the target's
abbrev pub copy_fates : ℕ → List Entry → List Entry → Tag → ℕ → List Fate
copy_fates taken sent came t to = if nat_lt t.place taken then flat_map (way_fates t.guest came) (ways t to sent) else fate.Discarded ∷ []

-- the facts of a transmit queue of an activation
abbrev pub tx_named : ℕ → ℕ → TxView → Bool
tx_named a q v = nat_eq v.made.name.activation a && nat_eq v.made.name.queue q

-- the number of frames that a device took from a queue
abbrev pub taken_of : Option TxView → ℕ
taken_of None = 0
taken_of (Some v) = length v.taken

-- the journal of a guest, none where there is no such guest
abbrev pub entries_or_none : Option GuestView → List Entry
entries_or_none None = []
entries_or_none (Some v) = v.entries

-- the journal of guest g in a record
abbrev pub entries_at : RecordView → ℕ → List Entry
entries_at r g = entries_or_none (slice_get r.guests g)

-- the transmit facts of a guest
abbrev pub tx_or_none : Option GuestView → List TxView
tx_or_none None = []
tx_or_none (Some v) = v.tx

-- the number of frames that the device of guest g took from a queue of an activation
abbrev pub taken_at : RecordView → ℕ → ℕ → ℕ → ℕ
taken_at r g a q = taken_of (find (tx_named a q) (tx_or_none (slice_get r.guests g)))

-- the fates of a sent frame's copies, one list a copy
abbrev pub sent_fates : RecordView → Tag → List ℕ → List (List Fate)
sent_fates r t [] = (fate.NoPort ∷ []) ∷ []
sent_fates r t (to ∷ tos) = map (λ p. copy_fates (taken_at r t.guest t.activation t.queue) (entries_at r t.guest) (entries_at r p) t p) (to ∷ tos)

-- the tag of a place of a queue of guest g
abbrev pub tag_at : ℕ → ℕ → ℕ → ℕ → Tag
tag_at g a q k = record { guest = g; activation = a; queue = q; place = k }

-- the fates of a frame's copies, by its verdict
abbrev pub verdict_fates : Plan → RecordView → ℕ → List ℕ → Sending → List (List Fate)
verdict_fates plan r g frame sending.Down = (fate.Down ∷ []) ∷ []
verdict_fates plan r g frame sending.Short = (fate.Short ∷ []) ∷ []
verdict_fates plan r g frame sending.TooLong = (fate.TooLong ∷ []) ∷ []
verdict_fates plan r g frame (sending.Sent a q k) = sent_fates r (tag_at g a q k) (targets (wiring plan.guests) g frame)

-- the fates of each copy of a captured frame
abbrev pub fates_of : Plan → RecordView → ℕ → GuestPlan → Captured → List (List Fate)
fates_of plan r g p c = verdict_fates plan r g (wire c) (verdict_on p c)

-- the fates of all copies of a guest's frames
abbrev pub guest_fates : Plan → RecordView → ℕ → GuestPlan → List (List Fate)
guest_fates plan r g p = flat_map (fates_of plan r g p) (captured p)

-- the same for guests from port g on
abbrev pub fates_from : Plan → RecordView → ℕ → List GuestPlan → List (List Fate)
fates_from plan r g [] = []
fates_from plan r g (p ∷ ps) = guest_fates plan r g p ++ fates_from plan r (g + 1) ps

-- the fates of every copy of a plan, by guest, captured number and target
abbrev pub all_fates : Plan → RecordView → List (List Fate)
all_fates plan r = fates_from plan r 0 plan.guests
