-- A record accounts for a plan; and what whole runs of the actors leave, from which it follows.
use Rattle.std.specs.Prelude.{◌≡◌, ◌<◌, ◌≤◌, ℕ, ◌+◌, ◌%◌, Bool, true, false, ◌&&◌, nat_eq, if◌then◌else◌, List, [], ◌∷◌, ◌++◌, length, map, filter, filter_map, flat_map, find, Option, Some, None, slice_get, ⊤}
use Rattle.std.specs.List.{All, AllByRecursion}
use Rattle.vmx_ends.specs.declared.frames.Sent.{Sent}
use Rattle.vmx_ends.specs.declared.frames.Delivery.{Delivery}
use Rattle.vmx_ends.specs.declared.made.TxMade.{TxMade}
use Rattle.vmx_ends.specs.declared.made.RxMade.{RxMade}
use Rattle.vmx_ends.specs.Frames.{sent_of}
use Rattle.vmx_ends.specs.Transmit.{TxView}
use Rattle.vmx_ends.specs.Receive.{RxView}
use Rattle.vmx_ends.specs.ReceiveClauses.{IsRefusal, ring_size, made_rx}
use Rattle.vmx_ends.specs.LinkView.{LinkView}
use Rattle.vmx_model.specs.declared.journal.Entry.TheVariants as entry
use Rattle.vmx_model.specs.declared.journal.Fate.TheVariants as fate
use Rattle.vmx_model.specs.declared.journal.Way.TheVariants as way
use Rattle.vmx_model.specs.Types.{Plan, GuestPlan, Tag, QueueName, Packet, Entry, Fate, Received}
use Rattle.vmx_model.specs.declared.limits.TheConstants.{LINK_CAPACITY}
use Rattle.vmx_model.specs.Lists.{count, EachAfter, IsOne, Rises, upto}
use Rattle.vmx_model.specs.Deeds.{begins}
use Rattle.vmx_device_state.specs.ImageSetup.{image_setup}
use Rattle.vmx_model.specs.Wire.{wire_form, targets}
use Rattle.vmx_model.specs.Plan.{Ask, posted_of, frame_of, asks, commands, closes, is_set, ends_by_reset, captured}
use Rattle.vmx_device_state.specs.DeviceState.{DeviceState, Idle, Active}
use Rattle.vmx_device_state.specs.declared.turn.Turn.{Turn}
use Rattle.vmx_model.specs.Views.{Need, GuestView, RecordView}
use Rattle.vmx_model.specs.Meta.{Arrival, delivered_as, arrival_of, handed_as}
use Rattle.vmx_model.specs.Totals.{wiring}
use Rattle.vmx_switch.specs.Ports.{Wiring}
use Rattle.vmx_ends.specs.Queues.{made_tx}
use Rattle.vmx_model.specs.Journal.{Beside, none_stopped, IsLawfulJournal, needs, fate_in, packet_at, state_at}
use Rattle.vmx_model.specs.Fates.{fates_of, entries_at, tx_named, tx_or_none}
use Rattle.vmx_model.specs.Stats.{tx_counts, rx_counts}
use Rattle.vmx_model.specs.Order.{CameUp, came_up, HandsUp, KeepsOrder, KeepsFlows}

-- ------------------------------------------------------------ names

-- the names of so many queues of one activation of guest g
abbrev pub queue_names : ℕ → ℕ → ℕ → List QueueName
queue_names g queues a = map (λ q. record { guest = g; activation = a; queue = q }) (upto 0 queues)

-- the activations of a guest: the first, and one for each activate and reset
abbrev pub activations : GuestPlan → ℕ
activations p = count (λ x. begins x.deed) p.script + 1

-- so many queues of each activation of guest g
abbrev pub names : ℕ → GuestPlan → ℕ → List QueueName
names g p queues = flat_map (queue_names g queues) (upto 0 (activations p))

-- what a guest's queues are made with
abbrev pub tx_made : GuestPlan → QueueName → TxMade
tx_made p name = made_tx name p.setup.tx_ring p.piece p.setup.tx_data

-- the same for a receive queue
abbrev pub rx_made : GuestPlan → QueueName → RxMade
rx_made p name = made_rx name p.setup.rx_ring1 p.setup.rx_ring2 p.bodies p.setup.rx_queues p.setup.rx_data

-- the links of a port to all others
abbrev pub link_names : ℕ → ℕ → List (ℕ × ℕ)
link_names n from = filter_map (λ to. if nat_eq from to then None else Some (from, to)) (upto 0 n)

-- ------------------------------------------------------------ what the entries list

-- a frame given to the switch: to a target, or to nobody
pub record Send : Type 0 where
  pub tag : Tag
  pub target : Option ℕ

-- an entry as a frame given to the switch
abbrev pub send_of : Entry → Option Send
send_of (entry.Out tag target w) = Some (record { tag = tag; target = Some target })
send_of (entry.Lost tag) = Some (record { tag = tag; target = None })
send_of (entry.Setting number answer setup) = None
send_of (entry.In from place f) = None

-- a frame of this transmit queue of this activation
abbrev pub of_queue : ℕ → ℕ → Send → Bool
of_queue a q s = nat_eq s.tag.activation a && nat_eq s.tag.queue q

-- the frames of a queue that a journal gives to the switch, in order
abbrev pub sends_on : ℕ → ℕ → List Entry → List Send
sends_on a q es = filter (of_queue a q) (filter_map send_of es)

-- one `Lost` where there is no target, else one `Out` per target
abbrev pub frame_sends : Tag → List ℕ → List Send
frame_sends t [] = record { tag = t; target = None } ∷ []
frame_sends t (to ∷ tos) = map (λ x. record { tag = t; target = Some x }) (to ∷ tos)

-- the frames of a queue from place k on, each to its targets
abbrev pub planned : Wiring → ℕ → ℕ → ℕ → ℕ → List (List ℕ) → List Send
planned w g a q k [] = []
planned w g a q k (f ∷ fs) = frame_sends (record { guest = g; activation = a; queue = q; place = k }) (targets w g f) ++ planned w g a q (k + 1) fs

-- the tags, and the places, of the packets that a journal puts on the link to a target
abbrev pub tag_to : ℕ → Entry → Option Tag
tag_to to (entry.Out tag target (way.Link place)) = if nat_eq target to then Some tag else None
tag_to to (entry.Out tag target (way.Full look)) = None
tag_to to (entry.Lost tag) = None
tag_to to (entry.Setting number answer setup) = None
tag_to to (entry.In from place f) = None

-- the places that they have on the link
abbrev pub place_to : ℕ → Entry → Option ℕ
place_to to (entry.Out tag target (way.Link place)) = if nat_eq target to then Some place else None
place_to to (entry.Out tag target (way.Full look)) = None
place_to to (entry.Lost tag) = None
place_to to (entry.Setting number answer setup) = None
place_to to (entry.In from place f) = None

-- the looks that found the link to a target full
abbrev pub look_to : ℕ → Entry → Option ℕ
look_to to (entry.Out tag target (way.Full look)) = if nat_eq target to then Some look else None
look_to to (entry.Out tag target (way.Link place)) = None
look_to to (entry.Lost tag) = None
look_to to (entry.Setting number answer setup) = None
look_to to (entry.In from place f) = None

-- the places of the packets that came from a sender
abbrev pub place_from : ℕ → Entry → Option ℕ
place_from sender (entry.In from place f) = if nat_eq from sender then Some place else None
place_from sender (entry.Out tag target w) = None
place_from sender (entry.Lost tag) = None
place_from sender (entry.Setting number answer setup) = None

-- numbers and answers of the commands of a journal
abbrev pub asked : Entry → Option (ℕ × ℕ)
asked (entry.Setting number answer setup) = Some (number, answer)
asked (entry.Out tag target w) = None
asked (entry.Lost tag) = None
asked (entry.In from place f) = None

-- a set command
abbrev pub is_set_entry : Entry → Bool
is_set_entry (entry.Setting number answer setup) = is_set number
is_set_entry (entry.Out tag target w) = false
is_set_entry (entry.Lost tag) = false
is_set_entry (entry.In from place f) = false

-- an entry about a frame
abbrev pub IsTraffic : Entry → Type 0
IsTraffic (entry.Setting number answer setup) = ⊥
IsTraffic (entry.Out tag target w) = ⊤
IsTraffic (entry.Lost tag) = ⊤
IsTraffic (entry.In from place f) = ⊤

-- a frame that came up on this queue of this activation
abbrev pub is_lying : ℕ → ℕ → CameUp → Bool
is_lying a q u = nat_eq u.activation a && nat_eq u.queue q

-- the delivered form of a packet that came up in this state
abbrev pub arrival_under : Option Packet → DeviceState → List Arrival
arrival_under None state = []
arrival_under (Some p) Idle = []
arrival_under (Some p) (Active s) = delivered_as s p.frame ∷ []

-- a frame that a fate names as come up on a queue
abbrev pub arrival_by : Beside → ℕ → ℕ → List Entry → ℕ → ℕ → Fate → List Arrival
arrival_by b a q before from place (fate.Up activation queue k) =
    if nat_eq activation a && nat_eq queue q then arrival_under (packet_at b.links from b.port place) (state_at b.told before) else []
arrival_by b a q before from place f = []

-- the same for an entry
abbrev pub arrival_in : Beside → ℕ → ℕ → List Entry → Entry → List Arrival
arrival_in b a q before (entry.In from place f) = arrival_by b a q before from place f
arrival_in b a q before (entry.Setting number answer setup) = []
arrival_in b a q before (entry.Out tag target w) = []
arrival_in b a q before (entry.Lost tag) = []

-- what was delivered to a queue of an activation, in the order of the journal
abbrev pub deliveries : Beside → ℕ → ℕ → List Entry → List Entry → List Arrival
deliveries b a q before [] = []
deliveries b a q before (e ∷ es) = arrival_in b a q before e ++ deliveries b a q (before ++ e ∷ []) es

-- a frame handed up from this queue of this activation
abbrev pub from_queue : ℕ → ℕ → Received → Bool
from_queue a q x = nat_eq x.activation a && nat_eq x.queue q

-- frames as a driver hands them up from a queue, with their places from k on
abbrev pub received_from : ℕ → ℕ → ℕ → List Delivery → List Received
received_from a q k [] = []
received_from a q k (d ∷ ds) = handed_as a q k d ∷ received_from a q (k + 1) ds

-- ------------------------------------------------------------ looks that found nothing

-- the position that a look asked for
abbrev pub need : ℕ × ℕ × ℕ → Need
need look = record { ring = look.0; position = look.1 }

-- the facts of a receive queue of an activation
abbrev pub rx_named : ℕ → ℕ → RxView → Bool
rx_named a q v = nat_eq v.made.name.activation a && nat_eq v.made.name.queue q

-- a refused look that shows why a frame had no buffer: a descriptor past those with which the ring began, and a word that does not have the generation of its position
pub record IsCause (made : RxMade) (ring position : ℕ) (look : ℕ × ℕ × ℕ) : Type 0 where
  pub needed : need look ≡ record { ring = ring; position = position }
  pub refused : IsRefusal made look
  pub past : ring_size made look.0 ≤ look.1

-- the cause of a frame without buffer: the look that its fate names
abbrev pub HasLook : List RxView → Fate → Type 0
HasLook rx (fate.NoBuffer a q ring position look) = (f : RxView) × (find (rx_named a q) rx ≡ Some f) × ((x : ℕ × ℕ × ℕ) × (slice_get f.refused look ≡ Some x) × IsCause f.made ring position x)
HasLook rx f = ⊤

-- ------------------------------------------------------------ the accounts

-- a transmit queue's facts: what the plan sends, taken from the front, all of it unless a reset ended the activation
pub record AccountsTx (w : Wiring) (g : ℕ) (p : GuestPlan) (es : List Entry) (f : TxView) : Type 0 where
  pub made : f.made ≡ tx_made p f.made.name
  pub sent : f.sent ≡ posted_of p f.made.name.activation f.made.name.queue
  pub taken : (rest : List Sent) × (sent_of f.taken ++ rest ≡ f.sent)
  pub numbers : (f.reaped ≡ length f.taken) × (f.completed ≡ length f.taken)
  pub whole : ends_by_reset p f.made.name.activation ≡ false → length f.taken ≡ length f.sent
  pub sends : sends_on f.made.name.activation f.made.name.queue es ≡ planned w g f.made.name.activation f.made.name.queue 0 (map wire_form (sent_of f.taken))

-- a receive queue's facts: what came up there, received whole, and a refused look for each frame without buffer
pub record AccountsRx (b : Beside) (p : GuestPlan) (v : GuestView) (f : RxView) : Type 0 where
  pub made : f.made ≡ rx_made p f.made.name
  pub delivered : map arrival_of f.delivered ≡ deliveries b f.made.name.activation f.made.name.queue [] v.entries
  pub received : f.received ≡ f.delivered
  pub refused : map need f.refused ≡ needs f.made.name.activation f.made.name.queue v.entries
  pub looks : All (IsRefusal f.made) f.refused
  pub handed : filter (from_queue f.made.name.activation f.made.name.queue) v.received ≡ received_from f.made.name.activation f.made.name.queue 0 f.delivered

-- a link: its packets and refusals are those of its sender's journal, its arrivals those of its target's
pub record AccountsLink (plan : Plan) (r : RecordView) (sent came : List Entry) (l : LinkView) : Type 0 where
  pub tags : map (λ (x : Packet). x.tag) l.pushed ≡ filter_map (tag_to l.to) sent
  pub places : filter_map (place_to l.to) sent ≡ upto 0 (length l.pushed)
  pub frames : AllByRecursion (λ (x : Packet). frame_of plan x.tag ≡ Some x.frame) l.pushed
  pub looks : filter_map (look_to l.to) sent ≡ upto 0 (length l.full)
  pub full : AllByRecursion (λ (x : ℕ × ℕ). (LINK_CAPACITY ≤ x.0) × (x.1 % 2 ≡ 1)) l.full
  pub pulled : l.pulled ≡ l.pushed
  pub arrivals : filter_map (place_from l.from) came ≡ upto 0 (length l.pulled)

-- a packet has a frame that the sender's device took
abbrev pub WasTaken : RecordView → ℕ → Packet → Type 0
WasTaken r g x = (x.tag.guest ≡ g) × ((f : TxView) × (find (tx_named x.tag.activation x.tag.queue) (tx_or_none (slice_get r.guests g)) ≡ Some f) × (slice_get (map wire_form (sent_of f.taken)) x.tag.place ≡ Some x.frame))

-- the command of a turn, and what its image says
abbrev pub ask_of : Turn → Ask
ask_of t = record { number = t.command.number; setup = image_setup t.command.image }

-- what stands beside the journal of guest g in a record
abbrev pub beside : RecordView → ℕ → GuestPlan → GuestView → Beside
beside r g p v = record { port = g; mac = p.mac; told = v.told; links = r.links; stopped = none_stopped }

-- a guest's part of the accounts
pub record AccountsGuest (plan : Plan) (r : RecordView) (g : ℕ) (p : GuestPlan) (v : GuestView) : Type 0 where
  pub tx_names : map (λ (f : TxView). f.made.name) v.tx ≡ names g p p.setup.tx_queues
  pub rx_names : map (λ (f : RxView). f.made.name) v.rx ≡ names g p p.setup.rx_queues
  pub tx : AllByRecursion (AccountsTx (wiring plan.guests) g p v.entries) v.tx
  pub rx : AllByRecursion (AccountsRx (beside r g p v) p v) v.rx
  pub received : AllByRecursion (λ (x : Received). (f : RxView) × (find (rx_named x.activation x.queue) v.rx ≡ Some f)) v.received
  pub rising : Rises (λ (x y : Received). x.activation ≤ y.activation) v.received
  pub owned : AllByRecursion (λ (s : Send). (f : TxView) × (find (tx_named s.tag.activation s.tag.queue) v.tx ≡ Some f)) (filter_map send_of v.entries)
  pub settings : filter (λ (x : ℕ × ℕ). is_set x.0) (filter_map asked v.entries) ≡ map (λ c. (c, 0)) (commands p)
  pub images : map ask_of (filter (λ (t : Turn). is_set t.command.number) v.told) ≡ asks p
  pub tx_stats : v.tx_stats ≡ tx_counts v.tx v.entries
  pub rx_stats : v.rx_stats ≡ rx_counts r.links g v.entries
  pub told : filter_map asked v.entries ≡ map (λ (t : Turn). (t.command.number, t.answer.value)) v.told
  pub opens : EachAfter (λ before e. IsTraffic e → 0 < count is_set_entry before) [] v.entries
  pub ends : closes p ≡ true → EachAfter (λ before e. IsTraffic e → count is_set_entry before < length (commands p)) [] v.entries
  pub lawful : IsLawfulJournal (beside r g p v) v.entries v.setups
  pub causes : AllByRecursion (HasLook v.rx) (filter_map fate_in v.entries)
  -- so the order is that of the frames handed up, by activation and place
  pub handed_up : HandsUp v.received (came_up r.links g v.entries)
  pub order : KeepsOrder plan r.links g v.entries
  -- each copy has exactly one fate
  pub fates : AllByRecursion (λ c. AllByRecursion IsOne (fates_of plan r g p c)) (captured p)

-- flows are kept between any two guests of a record
abbrev pub KeepsAllFlows : Plan → RecordView → Type 0
KeepsAllFlows plan r = (g g' : ℕ) (p p' : GuestPlan) (v v' : GuestView) → slice_get plan.guests g ≡ Some p → slice_get r.guests g ≡ Some v → slice_get plan.guests g' ≡ Some p' → slice_get r.guests g' ≡ Some v'
    → KeepsFlows (beside r g p v) v.entries (beside r g' p' v') v'.entries

-- a record accounts for a plan
pub record Accounts (plan : Plan) (r : RecordView) : Type 0 where
  pub guests : length r.guests ≡ length plan.guests
  pub link_order : map (λ (l : LinkView). (l.from, l.to)) r.links ≡ flat_map (link_names (length plan.guests)) (upto 0 (length plan.guests))
  pub links : AllByRecursion (λ (l : LinkView). AccountsLink plan r (entries_at r l.from) (entries_at r l.to) l) r.links
  pub each : (g : ℕ) (p : GuestPlan) (v : GuestView) → slice_get plan.guests g ≡ Some p → slice_get r.guests g ≡ Some v → AccountsGuest plan r g p v
  pub flows : KeepsAllFlows plan r

-- ------------------------------------------------------------ what whole runs leave

-- what a sender's device says of its link: it pushed what its journal says
pub record SendsOnto (sent : List Entry) (l : LinkView) : Type 0 where
  pub tags : map (λ (x : Packet). x.tag) l.pushed ≡ filter_map (tag_to l.to) sent
  pub places : filter_map (place_to l.to) sent ≡ upto 0 (length l.pushed)
  pub looks : filter_map (look_to l.to) sent ≡ upto 0 (length l.full)
  pub full : AllByRecursion (λ (x : ℕ × ℕ). (LINK_CAPACITY ≤ x.0) × (x.1 % 2 ≡ 1)) l.full

-- what a target's device says of its link: it pulled what its journal says
pub record PullsFrom (came : List Entry) (l : LinkView) : Type 0 where
  pub arrivals : filter_map (place_from l.from) came ≡ upto 0 (length l.pulled)

-- what the meeting of a link's ends says, after the target's device found it empty
pub record MetLink (l : LinkView) : Type 0 where
  pub met : (rest : List Packet) × (l.pulled ++ rest ≡ l.pushed)
  pub drained : length l.pulled ≡ length l.pushed

-- a packet of a transmit end is of its guest, and has a frame that the end took
abbrev pub IsOfEnd : ℕ → ℕ → ℕ → List Sent → Packet → Type 0
IsOfEnd g a q taken x = x.tag.activation ≡ a → x.tag.queue ≡ q → (x.tag.guest ≡ g) × (slice_get (map wire_form taken) x.tag.place ≡ Some x.frame)

-- the packets of an end on all links of its guest
abbrev pub PushedOfEnd : List LinkView → ℕ → ℕ → ℕ → List Sent → Type 0
PushedOfEnd links g a q taken = AllByRecursion (λ (l : LinkView). l.from ≡ g → AllByRecursion (IsOfEnd g a q taken) l.pushed) links

-- a link after its ends have met: the sender's device pushed what its journal says, the target's pulled all of it
pub record LeavesLink (r : RecordView) (sent came : List Entry) (l : LinkView) : Type 0 where
  pub tags : map (λ (x : Packet). x.tag) l.pushed ≡ filter_map (tag_to l.to) sent
  pub places : filter_map (place_to l.to) sent ≡ upto 0 (length l.pushed)
  pub taken : AllByRecursion (WasTaken r l.from) l.pushed
  pub looks : filter_map (look_to l.to) sent ≡ upto 0 (length l.full)
  pub full : AllByRecursion (λ (x : ℕ × ℕ). (LINK_CAPACITY ≤ x.0) × (x.1 % 2 ≡ 1)) l.full
  pub met : (rest : List Packet) × (l.pulled ++ rest ≡ l.pushed)
  pub drained : length l.pulled ≡ length l.pushed
  pub arrivals : filter_map (place_from l.from) came ≡ upto 0 (length l.pulled)

-- a receive queue after its ends have met
pub record LeavesRx (b : Beside) (p : GuestPlan) (v : GuestView) (f : RxView) : Type 0 where
  pub made : f.made ≡ rx_made p f.made.name
  pub delivered : map arrival_of f.delivered ≡ deliveries b f.made.name.activation f.made.name.queue [] v.entries
  pub met : (rest : List Delivery) × (f.received ++ rest ≡ f.delivered)
  pub drained : length f.received ≡ length f.delivered
  pub refused : map need f.refused ≡ needs f.made.name.activation f.made.name.queue v.entries
  pub looks : All (IsRefusal f.made) f.refused
  pub handed : filter (from_queue f.made.name.activation f.made.name.queue) v.received ≡ received_from f.made.name.activation f.made.name.queue 0 f.received

-- what whole runs of a guest's device and driver leave, after their ends have met
pub record LeavesGuest (plan : Plan) (r : RecordView) (g : ℕ) (p : GuestPlan) (v : GuestView) : Type 0 where
  pub tx_names : map (λ (f : TxView). f.made.name) v.tx ≡ names g p p.setup.tx_queues
  pub rx_names : map (λ (f : RxView). f.made.name) v.rx ≡ names g p p.setup.rx_queues
  pub tx : AllByRecursion (AccountsTx (wiring plan.guests) g p v.entries) v.tx
  pub rx : AllByRecursion (LeavesRx (beside r g p v) p v) v.rx
  pub received : AllByRecursion (λ (x : Received). (f : RxView) × (find (rx_named x.activation x.queue) v.rx ≡ Some f)) v.received
  pub rising : Rises (λ (x y : Received). x.activation ≤ y.activation) v.received
  pub owned : AllByRecursion (λ (s : Send). (f : TxView) × (find (tx_named s.tag.activation s.tag.queue) v.tx ≡ Some f)) (filter_map send_of v.entries)
  pub settings : filter (λ (x : ℕ × ℕ). is_set x.0) (filter_map asked v.entries) ≡ map (λ c. (c, 0)) (commands p)
  pub images : map ask_of (filter (λ (t : Turn). is_set t.command.number) v.told) ≡ asks p
  pub tx_stats : v.tx_stats ≡ tx_counts v.tx v.entries
  pub rx_stats : v.rx_stats ≡ rx_counts r.links g v.entries
  pub told : filter_map asked v.entries ≡ map (λ (t : Turn). (t.command.number, t.answer.value)) v.told
  pub opens : EachAfter (λ before e. IsTraffic e → 0 < count is_set_entry before) [] v.entries
  pub ends : closes p ≡ true → EachAfter (λ before e. IsTraffic e → count is_set_entry before < length (commands p)) [] v.entries
  pub lawful : IsLawfulJournal (beside r g p v) v.entries v.setups

-- what whole runs of all actors leave
pub record Premises (plan : Plan) (r : RecordView) : Type 0 where
  pub guests : length r.guests ≡ length plan.guests
  pub link_order : map (λ (l : LinkView). (l.from, l.to)) r.links ≡ flat_map (link_names (length plan.guests)) (upto 0 (length plan.guests))
  pub links : AllByRecursion (λ (l : LinkView). LeavesLink r (entries_at r l.from) (entries_at r l.to) l) r.links
  pub each : (g : ℕ) (p : GuestPlan) (v : GuestView) → slice_get plan.guests g ≡ Some p → slice_get r.guests g ≡ Some v → LeavesGuest plan r g p v
