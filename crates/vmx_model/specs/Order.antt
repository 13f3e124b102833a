-- What comes up keeps the order in which it was sent.
use Rattle.std.specs.Prelude.{◌≡◌, ◌<◌, ◌⊎◌, ℕ, Bool, ◌&&◌, nat_eq, List, ◌∷◌, ◌++◌, map, filter, filter_map, Option, Some, None}
use Rattle.std.specs.List.{AllByRecursion}
use Rattle.vmx_model.specs.Types.{Plan, Packet, Entry, Fate, Received}
use Rattle.vmx_model.specs.declared.journal.Entry.TheVariants as entry
use Rattle.vmx_model.specs.declared.journal.Fate.TheVariants as fate
use Rattle.vmx_model.specs.Lists.{Rises}
use Rattle.vmx_ends.specs.LinkView.{LinkView}
use Rattle.vmx_frame.specs.Internet.{flow_of}
use Rattle.vmx_device_state.specs.DeviceState.{Active}
use Rattle.vmx_device_state.specs.SetupView.{SetupView}
use Rattle.vmx_model.specs.Meta.{whole}
use Rattle.vmx_model.specs.Plan.{frame_of}
use Rattle.vmx_model.specs.Journal.{Beside, packet_at, state_at}

-- a packet that came up, and where
pub record CameUp : Type 0 where
  pub activation : ℕ
  pub queue : ℕ
  pub place : ℕ
  pub packet : Packet

-- a packet with the fate that names where it came up
abbrev pub up_of : Option Packet → Fate → Option CameUp
up_of None f = None
up_of (Some p) (fate.Up a q k) = Some (record { activation = a; queue = q; place = k; packet = p })
up_of (Some p) f = None

-- what an entry brought up
abbrev pub up_in : List LinkView → ℕ → Entry → Option CameUp
up_in links port (entry.In from place f) = up_of (packet_at links from port place) f
up_in links port (entry.Setting number answer setup) = None
up_in links port (entry.Out tag target w) = None
up_in links port (entry.Lost tag) = None

-- what came up at a port, in the order of its journal
abbrev pub came_up : List LinkView → ℕ → List Entry → List CameUp
came_up links port es = filter_map (up_in links port) es

-- it came up on a receive queue of this number
abbrev pub on_rx : ℕ → CameUp → Bool
on_rx q u = nat_eq u.queue q

-- it was sent by guest g on a transmit queue of this number
abbrev pub from_tx : ℕ → ℕ → CameUp → Bool
from_tx g q u = nat_eq u.packet.tag.guest g && nat_eq u.packet.tag.queue q

-- where a frame was handed up, and the frame with its tag
pub record Handed : Type 0 where
  pub activation : ℕ
  pub queue : ℕ
  pub place : ℕ
  pub frame : List ℕ

-- a frame that a driver handed up
abbrev pub handed_whole : Received → Handed
handed_whole x = record { activation = x.activation; queue = x.queue; place = x.place; frame = whole x }

-- a packet that came up
abbrev pub came_of : CameUp → Handed
came_of u = record { activation = u.activation; queue = u.queue; place = u.place; frame = u.packet.frame }

-- it was handed up from a receive queue of this number
abbrev pub on_queue : ℕ → Received → Bool
on_queue q x = nat_eq x.queue q

-- what a driver handed up from the queues of a number is, with tags put back, what came up there, in the order of the journal
abbrev pub HandsUp : List Received → List CameUp → Type 0
HandsUp received came = (q : ℕ) → map handed_whole (filter (on_queue q) received) ≡ map came_of (filter (on_rx q) came)

-- first by activation, then by place
abbrev pub IsBefore : ℕ → ℕ → ℕ → ℕ → Type 0
IsBefore a k a' k' = (a < a') ⊎ ((a ≡ a') × (k < k'))

-- by where they came up
abbrev pub LiesBefore : CameUp → CameUp → Type 0
LiesBefore u v = IsBefore u.activation u.place v.activation v.place

-- by where they were sent
abbrev pub WasSentBefore : CameUp → CameUp → Type 0
WasSentBefore u v = IsBefore u.packet.tag.activation u.packet.tag.place v.packet.tag.activation v.packet.tag.place

-- the frames of a receive queue stand in its order; those of a transmit queue were sent in that order, and are whole
pub record KeepsOrder (plan : Plan) (links : List LinkView) (port : ℕ) (es : List Entry) : Type 0 where
  pub places : (q : ℕ) → Rises LiesBefore (filter (on_rx q) (came_up links port es))
  pub tags : (q g q' : ℕ) → Rises WasSentBefore (filter (from_tx g q') (filter (on_rx q) (came_up links port es)))
  pub frames : AllByRecursion (λ (u : CameUp). frame_of plan u.packet.tag ≡ Some u.packet.frame) (came_up links port es)

-- a frame came up on queue q while s was in force
pub record CameUpUnder (b : Beside) (es : List Entry) (q : ℕ) (frame : List ℕ) (s : SetupView) : Type 0 where
  pub before : List Entry
  pub after : List Entry
  pub from : ℕ
  pub link_place : ℕ
  pub activation : ℕ
  pub place : ℕ
  pub packet : Packet
  pub stands : es ≡ before ++ entry.In from link_place (fate.Up activation q place) ∷ after
  pub packet_is : packet_at b.links from b.port link_place ≡ Some packet
  pub frame_is : packet.frame ≡ frame
  pub setup_is : state_at b.told before ≡ Active s

-- equal flows under equal RSS settings use one queue, at whatever guests and entries they come up
abbrev pub KeepsFlows : Beside → List Entry → Beside → List Entry → Type 0
KeepsFlows b es b' es' = (q q' : ℕ) (f f' : List ℕ) (s s' : SetupView) → CameUpUnder b es q f s → CameUpUnder b' es' q' f' s' → s.rss ≡ s'.rss → flow_of f ≡ flow_of f' → q ≡ q'
