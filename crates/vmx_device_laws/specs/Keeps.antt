-- What holds of a device at all times: its journal tells its queues, its links and its registers.
use Rattle.std.specs.Prelude.{⊤, ◌≡◌, ◌<◌, ◌≤◌, ◌*◌, ◌%◌, ℕ, zero, suc, Bool, true, false, is_some, List, [], ◌∷◌, ◌++◌, length, map, filter, filter_map, flat_map, Option, Some, None, slice_get}
use Rattle.std.specs.List.{AllByRecursion}
use Rattle.vmx_layout.specs.declared.addresses.TheConstants.{MAX_RING_SIZE}
use Rattle.vmx_switch.specs.Ports.{Wiring}
use Rattle.vmx_shared_area.specs.declared.stats.Side.TheVariants.{Rx}
use Rattle.vmx_ends.specs.Frames.{sent_of}
use Rattle.vmx_ends.specs.LinkView.{LinkView}
use Rattle.vmx_ends.specs.Transmit.{TxDeviceView, found_in}
use Rattle.vmx_ends.specs.Receive.{RxDeviceView, consumed1, consumed2}
use Rattle.vmx_link.specs.Views.{LinkOutView, LinkInView}
use Rattle.vmx_device_state.specs.declared.turn.Turn.{Turn}
use Rattle.vmx_machine_state.specs.Views.{EndsView, ActiveView, handed_of}
use Rattle.vmx_commands.specs.Replies.{Tracks}
use Rattle.vmx_machine_state.specs.Stopped.{error_on}
use Rattle.vmx_model.specs.Types.{Packet, Tag}
use Rattle.vmx_model.specs.declared.journal.Entry.{Entry}
use Rattle.vmx_model.specs.declared.journal.Entry.TheVariants as entry
use Rattle.vmx_model.specs.declared.journal.Fate.{Fate}
use Rattle.vmx_model.specs.declared.journal.Fate.TheVariants as fate
use Rattle.vmx_model.specs.Lists.{count, upto}
use Rattle.vmx_model.specs.Wire.{wire_form}
use Rattle.vmx_model.specs.Meta.{arrival_of}
use Rattle.vmx_model.specs.Journal.{Beside, IsLawfulJournal, is_activation, needs, ups, fates_in, stopped_from}
use Rattle.vmx_model.specs.Order.{came_up, on_rx, CameUp}
use Rattle.vmx_model.specs.Stats.{counted, is_lost_on, lacks_buffer}
use Rattle.vmx_model.specs.Account.{sends_on, planned, deliveries, need, asked, tag_to, place_to, look_to, place_from}
use Rattle.vmx_model.specs.Bags.{EachQueue, gifts}
use Rattle.vmx_device_looks.specs.Ports.{other}
use Rattle.vmx_device_laws.specs.Views.{DeviceView, beside_of, held_ends}

-- ------------------------------------------------------------ queues

-- the frames that a transmit end took, as the switch reads them
abbrev pub frames_of : TxDeviceView → List (List ℕ)
frames_of v = map wire_form (sent_of v.taken)

-- a transmit end: what it took went to its targets, as the journal says, and is completed; its frames have few descriptors
pub record TookOn (w : Wiring) (g : ℕ) (es : List Entry) (a q : ℕ) (v : TxDeviceView) : Type 0 where
  pub sends : sends_on a q es ≡ planned w g a q 0 (frames_of v)
  pub completed : v.completed ≡ length v.taken
  pub few : found_in v.taken ≤ 16 * length v.taken

-- a receive end: what it delivered, and the positions that it lacked, are those of the journal; it consumed few positions, or those of a ring where its words were given
pub record GaveOn (b : Beside) (es : List Entry) (a q : ℕ) (v : RxDeviceView) : Type 0 where
  pub delivered : map arrival_of v.delivered ≡ deliveries b a q [] es
  pub refused : map need v.refused ≡ needs a q es
  pub places : ups a q es ≡ length v.delivered
  pub few : v.given ≡ false → (consumed1 v ≤ 16 * length v.delivered) × (consumed2 v ≤ 16 * length v.delivered)
  pub within : v.given ≡ true → (consumed1 v ≤ MAX_RING_SIZE) × (consumed2 v ≤ MAX_RING_SIZE)

-- the ends of one activation
pub record EndsSay (w : Wiring) (b : Beside) (es : List Entry) (a : ℕ) (e : EndsView) : Type 0 where
  pub tx : EachQueue (TookOn w b.port es a) 0 e.tx
  pub rx : EachQueue (GaveOn b es a) 0 e.rx

-- no entry speaks of an activation
pub record IsUnsaid (b : Beside) (es : List Entry) (a : ℕ) : Type 0 where
  pub sends : (q : ℕ) → sends_on a q es ≡ []
  pub deliveries_ : (q : ℕ) → deliveries b a q [] es ≡ []
  pub needs_ : (q : ℕ) → needs a q es ≡ []
  pub ups_ : (q : ℕ) → ups a q es ≡ 0

-- as many ends as the setup in force has queues
abbrev pub FitEnds : Option ActiveView → Type 0
FitEnds None = ⊤
FitEnds (Some a) = (length a.ends.tx ≡ a.setup.tx_queues) × (length a.ends.rx ≡ a.setup.rx_queues) × (a.setup.tx_queues ≤ 8) × (a.setup.rx_queues ≤ 8)

-- the frames taken from queue q, where there is such a queue
abbrev pub frames_on : List TxDeviceView → ℕ → List (List ℕ)
frames_on [] q = []
frames_on (v ∷ vs) zero = frames_of v
frames_on (v ∷ vs) (suc q) = frames_on vs q

-- the same of queue q of activation a
abbrev pub frames_at : List EndsView → ℕ → ℕ → List (List ℕ)
frames_at [] a q = []
frames_at (e ∷ all) zero q = frames_on e.tx q
frames_at (e ∷ all) (suc a) q = frames_at all a q

-- ------------------------------------------------------------ links

-- a frame with this tag is one that this device took
pub record IsOwnFrame (port : ℕ) (all : List EndsView) (tag : Tag) (frame : List ℕ) : Type 0 where
  pub guest : tag.guest ≡ port
  pub is : slice_get (frames_at all tag.activation tag.queue) tag.place ≡ Some frame

-- all packets that were pushed are frames of this device
abbrev pub AreOwn : ℕ → List EndsView → LinkOutView → Type 0
AreOwn port all o = AllByRecursion (λ (x : Packet). IsOwnFrame port all x.tag x.frame) o.pushed

-- the k-th link to another port: its packets and full looks are those of the journal
pub record OutSays (port : ℕ) (es : List Entry) (k : ℕ) (o : LinkOutView) : Type 0 where
  pub from : o.from ≡ port
  pub to : o.to ≡ other port k
  pub capacity : o.capacity ≡ 64
  pub tags : map (λ (x : Packet). x.tag) o.pushed ≡ filter_map (tag_to o.to) es
  pub places : filter_map (place_to o.to) es ≡ upto 0 (length o.pushed)
  pub looks : filter_map (look_to o.to) es ≡ upto 0 (length o.full)
  pub full : AllByRecursion (λ (x : ℕ × ℕ). (64 ≤ x.0) × (x.1 % 2 ≡ 1)) o.full

-- the k-th link from another port: its arrivals are those of the journal
pub record InSays (port : ℕ) (es : List Entry) (k : ℕ) (i : LinkInView) : Type 0 where
  pub to : i.to ≡ port
  pub from : i.from ≡ other port k
  pub capacity : i.capacity ≡ 64
  pub arrivals : filter_map (place_from i.from) es ≡ upto 0 (length i.pulled)

-- ------------------------------------------------------------ statistics

-- the frames taken from the queues of number q in all activations
abbrev pub taken_by : ℕ → List EndsView → List (List ℕ)
taken_by q all = flat_map (λ (e : EndsView). frames_on e.tx q) all

-- of each of eight transmit queues: the frames taken, so many errors, and the frames without a target
abbrev pub sent_counts : (ℕ → ℕ) → List EndsView → List Entry → List (List ℕ)
sent_counts errors all es = map (λ q. counted (taken_by q all) (errors q) (count (is_lost_on q) es)) (upto 0 8)

-- of each of eight receive queues: the frames that came up, those without a buffer, and so many errors
abbrev pub came_counts : (ℕ → ℕ) → List LinkView → ℕ → List Entry → List (List ℕ)
came_counts errors links port es = map (λ q. counted (map (λ (u : CameUp). u.packet.frame) (filter (on_rx q) (came_up links port es))) (count (lacks_buffer q) (fates_in es)) (errors q)) (upto 0 8)

-- ------------------------------------------------------------ queues that stopped

-- a fate that says that a queue is stopped
abbrev pub is_stop : Fate → Bool
is_stop (fate.Stopped activation queue) = true
is_stop f = false

abbrev pub stops_in : Entry → Bool
stops_in (entry.In from place f) = is_stop f
stops_in (entry.Out tag target w) = false
stops_in (entry.Lost tag) = false
stops_in (entry.Setting number answer setup) = false

-- a driver stands behind the words of all these ends
abbrev pub AreTrusted : List EndsView → Type 0
AreTrusted all = AllByRecursion (λ (e : EndsView). (handed_of e).given ≡ false) all

-- no error was counted, and no fate says that a queue is stopped
pub record NoneStopped (tx_errors rx_errors : ℕ → ℕ) (es : List Entry) : Type 0 where
  pub tx : (q : ℕ) → tx_errors q ≡ 0
  pub rx : (q : ℕ) → rx_errors q ≡ 0
  pub fates : AllByRecursion (λ (e : Entry). stops_in e ≡ false) es

-- ------------------------------------------------------------ the device

-- number and answer of a turn
abbrev pub spoken : Turn → ℕ × ℕ
spoken t = (t.command.number, t.answer.value)

pub record Keeps (d : DeviceView) : Type 0 where
  -- the ends handed back so far, those of one activation after the other
  pub past : List EndsView
  pub bags : gifts d.calls.served ≡ map handed_of past
  pub begun : count is_activation d.entries ≡ length (past ++ held_ends d.machine.active)
  pub says : EachQueue (EndsSay d.table (beside_of d) d.entries) 0 (past ++ held_ends d.machine.active)
  pub unsaid : (a : ℕ) → length (past ++ held_ends d.machine.active) ≤ a → IsUnsaid (beside_of d) d.entries a
  pub fit : FitEnds d.machine.active
  pub lawful : IsLawfulJournal (beside_of d) d.entries d.setups
  pub told : filter_map asked d.entries ≡ map spoken d.calls.served
  pub tracks : Tracks d.machine d.calls.served
  pub serving : d.calls.serving ≡ None
  pub out : EachQueue (OutSays d.port d.entries) 0 d.out
  pub own : AllByRecursion (AreOwn d.port (past ++ held_ends d.machine.active)) d.out
  pub input : EachQueue (InSays d.port d.entries) 0 d.input
  -- the errors counted so far, of each queue
  pub tx_errors : ℕ → ℕ
  pub rx_errors : ℕ → ℕ
  pub tx_stats : d.machine.tx_stats ≡ sent_counts tx_errors (past ++ held_ends d.machine.active) d.entries
  pub rx_stats : d.machine.rx_stats ≡ came_counts rx_errors (beside_of d).links d.port d.entries
  pub stopped : (q : ℕ) → q < 8 → is_some (error_on Rx d.machine q) ≡ stopped_from q false d.entries
  pub errors : length d.machine.rx_stopped ≡ 8
  pub fine : AreTrusted (past ++ held_ends d.machine.active) → NoneStopped tx_errors rx_errors d.entries
  pub ports : (d.port < length d.table.macs) × (suc (length d.out) ≡ length d.table.macs) × (length d.input ≡ length d.out) × (length d.table.macs ≤ 16)
  pub interrupts : 17 ≤ d.calls.interrupts
