-- A device's journal: the state at an entry, and what each entry must show.
use Rattle.std.specs.Prelude.{◌≡◌, ◌⊎◌, ◌<◌, ℕ, suc, ◌-◌, Bool, true, false, ◌&&◌, ◌||◌, nat_eq, List, [], ◌∷◌, length, take, filter_map, find, Option, Some, None, slice_get, is_some, if◌then◌else◌}
use Rattle.std.specs.Option.{option_and_then}
use Rattle.vmx_filters.specs.declared.answer.Verdict.TheVariants as verdict
use Rattle.vmx_ends.specs.LinkView.{LinkView}
use Rattle.vmx_model.specs.declared.journal.Entry.TheVariants as entry
use Rattle.vmx_model.specs.declared.journal.Fate.TheVariants as fate
use Rattle.vmx_model.specs.Types.{Setup, Entry, Fate, Packet, Tag, Verdict}
use Rattle.vmx_model.specs.Lists.{count, EachAfter}
use Rattle.vmx_device_state.specs.SetupView.{SetupView, setup_view}
use Rattle.vmx_model.specs.Setups.{admits}
use Rattle.vmx_model.specs.Wire.{rx_queue}
use Rattle.vmx_model.specs.Plan.{activate_dev, reset_dev}
use Rattle.vmx_device_state.specs.DeviceState.{DeviceState, state_from, Idle, Active}
use Rattle.vmx_device_state.specs.declared.turn.Turn.{Turn}
use Rattle.vmx_device_state.specs.Deals.{held_after}
use Rattle.vmx_model.specs.Answers.{answer_to, ComesBack}
use Rattle.vmx_model.specs.Views.{Need}

-- ------------------------------------------------------------ the entries before one

-- a command
abbrev pub is_setting : Entry → Bool
is_setting (entry.Setting number answer setup) = true
is_setting (entry.Out tag target way) = false
is_setting (entry.Lost tag) = false
is_setting (entry.In from place fate) = false

-- the state at an entry that stands behind these
abbrev pub state_at : List Turn → List Entry → DeviceState
state_at told before = state_from Idle (take (count is_setting before) told)

-- a successful activation
abbrev pub is_activation : Entry → Bool
is_activation (entry.Setting number answer setup) = nat_eq number activate_dev && nat_eq answer 0
is_activation (entry.Out tag target way) = false
is_activation (entry.Lost tag) = false
is_activation (entry.In from place fate) = false

-- the activation at an entry that stands behind these: the successful ones before it, less 1
abbrev pub activation_of : List Entry → ℕ
activation_of before = count is_activation before - 1

-- the fate that an entry shows
abbrev pub fate_in : Entry → Option Fate
fate_in (entry.Setting number answer setup) = None
fate_in (entry.Out tag target way) = None
fate_in (entry.Lost tag) = None
fate_in (entry.In from place fate) = Some fate

-- a fate that names this queue of this activation as the place where the frame came up
abbrev pub is_up : ℕ → ℕ → Fate → Bool
is_up a q (fate.Up activation queue place) = nat_eq activation a && nat_eq queue q
is_up a q (fate.LinkFull look) = false
is_up a q fate.Inactive = false
is_up a q (fate.Filtered r) = false
is_up a q (fate.NoBuffer activation queue ring position look) = false
is_up a q fate.Discarded = false
is_up a q (fate.Stopped activation queue) = false
is_up a q fate.NoPort = false
is_up a q fate.Down = false
is_up a q fate.Short = false
is_up a q fate.TooLong = false

-- the fates of the packets that were pulled, in order
abbrev pub fates_in : List Entry → List Fate
fates_in es = filter_map fate_in es

-- how often a frame came up on that queue
abbrev pub ups : ℕ → ℕ → List Entry → ℕ
ups a q es = count (is_up a q) (fates_in es)

-- a link by its two ports
abbrev pub is_link : ℕ → ℕ → LinkView → Bool
is_link from to l = nat_eq l.from from && nat_eq l.to to

-- the packet that was pulled at a place of a link
abbrev pub packet_at : List LinkView → ℕ → ℕ → ℕ → Option Packet
packet_at links from to place = option_and_then (λ (l : LinkView). slice_get l.pulled place) (find (is_link from to) links)

-- the needed position that a fate names, on a queue
abbrev pub need_in : ℕ → ℕ → Fate → Option Need
need_in a q (fate.NoBuffer activation queue ring position look) = if nat_eq activation a && nat_eq queue q then Some (record { ring = ring; position = position }) else None
need_in a q (fate.Up activation queue place) = None
need_in a q (fate.LinkFull look) = None
need_in a q fate.Inactive = None
need_in a q (fate.Filtered r) = None
need_in a q fate.Discarded = None
need_in a q (fate.Stopped activation queue) = None
need_in a q fate.NoPort = None
need_in a q fate.Down = None
need_in a q fate.Short = None
need_in a q fate.TooLong = None

-- the needed positions that were not there, in order
abbrev pub needs : ℕ → ℕ → List Entry → List Need
needs a q es = filter_map (need_in a q) (fates_in es)

-- ------------------------------------------------------------ what the state at an entry allows

-- what a device leaves beside its journal: its port and address, the turns of its registers, the links; and which of its receive queues are stopped once a fate is written behind these entries, none in a record
pub record Beside : Type 0 where
  pub port : ℕ
  pub mac : List ℕ
  pub told : List Turn
  pub links : List LinkView
  pub stopped : List Entry → Fate → ℕ → Bool

-- no queue is stopped at any entry
abbrev pub none_stopped : List Entry → Fate → ℕ → Bool
none_stopped before f q = false

-- a fate that names this queue as stopped
abbrev pub says_stopped : ℕ → Fate → Bool
says_stopped q (fate.Stopped activation queue) = nat_eq queue q
says_stopped q f = false

-- RESET_DEV lets a queue go on
abbrev pub stopped_after : ℕ → Bool → Entry → Bool
stopped_after q was (entry.Setting number answer setup) = if nat_eq number reset_dev && nat_eq answer 0 then false else was
stopped_after q was (entry.Out tag target way) = was
stopped_after q was (entry.Lost tag) = was
stopped_after q was (entry.In from place f) = says_stopped q f || was

-- whether a queue is stopped behind these entries, as it was before them
abbrev pub stopped_from : ℕ → Bool → List Entry → Bool
stopped_from q was [] = was
stopped_from q was (e ∷ es) = stopped_from q (stopped_after q was e) es

-- a queue is stopped from the first fate that says so after the last RESET_DEV that was answered 0: what a device over given words has in `stopped`
abbrev pub stopped_in : List Entry → Fate → ℕ → Bool
stopped_in before f q = says_stopped q f || stopped_from q false before

-- what an active device that lets the frame in makes of it: it comes up on the queue of its flow, or that queue lacks a buffer, or is stopped
abbrev pub IsTaken : Beside → List Entry → SetupView → List ℕ → Fate → Type 0
IsTaken b before s frame (fate.Up a q place) = (a ≡ activation_of before) × (q ≡ rx_queue s.rss frame) × (place ≡ ups a q before) × (b.stopped before (fate.Up a q place) q ≡ false)
IsTaken b before s frame (fate.NoBuffer a q ring position look) =
    (a ≡ activation_of before) × (q ≡ rx_queue s.rss frame) × (look ≡ length (needs a q before)) × ((ring ≡ 1) ⊎ (ring ≡ 2)) × (b.stopped before (fate.NoBuffer a q ring position look) q ≡ false)
IsTaken b before s frame (fate.Stopped a q) = (a ≡ activation_of before) × (q ≡ rx_queue s.rss frame) × (b.stopped before (fate.Stopped a q) q ≡ true)
IsTaken b before s frame (fate.LinkFull look) = ⊥
IsTaken b before s frame fate.Inactive = ⊥
IsTaken b before s frame (fate.Filtered r) = ⊥
IsTaken b before s frame fate.Discarded = ⊥
IsTaken b before s frame fate.NoPort = ⊥
IsTaken b before s frame fate.Down = ⊥
IsTaken b before s frame fate.Short = ⊥
IsTaken b before s frame fate.TooLong = ⊥

-- what the filter's verdict allows
abbrev pub IsAdmitted : Beside → List Entry → SetupView → List ℕ → Fate → Verdict → Type 0
IsAdmitted b before s frame f verdict.Yes = IsTaken b before s frame f
IsAdmitted b before s frame f (verdict.No r) = f ≡ fate.Filtered r

-- the fate that the state at the entry gives a frame: an idle device takes none, a filter refuses by its rule
abbrev pub IsShown : Beside → List Entry → List ℕ → Fate → DeviceState → Type 0
IsShown b before frame f Idle = f ≡ fate.Inactive
IsShown b before frame f (Active s) = IsAdmitted b before s frame f (admits s b.mac frame)

-- an active device puts the setup in force last in `setups`
abbrev pub ShowsSetup : List Setup → ℕ → Option ℕ → DeviceState → Type 0
ShowsSetup setups n index Idle = index ≡ None
ShowsSetup setups n index (Active s) = (index ≡ Some n) × ((x : Setup) × (slice_get setups n ≡ Some x) × (setup_view x ≡ s))

-- an entry that puts a setup in force
abbrev pub has_setup : Entry → Bool
has_setup (entry.Setting number answer setup) = is_some setup
has_setup (entry.Out tag target way) = false
has_setup (entry.Lost tag) = false
has_setup (entry.In from place fate) = false

-- the turn of an entry, as the registers tell it: its answer is the device's at this state, and its ends come back as they must
abbrev pub IsTold : List ℕ → List Turn → List Entry → ℕ → ℕ → Type 0
IsTold mac told before number answer = (t : Turn) × (slice_get told (count is_setting before) ≡ Some t) × (t.command.number ≡ number) × (t.answer.value ≡ answer)
    × (answer ≡ answer_to mac (state_at told before) t) × ComesBack (held_after (take (count is_setting before) told)) t

-- the device is active, and has a transmit queue of this number
abbrev pub HasTx : ℕ → DeviceState → Type 0
HasTx q Idle = ⊥
HasTx q (Active s) = q < s.tx_queues

-- a frame that a device gives to the switch is of one of its own queues
abbrev pub IsOwn : Beside → List Entry → Tag → Type 0
IsOwn b before tag = (tag.guest ≡ b.port) × (tag.activation ≡ activation_of before) × HasTx tag.queue (state_at b.told before)

-- an entry is lawful behind those before it
abbrev pub IsLawful : Beside → List Setup → List Entry → Entry → Type 0
IsLawful b setups before (entry.Setting number answer setup) =
    IsTold b.mac b.told before number answer × ShowsSetup setups (count has_setup before) setup (state_from Idle (take (suc (count is_setting before)) b.told))
IsLawful b setups before (entry.Out tag target way) = IsOwn b before tag
IsLawful b setups before (entry.Lost tag) = IsOwn b before tag
IsLawful b setups before (entry.In from place f) =
    (p : Packet) × (packet_at b.links from b.port place ≡ Some p) × IsShown b before p.frame f (state_at b.told before)

-- every entry is lawful, and nothing else stands in `setups`
pub record IsLawfulJournal (b : Beside) (entries : List Entry) (setups : List Setup) : Type 0 where
  pub each : EachAfter (IsLawful b setups) [] entries
  pub no_more : length setups ≡ count has_setup entries
