-- The ranges that settings keep (own to this project).
use Rattle.std.specs.Prelude.{◌≡◌, ℕ, ◌%◌, ◌<◌, ◌≤◌, Bool, true, false, is_some, List, [], ◌∷◌, length, slice_index, Option, Some, None, Ok}
use Rattle.std.specs.List.{list_all, All}
use Rattle.vmx_layout.specs.declared.addresses.TheConstants.{MAX_RING_SIZE}
use Rattle.vmx_layout.specs.declared.register.TheConstants.{MAX_QUEUES}
use Rattle.vmx_switch.specs.declared.answer.TheConstants.{MAX_PORTS}
use Rattle.vmx_ends.specs.declared.limits.TheConstants.{MAX_PIECE, MAX_BODIES}
use Rattle.vmx_ends.specs.Queues.{least_piece}
use Rattle.vmx_shared_area.specs.declared.offsets.TheConstants.{MIN_RING, RING_STEP, MIN_MTU, MAX_MTU, RX_MODE_END, MAX_MACS, MAX_HASH_TYPES, TABLE_SIZE}
use Rattle.vmx_model.specs.declared.limits.TheConstants.{MAX_NUMBER, MAX_ACTIONS, MAX_COPIES, MAX_ALL_DESCRIPTORS}
use Rattle.vmx_model.specs.Ranges.{is_name, is_prefix, is_group, fits_vlan}
use Rattle.vmx_config_lists.specs.declared.entries.Entries.{Entries}
use Rattle.vmx_config.specs.declared.parts.PortSettings.{PortSettings}
use Rattle.vmx_config.specs.declared.parts.RingSettings.{RingSettings}
use Rattle.vmx_config.specs.declared.parts.FilterSettings.{FilterSettings}
use Rattle.vmx_config.specs.declared.parts.RssSettings.{RssSettings}
use Rattle.vmx_config.specs.declared.parts.DeedSettings.{DeedSettings}
use Rattle.vmx_config.specs.declared.parts.DeedSettings.TheVariants as deed
use Rattle.vmx_config.specs.declared.parts.ActionSettings.{ActionSettings}
use Rattle.vmx_config.specs.declared.parts.GuestSettings.{GuestSettings}
use Rattle.vmx_config.specs.declared.parts.Settings.{Settings}
use Rattle.vmx_config.specs.Script.{is_in_turn, quiet_after}
use Rattle.vmx_config.specs.Whole.{twice_from, total_of}

pub record PortInRange (p : PortSettings) : Type 0 where
  pub name : is_name p.name ≡ true
  pub unicast : slice_index p.mac 0 % 2 ≡ 0
  pub vlan : fits_vlan p.vlan ≡ true
  pub mtu_low : MIN_MTU ≤ p.mtu
  pub mtu_high : p.mtu ≤ MAX_MTU

-- the descriptors of a ring
pub record IsRingSize (n : ℕ) : Type 0 where
  pub low : MIN_RING ≤ n
  pub high : n ≤ MAX_RING_SIZE
  pub step : n % RING_STEP ≡ 0

-- a number of queues
pub record IsQueueCount (n : ℕ) : Type 0 where
  pub low : 1 ≤ n
  pub high : n ≤ MAX_QUEUES

pub record RingsInRange (r : RingSettings) : Type 0 where
  pub tx_queues : IsQueueCount r.tx_queues
  pub rx_queues : IsQueueCount r.rx_queues
  pub tx_ring : IsRingSize r.tx_ring
  pub rx_ring1 : IsRingSize r.rx_ring1
  pub rx_ring2 : IsRingSize r.rx_ring2
  pub bodies : r.bodies ≤ MAX_BODIES
  pub piece_low : least_piece r.tx_data ≤ r.piece
  pub piece_high : r.piece ≤ MAX_PIECE

-- group addresses that a table has room for
pub record AreGroups (macs : List (List ℕ)) : Type 0 where
  pub few : length macs ≤ MAX_MACS
  pub groups : list_all is_group macs ≡ true

pub record FilterInRange (f : FilterSettings) : Type 0 where
  pub mode : f.mode < RX_MODE_END
  pub multicast : AreGroups f.multicast

-- 1 to 128 entries that name so many queues, and zeros behind them
pub record EntriesInRange (queues : ℕ) (t : Entries) : Type 0 where
  pub size_low : 1 ≤ t.size
  pub size_high : t.size ≤ TABLE_SIZE
  pub below : (i : ℕ) → i < t.size → slice_index t.table i < queues
  pub rest : (i : ℕ) → t.size ≤ i → slice_index t.table i ≡ 0

pub record RssInRange (queues : ℕ) (r : RssSettings) : Type 0 where
  pub types : r.types ≤ MAX_HASH_TYPES
  pub entries : EntriesInRange queues r.entries

abbrev pub MaybeRssInRange : ℕ → Option RssSettings → Type 0
MaybeRssInRange queues None = Unit {0}
MaybeRssInRange queues (Some r) = RssInRange queues r

abbrev pub DeedInRange : ℕ → DeedSettings → Type 0
DeedInRange queues deed.Quiesce = Unit {0}
DeedInRange queues deed.Activate = Unit {0}
DeedInRange queues deed.Reset = Unit {0}
DeedInRange queues (deed.Mode m) = m < RX_MODE_END
DeedInRange queues (deed.Multicast g) = AreGroups g
DeedInRange queues (deed.Vlans t) = Unit {0}
DeedInRange queues (deed.Rss e) = EntriesInRange queues e

-- an action behind one at the number `from`, of a guest that is quiet or not, with RSS or without
pub record ActionInRange (queues : ℕ) (rss quiet : Bool) (from : ℕ) (a : ActionSettings) : Type 0 where
  pub at_low : from ≤ a.at
  pub at_high : a.at ≤ MAX_NUMBER
  pub deed : DeedInRange queues a.deed
  pub turn : is_in_turn quiet rss a.deed ≡ true

-- the actions behind one at the number `from`
abbrev pub ScriptInRange : ℕ → Bool → Bool → ℕ → List ActionSettings → Type 0
ScriptInRange queues rss quiet from [] = Unit {0}
ScriptInRange queues rss quiet from (a ∷ rest) = ActionInRange queues rss quiet from a × ScriptInRange queues rss (quiet_after quiet a.deed) a.at rest

pub record GuestInRange (g : GuestSettings) : Type 0 where
  pub port : PortInRange g.port
  pub rings : RingsInRange g.rings
  pub filter : FilterInRange g.filter
  pub rss : MaybeRssInRange g.rings.rx_queues g.rss
  pub actions : length g.script ≤ MAX_ACTIONS
  pub script : ScriptInRange g.rings.rx_queues (is_some g.rss) false 0 g.script

pub record InRange (s : Settings) : Type 0 where
  pub output : is_prefix s.output ≡ true
  pub poll_low : 1 ≤ s.poll_every
  pub poll_high : s.poll_every ≤ MAX_COPIES
  pub guests : All GuestInRange s.guests
  pub some : 1 ≤ length s.guests
  pub few : length s.guests ≤ MAX_PORTS
  pub apart : twice_from [] 0 s.guests ≡ Ok tt
  pub total : total_of s.guests ≤ MAX_ALL_DESCRIPTORS
