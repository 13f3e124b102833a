-- What an image tells. Each relation determines its value (Laws).
use Rattle.std.specs.Prelude.{◌≡◌, ◌≢◌, ℕ, ◌+◌, ◌*◌, ◌<◌, nat_lt, if◌then◌else◌, List, Option, Some, None, Result, Ok, Err, slice_index}
use Rattle.vmx_shared_area.specs.Bytes.{number_at, bytes_at, words_at}
use Rattle.vmx_shared_area.specs.Checks.{fault, tx_count, rx_count, tx_field, rx_field, rss_bit, strip_bit, csum_bit, multicast_fault, rss_fault, table_fault}
use Rattle.vmx_shared_area.specs.Layout.{bit, if_on}
use Rattle.vmx_shared_area.specs.Macs.{mac_of}
use Rattle.vmx_shared_area.specs.declared.fault.ImageFault.{ImageFault}
use Rattle.vmx_shared_area.specs.declared.filter.Filter.{Filter}
use Rattle.vmx_shared_area.specs.declared.filter.MacTable.{MacTable}
use Rattle.vmx_shared_area.specs.declared.rss.IndexTable.{IndexTable}
use Rattle.vmx_shared_area.specs.declared.rss.Rss.{Rss}
use Rattle.vmx_shared_area.specs.declared.setup.Setup.{Setup}
use Rattle.vmx_layout.specs.declared.addresses.TheConstants.{DATA_ENTRY_SIZE}
use Rattle.vmx_shared_area.specs.declared.offsets.TheConstants.{MTU, AUTO_MASK, LEVELS, LEVEL_COUNT, RX_MODE, RX_MODE_END, MULTICAST_LENGTH, MAC_SIZE, VLANS, VLAN_WORDS, TX_RING_SIZE, TX_DATA_SIZE, RX_RING1_SIZE, RX_RING2_SIZE, RX_DATA_SIZE, HASH_TYPES, KEY_SIZE, TABLE_LENGTH, TABLE_SIZE, KEY, TABLE, MACS}

-- the multicast table: six bytes an address
pub record TellsMulticast (bs : List ℕ) (t : MacTable) : Type 0 where
  pub count : MAC_SIZE * t.count ≡ number_at 2 MULTICAST_LENGTH bs
  pub macs : (i : ℕ) → i < t.count → mac_of t.macs i ≡ bytes_at MAC_SIZE (MACS + MAC_SIZE * i) bs

pub record TellsFilter (bs : List ℕ) (f : Filter) : Type 0 where
  pub mode : f.mode ≡ number_at 4 RX_MODE bs
  pub multicast : TellsMulticast bs f.multicast
  pub vlans : f.vlans ≡ words_at VLAN_WORDS VLANS bs

-- the RSS configuration
pub record TellsConfig (bs : List ℕ) (r : Rss) : Type 0 where
  pub types : r.types ≡ number_at 2 HASH_TYPES bs
  pub key : r.key ≡ bytes_at KEY_SIZE KEY bs
  pub size : r.size ≡ number_at 2 TABLE_LENGTH bs
  pub table : r.table ≡ bytes_at TABLE_SIZE TABLE bs

-- the RSS setting: none without the feature
abbrev pub TellsRss : List ℕ → Option Rss → Type 0
TellsRss bs None = rss_bit bs ≡ 0
TellsRss bs (Some r) = (rss_bit bs ≡ 1) × TellsConfig bs r

-- the indirection table alone
pub record TellsTable (bs : List ℕ) (t : IndexTable) : Type 0 where
  pub size : t.size ≡ number_at 2 TABLE_LENGTH bs
  pub table : t.table ≡ bytes_at TABLE_SIZE TABLE bs

-- a setup; ring sizes are those of the first queues
pub record Tells (bs : List ℕ) (s : Setup) : Type 0 where
  pub tx_queues : s.tx_queues ≡ tx_count bs
  pub rx_queues : s.rx_queues ≡ rx_count bs
  pub tx_ring : s.tx_ring ≡ tx_field 4 TX_RING_SIZE 0 bs
  pub rx_ring1 : s.rx_ring1 ≡ rx_field 4 RX_RING1_SIZE 0 bs
  pub rx_ring2 : s.rx_ring2 ≡ rx_field 4 RX_RING2_SIZE 0 bs
  pub mtu : s.mtu ≡ number_at 4 MTU bs
  pub filter : TellsFilter bs s.filter
  pub rss : TellsRss bs s.rss
  pub auto_mask : bit s.auto_mask ≡ number_at 1 AUTO_MASK bs
  pub levels : s.levels ≡ bytes_at LEVEL_COUNT LEVELS bs
  pub tx_data : if_on s.tx_data s.tx_ring ≡ tx_field 4 TX_DATA_SIZE 0 bs
  pub rx_data : if_on s.rx_data DATA_ENTRY_SIZE ≡ rx_field 2 RX_DATA_SIZE 0 bs
  pub strip : bit s.strip ≡ strip_bit bs
  pub csum : bit s.csum ≡ csum_bit bs

-- the answer to an image: a setup where no check fails, else the first fault
abbrev pub Reads : List ℕ → Result Setup ImageFault → Type 0
Reads bs (Ok s) = (fault bs ≡ None) × Tells bs s
Reads bs (Err e) = fault bs ≡ Some e

-- each entry of an indirection table, below its size, names one of so many receive queues
abbrev pub EntriesBelow : ℕ → ℕ → List ℕ → Type 0
EntriesBelow rx size table = (i : ℕ) → i < size → slice_index table i < rx

-- the receive mode, where its check holds
abbrev pub mode_of : List ℕ → Option ℕ
mode_of bs = if nat_lt (number_at 4 RX_MODE bs) RX_MODE_END then Some (number_at 4 RX_MODE bs) else None

-- the answer to a multicast table
abbrev pub ReadsMulticast : List ℕ → Option MacTable → Type 0
ReadsMulticast bs None = multicast_fault bs ≢ None
ReadsMulticast bs (Some t) = (multicast_fault bs ≡ None) × TellsMulticast bs t

-- the answer to an RSS configuration, for so many receive queues
abbrev pub ReadsRss : List ℕ → ℕ → Result (Option Rss) ImageFault → Type 0
ReadsRss bs rx (Ok o) = (rss_fault bs rx ≡ None) × TellsRss bs o
ReadsRss bs rx (Err e) = rss_fault bs rx ≡ Some e

-- the answer to an indirection table, for so many receive queues
abbrev pub ReadsTable : List ℕ → ℕ → Option IndexTable → Type 0
ReadsTable bs rx None = table_fault bs rx ≢ None
ReadsTable bs rx (Some t) = (table_fault bs rx ≡ None) × TellsTable bs t
