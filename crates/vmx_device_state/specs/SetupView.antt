-- A setup as plain data: of each table what counts, and no proofs of ranges.
use Rattle.std.specs.Prelude.{ℕ, Bool, List, Option, option_map, take}
use Rattle.vmx_shared_area.specs.Layout.{bit}
use Rattle.vmx_shared_area.specs.declared.filter.MacTable.{MacTable}
use Rattle.vmx_shared_area.specs.declared.rss.Rss.{Rss}
use Rattle.vmx_shared_area.specs.declared.setup.Setup.{Setup}

-- an RSS setting: kinds of flow, key of the hash, size of the indirection table, and its 128 entries
pub record RssView : Type 0 where
  pub types : ℕ
  pub key : List ℕ
  pub size : ℕ
  pub table : List ℕ

-- a setup: numbers of queues, sizes of rings, MTU, filter, RSS setting, whether interrupts mask themselves, moderation levels; whether queues have data rings, tags are taken out and checksums checked
pub record SetupView : Type 0 where
  pub tx_queues : ℕ
  pub rx_queues : ℕ
  pub tx_ring : ℕ
  pub rx_ring1 : ℕ
  pub rx_ring2 : ℕ
  pub mtu : ℕ
  pub mode : ℕ
  pub macs : List (List ℕ)
  pub vlans : List ℕ
  pub rss : Option RssView
  pub auto_mask : ℕ
  pub levels : List ℕ
  pub tx_data : Bool
  pub rx_data : Bool
  pub strip : Bool
  pub csum : Bool

abbrev pub rss_view : Rss → RssView
rss_view r = record { types = r.types; key = r.key; size = r.size; table = r.table }

-- the addresses of a multicast table
abbrev pub mac_list : MacTable → List (List ℕ)
mac_list t = take t.count t.macs

abbrev pub setup_view : Setup → SetupView
setup_view s = record {
  tx_queues = s.tx_queues;
  rx_queues = s.rx_queues;
  tx_ring = s.tx_ring;
  rx_ring1 = s.rx_ring1;
  rx_ring2 = s.rx_ring2;
  mtu = s.mtu;
  mode = s.filter.mode;
  macs = mac_list s.filter.multicast;
  vlans = s.filter.vlans;
  rss = option_map rss_view s.rss;
  auto_mask = bit s.auto_mask;
  levels = s.levels;
  tx_data = s.tx_data;
  rx_data = s.rx_data;
  strip = s.strip;
  csum = s.csum;
}
