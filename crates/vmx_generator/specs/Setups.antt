-- The setups of the generator's guests: as a configuration has them by default, but for the queues, RSS and the sniffer's mode.
use Rattle.std.specs.Prelude.{ℕ, ◌+◌, ◌%◌, ◌-◌, ◌^◌, ◌==◌, if◌then◌else◌, false, [], map, replicate, Some}
use Rattle.std.specs.List.{range_with_len}
use Rattle.vmx_shared_area.specs.declared.offsets.TheConstants.{RX_MODE_UCAST, RX_MODE_MCAST, RX_MODE_BCAST, RX_MODE_PROMISC, TABLE_SIZE, VLAN_WORDS, LEVEL_COUNT}
use Rattle.vmx_shared_area.specs.declared.rss.TheConstants.{MICROSOFT_KEY}
use Rattle.vmx_shared_area.specs.declared.setup.TheConstants.{DEFAULT_TX_RING, DEFAULT_RX_RING, DEFAULT_MTU}
use Rattle.vmx_device_state.specs.SetupView.{RssView, SetupView}

-- guest 7 lets in all frames, each other UCAST, MCAST and BCAST
abbrev pub mode_of : ℕ → ℕ
mode_of g = if g == 7 then RX_MODE_PROMISC else RX_MODE_UCAST + RX_MODE_MCAST + RX_MODE_BCAST

-- all four kinds of flow, Microsoft's key, and 128 entries that name four queues in turn
unfoldable pub default_rss : RssView
default_rss = record { types = 15; key = MICROSOFT_KEY; size = TABLE_SIZE; table = map (λ i. i % 4) (range_with_len 0 TABLE_SIZE) }

-- two transmit and four receive queues; no multicast address, all VLANs, interrupts that mask themselves at level 0, and nothing else
abbrev pub setup_of : ℕ → SetupView
setup_of g = record {
  tx_queues = 2;
  rx_queues = 4;
  tx_ring = DEFAULT_TX_RING;
  rx_ring1 = DEFAULT_RX_RING;
  rx_ring2 = DEFAULT_RX_RING;
  mtu = DEFAULT_MTU;
  mode = mode_of g;
  macs = [];
  vlans = replicate VLAN_WORDS (2 ^ 32 - 1);
  rss = Some default_rss;
  auto_mask = 1;
  levels = replicate LEVEL_COUNT 0;
  tx_data = false;
  rx_data = false;
  strip = false;
  csum = false;
}
