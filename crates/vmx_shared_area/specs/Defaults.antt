-- The setup of a guest whose configuration says nothing of it.
use Rattle.std.specs.Prelude.{◌≡◌, ◌+◌, replicate, true, false, None}
use Rattle.vmx_shared_area.specs.declared.offsets.TheConstants.{RX_MODE_UCAST, RX_MODE_MCAST, RX_MODE_BCAST, VLAN_WORDS, LEVEL_COUNT}
use Rattle.vmx_shared_area.specs.declared.setup.Setup.{Setup}
use Rattle.vmx_shared_area.specs.declared.setup.TheConstants.{DEFAULT_TX_RING, DEFAULT_RX_RING, DEFAULT_MTU}

-- one queue each way, the default rings and MTU, the guest's own, listed and broadcast addresses, all VLANs, and nothing else
pub record IsDefault (s : Setup) : Type 0 where
  pub tx_queues : s.tx_queues ≡ 1
  pub rx_queues : s.rx_queues ≡ 1
  pub tx_ring : s.tx_ring ≡ DEFAULT_TX_RING
  pub rx_ring1 : s.rx_ring1 ≡ DEFAULT_RX_RING
  pub rx_ring2 : s.rx_ring2 ≡ DEFAULT_RX_RING
  pub mtu : s.mtu ≡ DEFAULT_MTU
  pub mode : s.filter.mode ≡ RX_MODE_UCAST + RX_MODE_MCAST + RX_MODE_BCAST
  pub multicast : s.filter.multicast.count ≡ 0
  pub vlans : s.filter.vlans ≡ replicate VLAN_WORDS 0xFFFFFFFF
  pub rss : s.rss ≡ None
  pub auto_mask : s.auto_mask ≡ true
  pub levels : s.levels ≡ replicate LEVEL_COUNT 0
  pub tx_data : s.tx_data ≡ false
  pub rx_data : s.rx_data ≡ false
  pub strip : s.strip ≡ false
  pub csum : s.csum ≡ false
