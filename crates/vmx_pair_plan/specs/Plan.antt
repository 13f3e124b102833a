-- The fixed plan of `pair`.
use Rattle.std.specs.Prelude.{◌≡◌, ℕ, ◌+◌, ◌≤◌, Bool, true, false, List, [], ◌∷◌, length, replicate, None, codes}
use Rattle.vmx_pcap.specs.declared.records.Capture.{Capture}
use Rattle.vmx_shared_area.specs.declared.offsets.TheConstants.{RX_MODE_UCAST, RX_MODE_MCAST, RX_MODE_BCAST, RX_MODE_PROMISC, VLAN_WORDS, LEVEL_COUNT}
use Rattle.vmx_shared_area.specs.declared.setup.Setup.{Setup}
use Rattle.vmx_shared_area.specs.declared.setup.TheConstants.{DEFAULT_TX_RING, DEFAULT_RX_RING, DEFAULT_MTU}
use Rattle.vmx_model.specs.declared.guest.GuestPlan.{GuestPlan}
use Rattle.vmx_model.specs.declared.plan.Plan.{Plan}
use Rattle.vmx_model.specs.declared.limits.TheConstants.{MAX_RECORDS, MAX_BYTES}
use Rattle.vmx_model.specs.Totals.{frame_bytes}
use Rattle.vmx_pair_plan.specs.declared.plan.TheConstants.{MAC_A, MAC_B, PIECE}

-- a setup as a configuration has it by default, with this receive mode: no multicast address, all VLANs, no RSS, no data rings
pub record HasDefaults (receives : ℕ) (s : Setup) : Type 0 where
  pub tx_queues : s.tx_queues ≡ 1
  pub rx_queues : s.rx_queues ≡ 1
  pub tx_ring : s.tx_ring ≡ DEFAULT_TX_RING
  pub rx_ring1 : s.rx_ring1 ≡ DEFAULT_RX_RING
  pub rx_ring2 : s.rx_ring2 ≡ DEFAULT_RX_RING
  pub mtu : s.mtu ≡ DEFAULT_MTU
  pub mode : s.filter.mode ≡ receives
  pub multicast : s.filter.multicast.count ≡ 0
  pub vlans : s.filter.vlans ≡ replicate VLAN_WORDS 0xFFFFFFFF
  pub rss : s.rss ≡ None
  pub auto_mask : s.auto_mask ≡ true
  pub levels : s.levels ≡ replicate LEVEL_COUNT 0
  pub tx_data : s.tx_data ≡ false
  pub rx_data : s.rx_data ≡ false
  pub strip : s.strip ≡ false
  pub csum : s.csum ≡ false

-- a guest with these, and all else as a configuration has it by default
pub record IsGuest (named owns : List ℕ) (sniffs : Bool) (receives : ℕ) (sends : Capture) (g : GuestPlan) : Type 0 where
  pub name : g.name ≡ named
  pub mac : g.mac ≡ owns
  pub sniffer : g.sniffer ≡ sniffs
  pub vlan : g.vlan ≡ None
  pub piece : g.piece ≡ PIECE
  pub bodies : g.bodies ≡ 0
  pub setup : HasDefaults receives g.setup
  pub capture : g.capture ≡ sends
  pub script : g.script ≡ []

-- guest `a` sends the frames of the capture; its mode is UCAST, MCAST and BCAST
abbrev pub IsSender : Capture → GuestPlan → Type 0
IsSender capture g = IsGuest (codes "a") MAC_A false (RX_MODE_UCAST + RX_MODE_MCAST + RX_MODE_BCAST) capture g

-- guest `b` is a sniffer in the mode PROMISC and sends nothing
abbrev pub IsSniffer : GuestPlan → Type 0
IsSniffer g = IsGuest (codes "b") MAC_B true RX_MODE_PROMISC (record { records = []; tail = 0 }) g

-- the plan of `pair` for a capture
pub record IsPairPlan (capture : Capture) (plan : Plan) : Type 0 where
  pub a : GuestPlan
  pub b : GuestPlan
  pub prefix : plan.prefix ≡ codes "out"
  pub poll_every : plan.poll_every ≡ 1
  pub guests : plan.guests ≡ a ∷ b ∷ []
  pub sender : IsSender capture a
  pub sniffer : IsSniffer b

-- a capture that a plan can have: at most 262,144 records, and at most 67,108,864 bytes of records and tail
pub record Fits (capture : Capture) : Type 0 where
  pub records : length capture.records ≤ MAX_RECORDS
  pub bytes : frame_bytes capture.records + capture.tail ≤ MAX_BYTES

-- a guest with one transmit queue, no VLAN and no script
pub record IsPlain (g : GuestPlan) : Type 0 where
  pub tx_queues : g.setup.tx_queues ≡ 1
  pub vlan : g.vlan ≡ None
  pub script : g.script ≡ []
