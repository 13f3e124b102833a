-- The table of a guest (own to this project).
use Rattle.std.specs.Prelude.{ℕ, replicate, ◌%◌, ◌^◌, ◌-◌, is_some, List, [], ◌∷◌, map, codes, Option, Some, None, Result, Ok}
use Rattle.std.specs.List.{range_with_len}
use Rattle.toml.specs.Data.{Data, Members, get_member, as_table}
use Rattle.vmx_shared_area.specs.declared.rss.TheConstants.{MICROSOFT_KEY}
use Rattle.vmx_shared_area.specs.declared.offsets.TheConstants.{TABLE_SIZE, VLAN_WORDS}
use Rattle.vmx_config_rows.specs.declared.spot.Spot.{Spot}
use Rattle.vmx_config_rows.specs.declared.rows.NumberKey.TheVariants.{Vlan, Mtu, TxQueues, RxQueues, TxRing, RxRing1, RxRing2, Bodies, Piece}
use Rattle.vmx_config_rows.specs.declared.rows.TruthKey.TheVariants.{Sniffer, Strip, TxData, RxData}
use Rattle.vmx_config_rows.specs.declared.fault.ConfigFault.{ConfigFault}
use Rattle.vmx_config_rows.specs.Reading.{◌>>=◌, or_kind, known_only}
use Rattle.vmx_config_rows.specs.Table.{number_row, truth_key, number_at, optional_at, truth_at}
use Rattle.vmx_config_rows.specs.Texts.{name_at, mac_at, capture_at}
use Rattle.vmx_config_lists.specs.declared.entries.Entries.{Entries}
use Rattle.vmx_config_lists.specs.Masks.{mode_in, types_in}
use Rattle.vmx_config_lists.specs.Addresses.{multicast_in}
use Rattle.vmx_config_lists.specs.Vlans.{vlans_in}
use Rattle.vmx_config_lists.specs.Entries.{entries_in}
use Rattle.vmx_config_lists.specs.Keys.{key_in}
use Rattle.vmx_config.specs.declared.parts.PortSettings.{PortSettings}
use Rattle.vmx_config.specs.declared.parts.RingSettings.{RingSettings}
use Rattle.vmx_config.specs.declared.parts.FilterSettings.{FilterSettings}
use Rattle.vmx_config.specs.declared.parts.RssSettings.{RssSettings}
use Rattle.vmx_config.specs.declared.parts.GuestSettings.{GuestSettings}
use Rattle.vmx_config.specs.Script.{script_at}

-- the keys of a guest
abbrev pub guest_keys : List (List ℕ)
guest_keys =
    codes "name" ∷ codes "mac" ∷ codes "capture" ∷ codes "sniffer" ∷ codes "vlan" ∷ codes "strip" ∷ codes "mtu" ∷ codes "tx_queues" ∷ codes "rx_queues"
    ∷ codes "tx_ring" ∷ codes "rx_ring1" ∷ codes "rx_ring2" ∷ codes "bodies" ∷ codes "tx_data" ∷ codes "rx_data" ∷ codes "piece" ∷ codes "mode"
    ∷ codes "multicast" ∷ codes "vlans" ∷ codes "rss" ∷ codes "script" ∷ []

unfoldable pub port_at : Spot → Members → Result PortSettings ConfigFault
port_at spot ms = do
  name ← name_at spot ms
  mac ← mac_at spot ms
  capture ← capture_at spot ms
  sniffer ← truth_at spot (truth_key Sniffer) ms
  vlan ← optional_at spot (number_row Vlan) ms
  strip ← truth_at spot (truth_key Strip) ms
  mtu ← number_at spot (number_row Mtu) ms
  Ok (record { name = name; mac = mac; capture = capture; sniffer = sniffer; vlan = vlan; strip = strip; mtu = mtu })

unfoldable pub rings_at : Spot → Members → Result RingSettings ConfigFault
rings_at spot ms = do
  tx_queues ← number_at spot (number_row TxQueues) ms
  rx_queues ← number_at spot (number_row RxQueues) ms
  tx_ring ← number_at spot (number_row TxRing) ms
  rx_ring1 ← number_at spot (number_row RxRing1) ms
  rx_ring2 ← number_at spot (number_row RxRing2) ms
  bodies ← number_at spot (number_row Bodies) ms
  tx_data ← truth_at spot (truth_key TxData) ms
  rx_data ← truth_at spot (truth_key RxData) ms
  piece ← number_at spot (number_row (Piece tx_data)) ms
  Ok (record { tx_queues = tx_queues; rx_queues = rx_queues; tx_ring = tx_ring; rx_ring1 = rx_ring1; rx_ring2 = rx_ring2; bodies = bodies; tx_data = tx_data; rx_data = rx_data; piece = piece })

-- ucast, mcast and bcast where there is none
abbrev pub mode_or : Spot → Option Data → Result ℕ ConfigFault
mode_or spot None = Ok 7
mode_or spot (Some d) = mode_in spot d

unfoldable pub mode_at : Spot → Members → Result ℕ ConfigFault
mode_at spot ms = mode_or spot (get_member (codes "mode") ms)

abbrev pub multicast_or : Spot → Option Data → Result (List (List ℕ)) ConfigFault
multicast_or spot None = Ok []
multicast_or spot (Some d) = multicast_in spot d

unfoldable pub multicast_at : Spot → Members → Result (List (List ℕ)) ConfigFault
multicast_at spot ms = multicast_or spot (get_member (codes "multicast") ms)

-- all 4,096 where there are none
abbrev pub vlans_or : Spot → Option Data → Result (List ℕ) ConfigFault
vlans_or spot None = Ok (replicate VLAN_WORDS (2 ^ 32 - 1))
vlans_or spot (Some d) = vlans_in spot d

unfoldable pub vlans_at : Spot → Members → Result (List ℕ) ConfigFault
vlans_at spot ms = vlans_or spot (get_member (codes "vlans") ms)

unfoldable pub filter_at : Spot → Members → Result FilterSettings ConfigFault
filter_at spot ms = do
  mode ← mode_at spot ms
  multicast ← multicast_at spot ms
  vlans ← vlans_at spot ms
  Ok (record { mode = mode; multicast = multicast; vlans = vlans })

-- all four where there are none
abbrev pub types_or : Spot → Option Data → Result ℕ ConfigFault
types_or spot None = Ok 15
types_or spot (Some d) = types_in spot d

unfoldable pub types_at : Spot → Members → Result ℕ ConfigFault
types_at spot ms = types_or spot (get_member (codes "types") ms)

-- Microsoft's where there is none
abbrev pub key_or : Spot → Option Data → Result (List ℕ) ConfigFault
key_or spot None = Ok MICROSOFT_KEY
key_or spot (Some d) = key_in spot d

unfoldable pub key_at : Spot → Members → Result (List ℕ) ConfigFault
key_at spot ms = key_or spot (get_member (codes "key") ms)

-- 128 entries that name the queues in turn
unfoldable pub in_turns : ℕ → Entries
in_turns queues = record { size = TABLE_SIZE; table = map (λ i. i % queues) (range_with_len 0 TABLE_SIZE) }

abbrev pub entries_or : Spot → ℕ → Option Data → Result Entries ConfigFault
entries_or spot queues None = Ok (in_turns queues)
entries_or spot queues (Some d) = entries_in spot (codes "rss.table") queues d

unfoldable pub entries_at : Spot → ℕ → Members → Result Entries ConfigFault
entries_at spot queues ms = entries_or spot queues (get_member (codes "table") ms)

unfoldable pub rss_table : Spot → ℕ → Members → Result RssSettings ConfigFault
rss_table spot queues ms = do
  known ← known_only spot (codes "rss.") (codes "types" ∷ codes "key" ∷ codes "table" ∷ []) ms
  types ← types_at spot ms
  key ← key_at spot ms
  entries ← entries_at spot queues ms
  Ok (record { types = types; key = key; entries = entries })

abbrev pub some_rss : RssSettings → Result (Option RssSettings) ConfigFault
some_rss r = Ok (Some r)

abbrev pub rss_or : Spot → ℕ → Option Data → Result (Option RssSettings) ConfigFault
rss_or spot queues None = Ok None
rss_or spot queues (Some d) = (or_kind spot (codes "rss") (as_table d) >>= rss_table spot queues) >>= some_rss

unfoldable pub rss_at : Spot → ℕ → Members → Result (Option RssSettings) ConfigFault
rss_at spot queues ms = rss_or spot queues (get_member (codes "rss") ms)

-- a guest: unknown keys, and then key by key
unfoldable pub guest_at : Spot → Members → Result GuestSettings ConfigFault
guest_at spot ms = do
  known ← known_only spot [] guest_keys ms
  port ← port_at spot ms
  rings ← rings_at spot ms
  filter ← filter_at spot ms
  rss ← rss_at spot rings.rx_queues ms
  script ← script_at spot rings.rx_queues (is_some rss) ms
  Ok (record { port = port; rings = rings; filter = filter; rss = rss; script = script })
