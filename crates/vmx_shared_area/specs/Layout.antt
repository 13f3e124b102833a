-- The image of a setup, part by part. The offset of the first part of a line stands at its end. The header and the queue descriptors are
-- those of Linux's vmxnet3_defs.h; where the descriptors, the RSS configuration and the multicast table stand is this project's own.
use Rattle.std.specs.Prelude.{ℕ, zero, suc, ◌+◌, ◌-◌, ◌*◌, List, [], ◌∷◌, ◌++◌, Bool, true, false, Option, Some, None, slice_index, take, drop}
use Rattle.std.specs.List.{flat_map}
use Rattle.vmx_layout.specs.Addresses.{tx_ring, tx_completion_ring, tx_data_ring, rx_ring1, rx_ring2, rx_completion_ring, rx_data_ring}
use Rattle.vmx_shared_area.specs.Bytes.{number, zeros, bytes, words, spell, zero_bytes}
use Rattle.vmx_shared_area.specs.declared.rss.Rss.{Rss}
use Rattle.vmx_shared_area.specs.declared.setup.Setup.{Setup}
use Rattle.vmx_shared_area.specs.declared.stats.Side.{Side}
use Rattle.vmx_shared_area.specs.declared.stats.Side.TheVariants.{Tx, Rx}
use Rattle.vmx_layout.specs.declared.addresses.TheConstants.{QUEUE_DESCRIPTORS, RSS_CONFIGURATION, MULTICAST_TABLE, DATA_ENTRY_SIZE}
use Rattle.vmx_shared_area.specs.declared.offsets.TheConstants.{IMAGE_SIZE, MAGIC_NUMBER, FIRST_REVISION, FEATURE_RXCSUM, FEATURE_RSS, FEATURE_RXVLAN, MOST_PIECES, LEVEL_COUNT, MAC_SIZE, VLAN_WORDS, FIRST_RSS_VERSION, HEADER_END, DESCRIPTORS, DESCRIPTOR_SIZE, DESCRIPTORS_SIZE, STATISTICS, STATISTICS_SIZE, RSS_CONFIGURATION_SIZE, RSS_ROOM, TOEPLITZ, KEY_SIZE, TABLE_SIZE, MACS_SIZE, MACS_END}

abbrev pub bit : Bool → ℕ
bit true = 1
bit false = 0

-- a number where a setting is on, else 0
abbrev pub if_on : Bool → ℕ → ℕ
if_on true n = n
if_on false n = 0

-- a number where there is an RSS setting, else 0
abbrev pub if_rss : Option Rss → ℕ → ℕ
if_rss None n = 0
if_rss (Some r) n = n

-- the features that a setup asks for
abbrev pub feature_word : Setup → ℕ
feature_word s = bit s.csum * FEATURE_RXCSUM + if_rss s.rss FEATURE_RSS + bit s.strip * FEATURE_RXVLAN

-- the fixed part, of 1,024 bytes
abbrev pub header_parts : Setup → List (ℕ × List ℕ)
header_parts s =
    number 4 MAGIC_NUMBER ∷ zeros 4 ∷ number 4 0 ∷ number 4 0 ∷ number 4 FIRST_REVISION ∷ number 4 FIRST_REVISION  -- 0: magic, pad, driver information
    ∷ number 8 (feature_word s) ∷ number 8 0 ∷ number 8 QUEUE_DESCRIPTORS  -- 24: features, driver data, queue descriptors
    ∷ number 4 0 ∷ number 4 (DESCRIPTOR_SIZE * (s.tx_queues + s.rx_queues))  -- 48: lengths of these two
    ∷ number 4 s.mtu ∷ number 2 MOST_PIECES ∷ number 1 s.tx_queues ∷ number 1 s.rx_queues ∷ zeros 16  -- 56: MTU, pieces, numbers of queues, reserved
    ∷ number 1 (bit s.auto_mask) ∷ number 1 (s.tx_queues + s.rx_queues + 1) ∷ number 1 (s.tx_queues + s.rx_queues) ∷ bytes LEVEL_COUNT s.levels  -- 80: interrupts
    ∷ number 4 0 ∷ zeros 8  -- 108: interrupt control, reserved
    ∷ number 4 s.filter.mode ∷ number 2 (MAC_SIZE * s.filter.multicast.count) ∷ zeros 2 ∷ number 8 MULTICAST_TABLE  -- 120: receive mode, multicast table
    ∷ words VLAN_WORDS s.filter.vlans  -- 136: VLAN table
    ∷ number 4 (if_rss s.rss FIRST_RSS_VERSION) ∷ number 4 (if_rss s.rss RSS_CONFIGURATION_SIZE) ∷ number 8 (if_rss s.rss RSS_CONFIGURATION)  -- 648: RSS version, length, address
    ∷ zeros 32 ∷ number 4 0 ∷ zeros 20 ∷ zeros (DESCRIPTORS - HEADER_END) ∷ []  -- 664: power management and plugin, events, reserved; the rest from 720 on

unfoldable pub header : Setup → List ℕ
header s = spell (header_parts s)

-- the descriptor of transmit queue q, of 256 bytes
abbrev pub tx_parts : Setup → ℕ → List (ℕ × List ℕ)
tx_parts s q =
    zeros 16 ∷ number 8 (tx_ring q) ∷ number 8 (if_on s.tx_data (tx_data_ring q)) ∷ number 8 (tx_completion_ring q) ∷ number 8 0 ∷ zeros 8  -- 0: control, ring, data ring, completion ring, driver data, reserved
    ∷ number 4 s.tx_ring ∷ number 4 (if_on s.tx_data s.tx_ring) ∷ number 4 s.tx_ring ∷ number 4 0  -- 56: their sizes
    ∷ number 1 q ∷ zeros 7  -- 72: interrupt
    ∷ number 1 0 ∷ zeros 3 ∷ number 4 0  -- 80: stopped, error
    ∷ zeros STATISTICS_SIZE ∷ zeros (DESCRIPTOR_SIZE - STATISTICS - STATISTICS_SIZE) ∷ []  -- 88: statistics, pad

unfoldable pub tx_queue : Setup → ℕ → List ℕ
tx_queue s q = spell (tx_parts s q)

-- the descriptor of receive queue q, of 256 bytes
abbrev pub rx_parts : Setup → ℕ → List (ℕ × List ℕ)
rx_parts s q =
    zeros 16 ∷ number 8 (rx_ring1 q) ∷ number 8 (rx_ring2 q) ∷ number 8 (rx_completion_ring q) ∷ number 8 0 ∷ number 8 (if_on s.rx_data (rx_data_ring q))  -- 0: control, rings 1 and 2, completion ring, driver data, data ring
    ∷ number 4 s.rx_ring1 ∷ number 4 s.rx_ring2 ∷ number 4 (s.rx_ring1 + s.rx_ring2) ∷ number 4 0  -- 56: their sizes
    ∷ number 1 (s.tx_queues + q) ∷ zeros 1 ∷ number 2 (if_on s.rx_data DATA_ENTRY_SIZE) ∷ zeros 4  -- 72: interrupt, size of a data ring's entry
    ∷ number 1 0 ∷ zeros 3 ∷ number 4 0  -- 80: stopped, error
    ∷ zeros STATISTICS_SIZE ∷ zeros (DESCRIPTOR_SIZE - STATISTICS - STATISTICS_SIZE) ∷ []  -- 88: statistics, pad

unfoldable pub rx_queue : Setup → ℕ → List ℕ
rx_queue s q = spell (rx_parts s q)

-- the descriptors of the first n queues, each from 0 on
abbrev pub queues : (ℕ → List ℕ) → ℕ → List ℕ
queues descriptor zero = []
queues descriptor (suc n) = queues descriptor n ++ descriptor n

-- all queue descriptors, transmit before receive, and zeros, 4,096 bytes
abbrev pub all_queues : Setup → List ℕ
all_queues s =
    queues (tx_queue s) s.tx_queues ++ (queues (rx_queue s) s.rx_queues ++ zero_bytes (DESCRIPTORS_SIZE - DESCRIPTOR_SIZE * (s.tx_queues + s.rx_queues)))

-- an RSS configuration, of 256 bytes with the zeros after it
abbrev pub rss_parts : Rss → List (ℕ × List ℕ)
rss_parts r =
    number 2 r.types ∷ number 2 TOEPLITZ ∷ number 2 KEY_SIZE ∷ number 2 r.size  -- 0: types, function, length of the key, size of the table
    ∷ bytes KEY_SIZE r.key ∷ bytes TABLE_SIZE r.table ∷ zeros (RSS_ROOM - RSS_CONFIGURATION_SIZE) ∷ []  -- 8: key, table, zeros

unfoldable pub rss_config : Option Rss → List ℕ
rss_config None = zero_bytes RSS_ROOM
rss_config (Some r) = spell (rss_parts r)

-- the addresses, one after another
unfoldable pub mac_bytes : List (List ℕ) → List ℕ
mac_bytes macs = flat_map (λ mac. mac) macs

-- the whole image
abbrev pub image_parts : Setup → List (ℕ × List ℕ)
image_parts s =
    bytes DESCRIPTORS (header s) ∷ bytes DESCRIPTORS_SIZE (all_queues s)  -- 0
    ∷ bytes RSS_ROOM (rss_config s.rss) ∷ bytes MACS_SIZE (mac_bytes s.filter.multicast.macs) ∷ zeros (IMAGE_SIZE - MACS_END) ∷ []  -- 5120

unfoldable pub image_of : Setup → List ℕ
image_of s = spell (image_parts s)

-- where the descriptor of a queue stands, behind so many transmit queues
abbrev pub descriptor_at : ℕ → Side → ℕ → ℕ
descriptor_at tx_queues Tx q = DESCRIPTORS + DESCRIPTOR_SIZE * q
descriptor_at tx_queues Rx q = DESCRIPTORS + DESCRIPTOR_SIZE * (tx_queues + q)

-- ten counts, of eight bytes each
abbrev pub stats_parts : List ℕ → List (ℕ × List ℕ)
stats_parts counts =
    (number 8 (slice_index counts 0) ∷ number 8 (slice_index counts 1) ∷ number 8 (slice_index counts 2) ∷ number 8 (slice_index counts 3) ∷ number 8 (slice_index counts 4)
    ∷ number 8 (slice_index counts 5) ∷ number 8 (slice_index counts 6) ∷ number 8 (slice_index counts 7) ∷ number 8 (slice_index counts 8) ∷ number 8 (slice_index counts 9) ∷ [])

abbrev pub stats_bytes : List ℕ → List ℕ
stats_bytes counts = spell (stats_parts counts)

-- a queue's status: stopped with the number of an error, or neither
abbrev pub status_bytes : Option ℕ → List ℕ
status_bytes None = spell (number 1 0 ∷ zeros 3 ∷ number 4 0 ∷ [])
status_bytes (Some error) = spell (number 1 1 ∷ zeros 3 ∷ number 4 error ∷ [])

-- bytes of which a part, at a place and of a width, is another one
abbrev pub with_part : ℕ → ℕ → List ℕ → List ℕ → List ℕ
with_part at width part bs = take at bs ++ (part ++ drop (at + width) bs)
