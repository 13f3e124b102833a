-- The checks of an image, this project's own. Each is the fault of the first bad field, or none, as a function of the bytes.
use Rattle.std.specs.Prelude.{ℕ, ◌/◌, zero, suc, ◌+◌, ◌*◌, ◌%◌, ◌==◌, nat_le, nat_lt, ◌&&◌, ◌||◌, Bool, if◌then◌else◌, List, Option, Some, None, Result, Ok, Err, slice_index}
use Rattle.vmx_layout.specs.Addresses.{tx_ring, tx_completion_ring, tx_data_ring, rx_ring1, rx_ring2, rx_completion_ring, rx_data_ring}
use Rattle.vmx_shared_area.specs.Bytes.{number_at}
use Rattle.vmx_shared_area.specs.declared.queue_checks.QueueCheck.{QueueCheck}
use Rattle.vmx_shared_area.specs.declared.queue_checks.QueueCheck.TheVariants.{Sizes, Completions, Addresses, Interrupts}
use Rattle.vmx_shared_area.specs.declared.fault.ImageFault.{ImageFault}
use Rattle.vmx_shared_area.specs.declared.fault.ImageFault.TheVariants.{Magic, Queues, RingSize, CompSize, Address, Mtu, Filter, Rss, Interrupt}
use Rattle.vmx_shared_area.specs.declared.stats.Side.{Side}
use Rattle.vmx_shared_area.specs.declared.stats.Side.TheVariants.{Tx, Rx}
use Rattle.vmx_layout.specs.declared.addresses.TheConstants.{QUEUE_DESCRIPTORS, RSS_CONFIGURATION, MULTICAST_TABLE, DATA_ENTRY_SIZE, MAX_RING_SIZE}
use Rattle.vmx_layout.specs.declared.register.TheConstants.{MAX_QUEUES}
use Rattle.vmx_shared_area.specs.declared.offsets.TheConstants.{MAGIC, MAGIC_NUMBER, FEATURES, FEATURE_RXCSUM, FEATURE_RSS, FEATURE_RXVLAN, FEATURES_END, QUEUES_ADDRESS, QUEUES_LENGTH, MTU, MIN_MTU, MAX_MTU, TX_QUEUES, RX_QUEUES, AUTO_MASK, INTERRUPTS, EVENT_INTERRUPT, RX_MODE, RX_MODE_END, MULTICAST_LENGTH, MULTICAST_ADDRESS, MAC_SIZE, RSS_LENGTH, RSS_ADDRESS, DESCRIPTORS, DESCRIPTOR_SIZE, TX_RING, TX_DATA_RING, RX_RING1, RX_RING2, COMPLETION_RING, RX_DATA_RING, TX_RING_SIZE, TX_DATA_SIZE, RX_RING1_SIZE, RX_RING2_SIZE, COMPLETION_SIZE, INTERRUPT, RX_DATA_SIZE, MIN_RING, RING_STEP, RSS_CONFIGURATION_SIZE, HASH_TYPES, MAX_HASH_TYPES, HASH_FUNCTION, TOEPLITZ, KEY_LENGTH, KEY_SIZE, TABLE_LENGTH, TABLE_SIZE, TABLE, MACS_SIZE}

-- a fault unless a test holds
abbrev pub check : ImageFault → Bool → Option ImageFault
check e b = if b then None else Some e

-- the fault that an answer names, if it is one
abbrev pub fault_in : Result (Unit {0}) ImageFault → Option ImageFault
fault_in (Ok done) = None
fault_in (Err e) = Some e

-- the first of two faults
abbrev pub or_else : Option ImageFault → Option ImageFault → Option ImageFault
or_else None next = next
or_else (Some e) next = Some e

-- the first fault of f at first, first + 1 and so on, over so many
unfoldable pub first_fault : (ℕ → Option ImageFault) → ℕ → ℕ → Option ImageFault
first_fault f first zero = None
first_fault f first (suc n) = or_else (f first) (first_fault f (suc first) n)

-- the numbers of queues that an image names
abbrev pub tx_count : List ℕ → ℕ
tx_count bs = number_at 1 TX_QUEUES bs

abbrev pub rx_count : List ℕ → ℕ
rx_count bs = number_at 1 RX_QUEUES bs

-- a field of the descriptor of transmit queue q, or of receive queue q
abbrev pub tx_field : ℕ → ℕ → ℕ → List ℕ → ℕ
tx_field width at q bs = number_at width (DESCRIPTORS + DESCRIPTOR_SIZE * q + at) bs

abbrev pub rx_field : ℕ → ℕ → ℕ → List ℕ → ℕ
rx_field width at q bs = number_at width (DESCRIPTORS + DESCRIPTOR_SIZE * (tx_count bs + q) + at) bs

-- 1: the magic
unfoldable pub magic_fault : List ℕ → Option ImageFault
magic_fault bs = check (Magic (number_at 4 MAGIC bs)) (number_at 4 MAGIC bs == MAGIC_NUMBER)

-- 2: 1 to 8 queues on each side, with a descriptor each
unfoldable pub number_fault : ℕ → Option ImageFault
number_fault n = check (Queues n) (nat_le 1 n && nat_le n MAX_QUEUES)

unfoldable pub queues_fault : List ℕ → Option ImageFault
queues_fault bs =
    or_else (number_fault (tx_count bs)) (or_else (number_fault (rx_count bs))
    (check (Queues (number_at 4 QUEUES_LENGTH bs)) (number_at 4 QUEUES_LENGTH bs == DESCRIPTOR_SIZE * (tx_count bs + rx_count bs))))

-- 3: a ring has 32 to 4,096 descriptors in steps of 32, and as many in each queue of a side
unfoldable pub ring_size_fault : ℕ → ℕ → Option ImageFault
ring_size_fault size first =
    check (RingSize size) (nat_le MIN_RING size && nat_le size MAX_RING_SIZE && size % RING_STEP == 0 && size == first)

-- a data ring's size is 0 or the one that it has where there is one, and the same in each queue of a side
unfoldable pub data_size_fault : ℕ → ℕ → ℕ → Option ImageFault
data_size_fault size whole first = check (RingSize size) ((size == 0 || size == whole) && size == first)

-- a transmit data ring has an entry for each descriptor of the ring
unfoldable pub tx_size_fault : List ℕ → ℕ → Option ImageFault
tx_size_fault bs q =
    or_else (ring_size_fault (tx_field 4 TX_RING_SIZE q bs) (tx_field 4 TX_RING_SIZE 0 bs))
    (data_size_fault (tx_field 4 TX_DATA_SIZE q bs) (tx_field 4 TX_RING_SIZE q bs) (tx_field 4 TX_DATA_SIZE 0 bs))

-- a receive data ring has entries of 128 bytes
unfoldable pub rx_size_fault : List ℕ → ℕ → Option ImageFault
rx_size_fault bs q =
    or_else (ring_size_fault (rx_field 4 RX_RING1_SIZE q bs) (rx_field 4 RX_RING1_SIZE 0 bs))
    (or_else (ring_size_fault (rx_field 4 RX_RING2_SIZE q bs) (rx_field 4 RX_RING2_SIZE 0 bs))
    (data_size_fault (rx_field 2 RX_DATA_SIZE q bs) DATA_ENTRY_SIZE (rx_field 2 RX_DATA_SIZE 0 bs)))

-- 4: a completion ring is as large as its rings together
unfoldable pub completion_fault : ℕ → ℕ → Option ImageFault
completion_fault size descriptors = check (CompSize size) (size == descriptors)

unfoldable pub tx_completion_fault : List ℕ → ℕ → Option ImageFault
tx_completion_fault bs q = completion_fault (tx_field 4 COMPLETION_SIZE q bs) (tx_field 4 TX_RING_SIZE q bs)

unfoldable pub rx_completion_fault : List ℕ → ℕ → Option ImageFault
rx_completion_fault bs q = completion_fault (rx_field 4 COMPLETION_SIZE q bs) (rx_field 4 RX_RING1_SIZE q bs + rx_field 4 RX_RING2_SIZE q bs)

-- 5: queue descriptors and rings stand at their guest addresses; a data ring of size 0 has address 0
unfoldable pub address_fault : ℕ → ℕ → Option ImageFault
address_fault found address = check (Address found) (found == address)

-- the address of a data ring of a size
abbrev pub data_address : ℕ → ℕ → ℕ
data_address size address = if size == 0 then 0 else address

unfoldable pub tx_address_fault : List ℕ → ℕ → Option ImageFault
tx_address_fault bs q =
    or_else (address_fault (tx_field 8 TX_RING q bs) (tx_ring q))
    (or_else (address_fault (tx_field 8 COMPLETION_RING q bs) (tx_completion_ring q))
    (address_fault (tx_field 8 TX_DATA_RING q bs) (data_address (tx_field 4 TX_DATA_SIZE q bs) (tx_data_ring q))))

unfoldable pub rx_address_fault : List ℕ → ℕ → Option ImageFault
rx_address_fault bs q =
    or_else (address_fault (rx_field 8 RX_RING1 q bs) (rx_ring1 q))
    (or_else (address_fault (rx_field 8 RX_RING2 q bs) (rx_ring2 q))
    (or_else (address_fault (rx_field 8 COMPLETION_RING q bs) (rx_completion_ring q))
    (address_fault (rx_field 8 RX_DATA_RING q bs) (data_address (rx_field 2 RX_DATA_SIZE q bs) (rx_data_ring q)))))

-- 6: the MTU
unfoldable pub mtu_fault : List ℕ → Option ImageFault
mtu_fault bs = check (Mtu (number_at 4 MTU bs)) (nat_le MIN_MTU (number_at 4 MTU bs) && nat_le (number_at 4 MTU bs) MAX_MTU)

-- 7: the receive mode, then the multicast table
unfoldable pub mode_fault : List ℕ → Option ImageFault
mode_fault bs = check (Filter (number_at 4 RX_MODE bs)) (nat_lt (number_at 4 RX_MODE bs) RX_MODE_END)

unfoldable pub multicast_fault : List ℕ → Option ImageFault
multicast_fault bs =
    or_else
    (check (Filter (number_at 2 MULTICAST_LENGTH bs)) (number_at 2 MULTICAST_LENGTH bs % MAC_SIZE == 0 && nat_le (number_at 2 MULTICAST_LENGTH bs) MACS_SIZE))
    (check (Filter (number_at 8 MULTICAST_ADDRESS bs)) (number_at 8 MULTICAST_ADDRESS bs == MULTICAST_TABLE))

-- 8: no other feature than RXCSUM, RSS and RXVLAN, and where RSS is on its configuration, for so many receive queues
abbrev pub features : List ℕ → ℕ
features bs = number_at 8 FEATURES bs

-- their bits
abbrev pub csum_bit : List ℕ → ℕ
csum_bit bs = features bs / FEATURE_RXCSUM % 2

abbrev pub rss_bit : List ℕ → ℕ
rss_bit bs = features bs / FEATURE_RSS % 2

abbrev pub strip_bit : List ℕ → ℕ
strip_bit bs = features bs / FEATURE_RXVLAN % 2

abbrev pub rss_check : ℕ → Bool → Option ImageFault
rss_check found holds = check (Rss found) holds

unfoldable pub config_fault : List ℕ → Option ImageFault
config_fault bs =
    or_else (rss_check (number_at 4 RSS_LENGTH bs) (number_at 4 RSS_LENGTH bs == RSS_CONFIGURATION_SIZE))
    (or_else (rss_check (number_at 8 RSS_ADDRESS bs) (number_at 8 RSS_ADDRESS bs == RSS_CONFIGURATION))
    (or_else (rss_check (number_at 2 HASH_TYPES bs) (nat_le (number_at 2 HASH_TYPES bs) MAX_HASH_TYPES))
    (or_else (rss_check (number_at 2 HASH_FUNCTION bs) (number_at 2 HASH_FUNCTION bs == TOEPLITZ))
    (rss_check (number_at 2 KEY_LENGTH bs) (number_at 2 KEY_LENGTH bs == KEY_SIZE)))))

-- entry i of the indirection table: below the receive queues where the table has it, else 0
unfoldable pub entry_fault : List ℕ → ℕ → ℕ → Option ImageFault
entry_fault bs rx i =
    rss_check (slice_index bs (TABLE + i))
    (if nat_lt i (number_at 2 TABLE_LENGTH bs) then nat_lt (slice_index bs (TABLE + i)) rx else slice_index bs (TABLE + i) == 0)

unfoldable pub table_fault : List ℕ → ℕ → Option ImageFault
table_fault bs rx =
    or_else
    (rss_check (number_at 2 TABLE_LENGTH bs) (nat_le 1 (number_at 2 TABLE_LENGTH bs) && nat_le (number_at 2 TABLE_LENGTH bs) TABLE_SIZE))
    (first_fault (entry_fault bs rx) 0 TABLE_SIZE)

unfoldable pub rss_fault : List ℕ → ℕ → Option ImageFault
rss_fault bs rx =
    if nat_lt (features bs) FEATURES_END then (if rss_bit bs == 0 then None else or_else (config_fault bs) (table_fault bs rx)) else Some (Rss (features bs))

-- 9: an interrupt for each queue, transmit before receive, and the last one for events
unfoldable pub interrupt_fault : ℕ → ℕ → Option ImageFault
interrupt_fault found expected = check (Interrupt found) (found == expected)

unfoldable pub auto_mask_fault : ℕ → Option ImageFault
auto_mask_fault found = check (Interrupt found) (nat_le found 1)

unfoldable pub interrupts_fault : List ℕ → Option ImageFault
interrupts_fault bs =
    or_else (interrupt_fault (number_at 1 INTERRUPTS bs) (tx_count bs + rx_count bs + 1))
    (or_else (auto_mask_fault (number_at 1 AUTO_MASK bs)) (interrupt_fault (number_at 1 EVENT_INTERRUPT bs) (tx_count bs + rx_count bs)))

unfoldable pub tx_interrupt_fault : List ℕ → ℕ → Option ImageFault
tx_interrupt_fault bs q = interrupt_fault (tx_field 1 INTERRUPT q bs) q

unfoldable pub rx_interrupt_fault : List ℕ → ℕ → Option ImageFault
rx_interrupt_fault bs q = interrupt_fault (rx_field 1 INTERRUPT q bs) (tx_count bs + q)

-- a check of one queue's descriptor
abbrev pub queue_fault : QueueCheck → Side → List ℕ → ℕ → Option ImageFault
queue_fault Sizes Tx bs q = tx_size_fault bs q
queue_fault Sizes Rx bs q = rx_size_fault bs q
queue_fault Completions Tx bs q = tx_completion_fault bs q
queue_fault Completions Rx bs q = rx_completion_fault bs q
queue_fault Addresses Tx bs q = tx_address_fault bs q
queue_fault Addresses Rx bs q = rx_address_fault bs q
queue_fault Interrupts Tx bs q = tx_interrupt_fault bs q
queue_fault Interrupts Rx bs q = rx_interrupt_fault bs q

-- a check of each transmit queue, then of each receive queue
unfoldable pub each_queue : QueueCheck → List ℕ → Option ImageFault
each_queue check bs = or_else (first_fault (queue_fault check Tx bs) 0 (tx_count bs)) (first_fault (queue_fault check Rx bs) 0 (rx_count bs))

-- the first failing check of all nine
unfoldable pub fault : List ℕ → Option ImageFault
fault bs =
    or_else (magic_fault bs) (or_else (queues_fault bs) (or_else (each_queue Sizes bs)
    (or_else (each_queue Completions bs) (or_else (address_fault (number_at 8 QUEUES_ADDRESS bs) QUEUE_DESCRIPTORS) (or_else (each_queue Addresses bs)
    (or_else (mtu_fault bs) (or_else (mode_fault bs) (or_else (multicast_fault bs) (or_else (rss_fault bs (rx_count bs))
    (or_else (interrupts_fault bs) (each_queue Interrupts bs)))))))))))
