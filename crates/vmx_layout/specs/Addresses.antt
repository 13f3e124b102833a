-- Where a guest's memory has its rings, data rings and buffers, by their queue q, ring r (1 or 2) and index i.
use Rattle.std.specs.Prelude.{ℕ, ◌+◌, ◌-◌, ◌*◌}
use Rattle.vmx_layout.specs.declared.addresses.TheConstants.{TX_RINGS, RX_RINGS, RINGS_OF_QUEUE, TX_COMPLETION_RING_OFFSET, TX_DATA_RING_OFFSET, RX_RING2_OFFSET, RX_COMPLETION_RING_OFFSET, RX_DATA_RING_OFFSET, DATA_ENTRY_SIZE, TX_BUFFERS, RX_BUFFERS, TX_BUFFERS_OF_QUEUE, RX_BUFFERS_OF_QUEUE, RX_BUFFERS_OF_RING, BUFFER_STRIDE}

-- the descriptor ring of a transmit queue
abbrev pub tx_ring : ℕ → ℕ
tx_ring q = TX_RINGS + q * RINGS_OF_QUEUE

-- its completion ring
abbrev pub tx_completion_ring : ℕ → ℕ
tx_completion_ring q = tx_ring q + TX_COMPLETION_RING_OFFSET

-- its data ring
abbrev pub tx_data_ring : ℕ → ℕ
tx_data_ring q = tx_ring q + TX_DATA_RING_OFFSET

-- an entry of its data ring
abbrev pub tx_data_entry : ℕ → ℕ → ℕ
tx_data_entry q i = tx_data_ring q + DATA_ENTRY_SIZE * i

-- one of its buffers
abbrev pub tx_buffer : ℕ → ℕ → ℕ
tx_buffer q i = TX_BUFFERS + q * TX_BUFFERS_OF_QUEUE + i * BUFFER_STRIDE

-- ring 1 of a receive queue
abbrev pub rx_ring1 : ℕ → ℕ
rx_ring1 q = RX_RINGS + q * RINGS_OF_QUEUE

-- its ring 2
abbrev pub rx_ring2 : ℕ → ℕ
rx_ring2 q = rx_ring1 q + RX_RING2_OFFSET

-- its completion ring
abbrev pub rx_completion_ring : ℕ → ℕ
rx_completion_ring q = rx_ring1 q + RX_COMPLETION_RING_OFFSET

-- its data ring
abbrev pub rx_data_ring : ℕ → ℕ
rx_data_ring q = rx_ring1 q + RX_DATA_RING_OFFSET

-- an entry of its data ring
abbrev pub rx_data_entry : ℕ → ℕ → ℕ
rx_data_entry q i = rx_data_ring q + DATA_ENTRY_SIZE * i

-- a buffer of one of its rings
abbrev pub rx_buffer : ℕ → ℕ → ℕ → ℕ
rx_buffer q r i = RX_BUFFERS + q * RX_BUFFERS_OF_QUEUE + (r - 1) * RX_BUFFERS_OF_RING + i * BUFFER_STRIDE
