-- The setup that an image tells, as a function of its bytes. Where no check fails it is the one that `read` answers (Agree).
use Rattle.std.specs.Prelude.{ℕ, Bool, zero, suc, nat_lt, ◌+◌, ◌/◌, ◌==◌, if◌then◌else◌, List, [], ◌∷◌, Option, Some, None}
use Rattle.vmx_shared_area.specs.Bytes.{number_at, bytes_at, words_at}
use Rattle.vmx_shared_area.specs.Checks.{tx_count, rx_count, tx_field, rx_field, rss_bit, strip_bit, csum_bit}
use Rattle.vmx_shared_area.specs.declared.offsets.TheConstants.{MTU, AUTO_MASK, LEVELS, LEVEL_COUNT, RX_MODE, MULTICAST_LENGTH, MAC_SIZE, VLANS, VLAN_WORDS, TX_RING_SIZE, TX_DATA_SIZE, RX_RING1_SIZE, RX_RING2_SIZE, RX_DATA_SIZE, HASH_TYPES, KEY_SIZE, TABLE_LENGTH, TABLE_SIZE, KEY, TABLE, MACS}
use Rattle.vmx_device_state.specs.SetupView.{RssView, SetupView}

-- so many addresses of six bytes, from an offset on
unfoldable pub macs_at : ℕ → ℕ → List ℕ → List (List ℕ)
macs_at zero at bs = []
macs_at (suc n) at bs = bytes_at MAC_SIZE at bs ∷ macs_at n (at + MAC_SIZE) bs

unfoldable pub image_macs : List ℕ → List (List ℕ)
image_macs bs = macs_at (number_at 2 MULTICAST_LENGTH bs / MAC_SIZE) MACS bs

abbrev pub image_config : List ℕ → RssView
image_config bs = record { types = number_at 2 HASH_TYPES bs; key = bytes_at KEY_SIZE KEY bs; size = number_at 2 TABLE_LENGTH bs; table = bytes_at TABLE_SIZE TABLE bs }

-- none without the RSS feature
unfoldable pub image_rss : List ℕ → Option RssView
image_rss bs = if rss_bit bs == 0 then None else Some (image_config bs)

-- a data ring is there where its size is not 0, on the transmit side in entries, on the receive side of an entry in bytes
abbrev pub image_tx_data : List ℕ → Bool
image_tx_data bs = nat_lt 0 (tx_field 4 TX_DATA_SIZE 0 bs)

abbrev pub image_rx_data : List ℕ → Bool
image_rx_data bs = nat_lt 0 (rx_field 2 RX_DATA_SIZE 0 bs)

-- the two other features
abbrev pub image_strip : List ℕ → Bool
image_strip bs = strip_bit bs == 1

abbrev pub image_csum : List ℕ → Bool
image_csum bs = csum_bit bs == 1

unfoldable pub image_setup : List ℕ → SetupView
image_setup bs = record {
  tx_queues = tx_count bs;
  rx_queues = rx_count bs;
  tx_ring = tx_field 4 TX_RING_SIZE 0 bs;
  rx_ring1 = rx_field 4 RX_RING1_SIZE 0 bs;
  rx_ring2 = rx_field 4 RX_RING2_SIZE 0 bs;
  mtu = number_at 4 MTU bs;
  mode = number_at 4 RX_MODE bs;
  macs = image_macs bs;
  vlans = words_at VLAN_WORDS VLANS bs;
  rss = image_rss bs;
  auto_mask = number_at 1 AUTO_MASK bs;
  levels = bytes_at LEVEL_COUNT LEVELS bs;
  tx_data = image_tx_data bs;
  rx_data = image_rx_data bs;
  strip = image_strip bs;
  csum = image_csum bs;
}
