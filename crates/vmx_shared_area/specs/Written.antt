-- What stands in the image of a setup: each part at its offset, each number read back.
use Rattle.std.proofs.Common.{◌≡◌, ◌⊎◌, inl, inr, refl, ℕ, ◌+◌, ◌-◌, ◌*◌, ◌<◌, ◌≤◌, List, ◌++◌, Bool, true, false, Option, Some, None, length, sym, ap, ◌∙◌, length-append, arith}
use Rattle.std.specs.List.{AllByRecursion}
use Rattle.vmx_shared_area.specs.Bytes.{number_at, bytes_at, words_at, le_words, zero_bytes}
use Rattle.vmx_shared_area.specs.Checks.{tx_count, features, rss_bit, strip_bit, csum_bit}
use Rattle.vmx_shared_area.specs.Layout.{bit, if_on, if_rss, feature_word, header_parts, header, tx_parts, tx_queue, rx_parts, rx_queue, queues, all_queues, rss_parts, rss_config, mac_bytes, image_parts, image_of}
use Rattle.vmx_shared_area.specs.Macs.{mac_of}
use Rattle.vmx_shared_area.specs.Parts.{Stands, moved, stands_whole, stands_front, stands_back, PartFits, offset, part, stands_part, length-spell, length-le, length-zero_bytes, length-le_words, number_there, bytes_there, words_there, stands_mac, length-mac_bytes, length-queues, stands_queue}
use Rattle.vmx_shared_area.specs.declared.rss.Rss.{Rss}
use Rattle.vmx_shared_area.specs.declared.setup.Setup.{Setup}
use Rattle.vmx_layout.specs.declared.addresses.TheConstants.{QUEUE_DESCRIPTORS, RSS_CONFIGURATION, MULTICAST_TABLE}
use Rattle.vmx_shared_area.specs.declared.offsets.TheConstants.{IMAGE_SIZE, MAGIC, MAGIC_NUMBER, FEATURES, FEATURE_RXCSUM, FEATURE_RSS, FEATURE_RXVLAN, FEATURES_END, QUEUES_ADDRESS, QUEUES_LENGTH, MTU, TX_QUEUES, RX_QUEUES, AUTO_MASK, INTERRUPTS, EVENT_INTERRUPT, LEVELS, LEVEL_COUNT, RX_MODE, MULTICAST_LENGTH, MULTICAST_ADDRESS, MAC_SIZE, MAX_MACS, VLANS, VLAN_WORDS, RSS_LENGTH, RSS_ADDRESS, HEADER_END, DESCRIPTORS, DESCRIPTOR_SIZE, DESCRIPTORS_SIZE, STATISTICS, STATISTICS_SIZE, RSS_START, RSS_CONFIGURATION_SIZE, RSS_ROOM, MACS, MACS_SIZE, MACS_END}

header_fit : (s : Setup) → AllByRecursion PartFits (header_parts s)
header_fit s =
    let levels = s.levels_length in
    let vlans : length (le_words s.filter.vlans) ≡ 4 * VLAN_WORDS = omega (arith, length-le_words s.filter.vlans, s.filter.vlans_length) in
    (length-le 4 _, (length-zero_bytes 4, (length-le 4 _, (length-le 4 _, (length-le 4 _, (length-le 4 _, (length-le 8 _, (length-le 8 _, (length-le 8 _, (length-le 4 _, (length-le 4 _, (length-le 4 _, (length-le 2 _, (length-le 1 _, (length-le 1 _, (length-zero_bytes 16, (length-le 1 _, (length-le 1 _, (length-le 1 _, (levels, (length-le 4 _, (length-zero_bytes 8, (length-le 4 _, (length-le 2 _, (length-zero_bytes 2, (length-le 8 _, (vlans, (length-le 4 _, (length-le 4 _, (length-le 8 _, (length-zero_bytes 32, (length-le 4 _, (length-zero_bytes 20, (length-zero_bytes (DESCRIPTORS - HEADER_END), tt))))))))))))))))))))))))))))))))))

length-header : (s : Setup) → length (header s) ≡ DESCRIPTORS
unfolding header
length-header s = length-spell (header_parts s) (header_fit s)

tx_fit : (s : Setup) (q : ℕ) → AllByRecursion PartFits (tx_parts s q)
tx_fit s q = (length-zero_bytes 16, (length-le 8 _, (length-le 8 _, (length-le 8 _, (length-le 8 _, (length-zero_bytes 8, (length-le 4 _, (length-le 4 _, (length-le 4 _, (length-le 4 _, (length-le 1 _, (length-zero_bytes 7, (length-le 1 _, (length-zero_bytes 3, (length-le 4 _, (length-zero_bytes STATISTICS_SIZE, (length-zero_bytes (DESCRIPTOR_SIZE - STATISTICS - STATISTICS_SIZE), tt)))))))))))))))))

length-tx_queue : (s : Setup) (q : ℕ) → length (tx_queue s q) ≡ DESCRIPTOR_SIZE
unfolding tx_queue
length-tx_queue s q = length-spell (tx_parts s q) (tx_fit s q)

rx_fit : (s : Setup) (q : ℕ) → AllByRecursion PartFits (rx_parts s q)
rx_fit s q = (length-zero_bytes 16, (length-le 8 _, (length-le 8 _, (length-le 8 _, (length-le 8 _, (length-le 8 _, (length-le 4 _, (length-le 4 _, (length-le 4 _, (length-le 4 _, (length-le 1 _, (length-zero_bytes 1, (length-le 2 _, (length-zero_bytes 4, (length-le 1 _, (length-zero_bytes 3, (length-le 4 _, (length-zero_bytes STATISTICS_SIZE, (length-zero_bytes (DESCRIPTOR_SIZE - STATISTICS - STATISTICS_SIZE), tt)))))))))))))))))))

length-rx_queue : (s : Setup) (q : ℕ) → length (rx_queue s q) ≡ DESCRIPTOR_SIZE
unfolding rx_queue
length-rx_queue s q = length-spell (rx_parts s q) (rx_fit s q)

length-all_queues : (s : Setup) → length (all_queues s) ≡ DESCRIPTORS_SIZE
length-all_queues s =
    let rest : List ℕ = zero_bytes (DESCRIPTORS_SIZE - DESCRIPTOR_SIZE * (s.tx_queues + s.rx_queues)) in
    let tx = length-queues (tx_queue s) (length-tx_queue s) s.tx_queues in
    let rx = length-queues (rx_queue s) (length-rx_queue s) s.rx_queues in
    let zeros = length-zero_bytes (DESCRIPTORS_SIZE - DESCRIPTOR_SIZE * (s.tx_queues + s.rx_queues)) in
    let second = length-append (queues (rx_queue s) s.rx_queues) rest in
    let first = length-append (queues (tx_queue s) s.tx_queues) (queues (rx_queue s) s.rx_queues ++ rest) in
    let tx_high = s.tx_queues_high in
    let rx_high = s.rx_queues_high in
    omega (arith, tx, rx, zeros, second, first)

rss_fit : (r : Rss) → AllByRecursion PartFits (rss_parts r)
rss_fit r = (length-le 2 _, (length-le 2 _, (length-le 2 _, (length-le 2 _, (r.key_length, (r.table_length, (length-zero_bytes (RSS_ROOM - RSS_CONFIGURATION_SIZE), tt)))))))

length-rss_config : (o : Option Rss) → length (rss_config o) ≡ RSS_ROOM
unfolding rss_config
length-rss_config None = length-zero_bytes RSS_ROOM
length-rss_config (Some r) = length-spell (rss_parts r) (rss_fit r)

image_fit : (s : Setup) → AllByRecursion PartFits (image_parts s)
image_fit s =
    let macs : length (mac_bytes s.filter.multicast.macs) ≡ MACS_SIZE =
    omega (arith, length-mac_bytes s.filter.multicast.macs s.filter.multicast.mac_length, s.filter.multicast.macs_length) in
    (length-header s, (length-all_queues s, (length-rss_config s.rss, (macs, (length-zero_bytes (IMAGE_SIZE - MACS_END), tt)))))

pub length-image : (s : Setup) → length (image_of s) ≡ IMAGE_SIZE
unfolding image_of
length-image s = length-spell (image_parts s) (image_fit s)

stands_section : (k : ℕ) (s : Setup) → Stands (0 + offset k (image_parts s)) (part k (image_parts s)) (image_of s)
unfolding image_of
stands_section k s = stands_part k 0 (image_parts s) (image_of s) (image_fit s) (stands_whole (image_of s))

-- the header's numbers
header_part : (k : ℕ) (s : Setup) → Stands (0 + offset k (header_parts s)) (part k (header_parts s)) (image_of s)
unfolding header
header_part k s = stands_part k 0 (header_parts s) (image_of s) (header_fit s) (stands_section 0 s)

pub magic_at : (s : Setup) → number_at 4 MAGIC (image_of s) ≡ MAGIC_NUMBER
magic_at s = number_there 4 MAGIC MAGIC_NUMBER (image_of s) (header_part 0 s) (omega arith)

pub if_rss_small : (o : Option Rss) (n : ℕ) → if_rss o n ≤ n
if_rss_small None n = omega arith
if_rss_small (Some r) n = omega arith

pub bit_small : (b : Bool) → bit b ≤ 1
bit_small true = omega arith
bit_small false = omega arith

pub if_on_small : (b : Bool) (n : ℕ) → if_on b n ≤ n
if_on_small true n = omega arith
if_on_small false n = omega arith

pub features_at : (s : Setup) → number_at 8 FEATURES (image_of s) ≡ feature_word s
features_at s = number_there 8 FEATURES (feature_word s) (image_of s) (header_part 6 s) (let h = if_rss_small s.rss FEATURE_RSS in let k = bit_small s.csum in let m = bit_small s.strip in omega arith)

pub features_low : (s : Setup) → features (image_of s) < FEATURES_END
features_low s = let w = features_at s in let h = if_rss_small s.rss FEATURE_RSS in let k = bit_small s.csum in let m = bit_small s.strip in omega arith

pub rss_bit_at : (s : Setup) (o : Option Rss) → s.rss ≡ o → rss_bit (image_of s) ≡ if_rss o 1
rss_bit_at s None is =
    let word : feature_word s ≡ bit s.csum * FEATURE_RXCSUM + 0 + bit s.strip * FEATURE_RXVLAN = ap (λ (o : Option Rss). bit s.csum * FEATURE_RXCSUM + if_rss o FEATURE_RSS + bit s.strip * FEATURE_RXVLAN) is in
    let w = features_at s in
    let k = bit_small s.csum in
    let m = bit_small s.strip in
    omega arith
rss_bit_at s (Some r) is =
    let word : feature_word s ≡ bit s.csum * FEATURE_RXCSUM + FEATURE_RSS + bit s.strip * FEATURE_RXVLAN = ap (λ (o : Option Rss). bit s.csum * FEATURE_RXCSUM + if_rss o FEATURE_RSS + bit s.strip * FEATURE_RXVLAN) is in
    let w = features_at s in
    let k = bit_small s.csum in
    let m = bit_small s.strip in
    omega arith

even_rss : (o : Option Rss) → (if_rss o FEATURE_RSS ≡ 0) ⊎ (if_rss o FEATURE_RSS ≡ FEATURE_RSS)
even_rss None = inl refl
even_rss (Some r) = inr refl

pub strip_at : (s : Setup) → bit s.strip ≡ strip_bit (image_of s)
strip_at s =
    let w = features_at s in
    let k = bit_small s.csum in
    let m = bit_small s.strip in
    elim (even_rss s.rss) [ inl e ↦ omega arith | inr e ↦ omega arith ]

pub csum_at : (s : Setup) → bit s.csum ≡ csum_bit (image_of s)
csum_at s =
    let w = features_at s in
    let k = bit_small s.csum in
    let m = bit_small s.strip in
    elim (even_rss s.rss) [ inl e ↦ omega arith | inr e ↦ omega arith ]

pub queues_address_at : (s : Setup) → number_at 8 QUEUES_ADDRESS (image_of s) ≡ QUEUE_DESCRIPTORS
queues_address_at s = number_there 8 QUEUES_ADDRESS QUEUE_DESCRIPTORS (image_of s) (header_part 8 s) (omega arith)

pub queues_length_at : (s : Setup) → number_at 4 QUEUES_LENGTH (image_of s) ≡ DESCRIPTOR_SIZE * (s.tx_queues + s.rx_queues)
queues_length_at s =
    let tx = s.tx_queues_high in
    let rx = s.rx_queues_high in
    number_there 4 QUEUES_LENGTH (DESCRIPTOR_SIZE * (s.tx_queues + s.rx_queues)) (image_of s) (header_part 10 s) (omega arith)

pub mtu_at : (s : Setup) → number_at 4 MTU (image_of s) ≡ s.mtu
mtu_at s = let high = s.mtu_high in number_there 4 MTU s.mtu (image_of s) (header_part 11 s) (omega arith)

pub tx_queues_at : (s : Setup) → number_at 1 TX_QUEUES (image_of s) ≡ s.tx_queues
tx_queues_at s = let high = s.tx_queues_high in number_there 1 TX_QUEUES s.tx_queues (image_of s) (header_part 13 s) (omega arith)

pub rx_queues_at : (s : Setup) → number_at 1 RX_QUEUES (image_of s) ≡ s.rx_queues
rx_queues_at s = let high = s.rx_queues_high in number_there 1 RX_QUEUES s.rx_queues (image_of s) (header_part 14 s) (omega arith)

pub auto_mask_at : (s : Setup) → number_at 1 AUTO_MASK (image_of s) ≡ bit s.auto_mask
auto_mask_at s = number_there 1 AUTO_MASK (bit s.auto_mask) (image_of s) (header_part 16 s) (let h = bit_small s.auto_mask in omega arith)

pub interrupts_at : (s : Setup) → number_at 1 INTERRUPTS (image_of s) ≡ s.tx_queues + s.rx_queues + 1
interrupts_at s =
    let tx = s.tx_queues_high in
    let rx = s.rx_queues_high in
    number_there 1 INTERRUPTS (s.tx_queues + s.rx_queues + 1) (image_of s) (header_part 17 s) (omega arith)

pub events_at : (s : Setup) → number_at 1 EVENT_INTERRUPT (image_of s) ≡ s.tx_queues + s.rx_queues
events_at s =
    let tx = s.tx_queues_high in
    let rx = s.rx_queues_high in
    number_there 1 EVENT_INTERRUPT (s.tx_queues + s.rx_queues) (image_of s) (header_part 18 s) (omega arith)

pub levels_at : (s : Setup) → bytes_at LEVEL_COUNT LEVELS (image_of s) ≡ s.levels
levels_at s = bytes_there LEVEL_COUNT LEVELS s.levels (image_of s) (header_part 19 s) s.levels_length

pub mode_at : (s : Setup) → number_at 4 RX_MODE (image_of s) ≡ s.filter.mode
mode_at s = let fits = s.filter.mode_fits in number_there 4 RX_MODE s.filter.mode (image_of s) (header_part 22 s) (omega arith)

pub multicast_length_at : (s : Setup) → number_at 2 MULTICAST_LENGTH (image_of s) ≡ MAC_SIZE * s.filter.multicast.count
multicast_length_at s =
    let high = s.filter.multicast.count_high in
    number_there 2 MULTICAST_LENGTH (MAC_SIZE * s.filter.multicast.count) (image_of s) (header_part 23 s) (omega arith)

pub multicast_address_at : (s : Setup) → number_at 8 MULTICAST_ADDRESS (image_of s) ≡ MULTICAST_TABLE
multicast_address_at s = number_there 8 MULTICAST_ADDRESS MULTICAST_TABLE (image_of s) (header_part 25 s) (omega arith)

pub vlans_at : (s : Setup) → words_at VLAN_WORDS VLANS (image_of s) ≡ s.filter.vlans
vlans_at s =
    ap (λ (n : ℕ). words_at n VLANS (image_of s)) (sym s.filter.vlans_length)
    ∙ words_there VLANS s.filter.vlans (image_of s) (header_part 26 s) s.filter.vlans_fit

pub config_length_at : (s : Setup) → number_at 4 RSS_LENGTH (image_of s) ≡ if_rss s.rss RSS_CONFIGURATION_SIZE
config_length_at s = number_there 4 RSS_LENGTH (if_rss s.rss RSS_CONFIGURATION_SIZE) (image_of s) (header_part 28 s) (let h = if_rss_small s.rss RSS_CONFIGURATION_SIZE in omega arith)

pub config_address_at : (s : Setup) → number_at 8 RSS_ADDRESS (image_of s) ≡ if_rss s.rss RSS_CONFIGURATION
config_address_at s =
    number_there 8 RSS_ADDRESS (if_rss s.rss RSS_CONFIGURATION) (image_of s) (header_part 29 s) (let h = if_rss_small s.rss RSS_CONFIGURATION in omega arith)

-- the RSS configuration
pub config_part : (k : ℕ) (s : Setup) (r : Rss) → s.rss ≡ Some r → Stands (RSS_START + offset k (rss_parts r)) (part k (rss_parts r)) (image_of s)
unfolding rss_config
config_part k s r is =
    let there : Stands RSS_START (rss_config s.rss) (image_of s) = stands_section 2 s in
    let here : Stands RSS_START (rss_config (Some r)) (image_of s) = (there.0, there.1 ∙ ap (λ (o : Option Rss). rss_config o ++ there.0) is) in
    stands_part k RSS_START (rss_parts r) (image_of s) (rss_fit r) here

-- the addresses
pub mac_at : (s : Setup) (i : ℕ) → i < MAX_MACS → bytes_at MAC_SIZE (MACS + MAC_SIZE * i) (image_of s) ≡ mac_of s.filter.multicast.macs i
mac_at s i lt =
    let macs : List (List ℕ) = s.filter.multicast.macs in
    let inside : i < length macs = omega (arith, s.filter.multicast.macs_length) in
    bytes_there MAC_SIZE (MACS + MAC_SIZE * i) (mac_of macs i) (image_of s) (stands_mac macs i MACS (image_of s) s.filter.multicast.mac_length inside (stands_section 3 s)) (s.filter.multicast.mac_length i)

-- the descriptors of the queues
pub tx_part : (k : ℕ) (s : Setup) (q : ℕ) → q < s.tx_queues → Stands (DESCRIPTORS + DESCRIPTOR_SIZE * q + offset k (tx_parts s q)) (part k (tx_parts s q)) (image_of s)
unfolding tx_queue
tx_part k s q lt =
    let all : Stands DESCRIPTORS (all_queues s) (image_of s) = stands_section 1 s in
    let side = stands_front DESCRIPTORS (queues (tx_queue s) s.tx_queues) (queues (rx_queue s) s.rx_queues ++ zero_bytes (DESCRIPTORS_SIZE - DESCRIPTOR_SIZE * (s.tx_queues + s.rx_queues))) (image_of s) all in
    stands_part k (DESCRIPTORS + DESCRIPTOR_SIZE * q) (tx_parts s q) (image_of s) (tx_fit s q) (stands_queue (tx_queue s) (length-tx_queue s) s.tx_queues q DESCRIPTORS (image_of s) lt side)

pub rx_part : (k : ℕ) (s : Setup) (q : ℕ) → q < s.rx_queues
    → Stands (DESCRIPTORS + DESCRIPTOR_SIZE * (tx_count (image_of s) + q) + offset k (rx_parts s q)) (part k (rx_parts s q)) (image_of s)
unfolding rx_queue
rx_part k s q lt =
    let rest : List ℕ = zero_bytes (DESCRIPTORS_SIZE - DESCRIPTOR_SIZE * (s.tx_queues + s.rx_queues)) in
    let all : Stands DESCRIPTORS (all_queues s) (image_of s) = stands_section 1 s in
    let both = stands_back DESCRIPTORS (DESCRIPTOR_SIZE * s.tx_queues) (queues (tx_queue s) s.tx_queues) (queues (rx_queue s) s.rx_queues ++ rest) (image_of s) (length-queues (tx_queue s) (length-tx_queue s) s.tx_queues) all in
    let side = stands_front (DESCRIPTORS + DESCRIPTOR_SIZE * s.tx_queues) (queues (rx_queue s) s.rx_queues) rest (image_of s) both in
    let there = stands_queue (rx_queue s) (length-rx_queue s) s.rx_queues q (DESCRIPTORS + DESCRIPTOR_SIZE * s.tx_queues) (image_of s) lt side in
    let same : DESCRIPTORS + DESCRIPTOR_SIZE * s.tx_queues + DESCRIPTOR_SIZE * q ≡ DESCRIPTORS + DESCRIPTOR_SIZE * (tx_count (image_of s) + q) = omega (arith, tx_queues_at s) in
    stands_part k (DESCRIPTORS + DESCRIPTOR_SIZE * (tx_count (image_of s) + q)) (rx_parts s q) (image_of s) (rx_fit s q)
    (moved (DESCRIPTORS + DESCRIPTOR_SIZE * s.tx_queues + DESCRIPTOR_SIZE * q) (DESCRIPTORS + DESCRIPTOR_SIZE * (tx_count (image_of s) + q)) (rx_queue s q) (image_of s) same there)
