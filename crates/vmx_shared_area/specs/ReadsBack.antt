-- A setup that is written is read back: its image passes every check and tells it.
use Rattle.std.proofs.Common.{◌≡◌, ℕ, ◌+◌, ◌*◌, ◌%◌, ◌<◌, ◌≤◌, Bool, true, false, List, slice_index, Option, Some, None, Ok, nat_lt, inl, inr, refl, sym, ap, ◌∙◌, arith}
use Rattle.std.specs.Prelude.{◌==◌, ◌||◌, nat_eq, if◌then◌else◌}
use Rattle.std.proofs.lemmas.Bool.{cases_lt}
use Rattle.std.proofs.lemmas.Bool.Decides.{nat_tests}
use Rattle.vmx_shared_area.specs.Bytes.{number_at, bytes_at}
use Rattle.vmx_shared_area.specs.Checks.{features, tx_count, rx_count, tx_field, rx_field, magic_fault, number_fault, queues_fault, ring_size_fault, data_size_fault, completion_fault, tx_size_fault, rx_size_fault, tx_completion_fault, rx_completion_fault, address_fault, data_address, tx_address_fault, rx_address_fault, mtu_fault, mode_fault, multicast_fault, config_fault, entry_fault, table_fault, rss_fault, interrupt_fault, auto_mask_fault, interrupts_fault, tx_interrupt_fault, rx_interrupt_fault, queue_fault, each_queue, fault}
use Rattle.vmx_layout.specs.Addresses.{tx_ring, tx_completion_ring, tx_data_ring, rx_ring1, rx_ring2, rx_completion_ring, rx_data_ring}
use Rattle.vmx_shared_area.specs.Layout.{if_on, if_rss, image_of}
use Rattle.vmx_shared_area.specs.Parts.{number_there, bytes_there}
use Rattle.vmx_shared_area.specs.Passing.{passes, both_pass, all_pass, both_true, le_true, lt_true, eq_true}
use Rattle.vmx_shared_area.specs.Places.{bytes_at-index}
use Rattle.vmx_shared_area.specs.Tells.{TellsRss, Tells, Reads}
use Rattle.vmx_shared_area.specs.Written.{magic_at, features_low, rss_bit_at, strip_at, csum_at, if_on_small, queues_address_at, queues_length_at, mtu_at, tx_queues_at, rx_queues_at, bit_small, auto_mask_at, interrupts_at, events_at, levels_at, mode_at, multicast_length_at, multicast_address_at, vlans_at, config_length_at, config_address_at, config_part, mac_at, tx_part, rx_part}
use Rattle.vmx_shared_area.specs.declared.queue_checks.QueueCheck.TheVariants.{Sizes, Completions, Addresses, Interrupts}
use Rattle.vmx_shared_area.specs.declared.rss.Rss.{Rss}
use Rattle.vmx_shared_area.specs.declared.setup.Setup.{Setup}
use Rattle.vmx_shared_area.specs.declared.stats.Side.TheVariants.{Tx, Rx}
use Rattle.vmx_layout.specs.declared.addresses.TheConstants.{RSS_CONFIGURATION, DATA_ENTRY_SIZE, MAX_RING_SIZE}
use Rattle.vmx_layout.specs.declared.register.TheConstants.{MAX_QUEUES}
use Rattle.vmx_shared_area.specs.declared.offsets.TheConstants.{FEATURES_END, MTU, MIN_MTU, MAX_MTU, AUTO_MASK, INTERRUPTS, EVENT_INTERRUPT, RX_MODE, RX_MODE_END, MULTICAST_LENGTH, MAC_SIZE, DESCRIPTORS, DESCRIPTOR_SIZE, TX_RING, TX_DATA_RING, RX_RING1, RX_RING2, COMPLETION_RING, RX_DATA_RING, TX_RING_SIZE, TX_DATA_SIZE, RX_RING1_SIZE, RX_RING2_SIZE, COMPLETION_SIZE, INTERRUPT, RX_DATA_SIZE, MIN_RING, RING_STEP, RSS_CONFIGURATION_SIZE, HASH_TYPES, MAX_HASH_TYPES, HASH_FUNCTION, TOEPLITZ, KEY_LENGTH, KEY_SIZE, TABLE_LENGTH, TABLE_SIZE, KEY, TABLE, MACS_SIZE}

-- the sizes of the rings
tx_size_at : (s : Setup) (q : ℕ) → q < s.tx_queues → tx_field 4 TX_RING_SIZE q (image_of s) ≡ s.tx_ring
tx_size_at s q lt = let high = s.tx_ring_high in number_there 4 (DESCRIPTORS + DESCRIPTOR_SIZE * q + TX_RING_SIZE) s.tx_ring (image_of s) (tx_part 6 s q lt) (omega arith)

rx_size1_at : (s : Setup) (q : ℕ) → q < s.rx_queues → rx_field 4 RX_RING1_SIZE q (image_of s) ≡ s.rx_ring1
rx_size1_at s q lt =
    let high = s.rx_ring1_high in
    number_there 4 (DESCRIPTORS + DESCRIPTOR_SIZE * (tx_count (image_of s) + q) + RX_RING1_SIZE) s.rx_ring1 (image_of s) (rx_part 6 s q lt) (omega arith)

rx_size2_at : (s : Setup) (q : ℕ) → q < s.rx_queues → rx_field 4 RX_RING2_SIZE q (image_of s) ≡ s.rx_ring2
rx_size2_at s q lt =
    let high = s.rx_ring2_high in
    number_there 4 (DESCRIPTORS + DESCRIPTOR_SIZE * (tx_count (image_of s) + q) + RX_RING2_SIZE) s.rx_ring2 (image_of s) (rx_part 7 s q lt) (omega arith)

-- the sizes of the data rings
tx_data_at : (s : Setup) (q : ℕ) → q < s.tx_queues → tx_field 4 TX_DATA_SIZE q (image_of s) ≡ if_on s.tx_data s.tx_ring
tx_data_at s q lt =
    let high = s.tx_ring_high in
    let small = if_on_small s.tx_data s.tx_ring in
    number_there 4 (DESCRIPTORS + DESCRIPTOR_SIZE * q + TX_DATA_SIZE) (if_on s.tx_data s.tx_ring) (image_of s) (tx_part 7 s q lt) (omega arith)

rx_data_at : (s : Setup) (q : ℕ) → q < s.rx_queues → rx_field 2 RX_DATA_SIZE q (image_of s) ≡ if_on s.rx_data DATA_ENTRY_SIZE
rx_data_at s q lt =
    let small = if_on_small s.rx_data DATA_ENTRY_SIZE in
    number_there 2 (DESCRIPTORS + DESCRIPTOR_SIZE * (tx_count (image_of s) + q) + RX_DATA_SIZE) (if_on s.rx_data DATA_ENTRY_SIZE) (image_of s) (rx_part 12 s q lt) (omega arith)

-- the tables
config_at : (s : Setup) (r : Rss) → s.rss ≡ Some r → number_at 2 TABLE_LENGTH (image_of s) ≡ r.size
config_at s r is = let high = r.size_high in number_there 2 TABLE_LENGTH r.size (image_of s) (config_part 3 s r is) (omega arith)

table_at : (s : Setup) (r : Rss) → s.rss ≡ Some r → bytes_at TABLE_SIZE TABLE (image_of s) ≡ r.table
table_at s r is = bytes_there TABLE_SIZE TABLE r.table (image_of s) (config_part 5 s r is) r.table_length

types_at : (s : Setup) (r : Rss) → s.rss ≡ Some r → number_at 2 HASH_TYPES (image_of s) ≡ r.types
types_at s r is = let high = r.types_high in number_there 2 HASH_TYPES r.types (image_of s) (config_part 0 s r is) (omega arith)

tells_rss : (s : Setup) (o : Option Rss) → s.rss ≡ o → TellsRss (image_of s) o
tells_rss s None is = rss_bit_at s None is
tells_rss s (Some r) is = (
  rss_bit_at s (Some r) is,
  record {
    types = sym (types_at s r is);
    key = sym (bytes_there KEY_SIZE KEY r.key (image_of s) (config_part 4 s r is) r.key_length);
    size = sym (config_at s r is);
    table = sym (table_at s r is);
  },
)

pub image_tells : (s : Setup) → Tells (image_of s) s
image_tells s =
    let tx : 0 < s.tx_queues = omega (arith, s.tx_queues_low) in
    let rx : 0 < s.rx_queues = omega (arith, s.rx_queues_low) in
    record {
      tx_queues = sym (tx_queues_at s);
      rx_queues = sym (rx_queues_at s);
      tx_ring = sym (tx_size_at s 0 tx);
      rx_ring1 = sym (rx_size1_at s 0 rx);
      rx_ring2 = sym (rx_size2_at s 0 rx);
      mtu = sym (mtu_at s);
      filter = record {
        mode = sym (mode_at s);
        multicast = record {
          count = sym (multicast_length_at s);
          macs = λ i lt. sym (mac_at s i (let high = s.filter.multicast.count_high in omega arith));
        };
        vlans = sym (vlans_at s);
      };
      rss = tells_rss s s.rss refl;
      auto_mask = sym (auto_mask_at s);
      levels = sym (levels_at s);
      tx_data = sym (tx_data_at s 0 tx);
      rx_data = sym (rx_data_at s 0 rx);
      strip = strip_at s;
      csum = csum_at s;
    }

-- single tests
ring_passes : (n size first : ℕ) → size ≡ n → first ≡ n → MIN_RING ≤ n → n ≤ MAX_RING_SIZE → n % RING_STEP ≡ 0 → ring_size_fault size first ≡ None
unfolding ring_size_fault
ring_passes n size first size_is first_is low high step =
    let step_here : size % RING_STEP ≡ 0 = ap (λ (k : ℕ). k % RING_STEP) size_is ∙ step in
    passes _ _
    (both_true _ _ (both_true _ _ (both_true _ _ (le_true MIN_RING size (omega arith)) (le_true size MAX_RING_SIZE (omega arith))) (eq_true (size % RING_STEP) 0 step_here))
    (eq_true size first (size_is ∙ sym first_is)))

address_passes : (found address : ℕ) → found ≡ address → address_fault found address ≡ None
unfolding address_fault
address_passes found address h = passes _ _ (eq_true found address h)

first_true : (a b : Bool) → a ≡ true → a || b ≡ true
first_true true b h = refl
first_true false b h = absurd (cc h)

second_true : (a b : Bool) → b ≡ true → a || b ≡ true
second_true true b h = refl
second_true false b h = h

-- a data ring's size, by its setting
data_passes : (on : Bool) (whole given first size : ℕ) → size ≡ if_on on whole → first ≡ if_on on whole → given ≡ whole → data_size_fault size given first ≡ None
unfolding data_size_fault
data_passes true whole given first size size_is first_is given_is =
    passes _ _ (both_true _ _ (second_true (nat_eq size 0) (nat_eq size given) (eq_true size given (omega arith))) (eq_true size first (omega arith)))
data_passes false whole given first size size_is first_is given_is =
    passes _ _ (both_true _ _ (first_true (nat_eq size 0) (nat_eq size given) (eq_true size 0 (omega arith))) (eq_true size first (omega arith)))

-- a data ring's address, by its setting
data_address_passes : (on : Bool) (whole size found address : ℕ) → 0 < whole → size ≡ if_on on whole → found ≡ if_on on address
    → address_fault found (data_address size address) ≡ None
data_address_passes true whole size found address some size_is found_is =
    let there : nat_eq size 0 ≡ false = grind (arith, nat_tests) in
    address_passes _ _ (rw there found_is)
data_address_passes false whole size found address some size_is found_is =
    let none : nat_eq size 0 ≡ true = grind (arith, nat_tests) in
    address_passes _ _ (rw none found_is)

-- the descriptors
tx_sizes_pass : (s : Setup) (q : ℕ) → q < s.tx_queues → tx_size_fault (image_of s) q ≡ None
unfolding tx_size_fault
tx_sizes_pass s q lt =
    let first : 0 < s.tx_queues = omega arith in
    both_pass _ _ (ring_passes s.tx_ring _ _ (tx_size_at s q lt) (tx_size_at s 0 first) s.tx_ring_low s.tx_ring_high s.tx_ring_step)
    (data_passes s.tx_data s.tx_ring _ _ _ (tx_data_at s q lt) (tx_data_at s 0 first) (tx_size_at s q lt))

rx_sizes_pass : (s : Setup) (q : ℕ) → q < s.rx_queues → rx_size_fault (image_of s) q ≡ None
unfolding rx_size_fault
rx_sizes_pass s q lt =
    let first : 0 < s.rx_queues = omega arith in
    both_pass _ _ (ring_passes s.rx_ring1 _ _ (rx_size1_at s q lt) (rx_size1_at s 0 first) s.rx_ring1_low s.rx_ring1_high s.rx_ring1_step)
    (both_pass _ _ (ring_passes s.rx_ring2 _ _ (rx_size2_at s q lt) (rx_size2_at s 0 first) s.rx_ring2_low s.rx_ring2_high s.rx_ring2_step)
    (data_passes s.rx_data DATA_ENTRY_SIZE _ _ _ (rx_data_at s q lt) (rx_data_at s 0 first) refl))

tx_completion_passes : (s : Setup) (q : ℕ) → q < s.tx_queues → tx_completion_fault (image_of s) q ≡ None
unfolding tx_completion_fault completion_fault
tx_completion_passes s q lt =
    let high = s.tx_ring_high in
    let completion = number_there 4 (DESCRIPTORS + DESCRIPTOR_SIZE * q + COMPLETION_SIZE) s.tx_ring (image_of s) (tx_part 8 s q lt) (omega arith) in
    passes _ _ (eq_true _ _ (completion ∙ sym (tx_size_at s q lt)))

rx_completion_passes : (s : Setup) (q : ℕ) → q < s.rx_queues → rx_completion_fault (image_of s) q ≡ None
unfolding rx_completion_fault completion_fault
rx_completion_passes s q lt =
    let high1 = s.rx_ring1_high in
    let high2 = s.rx_ring2_high in
    let completion = number_there 4 (DESCRIPTORS + DESCRIPTOR_SIZE * (tx_count (image_of s) + q) + COMPLETION_SIZE) (s.rx_ring1 + s.rx_ring2) (image_of s) (rx_part 8 s q lt) (omega arith) in
    passes _ _ (eq_true _ _ (omega (arith, completion, rx_size1_at s q lt, rx_size2_at s q lt)))

tx_addresses_pass : (s : Setup) (q : ℕ) → q < s.tx_queues → tx_address_fault (image_of s) q ≡ None
unfolding tx_address_fault
tx_addresses_pass s q lt =
    let high = s.tx_queues_high in
    let some : 0 < s.tx_ring = omega (arith, s.tx_ring_low) in
    let small = if_on_small s.tx_data (tx_data_ring q) in
    let there = number_there 8 (DESCRIPTORS + DESCRIPTOR_SIZE * q + TX_DATA_RING) (if_on s.tx_data (tx_data_ring q)) (image_of s) (tx_part 2 s q lt) (omega arith) in
    both_pass _ _ (address_passes _ _ (number_there 8 (DESCRIPTORS + DESCRIPTOR_SIZE * q + TX_RING) (tx_ring q) (image_of s) (tx_part 1 s q lt) (omega arith)))
    (both_pass _ _ (address_passes _ _ (number_there 8 (DESCRIPTORS + DESCRIPTOR_SIZE * q + COMPLETION_RING) (tx_completion_ring q) (image_of s) (tx_part 3 s q lt) (omega arith)))
    (data_address_passes s.tx_data s.tx_ring _ _ (tx_data_ring q) some (tx_data_at s q lt) there))

rx_addresses_pass : (s : Setup) (q : ℕ) → q < s.rx_queues → rx_address_fault (image_of s) q ≡ None
unfolding rx_address_fault
rx_addresses_pass s q lt =
    let high = s.rx_queues_high in
    let start : ℕ = DESCRIPTORS + DESCRIPTOR_SIZE * (tx_count (image_of s) + q) in
    let small = if_on_small s.rx_data (rx_data_ring q) in
    let there = number_there 8 (start + RX_DATA_RING) (if_on s.rx_data (rx_data_ring q)) (image_of s) (rx_part 5 s q lt) (omega arith) in
    both_pass _ _ (address_passes _ _ (number_there 8 (start + RX_RING1) (rx_ring1 q) (image_of s) (rx_part 1 s q lt) (omega arith)))
    (both_pass _ _ (address_passes _ _ (number_there 8 (start + RX_RING2) (rx_ring2 q) (image_of s) (rx_part 2 s q lt) (omega arith)))
    (both_pass _ _ (address_passes _ _ (number_there 8 (start + COMPLETION_RING) (rx_completion_ring q) (image_of s) (rx_part 3 s q lt) (omega arith)))
    (data_address_passes s.rx_data DATA_ENTRY_SIZE _ _ (rx_data_ring q) (omega arith) (rx_data_at s q lt) there)))

tx_interrupt_passes : (s : Setup) (q : ℕ) → q < s.tx_queues → tx_interrupt_fault (image_of s) q ≡ None
unfolding tx_interrupt_fault interrupt_fault
tx_interrupt_passes s q lt =
    let high = s.tx_queues_high in
    passes _ _ (eq_true _ _ (number_there 1 (DESCRIPTORS + DESCRIPTOR_SIZE * q + INTERRUPT) q (image_of s) (tx_part 10 s q lt) (omega arith)))

rx_interrupt_passes : (s : Setup) (q : ℕ) → q < s.rx_queues → rx_interrupt_fault (image_of s) q ≡ None
unfolding rx_interrupt_fault interrupt_fault
rx_interrupt_passes s q lt =
    let tx = s.tx_queues_high in
    let rx = s.rx_queues_high in
    let interrupt = number_there 1 (DESCRIPTORS + DESCRIPTOR_SIZE * (tx_count (image_of s) + q) + INTERRUPT) (s.tx_queues + q) (image_of s) (rx_part 10 s q lt) (omega arith) in
    passes _ _ (eq_true _ _ (interrupt ∙ ap (λ (n : ℕ). n + q) (sym (tx_queues_at s))))

sizes_pass : (s : Setup) → each_queue Sizes (image_of s) ≡ None
unfolding each_queue
sizes_pass s =
    both_pass _ _ (all_pass (queue_fault Sizes Tx (image_of s)) 0 (tx_count (image_of s)) (λ q lt. tx_sizes_pass s q (omega (arith, tx_queues_at s))))
    (all_pass (queue_fault Sizes Rx (image_of s)) 0 (rx_count (image_of s)) (λ q lt. rx_sizes_pass s q (omega (arith, rx_queues_at s))))

completions_pass : (s : Setup) → each_queue Completions (image_of s) ≡ None
unfolding each_queue
completions_pass s =
    both_pass _ _ (all_pass (queue_fault Completions Tx (image_of s)) 0 (tx_count (image_of s)) (λ q lt. tx_completion_passes s q (omega (arith, tx_queues_at s))))
    (all_pass (queue_fault Completions Rx (image_of s)) 0 (rx_count (image_of s)) (λ q lt. rx_completion_passes s q (omega (arith, rx_queues_at s))))

addresses_pass : (s : Setup) → each_queue Addresses (image_of s) ≡ None
unfolding each_queue
addresses_pass s =
    both_pass _ _ (all_pass (queue_fault Addresses Tx (image_of s)) 0 (tx_count (image_of s)) (λ q lt. tx_addresses_pass s q (omega (arith, tx_queues_at s))))
    (all_pass (queue_fault Addresses Rx (image_of s)) 0 (rx_count (image_of s)) (λ q lt. rx_addresses_pass s q (omega (arith, rx_queues_at s))))

interrupts_pass : (s : Setup) → each_queue Interrupts (image_of s) ≡ None
unfolding each_queue
interrupts_pass s =
    both_pass _ _ (all_pass (queue_fault Interrupts Tx (image_of s)) 0 (tx_count (image_of s)) (λ q lt. tx_interrupt_passes s q (omega (arith, tx_queues_at s))))
    (all_pass (queue_fault Interrupts Rx (image_of s)) 0 (rx_count (image_of s)) (λ q lt. rx_interrupt_passes s q (omega (arith, rx_queues_at s))))

-- the header
magic_passes : (s : Setup) → magic_fault (image_of s) ≡ None
unfolding magic_fault
magic_passes s = passes _ _ (eq_true _ _ (magic_at s))

queues_pass : (s : Setup) → queues_fault (image_of s) ≡ None
unfolding queues_fault number_fault
queues_pass s =
    let tx = tx_queues_at s in
    let rx = rx_queues_at s in
    let tx_low = s.tx_queues_low in
    let tx_high = s.tx_queues_high in
    let rx_low = s.rx_queues_low in
    let rx_high = s.rx_queues_high in
    both_pass _ _ (passes _ _ (both_true _ _ (le_true 1 (tx_count (image_of s)) (omega arith)) (le_true (tx_count (image_of s)) MAX_QUEUES (omega arith))))
    (both_pass _ _ (passes _ _ (both_true _ _ (le_true 1 (rx_count (image_of s)) (omega arith)) (le_true (rx_count (image_of s)) MAX_QUEUES (omega arith))))
    (passes _ _ (eq_true _ _ (omega (arith, queues_length_at s)))))

mtu_passes : (s : Setup) → mtu_fault (image_of s) ≡ None
unfolding mtu_fault
mtu_passes s =
    let at = mtu_at s in
    let low = s.mtu_low in
    let high = s.mtu_high in
    passes _ _ (both_true _ _ (le_true MIN_MTU (number_at 4 MTU (image_of s)) (omega arith)) (le_true (number_at 4 MTU (image_of s)) MAX_MTU (omega arith)))

mode_passes : (s : Setup) → mode_fault (image_of s) ≡ None
unfolding mode_fault
mode_passes s = let at = mode_at s in let fits = s.filter.mode_fits in passes _ _ (lt_true (number_at 4 RX_MODE (image_of s)) RX_MODE_END (omega arith))

sixes : (n : ℕ) → MAC_SIZE * n % MAC_SIZE ≡ 0
sixes n = omega arith

multicast_passes : (s : Setup) → multicast_fault (image_of s) ≡ None
unfolding multicast_fault
multicast_passes s =
    let at = multicast_length_at s in
    let high = s.filter.multicast.count_high in
    let step : number_at 2 MULTICAST_LENGTH (image_of s) % MAC_SIZE ≡ 0 = ap (λ (n : ℕ). n % MAC_SIZE) at ∙ sixes s.filter.multicast.count in
    both_pass _ _ (passes _ _ (both_true _ _ (eq_true (number_at 2 MULTICAST_LENGTH (image_of s) % MAC_SIZE) 0 step) (le_true (number_at 2 MULTICAST_LENGTH (image_of s)) MACS_SIZE (omega arith))))
    (passes _ _ (eq_true _ _ (multicast_address_at s)))

header_interrupts_pass : (s : Setup) → interrupts_fault (image_of s) ≡ None
unfolding interrupts_fault interrupt_fault auto_mask_fault
header_interrupts_pass s =
    let tx = tx_queues_at s in
    let rx = rx_queues_at s in
    let mask = auto_mask_at s in
    let small = bit_small s.auto_mask in
    both_pass _ _ (passes _ _ (eq_true (number_at 1 INTERRUPTS (image_of s)) (tx_count (image_of s) + rx_count (image_of s) + 1) (omega (arith, interrupts_at s))))
    (both_pass _ _ (passes _ _ (le_true (number_at 1 AUTO_MASK (image_of s)) 1 (omega arith)))
    (passes _ _ (eq_true (number_at 1 EVENT_INTERRUPT (image_of s)) (tx_count (image_of s) + rx_count (image_of s)) (omega (arith, events_at s)))))

-- the RSS configuration
lt_false : (m n : ℕ) → n ≤ m → nat_lt m n ≡ false
lt_false m n h = grind (arith, nat_tests)

entry_test : (size rx k v : ℕ) → (k < size → v < rx) → (size ≤ k → v ≡ 0) → (if nat_lt k size then nat_lt v rx else v == 0) ≡ true
entry_test size rx k v below rest =
    elim (cases_lt k size) [
      | inl lt ↦ rw (lt_true k size lt) (lt_true v rx (below lt))
      | inr past ↦ rw (lt_false k size past) (eq_true v 0 (rest past))
    ]

entry_passes : (s : Setup) (r : Rss) → s.rss ≡ Some r → (k : ℕ) → k < TABLE_SIZE → entry_fault (image_of s) s.rx_queues k ≡ None
unfolding entry_fault
entry_passes s r is k lt =
    let size = config_at s r is in
    let value : slice_index (image_of s) (TABLE + k) ≡ slice_index r.table k =
    sym (bytes_at-index TABLE_SIZE TABLE (image_of s) k lt) ∙ ap (λ (t : List ℕ). slice_index t k) (table_at s r is) in
    passes _ _
    (entry_test (number_at 2 TABLE_LENGTH (image_of s)) s.rx_queues k (slice_index (image_of s) (TABLE + k))
    (λ below. let h = s.entries r is k (omega arith) in omega arith) (λ past. value ∙ r.rest k (omega arith)))

table_passes : (s : Setup) (r : Rss) → s.rss ≡ Some r → table_fault (image_of s) s.rx_queues ≡ None
unfolding table_fault
table_passes s r is =
    let size = config_at s r is in
    let low = r.size_low in
    let high = r.size_high in
    both_pass _ _ (passes _ _ (both_true _ _ (le_true 1 (number_at 2 TABLE_LENGTH (image_of s)) (omega arith)) (le_true (number_at 2 TABLE_LENGTH (image_of s)) TABLE_SIZE (omega arith))))
    (all_pass (entry_fault (image_of s) s.rx_queues) 0 TABLE_SIZE (λ k lt. entry_passes s r is k lt))

config_passes : (s : Setup) (r : Rss) → s.rss ≡ Some r → config_fault (image_of s) ≡ None
unfolding config_fault
config_passes s r is =
    let types = types_at s r is in
    let high = r.types_high in
    both_pass _ _ (passes _ _ (eq_true _ _ (config_length_at s ∙ ap (λ (o : Option Rss). if_rss o RSS_CONFIGURATION_SIZE) is)))
    (both_pass _ _ (passes _ _ (eq_true _ _ (config_address_at s ∙ ap (λ (o : Option Rss). if_rss o RSS_CONFIGURATION) is)))
    (both_pass _ _ (passes _ _ (le_true (number_at 2 HASH_TYPES (image_of s)) MAX_HASH_TYPES (omega arith)))
    (both_pass _ _ (passes _ _ (eq_true _ _ (number_there 2 HASH_FUNCTION TOEPLITZ (image_of s) (config_part 1 s r is) (omega arith))))
    (passes _ _ (eq_true _ _ (number_there 2 KEY_LENGTH KEY_SIZE (image_of s) (config_part 2 s r is) (omega arith)))))))

rss_passes : (s : Setup) (o : Option Rss) → s.rss ≡ o → rss_fault (image_of s) s.rx_queues ≡ None
unfolding rss_fault
rss_passes s None is =
    let low : nat_lt (features (image_of s)) FEATURES_END ≡ true = grind (arith, nat_tests, features_low s) in
    rw (low, rss_bit_at s None is) refl
rss_passes s (Some r) is =
    let low : nat_lt (features (image_of s)) FEATURES_END ≡ true = grind (arith, nat_tests, features_low s) in
    rw (low, rss_bit_at s (Some r) is) (both_pass _ _ (config_passes s r is) (table_passes s r is))

pub image_passes : (s : Setup) → fault (image_of s) ≡ None
unfolding fault
image_passes s =
    let rss : rss_fault (image_of s) (rx_count (image_of s)) ≡ None = ap (rss_fault (image_of s)) (rx_queues_at s) ∙ rss_passes s s.rss refl in
    both_pass _ _ (magic_passes s) (both_pass _ _ (queues_pass s) (both_pass _ _ (sizes_pass s) (both_pass _ _ (completions_pass s)
    (both_pass _ _ (address_passes _ _ (queues_address_at s)) (both_pass _ _ (addresses_pass s) (both_pass _ _ (mtu_passes s)
    (both_pass _ _ (mode_passes s) (both_pass _ _ (multicast_passes s) (both_pass _ _ rss
    (both_pass _ _ (header_interrupts_pass s) (interrupts_pass s)))))))))))

pub image_reads : (s : Setup) → Reads (image_of s) (Ok s)
image_reads s = (image_passes s, image_tells s)
