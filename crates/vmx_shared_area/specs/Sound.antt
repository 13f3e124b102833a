-- What holds of an image whose checks hold.
use Rattle.std.proofs.Common.{◌≡◌, ◌≢◌, ℕ, zero, suc, ◌+◌, ◌%◌, ◌<◌, ◌≤◌, inl, inr, ◌⊎◌, Bool, true, false, List, length, slice_index, Option, Some, None, nat_lt, refl, ap, ◌∙◌, arith}
use Rattle.std.specs.Prelude.{nat_le, nat_eq, ◌==◌, ◌&&◌, ◌||◌, if◌then◌else◌}
use Rattle.std.proofs.lemmas.Bool.{cases_lt}
use Rattle.std.proofs.lemmas.Bool.Decides.{nat_tests}
use Rattle.vmx_shared_area.specs.Bytes.{number_at, bytes_at}
use Rattle.vmx_shared_area.specs.Checks.{check, or_else, first_fault, tx_count, rx_count, tx_field, rx_field, features, rss_bit, magic_fault, number_fault, queues_fault, ring_size_fault, data_size_fault, tx_size_fault, rx_size_fault, queue_fault, each_queue, mtu_fault, mode_fault, multicast_fault, config_fault, entry_fault, table_fault, rss_fault, interrupts_fault, auto_mask_fault, address_fault, fault}
use Rattle.vmx_shared_area.specs.declared.queue_checks.QueueCheck.TheVariants.{Sizes, Completions, Addresses}
use Rattle.vmx_shared_area.specs.declared.fault.ImageFault.{ImageFault}
use Rattle.vmx_shared_area.specs.declared.fault.ImageFault.TheVariants.{Rss as RssFault}
use Rattle.vmx_shared_area.specs.declared.stats.Side.TheVariants.{Tx, Rx}
use Rattle.vmx_shared_area.specs.Places.{bytes_at-index, bytes_at-past}
use Rattle.vmx_layout.specs.declared.addresses.TheConstants.{QUEUE_DESCRIPTORS, RSS_CONFIGURATION, DATA_ENTRY_SIZE, MAX_RING_SIZE}
use Rattle.vmx_layout.specs.declared.register.TheConstants.{MAX_QUEUES}
use Rattle.vmx_shared_area.specs.declared.offsets.TheConstants.{IMAGE_SIZE, FEATURES_END, QUEUES_ADDRESS, MTU, MIN_MTU, MAX_MTU, AUTO_MASK, RX_MODE, RX_MODE_END, MULTICAST_LENGTH, MAC_SIZE, RSS_LENGTH, RSS_ADDRESS, TX_RING_SIZE, TX_DATA_SIZE, RX_RING1_SIZE, RX_RING2_SIZE, RX_DATA_SIZE, MIN_RING, RING_STEP, RSS_CONFIGURATION_SIZE, HASH_TYPES, MAX_HASH_TYPES, TABLE_LENGTH, TABLE_SIZE, TABLE, MACS_SIZE}

pub or_else_none : (a b : Option ImageFault) → or_else a b ≡ None → (a ≡ None) × (b ≡ None)
or_else_none None b h = (refl, h)
or_else_none (Some e) b h = absurd (cc h)

pub check_none : (e : ImageFault) (b : Bool) → check e b ≡ None → b ≡ true
check_none e true h = refl
check_none e false h = absurd (cc h)

and_true : (a b : Bool) → a && b ≡ true → (a ≡ true) × (b ≡ true)
and_true true b h = (refl, h)
and_true false b h = absurd (cc h)

is_le : (m n : ℕ) → nat_le m n ≡ true → m ≤ n
is_le m n h = grind (arith, nat_tests)

is_lt : (m n : ℕ) → nat_lt m n ≡ true → m < n
is_lt m n h = grind (arith, nat_tests)

is_eq : (m n : ℕ) → nat_eq m n ≡ true → m ≡ n
is_eq m n h = grind (arith, nat_tests)

from_here : (f : ℕ → Option ImageFault) (first n i : ℕ) → first_fault f first n ≡ None → first ≤ i → i < first + n → f i ≡ None
unfolding first_fault
from_here f first zero i h low high = absurd (omega arith)
from_here f first (suc n) i h low high =
    let parts = or_else_none (f first) (first_fault f (suc first) n) h in
    elim (cases_lt first i) [
      | inl after ↦ from_here f (suc first) n i parts.1 (omega arith) (omega arith)
      | inr here ↦ let same : i ≡ first = omega arith in ap f same ∙ parts.0
    ]

-- where there is no first fault, there is none
pub no_fault : (f : ℕ → Option ImageFault) (n i : ℕ) → first_fault f 0 n ≡ None → i < n → f i ≡ None
no_fault f n i h lt = from_here f 0 n i h (omega arith) (omega arith)

-- each check of an image that passes
pub record Passed (bs : List ℕ) : Type 0 where
  pub magic : magic_fault bs ≡ None
  pub queues : queues_fault bs ≡ None
  pub sizes : each_queue Sizes bs ≡ None
  pub mtu : mtu_fault bs ≡ None
  pub mode : mode_fault bs ≡ None
  pub multicast : multicast_fault bs ≡ None
  pub rss : rss_fault bs (rx_count bs) ≡ None
  pub interrupts : interrupts_fault bs ≡ None

pub passed : (bs : List ℕ) → fault bs ≡ None → Passed bs
unfolding fault
passed bs h =
    let a = or_else_none (magic_fault bs) _ h in
    let b = or_else_none (queues_fault bs) _ a.1 in
    let c = or_else_none (each_queue Sizes bs) _ b.1 in
    let d = or_else_none (each_queue Completions bs) _ c.1 in
    let e = or_else_none (address_fault (number_at 8 QUEUES_ADDRESS bs) QUEUE_DESCRIPTORS) _ d.1 in
    let f = or_else_none (each_queue Addresses bs) _ e.1 in
    let g = or_else_none (mtu_fault bs) _ f.1 in
    let i = or_else_none (mode_fault bs) _ g.1 in
    let j = or_else_none (multicast_fault bs) _ i.1 in
    let k = or_else_none (rss_fault bs (rx_count bs)) _ j.1 in
    let l = or_else_none (interrupts_fault bs) _ k.1 in
    record { magic = a.0; queues = b.0; sizes = c.0; mtu = g.0; mode = i.0; multicast = j.0; rss = k.0; interrupts = l.0 }

pub record FewQueues (bs : List ℕ) : Type 0 where
  pub tx_low : 1 ≤ tx_count bs
  pub tx_high : tx_count bs ≤ MAX_QUEUES
  pub rx_low : 1 ≤ rx_count bs
  pub rx_high : rx_count bs ≤ MAX_QUEUES

pub queues_none : (bs : List ℕ) → queues_fault bs ≡ None → FewQueues bs
unfolding queues_fault number_fault
queues_none bs h =
    let a = or_else_none _ _ h in
    let b = or_else_none _ _ a.1 in
    let tx = and_true _ _ (check_none _ _ a.0) in
    let rx = and_true _ _ (check_none _ _ b.0) in
    record { tx_low = is_le _ _ tx.0; tx_high = is_le _ _ tx.1; rx_low = is_le _ _ rx.0; rx_high = is_le _ _ rx.1 }

pub record IsRing (size : ℕ) : Type 0 where
  pub low : MIN_RING ≤ size
  pub high : size ≤ MAX_RING_SIZE
  pub step : size % RING_STEP ≡ 0

pub ring_none : (size first : ℕ) → ring_size_fault size first ≡ None → IsRing size
unfolding ring_size_fault
ring_none size first h =
    let a = and_true _ _ (check_none _ _ h) in
    let b = and_true _ _ a.0 in
    let c = and_true _ _ b.0 in
    record { low = is_le _ _ c.0; high = is_le _ _ c.1; step = is_eq _ _ b.1 }

pub tx_ring_none : (bs : List ℕ) → each_queue Sizes bs ≡ None → 1 ≤ tx_count bs → IsRing (tx_field 4 TX_RING_SIZE 0 bs)
unfolding each_queue tx_size_fault
tx_ring_none bs h some =
    let sides = or_else_none (first_fault (queue_fault Sizes Tx bs) 0 (tx_count bs)) _ h in
    let first = no_fault (queue_fault Sizes Tx bs) (tx_count bs) 0 sides.0 (omega arith) in
    ring_none _ _ (or_else_none _ _ first).0

pub rx_rings_none : (bs : List ℕ) → each_queue Sizes bs ≡ None → 1 ≤ rx_count bs → IsRing (rx_field 4 RX_RING1_SIZE 0 bs) × IsRing (rx_field 4 RX_RING2_SIZE 0 bs)
unfolding each_queue rx_size_fault
rx_rings_none bs h some =
    let sides = or_else_none (first_fault (queue_fault Sizes Tx bs) 0 (tx_count bs)) _ h in
    let first = no_fault (queue_fault Sizes Rx bs) (rx_count bs) 0 sides.1 (omega arith) in
    let rings = or_else_none _ _ first in
    (ring_none _ _ rings.0, ring_none _ _ (or_else_none _ _ rings.1).0)

either_true : (a b : Bool) → a || b ≡ true → (a ≡ true) ⊎ (b ≡ true)
either_true true b h = inl refl
either_true false b h = inr h

-- the size of a data ring is 0, or the one that it has where there is one
pub data_size_none : (size whole first : ℕ) → data_size_fault size whole first ≡ None → (size ≡ 0) ⊎ (size ≡ whole)
unfolding data_size_fault
data_size_none size whole first h =
    let lawful = (and_true _ _ (check_none _ _ h)).0 in
    elim (either_true (nat_eq size 0) (nat_eq size whole) lawful) [ inl none ↦ inl (is_eq _ _ none) | inr some ↦ inr (is_eq _ _ some) ]

pub tx_data_none : (bs : List ℕ) → each_queue Sizes bs ≡ None → 1 ≤ tx_count bs
    → (tx_field 4 TX_DATA_SIZE 0 bs ≡ 0) ⊎ (tx_field 4 TX_DATA_SIZE 0 bs ≡ tx_field 4 TX_RING_SIZE 0 bs)
unfolding each_queue tx_size_fault
tx_data_none bs h some =
    let sides = or_else_none (first_fault (queue_fault Sizes Tx bs) 0 (tx_count bs)) _ h in
    let first = no_fault (queue_fault Sizes Tx bs) (tx_count bs) 0 sides.0 (omega arith) in
    data_size_none _ _ _ (or_else_none _ _ first).1

pub rx_data_none : (bs : List ℕ) → each_queue Sizes bs ≡ None → 1 ≤ rx_count bs → (rx_field 2 RX_DATA_SIZE 0 bs ≡ 0) ⊎ (rx_field 2 RX_DATA_SIZE 0 bs ≡ DATA_ENTRY_SIZE)
unfolding each_queue rx_size_fault
rx_data_none bs h some =
    let sides = or_else_none (first_fault (queue_fault Sizes Tx bs) 0 (tx_count bs)) _ h in
    let first = no_fault (queue_fault Sizes Rx bs) (rx_count bs) 0 sides.1 (omega arith) in
    data_size_none _ _ _ (or_else_none _ _ (or_else_none _ _ first).1).1

pub mtu_none : (bs : List ℕ) → mtu_fault bs ≡ None → (MIN_MTU ≤ number_at 4 MTU bs) × (number_at 4 MTU bs ≤ MAX_MTU)
unfolding mtu_fault
mtu_none bs h = let a = and_true _ _ (check_none _ _ h) in (is_le _ _ a.0, is_le _ _ a.1)

pub mode_none : (bs : List ℕ) → mode_fault bs ≡ None → number_at 4 RX_MODE bs < RX_MODE_END
unfolding mode_fault
mode_none bs h = is_lt _ _ (check_none _ _ h)

pub multicast_none : (bs : List ℕ) → multicast_fault bs ≡ None → (number_at 2 MULTICAST_LENGTH bs % MAC_SIZE ≡ 0) × (number_at 2 MULTICAST_LENGTH bs ≤ MACS_SIZE)
unfolding multicast_fault
multicast_none bs h = let a = and_true _ _ (check_none _ _ (or_else_none _ _ h).0) in (is_eq _ _ a.0, is_le _ _ a.1)

pub auto_mask_none : (bs : List ℕ) → interrupts_fault bs ≡ None → number_at 1 AUTO_MASK bs ≤ 1
unfolding interrupts_fault auto_mask_fault
auto_mask_none bs h = is_le _ _ (check_none _ _ (or_else_none _ _ (or_else_none _ _ h).1).0)

-- an indirection table for so many receive queues
pub record IsTable (rx size : ℕ) (table : List ℕ) : Type 0 where
  pub low : 1 ≤ size
  pub high : size ≤ TABLE_SIZE
  pub below : (i : ℕ) → i < size → slice_index table i < rx
  pub rest : (i : ℕ) → size ≤ i → slice_index table i ≡ 0

entry_none : (bs : List ℕ) (rx i : ℕ) → entry_fault bs rx i ≡ None
    → (i < number_at 2 TABLE_LENGTH bs → slice_index bs (TABLE + i) < rx) × (number_at 2 TABLE_LENGTH bs ≤ i → slice_index bs (TABLE + i) ≡ 0)
unfolding entry_fault
entry_none bs rx i h =
    let test = check_none _ _ h in
    (λ lt. grind (arith, nat_tests, test), λ ge. grind (arith, nat_tests, test))

pub table_none : (bs : List ℕ) (rx : ℕ) → length bs ≡ IMAGE_SIZE → table_fault bs rx ≡ None → IsTable rx (number_at 2 TABLE_LENGTH bs) (bytes_at TABLE_SIZE TABLE bs)
unfolding table_fault
table_none bs rx len h =
    let a = or_else_none _ _ h in
    let size = and_true _ _ (check_none _ _ a.0) in
    let high : number_at 2 TABLE_LENGTH bs ≤ TABLE_SIZE = is_le _ _ size.1 in
    record {
      low = is_le _ _ size.0;
      high = high;
      below = λ i lt. rw (bytes_at-index TABLE_SIZE TABLE bs i (omega arith)) ((entry_none bs rx i (no_fault (entry_fault bs rx) TABLE_SIZE i a.1 (omega arith))).0 lt);
      rest = λ i ge.
          elim (cases_lt i TABLE_SIZE) [
            | inl lt ↦ bytes_at-index TABLE_SIZE TABLE bs i lt ∙ (entry_none bs rx i (no_fault (entry_fault bs rx) TABLE_SIZE i a.1 lt)).1 ge
            | inr past ↦ bytes_at-past TABLE_SIZE TABLE bs i (omega arith) past
          ];
    }

config_none : (bs : List ℕ) → config_fault bs ≡ None → number_at 2 HASH_TYPES bs ≤ MAX_HASH_TYPES
unfolding config_fault
config_none bs h =
    let a = or_else_none (check (RssFault (number_at 4 RSS_LENGTH bs)) (number_at 4 RSS_LENGTH bs == RSS_CONFIGURATION_SIZE)) _ h in
    let b = or_else_none (check (RssFault (number_at 8 RSS_ADDRESS bs)) (number_at 8 RSS_ADDRESS bs == RSS_CONFIGURATION)) _ a.1 in
    let c = or_else_none (check (RssFault (number_at 2 HASH_TYPES bs)) (nat_le (number_at 2 HASH_TYPES bs) MAX_HASH_TYPES)) _ b.1 in
    is_le (number_at 2 HASH_TYPES bs) MAX_HASH_TYPES (check_none (RssFault (number_at 2 HASH_TYPES bs)) _ c.0)

-- an RSS configuration for so many receive queues
pub record IsConfig (bs : List ℕ) (rx : ℕ) : Type 0 where
  pub on : rss_bit bs ≡ 1
  pub types : number_at 2 HASH_TYPES bs ≤ MAX_HASH_TYPES
  pub table : IsTable rx (number_at 2 TABLE_LENGTH bs) (bytes_at TABLE_SIZE TABLE bs)

pub rss_none : (bs : List ℕ) (rx : ℕ) → length bs ≡ IMAGE_SIZE → rss_fault bs rx ≡ None → rss_bit bs ≢ 0 → IsConfig bs rx
unfolding rss_fault
rss_none bs rx len h some =
    let parts = cases (nat_lt (features bs) FEATURES_END) (nat_eq (rss_bit bs) 0) refl refl h in
    let both = or_else_none (config_fault bs) (table_fault bs rx) parts in
    record { on = omega (arith, some); types = config_none bs both.0; table = table_none bs rx len both.1 }
  where
    cases : (low off : Bool) → nat_lt (features bs) FEATURES_END ≡ low → nat_eq (rss_bit bs) 0 ≡ off
        → (if low then (if off then None else or_else (config_fault bs) (table_fault bs rx)) else Some (RssFault (features bs))) ≡ None
        → or_else (config_fault bs) (table_fault bs rx) ≡ None
    cases true true low_is off_is h = absurd (some (is_eq _ _ off_is))
    cases true false low_is off_is h = h
    cases false off low_is off_is h = absurd (cc h)
