use Rattle.std.proofs.Common.{rules, ◌≡◌, ◌≤◌, ◌+◌, ◌*◌, ◌<◌, ◌⊎◌, inl, inr, ℕ, zero, suc, true, false, not, nat_eq, refl, sym, ap, ◌∙◌, arith}
use Rattle.std.proofs.lemmas.Bool.Decides.{nat_tests}
use Rattle.vmx_shared_area.specs.Bytes.{number_at}
use Rattle.vmx_shared_area.specs.Checks.{tx_count, rx_field, strip_bit, csum_bit}
use Rattle.vmx_shared_area.specs.Layout.{bit, if_on}
use Rattle.vmx_shared_area.specs.Places.{bytes_at-below}
use Rattle.vmx_shared_area.specs.Sound.{passed, queues_none, tx_ring_none, rx_rings_none, tx_data_none, rx_data_none, mtu_none, auto_mask_none}
use Rattle.vmx_shared_area.proofs.parts.setup_at.Goals as goal
use Rattle.vmx_layout.specs.declared.addresses.TheConstants.{DATA_ENTRY_SIZE}
use Rattle.vmx_shared_area.specs.declared.offsets.TheConstants.{AUTO_MASK, LEVELS, LEVEL_COUNT, DESCRIPTORS, DESCRIPTOR_SIZE, RX_RING1_SIZE, RX_RING2_SIZE, RX_DATA_SIZE}

mask_bit : (n : ℕ) → n ≤ 1 → bit (nat_eq n 1) ≡ n
mask_bit zero h = refl
mask_bit (suc zero) h = refl
mask_bit (suc (suc n)) h = absurd (omega arith)

-- whether there is a data ring is told by its size
data_on : (size whole : ℕ) → 0 < whole → (size ≡ 0) ⊎ (size ≡ whole) → if_on (not (nat_eq size 0)) whole ≡ size
data_on size whole some (inl none) = let off : nat_eq size 0 ≡ true = grind (arith, nat_tests) in rw off (sym none)
data_on size whole some (inr is) = let on : nat_eq size 0 ≡ false = grind (arith, nat_tests) in rw on (sym is)

pub u32_at-rx_ring1-requires : goal.u32_at-rx_ring1-requires
u32_at-rx_ring1-requires c =
    let few = queues_none c.args.bytes.now (passed c.args.bytes.now c.requires.sound).queues in
    omega (arith, few.tx_high, c.from.ensures, c.u8_at-tx_queues.ensures.number, c.requires.size)

pub u32_at-rx_ring2-requires : goal.u32_at-rx_ring2-requires
u32_at-rx_ring2-requires c =
    let few = queues_none c.args.bytes.now (passed c.args.bytes.now c.requires.sound).queues in
    omega (arith, few.tx_high, c.from.ensures, c.u8_at-tx_queues.ensures.number, c.requires.size)

pub u16_at-rx_data-requires : goal.u16_at-rx_data-requires
u16_at-rx_data-requires c =
    let few = queues_none c.args.bytes.now (passed c.args.bytes.now c.requires.sound).queues in
    omega (arith, few.tx_high, c.from.ensures, c.u8_at-tx_queues.ensures.number, c.requires.size)

pub filter_at-requires-clause-mode : goal.filter_at-requires-clause-mode
filter_at-requires-clause-mode c = (passed c.args.bytes.now c.requires.sound).mode

pub filter_at-requires-clause-multicast : goal.filter_at-requires-clause-multicast
filter_at-requires-clause-multicast c = (passed c.args.bytes.now c.requires.sound).multicast

pub rss_at-requires-clause-sound : goal.rss_at-requires-clause-sound
rss_at-requires-clause-sound c = rw c.u8_at-rx_queues.ensures.number (passed c.args.bytes.now c.requires.sound).rss

pub invariant_of-result : goal.invariant_of-result
invariant_of-result c =
    let bs = c.args.bytes.now in
    let all = passed bs c.requires.sound in
    let few = queues_none bs all.queues in
    let tx = tx_ring_none bs all.sizes few.tx_low in
    let rx = rx_rings_none bs all.sizes few.rx_low in
    let behind : DESCRIPTORS + DESCRIPTOR_SIZE * tx_count bs ≡ DESCRIPTORS + DESCRIPTOR_SIZE * (tx_count bs + 0) = omega arith in
    let start : DESCRIPTORS + DESCRIPTOR_SIZE * c.from.result ≡ DESCRIPTORS + DESCRIPTOR_SIZE * (tx_count bs + 0) = rw (c.from.ensures, c.u8_at-tx_queues.ensures.number) behind in
    let first : c.u32_at-rx_ring1.result ≡ rx_field 4 RX_RING1_SIZE 0 bs = c.u32_at-rx_ring1.ensures.number ∙ ap (λ (k : ℕ). number_at 4 (k + RX_RING1_SIZE) bs) start in
    let second : c.u32_at-rx_ring2.result ≡ rx_field 4 RX_RING2_SIZE 0 bs = c.u32_at-rx_ring2.ensures.number ∙ ap (λ (k : ℕ). number_at 4 (k + RX_RING2_SIZE) bs) start in
    record {
      tx_queues_low = rw c.u8_at-tx_queues.ensures.number few.tx_low;
      tx_queues_high = rw c.u8_at-tx_queues.ensures.number few.tx_high;
      rx_queues_low = rw c.u8_at-rx_queues.ensures.number few.rx_low;
      rx_queues_high = rw c.u8_at-rx_queues.ensures.number few.rx_high;
      tx_ring_low = rw c.u32_at-tx_ring.ensures.number tx.low;
      tx_ring_high = rw c.u32_at-tx_ring.ensures.number tx.high;
      tx_ring_step = rw c.u32_at-tx_ring.ensures.number tx.step;
      rx_ring1_low = rw first rx.0.low;
      rx_ring1_high = rw first rx.0.high;
      rx_ring1_step = rw first rx.0.step;
      rx_ring2_low = rw second rx.1.low;
      rx_ring2_high = rw second rx.1.high;
      rx_ring2_step = rw second rx.1.step;
      mtu_low = rw c.u32_at-mtu.ensures.number (mtu_none bs all.mtu).0;
      mtu_high = rw c.u32_at-mtu.ensures.number (mtu_none bs all.mtu).1;
      entries = c.rss_at.ensures.entries;
      levels_length = search rules;
      levels_fit = rw c.levels_at.ensures.levels (bytes_at-below LEVEL_COUNT LEVELS bs (λ k. omega (arith, c.type_inv.bytes k)));
    }

pub returns : goal.returns
returns c =
    let bs = c.args.bytes.now in
    let behind : DESCRIPTORS + DESCRIPTOR_SIZE * tx_count bs ≡ DESCRIPTORS + DESCRIPTOR_SIZE * (tx_count bs + 0) = omega arith in
    let start : DESCRIPTORS + DESCRIPTOR_SIZE * c.from.result ≡ DESCRIPTORS + DESCRIPTOR_SIZE * (tx_count bs + 0) = rw (c.from.ensures, c.u8_at-tx_queues.ensures.number) behind in
    let all = passed bs c.requires.sound in
    let few = queues_none bs all.queues in
    let mask = auto_mask_none bs all.interrupts in
    let ring = tx_ring_none bs all.sizes few.tx_low in
    let tx_data = data_on _ _ (omega (arith, ring.low)) (tx_data_none bs all.sizes few.tx_low) in
    let rx_data = data_on _ DATA_ENTRY_SIZE (omega arith) (rx_data_none bs all.sizes few.rx_low) in
    let entry : c.u16_at-rx_data.result ≡ rx_field 2 RX_DATA_SIZE 0 bs = c.u16_at-rx_data.ensures.number ∙ ap (λ (k : ℕ). number_at 2 (k + RX_DATA_SIZE) bs) start in
    record {
      told = record {
        tx_queues = c.u8_at-tx_queues.ensures.number;
        rx_queues = c.u8_at-rx_queues.ensures.number;
        tx_ring = c.u32_at-tx_ring.ensures.number;
        rx_ring1 = c.u32_at-rx_ring1.ensures.number ∙ ap (λ (k : ℕ). number_at 4 (k + RX_RING1_SIZE) bs) start;
        rx_ring2 = c.u32_at-rx_ring2.ensures.number ∙ ap (λ (k : ℕ). number_at 4 (k + RX_RING2_SIZE) bs) start;
        mtu = c.u32_at-mtu.ensures.number;
        filter = c.filter_at.ensures.told;
        rss = c.rss_at.ensures.told;
        auto_mask = rw c.u8_at-mask.ensures.number (mask_bit (number_at 1 AUTO_MASK bs) mask);
        levels = c.levels_at.ensures.levels;
        tx_data = rw (c.u32_at-tx_data.ensures.number, c.u32_at-tx_ring.ensures.number) tx_data;
        rx_data = rw entry rx_data;
        strip = rw c.strip_bit-strip.ensures.bit (mask_bit (strip_bit bs) (omega arith));
        csum = rw c.csum_bit-csum.ensures.bit (mask_bit (csum_bit bs) (omega arith));
      };
    }
