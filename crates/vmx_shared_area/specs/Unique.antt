-- An image tells one thing: whatever two values it tells are the same.
use Rattle.std.proofs.Common.{◌≡◌, ℕ, suc, ◌%◌, ◌^◌, ◌<◌, ◌≤◌, Bool, true, false, List, [], ◌∷◌, length, slice_index, Option, Some, None, Result, Ok, Err, inl, inr, refl, sym, ap, ◌∙◌, arith}
use Rattle.std.proofs.Props.{props}
use Rattle.std.proofs.lemmas.Bool.{cases_lt}
use mathlib.Core.HLevel.{is_prop→PathP}
use Rattle.vmx_shared_area.specs.Layout.{bit, if_on}
use Rattle.vmx_shared_area.specs.Macs.{mac_of, zero_mac}
use Rattle.vmx_shared_area.specs.Tells.{TellsMulticast, TellsFilter, TellsConfig, TellsRss, TellsTable, Tells, Reads}
use Rattle.vmx_shared_area.specs.declared.fault.ImageFault.{ImageFault}
use Rattle.vmx_shared_area.specs.declared.filter.Filter.{Filter}
use Rattle.vmx_shared_area.specs.declared.filter.MacTable.{MacTable}
use Rattle.vmx_shared_area.specs.declared.rss.IndexTable.{IndexTable}
use Rattle.vmx_shared_area.specs.declared.rss.Rss.{Rss}
use Rattle.vmx_shared_area.specs.declared.setup.Setup.{Setup}
use Rattle.vmx_layout.specs.declared.addresses.TheConstants.{DATA_ENTRY_SIZE, MAX_RING_SIZE}
use Rattle.vmx_layout.specs.declared.register.TheConstants.{MAX_QUEUES}
use Rattle.vmx_shared_area.specs.declared.offsets.TheConstants.{MIN_MTU, MAX_MTU, LEVEL_COUNT, RX_MODE_END, MAC_SIZE, MAX_MACS, VLAN_WORDS, MIN_RING, RING_STEP, MAX_HASH_TYPES, KEY_SIZE, TABLE_SIZE}

same_macs : (a b : List (List ℕ)) → length a ≡ length b → ((i : ℕ) → mac_of a i ≡ mac_of b i) → a ≡ b
same_macs [] [] len each = refl
same_macs [] (y ∷ b) len each = absurd (omega arith)
same_macs (x ∷ a) [] len each = absurd (omega arith)
same_macs (x ∷ a) (y ∷ b) len each =
    let first : x ≡ y = each 0 in
    let others : a ≡ b = same_macs a b (omega arith) (λ i. each (suc i)) in
    λ i. first i ∷ others i

pub same_multicast : (bs : List ℕ) (a b : MacTable) → TellsMulticast bs a → TellsMulticast bs b → a ≡ b
same_multicast bs a b p q =
    let count : a.count ≡ b.count = omega (arith, p.count, q.count) in
    let each : (i : ℕ) → mac_of a.macs i ≡ mac_of b.macs i =
    λ i.
    elim (cases_lt i a.count) [
      | inl lt ↦ p.macs i lt ∙ sym (q.macs i (omega arith))
      | inr past ↦ a.rest i past ∙ sym (b.rest i (omega arith))
    ] in
    let macs : a.macs ≡ b.macs = same_macs a.macs b.macs (a.macs_length ∙ sym b.macs_length) each in
    λ i. record {
      count = count i;
      macs = macs i;
      count_high = is_prop→PathP (λ j. count j ≤ MAX_MACS) (λ j. hlevel props) a.count_high b.count_high i;
      macs_length = is_prop→PathP (λ j. length (macs j) ≡ MAX_MACS) (λ j. hlevel props) a.macs_length b.macs_length i;
      mac_length = is_prop→PathP (λ j. (k : ℕ) → length (mac_of (macs j) k) ≡ MAC_SIZE) (λ j. hlevel props) a.mac_length b.mac_length i;
      macs_fit = is_prop→PathP (λ j. (k l : ℕ) → slice_index (mac_of (macs j) k) l < 2 ^ 8) (λ j. hlevel props) a.macs_fit b.macs_fit i;
      rest = is_prop→PathP (λ j. (k : ℕ) → count j ≤ k → mac_of (macs j) k ≡ zero_mac) (λ j. hlevel props) a.rest b.rest i;
    }

pub same_filter : (bs : List ℕ) (a b : Filter) → TellsFilter bs a → TellsFilter bs b → a ≡ b
same_filter bs a b p q =
    let mode : a.mode ≡ b.mode = p.mode ∙ sym q.mode in
    let multicast : a.multicast ≡ b.multicast = same_multicast bs a.multicast b.multicast p.multicast q.multicast in
    let vlans : a.vlans ≡ b.vlans = p.vlans ∙ sym q.vlans in
    λ i. record {
      mode = mode i;
      multicast = multicast i;
      vlans = vlans i;
      mode_fits = is_prop→PathP (λ j. mode j < RX_MODE_END) (λ j. hlevel props) a.mode_fits b.mode_fits i;
      vlans_length = is_prop→PathP (λ j. length (vlans j) ≡ VLAN_WORDS) (λ j. hlevel props) a.vlans_length b.vlans_length i;
      vlans_fit = is_prop→PathP (λ j. (k : ℕ) → slice_index (vlans j) k < 2 ^ 32) (λ j. hlevel props) a.vlans_fit b.vlans_fit i;
    }

pub same_config : (bs : List ℕ) (a b : Rss) → TellsConfig bs a → TellsConfig bs b → a ≡ b
same_config bs a b p q =
    let types : a.types ≡ b.types = p.types ∙ sym q.types in
    let key : a.key ≡ b.key = p.key ∙ sym q.key in
    let size : a.size ≡ b.size = p.size ∙ sym q.size in
    let table : a.table ≡ b.table = p.table ∙ sym q.table in
    λ i. record {
      types = types i;
      key = key i;
      size = size i;
      table = table i;
      types_high = is_prop→PathP (λ j. types j ≤ MAX_HASH_TYPES) (λ j. hlevel props) a.types_high b.types_high i;
      key_length = is_prop→PathP (λ j. length (key j) ≡ KEY_SIZE) (λ j. hlevel props) a.key_length b.key_length i;
      key_fits = is_prop→PathP (λ j. (k : ℕ) → slice_index (key j) k < 2 ^ 8) (λ j. hlevel props) a.key_fits b.key_fits i;
      size_low = is_prop→PathP (λ j. 1 ≤ size j) (λ j. hlevel props) a.size_low b.size_low i;
      size_high = is_prop→PathP (λ j. size j ≤ TABLE_SIZE) (λ j. hlevel props) a.size_high b.size_high i;
      table_length = is_prop→PathP (λ j. length (table j) ≡ TABLE_SIZE) (λ j. hlevel props) a.table_length b.table_length i;
      table_fits = is_prop→PathP (λ j. (k : ℕ) → slice_index (table j) k < 2 ^ 8) (λ j. hlevel props) a.table_fits b.table_fits i;
      rest = is_prop→PathP (λ j. (k : ℕ) → size j ≤ k → slice_index (table j) k ≡ 0) (λ j. hlevel props) a.rest b.rest i;
    }

pub same_rss : (bs : List ℕ) (a b : Option Rss) → TellsRss bs a → TellsRss bs b → a ≡ b
same_rss bs None None p q = refl
same_rss bs None (Some b) p q = absurd (omega (arith, p, q.0))
same_rss bs (Some a) None p q = absurd (omega (arith, p.0, q))
same_rss bs (Some a) (Some b) p q = ap Some (same_config bs a b p.1 q.1)

pub same_table : (bs : List ℕ) (a b : IndexTable) → TellsTable bs a → TellsTable bs b → a ≡ b
same_table bs a b p q =
    let size : a.size ≡ b.size = p.size ∙ sym q.size in
    let table : a.table ≡ b.table = p.table ∙ sym q.table in
    λ i. record {
      size = size i;
      table = table i;
      size_low = is_prop→PathP (λ j. 1 ≤ size j) (λ j. hlevel props) a.size_low b.size_low i;
      size_high = is_prop→PathP (λ j. size j ≤ TABLE_SIZE) (λ j. hlevel props) a.size_high b.size_high i;
      table_length = is_prop→PathP (λ j. length (table j) ≡ TABLE_SIZE) (λ j. hlevel props) a.table_length b.table_length i;
      table_fits = is_prop→PathP (λ j. (k : ℕ) → slice_index (table j) k < 2 ^ 8) (λ j. hlevel props) a.table_fits b.table_fits i;
      rest = is_prop→PathP (λ j. (k : ℕ) → size j ≤ k → slice_index (table j) k ≡ 0) (λ j. hlevel props) a.rest b.rest i;
    }

same_bit : (a b : Bool) → bit a ≡ bit b → a ≡ b
same_bit true true h = refl
same_bit true false h = absurd (omega arith)
same_bit false true h = absurd (omega arith)
same_bit false false h = refl

-- a setting is told by a number that is not 0 exactly where it is on
same_on : (a b : Bool) (m n : ℕ) → 0 < m → 0 < n → if_on a m ≡ if_on b n → a ≡ b
same_on true true m n some more h = refl
same_on true false m n some more h = absurd (omega arith)
same_on false true m n some more h = absurd (omega arith)
same_on false false m n some more h = refl

pub same_setup : (bs : List ℕ) (a b : Setup) → Tells bs a → Tells bs b → a ≡ b
same_setup bs a b p q =
    let tx_queues : a.tx_queues ≡ b.tx_queues = p.tx_queues ∙ sym q.tx_queues in
    let rx_queues : a.rx_queues ≡ b.rx_queues = p.rx_queues ∙ sym q.rx_queues in
    let tx_ring : a.tx_ring ≡ b.tx_ring = p.tx_ring ∙ sym q.tx_ring in
    let rx_ring1 : a.rx_ring1 ≡ b.rx_ring1 = p.rx_ring1 ∙ sym q.rx_ring1 in
    let rx_ring2 : a.rx_ring2 ≡ b.rx_ring2 = p.rx_ring2 ∙ sym q.rx_ring2 in
    let mtu : a.mtu ≡ b.mtu = p.mtu ∙ sym q.mtu in
    let filter : a.filter ≡ b.filter = same_filter bs a.filter b.filter p.filter q.filter in
    let rss : a.rss ≡ b.rss = same_rss bs a.rss b.rss p.rss q.rss in
    let auto_mask : a.auto_mask ≡ b.auto_mask = same_bit a.auto_mask b.auto_mask (p.auto_mask ∙ sym q.auto_mask) in
    let levels : a.levels ≡ b.levels = p.levels ∙ sym q.levels in
    let tx_data : a.tx_data ≡ b.tx_data =
    same_on a.tx_data b.tx_data a.tx_ring b.tx_ring (omega (arith, a.tx_ring_low)) (omega (arith, b.tx_ring_low)) (p.tx_data ∙ sym q.tx_data) in
    let rx_data : a.rx_data ≡ b.rx_data = same_on a.rx_data b.rx_data DATA_ENTRY_SIZE DATA_ENTRY_SIZE (omega arith) (omega arith) (p.rx_data ∙ sym q.rx_data) in
    let strip : a.strip ≡ b.strip = same_bit a.strip b.strip (p.strip ∙ sym q.strip) in
    let csum : a.csum ≡ b.csum = same_bit a.csum b.csum (p.csum ∙ sym q.csum) in
    λ i. record {
      tx_queues = tx_queues i;
      rx_queues = rx_queues i;
      tx_ring = tx_ring i;
      rx_ring1 = rx_ring1 i;
      rx_ring2 = rx_ring2 i;
      mtu = mtu i;
      filter = filter i;
      rss = rss i;
      auto_mask = auto_mask i;
      levels = levels i;
      tx_data = tx_data i;
      rx_data = rx_data i;
      strip = strip i;
      csum = csum i;
      tx_queues_low = is_prop→PathP (λ j. 1 ≤ tx_queues j) (λ j. hlevel props) a.tx_queues_low b.tx_queues_low i;
      tx_queues_high = is_prop→PathP (λ j. tx_queues j ≤ MAX_QUEUES) (λ j. hlevel props) a.tx_queues_high b.tx_queues_high i;
      rx_queues_low = is_prop→PathP (λ j. 1 ≤ rx_queues j) (λ j. hlevel props) a.rx_queues_low b.rx_queues_low i;
      rx_queues_high = is_prop→PathP (λ j. rx_queues j ≤ MAX_QUEUES) (λ j. hlevel props) a.rx_queues_high b.rx_queues_high i;
      tx_ring_low = is_prop→PathP (λ j. MIN_RING ≤ tx_ring j) (λ j. hlevel props) a.tx_ring_low b.tx_ring_low i;
      tx_ring_high = is_prop→PathP (λ j. tx_ring j ≤ MAX_RING_SIZE) (λ j. hlevel props) a.tx_ring_high b.tx_ring_high i;
      tx_ring_step = is_prop→PathP (λ j. tx_ring j % RING_STEP ≡ 0) (λ j. hlevel props) a.tx_ring_step b.tx_ring_step i;
      rx_ring1_low = is_prop→PathP (λ j. MIN_RING ≤ rx_ring1 j) (λ j. hlevel props) a.rx_ring1_low b.rx_ring1_low i;
      rx_ring1_high = is_prop→PathP (λ j. rx_ring1 j ≤ MAX_RING_SIZE) (λ j. hlevel props) a.rx_ring1_high b.rx_ring1_high i;
      rx_ring1_step = is_prop→PathP (λ j. rx_ring1 j % RING_STEP ≡ 0) (λ j. hlevel props) a.rx_ring1_step b.rx_ring1_step i;
      rx_ring2_low = is_prop→PathP (λ j. MIN_RING ≤ rx_ring2 j) (λ j. hlevel props) a.rx_ring2_low b.rx_ring2_low i;
      rx_ring2_high = is_prop→PathP (λ j. rx_ring2 j ≤ MAX_RING_SIZE) (λ j. hlevel props) a.rx_ring2_high b.rx_ring2_high i;
      rx_ring2_step = is_prop→PathP (λ j. rx_ring2 j % RING_STEP ≡ 0) (λ j. hlevel props) a.rx_ring2_step b.rx_ring2_step i;
      mtu_low = is_prop→PathP (λ j. MIN_MTU ≤ mtu j) (λ j. hlevel props) a.mtu_low b.mtu_low i;
      mtu_high = is_prop→PathP (λ j. mtu j ≤ MAX_MTU) (λ j. hlevel props) a.mtu_high b.mtu_high i;
      entries = is_prop→PathP (λ j. (r : Rss) → rss j ≡ Some r → (k : ℕ) → k < r.size → slice_index r.table k < rx_queues j) (λ j. hlevel props) a.entries b.entries i;
      levels_length = is_prop→PathP (λ j. length (levels j) ≡ LEVEL_COUNT) (λ j. hlevel props) a.levels_length b.levels_length i;
      levels_fit = is_prop→PathP (λ j. (k : ℕ) → slice_index (levels j) k < 2 ^ 8) (λ j. hlevel props) a.levels_fit b.levels_fit i;
    }

-- an image has one answer
pub same_answer : (bs : List ℕ) (a b : Result Setup ImageFault) → Reads bs a → Reads bs b → a ≡ b
same_answer bs (Ok a) (Ok b) p q = ap Ok (same_setup bs a b p.1 q.1)
same_answer bs (Ok a) (Err e) p q = let no : None ≡ Some e = sym p.0 ∙ q in absurd (cc no)
same_answer bs (Err e) (Ok b) p q = let no : None ≡ Some e = sym q.0 ∙ p in absurd (cc no)
same_answer bs (Err d) (Err e) p q = let some : Some d ≡ Some e = sym p ∙ q in let same : d ≡ e = cc some in ap Err same
