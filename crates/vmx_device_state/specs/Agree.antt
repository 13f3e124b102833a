-- What `read` answers is the setup that the image tells as a function of its bytes; and so is what each single reader answers.
use Rattle.std.proofs.Common.{Bool, true, false, ◌≡◌, ℕ, zero, suc, ◌+◌, ◌*◌, ◌/◌, ◌<◌, ◌≤◌, List, [], ◌∷◌, length, take, refl, sym, ap, ◌∙◌, subst, arith, nat_lt}
use Rattle.std.proofs.lemmas.Bool.Decides.{nat_tests}
use Rattle.vmx_layout.specs.declared.addresses.TheConstants.{DATA_ENTRY_SIZE}
use Rattle.std.specs.Prelude.{Option, Some, None, Ok, option_map, ◌==◌, if◌then◌else◌}
use Rattle.vmx_shared_area.specs.Bytes.{number_at, bytes_at}
use Rattle.vmx_shared_area.specs.Checks.{tx_field, rx_field, rss_bit, strip_bit, csum_bit}
use Rattle.vmx_shared_area.specs.Layout.{bit, if_on}
use Rattle.vmx_shared_area.specs.Macs.{mac_of}
use Rattle.vmx_shared_area.specs.Tells.{TellsMulticast, TellsRss, Reads}
use Rattle.vmx_shared_area.specs.declared.filter.MacTable.{MacTable}
use Rattle.vmx_shared_area.specs.declared.rss.Rss.{Rss}
use Rattle.vmx_shared_area.specs.declared.setup.Setup.{Setup}
use Rattle.vmx_shared_area.specs.declared.offsets.TheConstants.{MULTICAST_LENGTH, MAC_SIZE, MACS, TX_DATA_SIZE, RX_DATA_SIZE}
use Rattle.vmx_device_state.specs.SetupView.{RssView, rss_view, mac_list, setup_view}
use Rattle.vmx_device_state.specs.ImageSetup.{macs_at, image_macs, image_config, image_rss, image_setup}

-- so many addresses have so many bytes
counted : (c n : ℕ) → MAC_SIZE * c ≡ n → c ≡ n / MAC_SIZE
counted c n e = omega arith

-- addresses that are read one by one are the list of them
macs_agree_from : (n : ℕ) (macs : List (List ℕ)) (at : ℕ) (bs : List ℕ) → n ≤ length macs → ((i : ℕ) → i < n → mac_of macs i ≡ bytes_at MAC_SIZE (at + MAC_SIZE * i) bs) → take n macs ≡ macs_at n at bs
unfolding macs_at
macs_agree_from zero macs at bs few each = refl
macs_agree_from (suc n) [] at bs few each = absurd (omega arith)
macs_agree_from (suc n) (m ∷ ms) at bs few each =
    let first : m ≡ bytes_at MAC_SIZE at bs = each zero (omega arith) ∙ ap (λ (k : ℕ). bytes_at MAC_SIZE k bs) (let e : at + MAC_SIZE * zero ≡ at = omega arith in e) in
    let others : take n ms ≡ macs_at n (at + MAC_SIZE) bs = macs_agree_from n ms (at + MAC_SIZE) bs (omega arith)
    (λ i less. each (suc i) (omega arith) ∙ ap (λ (k : ℕ). bytes_at MAC_SIZE k bs) (let e : at + MAC_SIZE * suc i ≡ at + MAC_SIZE + MAC_SIZE * i = omega arith in e)) in
    λ i. first i ∷ others i

pub macs_agree : (bs : List ℕ) (t : MacTable) → TellsMulticast bs t → mac_list t ≡ image_macs bs
unfolding image_macs
macs_agree bs t h =
    let few : t.count ≤ length t.macs = omega (arith, t.count_high, t.macs_length) in
    macs_agree_from t.count t.macs MACS bs few h.macs ∙ ap (λ (n : ℕ). macs_at n MACS bs) (counted t.count (number_at 2 MULTICAST_LENGTH bs) h.count)

-- a bit that is told
pub bit_is : (b : Bool) (n : ℕ) → bit b ≡ n → b ≡ (n == 1)
bit_is true n e = subst (λ (k : ℕ). true ≡ (k == 1)) e refl
bit_is false n e = subst (λ (k : ℕ). false ≡ (k == 1)) e refl

lt_true_of : (n : ℕ) → 0 < n → nat_lt 0 n ≡ true
lt_true_of n less = grind (arith, nat_tests)

-- a data ring that is told
pub data_is : (b : Bool) (whole n : ℕ) → 0 < whole → if_on b whole ≡ n → b ≡ nat_lt 0 n
data_is true whole n some e = subst (λ (k : ℕ). true ≡ nat_lt 0 k) e (sym (lt_true_of whole some))
data_is false whole n some e = subst (λ (k : ℕ). false ≡ nat_lt 0 k) e refl

rss_off : (f : ℕ) (r : RssView) → f ≡ 0 → None ≡ (if f == 0 then None else Some r)
rss_off f r e = subst (λ (k : ℕ). None ≡ (if k == 0 then None else Some r)) (sym e) refl

rss_on : (f : ℕ) (r : RssView) → f ≡ 1 → Some r ≡ (if f == 0 then None else Some r)
rss_on f r e = subst (λ (k : ℕ). Some r ≡ (if k == 0 then None else Some r)) (sym e) refl

pub rss_view_agrees : (bs : List ℕ) (o : Option Rss) → TellsRss bs o → option_map rss_view o ≡ image_rss bs
unfolding image_rss
rss_view_agrees bs None h = rss_off (rss_bit bs) (image_config bs) h
rss_view_agrees bs (Some r) h =
    let same : rss_view r ≡ image_config bs = λ i. record { types = h.1.types i; key = h.1.key i; size = h.1.size i; table = h.1.table i } in
    ap Some same ∙ rss_on (rss_bit bs) (image_config bs) h.0

-- the setup that an image holds, as `read` answers it, is the function's
pub setup_agrees : (bs : List ℕ) (s : Setup) → Reads bs (Ok s) → setup_view s ≡ image_setup bs
unfolding image_setup
setup_agrees bs s h = let t = h.1 in let macs = macs_agree bs s.filter.multicast t.filter.multicast in let rss = rss_view_agrees bs s.rss t.rss in let strip = bit_is s.strip (strip_bit bs) t.strip in let csum = bit_is s.csum (csum_bit bs) t.csum in let ring : 0 < s.tx_ring = omega (arith, s.tx_ring_low) in let tx_data = data_is s.tx_data s.tx_ring (tx_field 4 TX_DATA_SIZE 0 bs) ring t.tx_data in let rx_data = data_is s.rx_data DATA_ENTRY_SIZE (rx_field 2 RX_DATA_SIZE 0 bs) (omega arith) t.rx_data in
    λ i. record {
      tx_queues = t.tx_queues i;
      rx_queues = t.rx_queues i;
      tx_ring = t.tx_ring i;
      rx_ring1 = t.rx_ring1 i;
      rx_ring2 = t.rx_ring2 i;
      mtu = t.mtu i;
      mode = t.filter.mode i;
      macs = macs i;
      vlans = t.filter.vlans i;
      rss = rss i;
      auto_mask = t.auto_mask i;
      levels = t.levels i;
      tx_data = tx_data i;
      rx_data = rx_data i;
      strip = strip i;
      csum = csum i;
    }
