-- Plain data determines a setup: two setups with one view are one.
use Rattle.std.proofs.Common.{◌≡◌, ℕ, ◌*◌, ◌<◌, List, length, sym, ap, ◌∙◌, arith}
use Rattle.std.specs.Prelude.{Option, Some, None, option_map}
use Rattle.std.proofs.lemmas.List.{get_or-take, length-take-le}
use Rattle.vmx_shared_area.specs.Layout.{bit, if_on, image_of}
use Rattle.vmx_shared_area.specs.Macs.{mac_of, zero_mac}
use Rattle.vmx_shared_area.specs.ReadsBack.{image_reads}
use Rattle.vmx_shared_area.specs.Tells.{TellsMulticast, TellsRss, Tells}
use Rattle.vmx_shared_area.specs.Unique as unique
use Rattle.vmx_shared_area.specs.declared.filter.MacTable.{MacTable}
use Rattle.vmx_shared_area.specs.declared.rss.Rss.{Rss}
use Rattle.vmx_shared_area.specs.declared.setup.Setup.{Setup}
use Rattle.vmx_layout.specs.declared.addresses.TheConstants.{DATA_ENTRY_SIZE}
use Rattle.vmx_shared_area.specs.declared.offsets.TheConstants.{MAC_SIZE}
use Rattle.vmx_device_state.specs.SetupView.{RssView, rss_view, mac_list, setup_view}

count_of_list : (t : MacTable) → length (mac_list t) ≡ t.count
count_of_list t = length-take-le t.count t.macs (omega (arith, t.count_high, t.macs_length))

-- what an image tells of one table or setting, it tells of each with the same view
macs_told : (bs : List ℕ) (a b : MacTable) → mac_list a ≡ mac_list b → TellsMulticast bs a → TellsMulticast bs b
macs_told bs a b e h =
    let same : b.count ≡ a.count = sym (count_of_list b) ∙ ap length (sym e) ∙ count_of_list a in record {
      count = ap (λ (n : ℕ). MAC_SIZE * n) same ∙ h.count;
      macs = λ i less. let less' : i < a.count = omega arith in
          sym (get_or-take b.count b.macs i zero_mac less) ∙ ap (λ l. mac_of l i) (sym e) ∙ get_or-take a.count a.macs i zero_mac less' ∙ h.macs i less';
    }

some_view : (x y : RssView) → Some x ≡ Some y → x ≡ y
some_view x y e = cc e

rss_told : (bs : List ℕ) (a b : Option Rss) → option_map rss_view a ≡ option_map rss_view b → TellsRss bs a → TellsRss bs b
rss_told bs None None e h = h
rss_told bs None (Some r) e h = absurd (cc e)
rss_told bs (Some r) None e h = absurd (cc e)
rss_told bs (Some r) (Some q) e h = let same = sym (some_view (rss_view r) (rss_view q) e) in
    (h.0, record { types = ap (λ v. v.types) same ∙ h.1.types; key = ap (λ v. v.key) same ∙ h.1.key; size = ap (λ v. v.size) same ∙ h.1.size; table = ap (λ v. v.table) same ∙ h.1.table })

told_again : (bs : List ℕ) (a b : Setup) → setup_view a ≡ setup_view b → Tells bs a → Tells bs b
told_again bs a b e h = let same = sym e in record {
  tx_queues = ap (λ v. v.tx_queues) same ∙ h.tx_queues;
  rx_queues = ap (λ v. v.rx_queues) same ∙ h.rx_queues;
  tx_ring = ap (λ v. v.tx_ring) same ∙ h.tx_ring;
  rx_ring1 = ap (λ v. v.rx_ring1) same ∙ h.rx_ring1;
  rx_ring2 = ap (λ v. v.rx_ring2) same ∙ h.rx_ring2;
  mtu = ap (λ v. v.mtu) same ∙ h.mtu;
  filter = record {
    mode = ap (λ v. v.mode) same ∙ h.filter.mode;
    multicast = macs_told bs a.filter.multicast b.filter.multicast (ap (λ v. v.macs) e) h.filter.multicast;
    vlans = ap (λ v. v.vlans) same ∙ h.filter.vlans;
  };
  rss = rss_told bs a.rss b.rss (ap (λ v. v.rss) e) h.rss;
  auto_mask = ap (λ v. v.auto_mask) same ∙ h.auto_mask;
  levels = ap (λ v. v.levels) same ∙ h.levels;
  tx_data = ap (λ v. if_on v.tx_data v.tx_ring) same ∙ h.tx_data;
  rx_data = ap (λ v. if_on v.rx_data DATA_ENTRY_SIZE) same ∙ h.rx_data;
  strip = ap (λ v. bit v.strip) same ∙ h.strip;
  csum = ap (λ v. bit v.csum) same ∙ h.csum;
}

pub same_setup : (a b : Setup) → setup_view a ≡ setup_view b → a ≡ b
same_setup a b e = let h = (image_reads a).1 in unique.same_setup (image_of a) a b h (told_again (image_of a) a b e h)
