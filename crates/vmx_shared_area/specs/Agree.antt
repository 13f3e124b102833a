-- Each single reader agrees with the whole setup, where an image passes its checks.
use Rattle.std.proofs.Common.{◌≡◌, ℕ, List, Some, Ok, sym, ap, ◌∙◌}
use Rattle.vmx_shared_area.specs.Bytes.{number_at, bytes_at, words_at}
use Rattle.vmx_shared_area.specs.Checks.{rss_fault}
use Rattle.vmx_shared_area.specs.Passing.{lt_true}
use Rattle.vmx_shared_area.specs.Sound.{passed, mode_none}
use Rattle.vmx_shared_area.specs.Tells.{Reads, mode_of, ReadsMulticast, ReadsRss}
use Rattle.vmx_shared_area.specs.declared.setup.Setup.{Setup}
use Rattle.vmx_shared_area.specs.declared.offsets.TheConstants.{LEVELS, LEVEL_COUNT, RX_MODE, RX_MODE_END, VLANS, VLAN_WORDS}

pub mode_agrees : (bs : List ℕ) (s : Setup) → Reads bs (Ok s) → mode_of bs ≡ Some s.filter.mode
mode_agrees bs s h =
    let small = lt_true (number_at 4 RX_MODE bs) RX_MODE_END (mode_none bs (passed bs h.0).mode) in
    rw small (ap Some (sym h.1.filter.mode))

pub multicast_agrees : (bs : List ℕ) (s : Setup) → Reads bs (Ok s) → ReadsMulticast bs (Some s.filter.multicast)
multicast_agrees bs s h = ((passed bs h.0).multicast, h.1.filter.multicast)

pub vlans_agree : (bs : List ℕ) (s : Setup) → Reads bs (Ok s) → words_at VLAN_WORDS VLANS bs ≡ s.filter.vlans
vlans_agree bs s h = sym h.1.filter.vlans

pub levels_agree : (bs : List ℕ) (s : Setup) → Reads bs (Ok s) → bytes_at LEVEL_COUNT LEVELS bs ≡ s.levels
levels_agree bs s h = sym h.1.levels

pub rss_agrees : (bs : List ℕ) (s : Setup) → Reads bs (Ok s) → ReadsRss bs s.rx_queues (Ok s.rss)
rss_agrees bs s h = (ap (rss_fault bs) h.1.rx_queues ∙ (passed bs h.0).rss, h.1.rss)
