-- What an update takes from an image that holds a setup: that setup's part. So a driver that writes a setup and sends an update knows the setup in force.
use Rattle.std.proofs.Common.{◌≡◌, ℕ, Bool, true, false, nat_lt, List, sym, ap, ◌∙◌, subst}
use Rattle.std.specs.Prelude.{Option, Some, None, Ok, option_map, ◌==◌, if◌then◌else◌}
use Rattle.vmx_shared_area.specs.Agree.{mode_agrees, multicast_agrees, vlans_agree, levels_agree, rss_agrees}
use Rattle.vmx_shared_area.specs.Checks.{or_else, features, rss_bit, strip_bit, csum_bit, config_fault, table_fault, rss_fault}
use Rattle.vmx_shared_area.specs.Sound.{or_else_none}
use Rattle.vmx_shared_area.specs.Tells.{TellsRss, Reads}
use Rattle.vmx_shared_area.specs.declared.fault.ImageFault.{ImageFault}
use Rattle.vmx_shared_area.specs.declared.fault.ImageFault.TheVariants.{Rss as RssFault}
use Rattle.vmx_shared_area.specs.declared.rss.Rss.{Rss}
use Rattle.vmx_shared_area.specs.declared.setup.Setup.{Setup}
use Rattle.vmx_shared_area.specs.declared.offsets.TheConstants.{FEATURES_END}
use Rattle.vmx_device_state.specs.SetupView.{RssView, SetupView, rss_view, mac_list}
use Rattle.vmx_device_state.specs.DeviceState.{unless, with_table, updated}
use Rattle.vmx_device_state.specs.Agree.{macs_agree, bit_is, rss_view_agrees}
use Rattle.vmx_device_state.specs.declared.order.Part.TheVariants.{Mode, Macs, Vlans, Table, Levels, Features}

passes : (f : Option ImageFault) (s : SetupView) → f ≡ None → unless f s ≡ Some s
passes f s e = ap (λ x. unless x s) e

pub mode_taken : (old : SetupView) (bs : List ℕ) (s : Setup) → Reads bs (Ok s) → updated Mode old bs ≡ Some (record old { mode = s.filter.mode })
mode_taken old bs s h = ap (option_map (λ (m : ℕ). record old { mode = m })) (mode_agrees bs s h)

pub macs_taken : (old : SetupView) (bs : List ℕ) (s : Setup) → Reads bs (Ok s) → updated Macs old bs ≡ Some (record old { macs = mac_list s.filter.multicast })
macs_taken old bs s h = let told = multicast_agrees bs s h in
    passes _ _ told.0 ∙ ap (λ (m : List (List ℕ)). Some (record old { macs = m })) (sym (macs_agree bs s.filter.multicast told.1))

pub vlans_taken : (old : SetupView) (bs : List ℕ) (s : Setup) → Reads bs (Ok s) → updated Vlans old bs ≡ Some (record old { vlans = s.filter.vlans })
vlans_taken old bs s h = ap (λ (v : List ℕ). Some (record old { vlans = v })) (vlans_agree bs s h)

pub levels_taken : (old : SetupView) (bs : List ℕ) (s : Setup) → Reads bs (Ok s) → updated Levels old bs ≡ Some (record old { levels = s.levels })
levels_taken old bs s h = ap (λ (l : List ℕ). Some (record old { levels = l })) (levels_agree bs s h)

-- the two that are checked with the active setup's number of receive queues, where the image's setup has the same
pub features_taken : (old : SetupView) (bs : List ℕ) (s : Setup) → Reads bs (Ok s) → old.rx_queues ≡ s.rx_queues → updated Features old bs ≡ Some (record old { rss = option_map rss_view s.rss; strip = s.strip; csum = s.csum })
features_taken old bs s h same = let told = rss_agrees bs s h in
    let rss = sym (rss_view_agrees bs s.rss told.1) in let strip = sym (bit_is s.strip (strip_bit bs) h.1.strip) in let csum = sym (bit_is s.csum (csum_bit bs) h.1.csum) in
    passes _ _ (ap (rss_fault bs) same ∙ told.0) ∙ (λ i. Some (record old { rss = rss i; strip = strip i; csum = csum i }))

table_passes : (bs : List ℕ) (rx : ℕ) → rss_bit bs ≡ 1 → rss_fault bs rx ≡ None → table_fault bs rx ≡ None
unfolding rss_fault
table_passes bs rx on e = (or_else_none (config_fault bs) (table_fault bs rx) (step (nat_lt (features bs) FEATURES_END)
    (subst (λ (k : ℕ). (if nat_lt (features bs) FEATURES_END then (if k == 0 then None else or_else (config_fault bs) (table_fault bs rx)) else Some (RssFault (features bs))) ≡ None) on e))).1
  where
    step : (b : Bool) → (if b then or_else (config_fault bs) (table_fault bs rx) else Some (RssFault (features bs))) ≡ None → or_else (config_fault bs) (table_fault bs rx) ≡ None
    step true h = h
    step false h = absurd (cc h)

pub table_taken : (old : SetupView) (r : RssView) (bs : List ℕ) (s : Setup) (q : Rss) → Reads bs (Ok s) → old.rx_queues ≡ s.rx_queues → old.rss ≡ Some r → s.rss ≡ Some q
    → updated Table old bs ≡ Some (record old { rss = Some (record r { size = q.size; table = q.table }) })
table_taken old r bs s q h same has on =
    let told : TellsRss bs (Some q) = subst (TellsRss bs) on h.1.rss in
    let none : rss_fault bs old.rx_queues ≡ None = ap (rss_fault bs) same ∙ (rss_agrees bs s h).0 in
    ap (λ o. with_table old o bs) has ∙ passes _ _ (table_passes bs old.rx_queues told.0 none)
    ∙ (λ i. Some (record old { rss = Some (record r { size = sym told.1.size i; table = sym told.1.table i }) }))
