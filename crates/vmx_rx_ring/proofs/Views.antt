-- What the rule says of the seats, as one end knows it, and what a step of one end leaves of the others.
use Rattle.std.proofs.Common.{◌≡◌, ℕ, ◌+◌, ◌≤◌, List, slice_set, Bool, true, false, true≢false, sym, refl, ap, ◌∙◌, subst, arith}
use mathlib.Core.List.{IsPrefix}
use mathlib.Core.Option as maybe
use mathlib.Core.Option.{some}
use lib.ListN.{get_elem?}
use Rattle.atomic_table.specs.Table.{State}
use Rattle.vmx_ring_laws.specs.Lists.{prefix_trans}
use Rattle.vmx_ring_laws.specs.Views.{all_set, total, total_same}
use Rattle.vmx_ends.specs.declared.made.RxMade.{RxMade}
use Rattle.vmx_rx_ring.specs.declared.known.Buffer.{Buffer}
use Rattle.vmx_rx_ring.specs.declared.known.DeviceKnows.{DeviceKnows}
use Rattle.vmx_rx_ring.specs.declared.known.DriverKnows.{DriverKnows}
use Rattle.vmx_rx_ring.specs.declared.known.Known.{Known}
use Rattle.vmx_rx_ring.specs.Rule.{Rings, Homes, Story, Knows, IsNews, Fits, Kept, Queue, numbers, by_device, by_driver}
use Rattle.vmx_rx_ring.specs.Tells.{with_device, with_driver}

abbrev pub Table : Type 0
Table = State Buffer Known

-- the story as the device knows it, and as the driver does
abbrev pub device's : Story → ℕ → Known → Story
device's y seat v = record y { made = v.made; device_seat = seat; e = v.device }

abbrev pub driver's : Story → ℕ → Known → Story
driver's y seat v = record y { made = v.made; driver_seat = seat; d = v.driver }

pub device_sees : {how : Bool} (s : Table) (l : Queue how s) (seat : ℕ) (v : Known) → get_elem? s.views seat ≡ some v → v.delivers ≡ true → Kept how (device's l.story seat v) s
device_sees {how} s l seat v at may = let own = (l.kept.each seat v at).device's may in
    subst (λ (z : RxMade × ℕ × DeviceKnows). Kept how (record l.story { made = z.0; device_seat = z.1; e = z.2 }) s) (λ i. (sym own.1 i, sym own.0 i, sym own.2 i)) l.kept

pub driver_sees : {how : Bool} (s : Table) (l : Queue how s) (seat : ℕ) (v : Known) → get_elem? s.views seat ≡ some v → v.receives ≡ true → Kept how (driver's l.story seat v) s
driver_sees {how} s l seat v at may = let own = (l.kept.each seat v at).driver's may in
    subst (λ (z : RxMade × ℕ × DriverKnows). Kept how (record l.story { made = z.0; driver_seat = z.1; d = z.2 }) s) (λ i. (sym own.1 i, sym own.0 i, sym own.2 i)) l.kept

-- a step of the device keeps the rule where words, buffers and what the ends know of each other fit what it then knows
pub device_keeps : {how : Bool} (s : Table) (l : Queue how s) (seat : ℕ) (v : Known) (e : DeviceKnows) (words : List ℕ) (homes : List (maybe.Option Buffer)) → get_elem? s.views seat ≡ some v → v.delivers ≡ true → v.receives ≡ false
    → Rings how v.made words (numbers v.made e l.story.d) → Homes v.made homes (numbers v.made e l.story.d) → Knows v.made e l.story.d
    → IsPrefix v.device.delivered e.delivered → e.notes_given ≡ v.device.notes_given → e.notes_heard ≡ v.device.notes_heard
    → Queue how record { words = words; homes = homes; views = slice_set s.views seat (with_device v e) }
device_keeps {how} s l seat v e words homes at may not rings home knows grows given heard = let z = device_sees s l seat v at may in let y : Story = device's l.story seat v in let y' : Story = record y { e = e } in let w : Known = with_device v e in record {
  story = y';
  kept = record {
    rings = rings;
    homes = home;
    knows = knows;
    each = all_set (Fits y') s.views seat w
        record { device's = λ _. (refl, refl, refl); driver's = λ may'. absurd (true≢false (sym may' ∙ not)); news = news (own (z.each seat v at).news) }
        (λ j u apart is. let f = z.each j u is in record { device's = λ may'. absurd (apart (f.device's may').0); driver's = f.driver's; news = news f.news });
    device_notes = ap (λ (c : ℕ). c + y.d.notes_heard) (total_same by_device s.views seat v w at refl) ∙ z.device_notes ∙ sym given;
    driver_notes = ap (λ (c : ℕ). c + e.notes_heard) (total_same by_driver s.views seat v w at refl) ∙ ap (λ (c : ℕ). total by_driver s.views + c) heard ∙ z.driver_notes;
  };
}
  where
    own : IsNews (device's l.story seat v) v → IsNews (device's l.story seat v) (with_device v e)
    own n = record { device's = n.device's; driver's = n.driver's }

    news : {u : Known} → IsNews (device's l.story seat v) u → IsNews (record (device's l.story seat v) { e = e }) u
    news n = record { device's = λ may'. let a = n.device's may' in (a.0, prefix_trans _ _ _ a.1 grows, a.2, a.3, a.4, a.5); driver's = n.driver's }

pub driver_keeps : {how : Bool} (s : Table) (l : Queue how s) (seat : ℕ) (v : Known) (g : DriverKnows) (words : List ℕ) (homes : List (maybe.Option Buffer)) → get_elem? s.views seat ≡ some v → v.receives ≡ true → v.delivers ≡ false
    → Rings how v.made words (numbers v.made l.story.e g) → Homes v.made homes (numbers v.made l.story.e g) → Knows v.made l.story.e g
    → IsPrefix v.driver.received g.received → v.driver.back1 ≤ g.back1 → v.driver.back2 ≤ g.back2 → g.notes_given ≡ v.driver.notes_given → g.notes_heard ≡ v.driver.notes_heard
    → Queue how record { words = words; homes = homes; views = slice_set s.views seat (with_driver v g) }
driver_keeps {how} s l seat v g words homes at may not rings home knows grows up1 up2 given heard = let z = driver_sees s l seat v at may in let y : Story = driver's l.story seat v in let y' : Story = record y { d = g } in let w : Known = with_driver v g in record {
  story = y';
  kept = record {
    rings = rings;
    homes = home;
    knows = knows;
    each = all_set (Fits y') s.views seat w
        record { device's = λ may'. absurd (true≢false (sym may' ∙ not)); driver's = λ _. (refl, refl, refl); news = news (own (z.each seat v at).news) }
        (λ j u apart is. let f = z.each j u is in record { device's = f.device's; driver's = λ may'. absurd (apart (f.driver's may').0); news = news f.news });
    device_notes = ap (λ (c : ℕ). c + g.notes_heard) (total_same by_device s.views seat v w at refl) ∙ ap (λ (c : ℕ). total by_device s.views + c) heard ∙ z.device_notes;
    driver_notes = ap (λ (c : ℕ). c + y.e.notes_heard) (total_same by_driver s.views seat v w at refl) ∙ z.driver_notes ∙ sym given;
  };
}
  where
    own : IsNews (driver's l.story seat v) v → IsNews (driver's l.story seat v) (with_driver v g)
    own n = record { device's = n.device's; driver's = n.driver's }

    news : {u : Known} → IsNews (driver's l.story seat v) u → IsNews (record (driver's l.story seat v) { d = g }) u
    news n = record {
      device's = λ may'. let a = n.device's may' in let b = a.2 in let c = a.3 in let e4 = a.4 in let e5 = a.5 in (a.0, a.1, omega arith, omega arith, omega arith, omega arith);
      driver's = λ may'. let a = n.driver's may' in let b = a.2 in let c = a.3 in (a.0, prefix_trans _ _ _ a.1 grows, omega arith, omega arith);
    }
