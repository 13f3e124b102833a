-- What the rule says of the seats, as one end knows it, and what a step of one end leaves of the others.
use Rattle.std.proofs.Common.{◌≡◌, ℕ, ◌+◌, ◌≤◌, List, set, true, false, true≢false, sym, refl, ap, ◌∙◌, subst, arith}
use mathlib.Core.List.{IsPrefix}
use mathlib.Core.Option.{some}
use mathlib.Core.Option as maybe
use lib.ListN.{get_elem?}
use Rattle.atomic_table.specs.Table.{State}
use Rattle.vmx_ring_laws.specs.Views.{all_set, total, total_same}
use Rattle.vmx_ring_laws.specs.Lists.{prefix_trans}
use Rattle.vmx_ends.specs.declared.made.TxMade.{TxMade}
use Rattle.vmx_tx_ring.specs.declared.known.TxKnown.{TxKnown}
use Rattle.vmx_tx_ring.specs.declared.known.TxDriverKnows.{TxDriverKnows}
use Rattle.vmx_tx_ring.specs.declared.known.TxDeviceKnows.{TxDeviceKnows}
use Rattle.vmx_tx_ring.specs.declared.known.TxBuffer.{TxBuffer}
use Rattle.vmx_tx_ring.specs.Rule.{Telling, Story, Ring, Fits, Kept, Queue, by_driver, by_device}

abbrev pub Shelf : Type 0
Shelf = State TxBuffer TxKnown

-- the story as the driver knows it, and as the device does
abbrev pub driver's : Story → ℕ → TxKnown → Story
driver's y seat v = record y { made = v.made; driver_seat = seat; d = v.driver }

abbrev pub device's : Story → ℕ → TxKnown → Story
device's y seat v = record y { made = v.made; device_seat = seat; e = v.device }

pub driver_sees : (Told : Telling) (s : Shelf) (l : Queue Told s) (seat : ℕ) (v : TxKnown) → get_elem? s.views seat ≡ some v → v.drives ≡ true → Kept Told (driver's l.story seat v) s
driver_sees Told s l seat v at may = let own = (l.kept.each seat v at).driver's may in
    subst (λ (z : TxMade × ℕ × TxDriverKnows). Kept Told (record l.story { made = z.0; driver_seat = z.1; d = z.2 }) s) (λ i. (sym own.1 i, sym own.0 i, sym own.3 i)) l.kept

pub device_sees : (Told : Telling) (s : Shelf) (l : Queue Told s) (seat : ℕ) (v : TxKnown) → get_elem? s.views seat ≡ some v → v.serves ≡ true → Kept Told (device's l.story seat v) s
device_sees Told s l seat v at may = let own = (l.kept.each seat v at).device's may in
    subst (λ (z : TxMade × ℕ × TxDeviceKnows). Kept Told (record l.story { made = z.0; device_seat = z.1; e = z.2 }) s) (λ i. (sym own.1 i, sym own.0 i, sym own.3 i)) l.kept

-- A step of the driver keeps the rule where words and slots fit what it then knows.
pub driver_keeps : (Told : Telling) (s : Shelf) (l : Queue Told s) (seat : ℕ) (v : TxKnown) (g : TxDriverKnows) (words : List ℕ) (homes : List (maybe.Option TxBuffer)) → get_elem? s.views seat ≡ some v → v.drives ≡ true → v.serves ≡ false
    → Ring Told v.made g.at l.story.e.at words homes → IsPrefix v.driver.at.sent g.at.sent → g.heard ≡ v.driver.heard → g.notes_given ≡ v.driver.notes_given → g.notes_heard ≡ v.driver.notes_heard
    → Queue Told (record { words = words; homes = homes; views = set s.views seat (record v { driver = g }) })
driver_keeps Told s l seat v g words homes at may not ring grows heard given heard_notes = let z = driver_sees Told s l seat v at may in let y : Story = driver's l.story seat v in let y' : Story = record y { d = g } in let w : TxKnown = record v { driver = g } in
    let own = z.each seat v at in let mine = own.driver's may in record {
      story = y';
      kept = record {
        ring = ring;
        driver_heard = subst (λ (k : ℕ). k ≤ y.e.at.completed) (sym heard) z.driver_heard;
        device_heard = prefix_trans y.e.heard v.driver.at.sent g.at.sent z.device_heard grows;
        each = all_set (Fits y') s.views seat w
            record { driver's = λ _. (refl, refl, mine.2, refl); device's = λ may'. absurd (true≢false (sym may' ∙ not)); frames = prefix_trans v.news.frames v.driver.at.sent g.at.sent own.frames grows; done = own.done; note = own.note }
            (λ j u apart is. let f = z.each j u is in record { driver's = λ may'. absurd (apart (f.driver's may').0); device's = f.device's; frames = prefix_trans u.news.frames v.driver.at.sent g.at.sent f.frames grows; done = f.done; note = f.note });
        driver_notes = ap (λ (c : ℕ). c + y.e.notes_heard) (total_same by_driver s.views seat v w at refl) ∙ z.driver_notes ∙ sym given;
        device_notes = ap (λ (c : ℕ). c + g.notes_heard) (total_same by_device s.views seat v w at refl) ∙ ap (λ (c : ℕ). total by_device s.views + c) heard_notes ∙ z.device_notes;
      };
    }

-- And so does a step of the device.
pub device_keeps : (Told : Telling) (s : Shelf) (l : Queue Told s) (seat : ℕ) (v : TxKnown) (g : TxDeviceKnows) (words : List ℕ) (homes : List (maybe.Option TxBuffer)) → get_elem? s.views seat ≡ some v → v.serves ≡ true → v.drives ≡ false
    → Ring Told v.made l.story.d.at g.at words homes → v.device.at.completed ≤ g.at.completed → g.heard ≡ v.device.heard → g.notes_given ≡ v.device.notes_given → g.notes_heard ≡ v.device.notes_heard
    → Queue Told (record { words = words; homes = homes; views = set s.views seat (record v { device = g }) })
device_keeps Told s l seat v g words homes at may not ring grows heard given heard_notes = let z = device_sees Told s l seat v at may in let y : Story = device's l.story seat v in let y' : Story = record y { e = g } in let w : TxKnown = record v { device = g } in
    let own = z.each seat v at in let mine = own.device's may in let b = z.driver_heard in let c = own.done in record {
      story = y';
      kept = record {
        ring = ring;
        driver_heard = omega arith;
        device_heard = subst (λ l. IsPrefix l y.d.at.sent) (sym heard) z.device_heard;
        each = all_set (Fits y') s.views seat w
            record { driver's = λ may'. absurd (true≢false (sym may' ∙ not)); device's = λ _. (refl, refl, mine.2, refl); frames = own.frames; done = omega arith; note = own.note }
            (λ j u apart is. let f = z.each j u is in let k = f.done in record { driver's = f.driver's; device's = λ may'. absurd (apart (f.device's may').0); frames = f.frames; done = omega arith; note = f.note });
        driver_notes = ap (λ (c : ℕ). c + g.notes_heard) (total_same by_driver s.views seat v w at refl) ∙ ap (λ (c : ℕ). total by_driver s.views + c) heard_notes ∙ z.driver_notes;
        device_notes = ap (λ (c : ℕ). c + y.d.notes_heard) (total_same by_device s.views seat v w at refl) ∙ z.device_notes ∙ sym given;
      };
    }
