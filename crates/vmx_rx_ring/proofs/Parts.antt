-- The rule where the seat with both ends is cut in two, where the two meet, and where notes are given and heard.
use Rattle.std.proofs.Common.{◌≡◌, ◌≢◌, ℕ, suc, ◌+◌, ◌<◌, ◌≤◌, List, [], length, slice_set, Bool, true, false, true≢false, sym, refl, ap, ◌∙◌, subst, ⊎_elim, arith, append-nil}
use mathlib.Core.List.{IsPrefix}
use mathlib.Core.Option.{some, none}
use lib.ListN.{get_elem?}
use Rattle.atomic_table.specs.Table.{Splits, Joins, step, Allows}
use Rattle.atomic_table.proofs.Lists.{at_set}
use Rattle.vmx_ring_laws.specs.Lists.{longer_of, prefix_trans}
use Rattle.vmx_ring_laws.specs.Views.{all_set, all_snoc, total_set, total_same, total_snoc}
use Rattle.vmx_ring_laws.specs.Steps.{stays}
use Rattle.vmx_ends.specs.Receive.{used, took1, took2}
use Rattle.vmx_rx_ring.specs.declared.known.DeviceKnows.{DeviceKnows}
use Rattle.vmx_rx_ring.specs.declared.known.DriverKnows.{DriverKnows}
use Rattle.vmx_rx_ring.specs.declared.known.Known.{Known}
use Rattle.vmx_rx_ring.specs.Rule.{Story, IsNews, Fits, Kept, Queue, flag, by_device, by_driver}
use Rattle.vmx_rx_ring.specs.Seats.{nobody, device_part, driver_part, together, device_told, device_note, driver_told, driver_note, hears_driver, hears_device}
use Rattle.vmx_rx_ring.proofs.Views.{device's, driver's, device_sees, driver_sees}
use Rattle.vmx_rx_ring.specs.Tells.{Seated, device_heard, driver_heard, met, Meets, peeked}
use Rattle.vmx_ends.specs.ReceiveClauses.{IsOrdered}
use Rattle.vmx_rx_ring.proofs.DeviceLooks.{posted_full1, posted_full2}
use Rattle.vmx_rx_ring.proofs.DriverSteps.{beside}
use Rattle.atomic_table.specs.Seated.{TableId}
use Rattle.vmx_rx_ring.specs.Shapes.{IsTable}
use Rattle.vmx_ends.specs.declared.made.RxShape.{RxShape}
use Rattle.vmx_ends.specs.declared.made.RxMade.{RxMade}

nobody_fits : (y : Story) (seat : ℕ) → Fits y seat nobody
nobody_fits y seat = record { device's = λ e. absurd (true≢false (sym e)); driver's = λ e. absurd (true≢false (sym e)); news = record { device's = λ e. absurd (true≢false (sym e)); driver's = λ e. absurd (true≢false (sym e)) } }

no_news : (y : Story) (v : Known) → v.of_device ≡ false → v.of_driver ≡ false → IsNews y v
no_news y v a b = record { device's = λ e. absurd (true≢false (sym e ∙ a)); driver's = λ e. absurd (true≢false (sym e ∙ b)) }

-- the same story with other seats
seated : (y : Story) (a b : ℕ) (v : Known) → IsNews y v → IsNews (record y { device_seat = a; driver_seat = b }) v
seated y a b v n = record { device's = n.device's; driver's = n.driver's }

-- the seat with both ends keeps the driver's, and the new one has the device's
pub parts : (how : Bool) (seat : ℕ) (v : Known) → v.delivers ≡ true → v.receives ≡ true → v.of_device ≡ false → v.of_driver ≡ false → Splits (Queue how) seat v (driver_part v) (device_part v)
parts how seat v a b c d s l at =
    let y : Story = l.story in let k = l.kept in let own = k.each seat v at in let vs : List Known = slice_set s.views seat (driver_part v) in let n : ℕ = length vs in let y' : Story = record y { device_seat = n } in let dev = own.device's a in let drv = own.driver's b in record {
      story = y';
      kept = record {
        rings = k.rings;
        homes = k.homes;
        knows = k.knows;
        each = all_snoc (Fits y') vs (device_part v)
            record { device's = λ _. (refl, dev.1, dev.2); driver's = λ e. absurd (true≢false (sym e)); news = no_news y' (device_part v) c d }
            (λ j u _. all_set (Fits y') s.views seat (driver_part v)
            record { device's = λ e. absurd (true≢false (sym e)); driver's = λ _. drv; news = no_news y' (driver_part v) c d }
            (λ i x apart e. let f = k.each i x e in record { device's = λ may. absurd (apart ((f.device's may).0 ∙ sym dev.0)); driver's = f.driver's; news = seated y n y.driver_seat x f.news })
            j u);
        device_notes = let p = total_snoc by_device vs (device_part v) in let q = total_same by_device s.views seat v (driver_part v) at refl in let o = k.device_notes in let z = ap flag c in omega arith;
        driver_notes = let p = total_snoc by_driver vs (device_part v) in let q = total_same by_driver s.views seat v (driver_part v) at refl in let o = k.driver_notes in let z = ap flag d in omega arith;
      };
    }

-- the driver's seat takes in the device's
pub meets : (how : Bool) (seat : ℕ) (v : Known) (other : ℕ) (w : Known) → v.receives ≡ true → w.delivers ≡ true → v.of_device ≡ false → v.of_driver ≡ false → w.of_device ≡ false → w.of_driver ≡ false → Joins (Queue how) seat v other w (together v w) nobody
meets how seat v other w a b na nb c d s l at two at' =
    let y : Story = l.story in let k = l.kept in let both : Known = together v w in let vs : List Known = slice_set s.views seat both in let own = k.each seat v at in let drv = own.driver's a in
    let was : get_elem? s.views other ≡ some w = ⊎_elim (λ x. absurd (two x.0)) (λ x. x.1) (at_set s.views seat other both w at') in let dev = (k.each other w was).device's b in
    let y' : Story = record y { device_seat = seat; e = both.device } in let k' : Kept how (record y { e = w.device }) s = subst (λ (q : DeviceKnows). Kept how (record y { e = q }) s) (sym dev.2) k in let z = k'.knows in record {
      story = y';
      kept = record {
        rings = k'.rings;
        homes = record { as_many_slots = k'.homes.as_many_slots; rooms = k'.homes.rooms; at_home = k'.homes.at_home; filled = k'.homes.filled };
        knows = record {
          full = z.full;
          received = z.received;
          placed = z.placed;
          seen1 = z.seen1;
          seen2 = z.seen2;
          refusals = z.refusals;
          heard = z.heard;
          heard1 = z.heard1;
          heard2 = z.heard2;
          told = z.told;
          latest = record { driver's = (z.latest.driver's.0, dev.1); device's = z.latest.device's; posted = z.latest.posted; gone = z.latest.gone };
        };
        each = all_set (Fits y') vs other nobody (nobody_fits y' other)
            (λ j u apart e. all_set (λ i x. i ≢ other → Fits y' i x) s.views seat both
            (λ _. record { device's = λ _. (refl, drv.1, refl); driver's = λ _. drv; news = no_news y' both na nb })
            (λ i x not_ e' away. let f = k'.each i x e' in record { device's = λ may. absurd (away ((f.device's may).0 ∙ sym dev.0)); driver's = f.driver's; news = record { device's = f.news.device's; driver's = f.news.driver's } })
            j u e apart);
        device_notes = ap (λ (n : ℕ). n + y.d.notes_heard) (total_same by_device vs other w nobody at' (ap flag (sym c)) ∙ total_same by_device s.views seat v both at refl) ∙ k'.device_notes;
        driver_notes = ap (λ (n : ℕ). n + w.device.notes_heard) (total_same by_driver vs other w nobody at' (ap flag (sym d)) ∙ total_same by_driver s.views seat v both at refl) ∙ k'.driver_notes;
      };
    }

-- what is true of the ends stays true where only counts of notes change
counted : (y : Story) (given heard : ℕ) (v : Known) → IsNews y v → IsNews (record y { e = record y.e { notes_given = given; notes_heard = heard } }) v
counted y given heard v n = record { device's = n.device's; driver's = n.driver's }

-- the device gives a note, where nothing is staged: what is gone is what its frames took
pub gives_device : (how : Bool) (seat : ℕ) (v : Known) → v.delivers ≡ true → v.receives ≡ false → v.of_device ≡ false → v.of_driver ≡ false → v.device.gone1 ≡ used took1 v.device.delivered → v.device.gone2 ≡ used took2 v.device.delivered → Splits (Queue how) seat v (device_told v) (device_note v)
gives_device how seat v a b na nb g1 g2 s l at =
    let z = device_sees s l seat v at a in let y : Story = device's l.story seat v in let left : Known = device_told v in let right : Known = device_note v in let vs : List Known = slice_set s.views seat left in let y' : Story = record y { e = left.device } in let k = z.knows in let in1 = z.rings.within1 in let in2 = z.rings.within2 in record {
      story = y';
      kept = record {
        rings = z.rings;
        homes = record { as_many_slots = z.homes.as_many_slots; rooms = z.homes.rooms; at_home = z.homes.at_home; filled = z.homes.filled };
        knows = record { full = k.full; received = k.received; placed = k.placed; seen1 = k.seen1; seen2 = k.seen2; refusals = k.refusals; heard = k.heard; heard1 = k.heard1; heard2 = k.heard2; told = k.told; latest = k.latest };
        each = all_snoc (Fits y') vs right
            record { device's = λ e. absurd (true≢false (sym e)); driver's = λ e. absurd (true≢false (sym e)); news = record { device's = λ _. (refl, ([], append-nil v.device.delivered), k.seen1, k.seen2, omega arith, omega arith); driver's = λ e. absurd (true≢false (sym e)) } }
            (λ j u _. all_set (Fits y') s.views seat left
            record { device's = λ _. (refl, refl, refl); driver's = λ e. absurd (true≢false (sym e ∙ b)); news = no_news y' left na nb }
            (λ i x apart e. let f = z.each i x e in record { device's = λ may. absurd (apart (f.device's may).0); driver's = f.driver's; news = counted y (suc v.device.notes_given) v.device.notes_heard x f.news })
            j u);
        device_notes = let p = total_snoc by_device vs right in let q = total_same by_device s.views seat v left at refl in let o = z.device_notes in omega arith;
        driver_notes = let p = total_snoc by_driver vs right in let q = total_same by_driver s.views seat v left at refl in let o = z.driver_notes in omega arith;
      };
    }

-- the driver gives a note, where it reads no frame
pub gives_driver : (how : Bool) (seat : ℕ) (v : Known) → v.receives ≡ true → v.delivers ≡ false → v.of_device ≡ false → v.of_driver ≡ false → v.driver.back1 ≡ used took1 v.driver.received → v.driver.back2 ≡ used took2 v.driver.received → Splits (Queue how) seat v (driver_told v) (driver_note v)
gives_driver how seat v a b na nb g1 g2 s l at =
    let z = driver_sees s l seat v at a in let y : Story = driver's l.story seat v in let left : Known = driver_told v in let right : Known = driver_note v in let vs : List Known = slice_set s.views seat left in let y' : Story = record y { d = left.driver } in let k = z.knows in record {
      story = y';
      kept = record {
        rings = z.rings;
        homes = record { as_many_slots = z.homes.as_many_slots; rooms = z.homes.rooms; at_home = z.homes.at_home; filled = z.homes.filled };
        knows = record { full = k.full; received = k.received; placed = k.placed; seen1 = k.seen1; seen2 = k.seen2; refusals = k.refusals; heard = k.heard; heard1 = k.heard1; heard2 = k.heard2; told = k.told; latest = k.latest };
        each = all_snoc (Fits y') vs right
            record { device's = λ e. absurd (true≢false (sym e)); driver's = λ e. absurd (true≢false (sym e)); news = record { device's = λ e. absurd (true≢false (sym e)); driver's = λ _. (refl, ([], append-nil v.driver.received), omega arith, omega arith) } }
            (λ j u _. all_set (Fits y') s.views seat left
            record { device's = λ e. absurd (true≢false (sym e ∙ b)); driver's = λ _. (refl, refl, refl); news = no_news y' left na nb }
            (λ i x apart e. let f = z.each i x e in record { device's = f.device's; driver's = λ may. absurd (apart (f.driver's may).0); news = record { device's = f.news.device's; driver's = f.news.driver's } })
            j u);
        device_notes = let p = total_snoc by_device vs right in let q = total_same by_device s.views seat v left at refl in let o = z.device_notes in omega arith;
        driver_notes = let p = total_snoc by_driver vs right in let q = total_same by_driver s.views seat v left at refl in let o = z.driver_notes in omega arith;
      };
    }

-- the device hears a note of the driver
pub hears_driver_keeps : (how : Bool) (seat : ℕ) (v : Known) (other : ℕ) (w : Known) → v.delivers ≡ true → v.receives ≡ false → v.of_device ≡ false → v.of_driver ≡ false → w.of_driver ≡ true → w.of_device ≡ false → Joins (Queue how) seat v other w (hears_driver v w) nobody
hears_driver_keeps how seat v other w a away na nb c d s l at two at' =
    let z = device_sees s l seat v at a in let y : Story = device's l.story seat v in let now : Known = hears_driver v w in let vs : List Known = slice_set s.views seat now in let y' : Story = record y { e = now.device } in let k = z.knows in
    let was : get_elem? s.views other ≡ some w = ⊎_elim (λ x. absurd (two x.0)) (λ x. x.1) (at_set s.views seat other now w at') in let news = (z.each other w was).news.driver's c in
    let heard : IsPrefix now.device.heard y.d.received × (used took1 now.device.heard ≤ y.d.back1) × (used took2 now.device.heard ≤ y.d.back2) = longer_of (λ l. IsPrefix l y.d.received × (used took1 l ≤ y.d.back1) × (used took2 l ≤ y.d.back2)) v.device.heard w.frames (k.heard, k.heard1, k.heard2) (news.1, news.2, news.3) in record {
      story = y';
      kept = record {
        rings = z.rings;
        homes = record { as_many_slots = z.homes.as_many_slots; rooms = z.homes.rooms; at_home = z.homes.at_home; filled = z.homes.filled };
        knows = record {
          full = k.full;
          received = k.received;
          placed = k.placed;
          seen1 = k.seen1;
          seen2 = k.seen2;
          refusals = k.refusals;
          heard = heard.0;
          heard1 = heard.1;
          heard2 = heard.2;
          told = k.told;
          latest = record { driver's = (news.1, news.0); device's = k.latest.device's; posted = k.latest.posted; gone = k.latest.gone };
        };
        each = all_set (Fits y') vs other nobody (nobody_fits y' other)
            (λ j u _. all_set (Fits y') s.views seat now
            record { device's = λ _. (refl, refl, refl); driver's = λ e. absurd (true≢false (sym e ∙ away)); news = no_news y' now na nb }
            (λ i x apart e. let f = z.each i x e in record { device's = λ may. absurd (apart (f.device's may).0); driver's = f.driver's; news = record { device's = f.news.device's; driver's = f.news.driver's } })
            j u);
        driver_notes = let p = total_set by_driver vs other w nobody at' in let q = total_same by_driver s.views seat v now at refl in let o = z.driver_notes in let t = ap flag c in omega arith;
        device_notes = ap (λ (n : ℕ). n + y.d.notes_heard) (total_same by_device vs other w nobody at' (ap flag (sym d)) ∙ total_same by_device s.views seat v now at refl) ∙ z.device_notes;
      };
    }

-- the driver hears a note of the device
pub hears_device_keeps : (how : Bool) (seat : ℕ) (v : Known) (other : ℕ) (w : Known) → v.receives ≡ true → v.delivers ≡ false → v.of_device ≡ false → v.of_driver ≡ false → w.of_device ≡ true → w.of_driver ≡ false → Joins (Queue how) seat v other w (hears_device v w) nobody
hears_device_keeps how seat v other w a away na nb c d s l at two at' =
    let z = driver_sees s l seat v at a in let y : Story = driver's l.story seat v in let now : Known = hears_device v w in let vs : List Known = slice_set s.views seat now in let y' : Story = record y { d = now.driver } in let k = z.knows in
    let was : get_elem? s.views other ≡ some w = ⊎_elim (λ x. absurd (two x.0)) (λ x. x.1) (at_set s.views seat other now w at') in let news = (z.each other w was).news.device's c in
    let heard : IsPrefix now.driver.heard y.e.delivered = longer_of (λ l. IsPrefix l y.e.delivered) v.driver.heard w.frames k.told news.1 in record {
      story = y';
      kept = record {
        rings = z.rings;
        homes = record { as_many_slots = z.homes.as_many_slots; rooms = z.homes.rooms; at_home = z.homes.at_home; filled = z.homes.filled };
        knows = record {
          full = k.full;
          received = k.received;
          placed = k.placed;
          seen1 = k.seen1;
          seen2 = k.seen2;
          refusals = k.refusals;
          heard = k.heard;
          heard1 = k.heard1;
          heard2 = k.heard2;
          told = heard;
          latest = record { driver's = k.latest.driver's; device's = (news.1, news.0); posted = (news.2, news.3); gone = (news.4, news.5) };
        };
        each = all_set (Fits y') vs other nobody (nobody_fits y' other)
            (λ j u _. all_set (Fits y') s.views seat now
            record { device's = λ e. absurd (true≢false (sym e ∙ away)); driver's = λ _. (refl, refl, refl); news = no_news y' now na nb }
            (λ i x apart e. let f = z.each i x e in record { device's = f.device's; driver's = λ may. absurd (apart (f.driver's may).0); news = record { device's = f.news.device's; driver's = f.news.driver's } })
            j u);
        device_notes = let p = total_set by_device vs other w nobody at' in let q = total_same by_device s.views seat v now at refl in let o = z.device_notes in let t = ap flag c in omega arith;
        driver_notes = ap (λ (n : ℕ). n + y.e.notes_heard) (total_same by_driver vs other w nobody at' (ap flag (sym d)) ∙ total_same by_driver s.views seat v now at refl) ∙ z.driver_notes;
      };
    }

-- the loads that tell what was heard, and what stands between the ends that meet
pub tells_device : (how : Bool) (n seat : ℕ) (me : Seated) → me.0.delivers ≡ true → Allows (Queue how) n seat me 0 (λ x. x) (device_heard (step n 0 0 0 none) me)
tells_device how n seat me a = stays (Queue how) n seat me 0 (device_heard (step n 0 0 0 none) me) (λ s l wide at. let z = device_sees s l seat me.0 at a in let k = z.knows in
    (refl, record { made_is = k.latest.driver's.1; latest = prefix_trans _ _ _ k.latest.driver's.0 k.received; heard = prefix_trans _ _ _ k.heard k.received }))

pub tells_driver : (how : Bool) (n seat : ℕ) (me : Seated) → me.0.receives ≡ true → Allows (Queue how) n seat me 0 (λ x. x) (driver_heard (step n 0 0 0 none) me)
tells_driver how n seat me a = stays (Queue how) n seat me 0 (driver_heard (step n 0 0 0 none) me) (λ s l wide at. let z = driver_sees s l seat me.0 at a in let k = z.knows in
    (refl, record { made_is = k.latest.device's.1; latest = beside _ _ _ k.latest.device's.0 k.received; heard = beside _ _ _ k.told k.received; gone = k.latest.gone; posted = k.latest.posted }))

pub tells_met : (how : Bool) (n seat : ℕ) (me : Seated) → me.0.delivers ≡ true → me.0.receives ≡ true → Allows (Queue how) n seat me 0 (λ x. x) (met (step n 0 0 0 none) me)
tells_met how n seat me a b = stays (Queue how) n seat me 0 (met (step n 0 0 0 none) me) (λ s l wide at. let own = l.kept.each seat me.0 at in let dev = own.device's a in let drv = own.driver's b in
    let z : Kept how (record l.story { made = me.0.made; e = me.0.device; d = me.0.driver }) s = subst (λ (q : RxMade × DeviceKnows × DriverKnows). Kept how (record l.story { made = q.0; e = q.1; d = q.2 }) s) (λ i. (sym dev.1 i, sym dev.2 i, sym drv.2 i)) l.kept in
    (refl, record { made_is = z.knows.latest.driver's.1; received = z.knows.received; within = (z.rings.within1, z.rings.within2); refusals = z.knows.refusals; full = z.knows.full }))

pub some_word : (how : Bool) (a b : TableId) (s : RxShape) → IsTable how a b s → 0 < b.words
some_word how a b s t = let same = ap (λ z. z.words) t.0 in let w = t.1 in let z = t.2.0 in omega arith

-- the numbers of ends that meet stand in order
pub ordered : (v : Known) (key : List ℕ) → Meets v → v.device.gone1 ≡ used took1 v.device.delivered → v.device.gone2 ≡ used took2 v.device.delivered → v.driver.back1 ≡ used took1 v.driver.received → v.driver.back2 ≡ used took2 v.driver.received
    → IsOrdered (record { key = key; made = v.made; delivered = v.device.delivered; received = v.driver.received; refused = v.device.refused })
ordered v key m g1 g2 b1 b2 = let w1 = m.within.0 in let w2 = m.within.1 in let p1 = posted_full1 v.made v.driver.received m.full in let p2 = posted_full2 v.made v.driver.received m.full in record { received = m.received; within1 = omega arith; within2 = omega arith; refused = m.refusals }

-- a load that tells nothing
pub peeks : (how : Bool) (n seat : ℕ) (me : Seated) (k : ℕ) → Allows (Queue how) n seat me k (λ x. x) (peeked (step n k 0 0 none) me)
peeks how n seat me k = stays (Queue how) n seat me k (peeked (step n k 0 0 none) me) (λ s l wide at. refl)
