-- The rule at the start, where the seat is cut in two and where the two are joined, and where notes are given and heard.
use Rattle.std.proofs.Common.{◌≡◌, ◌≢◌, ℕ, ◌+◌, ◌*◌, ◌<◌, ◌≤◌, inl, inr, List, [], ◌++◌, length, take, drop, set, Bool, true, false, true≢false, cond, sym, refl, ap, ◌∙◌, subst, ⊎_elim, arith, append-nil, take-append-drop, nat_lt}
use Rattle.std.proofs.lemmas.List.{length-map, replicate-append-replicate}
use Rattle.std.proofs.lemmas.List.Elements.{All-nil}
use mathlib.Core.List.{IsPrefix}
use mathlib.Core.Option.{none, some, some-ne-none}
use lib.ListN.{get_elem?, replicate}
use Rattle.atomic_table.specs.Table.{Me, step, Allows, Splits, Joins, opening}
use Rattle.atomic_table.proofs.Lists.{at_set, some_there}
use Rattle.vmx_ring_laws.specs.Views.{all_set, all_snoc, total_set, total_snoc, total_same}
use Rattle.vmx_ring_laws.specs.Lists.{prefix_beside_take}
use Rattle.vmx_ring_laws.specs.Steps.{stays}
use Rattle.vmx_genring.specs.RingLaws.{begins as ring_begins}
use Rattle.vmx_ends.specs.declared.made.TxMade.{TxMade}
use Rattle.vmx_ends.specs.declared.frames.Sent.{Sent}
use Rattle.vmx_ends.specs.Frames.{IsComparable, longer, larger, sent_of}
use Rattle.vmx_ends.specs.Transmit.{descriptors}
use Rattle.vmx_ends.specs.TransmitCounts.{IsLong, parts as descriptor_parts}
use Rattle.vmx_tx_ring.specs.declared.known.TxKnown.{TxKnown}
use Rattle.vmx_tx_ring.specs.declared.known.TxBuffer.{TxBuffer}
use Rattle.vmx_tx_ring.specs.Rule.{Telling, Begins, HasLawfulMark, Story, Fits, Queue, one_if, by_driver, by_device}
use Rattle.vmx_tx_ring.specs.Seats.{new_driver, new_device, nobody, newcomer, driver_part, device_part, together, gave_driver, driver_slip, gave_device, device_slip, hears_device, hears_driver}
use Rattle.vmx_tx_ring.specs.Tells.{met, driver_told, device_told}
use Rattle.vmx_tx_ring.proofs.Rings.{bounds}
use Rattle.vmx_tx_ring.proofs.Views.{driver's, device's, driver_sees, device_sees}

pick_longer : (F : List Sent → Type 0) (xs ys : List Sent) → F xs → F ys → F (longer xs ys)
pick_longer F xs ys p q = by_case (nat_lt (length xs) (length ys))
  where
    by_case : (b : Bool) → F (cond b ys xs)
    by_case true = q
    by_case false = p

pick_larger : (F : ℕ → Type 0) (a b : ℕ) → F a → F b → F (larger a b)
pick_larger F a b p q = by_case (nat_lt a b)
  where
    by_case : (c : Bool) → F (cond c b a)
    by_case true = q
    by_case false = p

abbrev pub zeros : ℕ → List ℕ
zeros n = replicate n 0

-- zeros in three rows
pub three_rows : (n c k : ℕ) → k ≡ n * 2 + c → zeros k ≡ zeros n ++ (zeros n ++ zeros c)
three_rows n c k is = let e : k ≡ n + (n + c) = omega arith in let z : ℕ = 0 in
    ap zeros e ∙ sym (ap (λ (l : List ℕ). zeros n ++ l) (replicate-append-replicate n c z) ∙ replicate-append-replicate n (n + c) z)

pub begins : (Told : Telling) (count : ℕ → ℕ) (m : TxMade) (words : List ℕ) (buffers : List TxBuffer) → Begins Told count → words ≡ zeros m.size ++ (zeros m.size ++ zeros (count m.size)) → 0 < m.size → 0 < m.piece → length buffers ≡ m.size → m.full ≡ true
    → Queue Told (opening words buffers (newcomer m))
begins Told count m words buffers told are pos piece many full = record {
  story = record { made = m; driver_seat = 0; device_seat = 0; d = new_driver; e = new_device };
  kept = record {
    ring = record {
      words_are = record { firsts = zeros m.size; seconds = zeros m.size; others = zeros (count m.size); are = are; stand = ring_begins m.size 14; told = told m pos };
      core = record {
        some_slot = pos;
        full = full;
        piece = piece;
        reaped_first = omega arith;
        completed_first = omega arith;
        one_ahead = omega arith;
        taken_first = omega arith;
        taken_is = refl;
        exact = refl;
        frames = All-nil IsLong;
        marks = All-nil HasLawfulMark;
        read_is = refl;
        ahead_is = refl;
        hand_is = λ e. absurd (true≢false (sym e));
        begun = omega arith;
        closing_taken = λ e. absurd (true≢false (sym e));
      };
      slots = record {
        as_many = length-map _ _ ∙ many;
        at_home = λ j less filled emptied. some_there buffers j (omega arith);
        shows = λ p x le e. absurd (some-ne-none x (sym e));
      };
    };
    driver_heard = omega arith;
    device_heard = ([], refl);
    each = all_snoc (Fits _) [] (newcomer m)
        record { driver's = λ _. (refl, refl, refl, refl); device's = λ _. (refl, refl, refl, refl); frames = ([], refl); done = omega arith; note = ((λ e. absurd (true≢false (sym e))), (λ e. absurd (true≢false (sym e)))) }
        (λ j u less e. absurd (omega arith));
    driver_notes = refl;
    device_notes = refl;
  };
}

not_so : {A : Type 0} (b : Bool) → b ≡ false → b ≡ true → A
not_so b it e = absurd (true≢false (sym e ∙ it))

nobody_fits : (y : Story) (seat : ℕ) → Fits y seat nobody
nobody_fits y seat = record { driver's = not_so false refl; device's = not_so false refl; frames = (y.d.at.sent, refl); done = omega arith; note = (not_so false refl, not_so false refl) }

-- the driver's seat is cut in two
pub cuts : (Told : Telling) (id : ℕ) (v : TxKnown) → v.drives ≡ true → v.serves ≡ true → v.of_driver ≡ false → v.of_device ≡ false → Splits (Queue Told) id v (driver_part v) (device_part v)
cuts Told id v a b c d s l at =
    let y : Story = l.story in let k = l.kept in let own = k.each id v at in let left : TxKnown = driver_part v in let right : TxKnown = device_part v in let vs : List TxKnown = set s.views id left in
    let dev = own.device's b in let y' : Story = record y { device_seat = length vs } in record {
      story = y';
      kept = record {
        ring = k.ring;
        driver_heard = k.driver_heard;
        device_heard = k.device_heard;
        each = all_snoc (Fits y') vs right
            record { driver's = not_so false refl; device's = λ _. (refl, dev.1, dev.2, dev.3); frames = own.frames; done = own.done; note = own.note }
            (λ j u _. all_set (Fits y') s.views id left
            record { driver's = own.driver's; device's = not_so false refl; frames = own.frames; done = own.done; note = own.note }
            (λ i x apart e. let f = k.each i x e in record { driver's = f.driver's; device's = λ may. absurd (apart ((f.device's may).0 ∙ sym dev.0)); frames = f.frames; done = f.done; note = f.note })
            j u);
        driver_notes = let p = total_snoc by_driver vs right in let q = total_same by_driver s.views id v left at refl in let o = k.driver_notes in let z = ap one_if c in omega arith;
        device_notes = let p = total_snoc by_device vs right in let q = total_same by_device s.views id v left at refl in let o = k.device_notes in let z = ap one_if d in omega arith;
      };
    }

-- the driver's seat takes in the device's
pub meets : (Told : Telling) (id : ℕ) (v : TxKnown) (other : ℕ) (w : TxKnown) → v.drives ≡ true → v.of_driver ≡ false → v.of_device ≡ false → w.serves ≡ true → w.of_driver ≡ false → w.of_device ≡ false → Joins (Queue Told) id v other w (together v w) nobody
meets Told id v other w a na nb b c d s l at two at' =
    let y : Story = l.story in let k = l.kept in let both : TxKnown = together v w in let vs : List TxKnown = set s.views id both in let own = k.each id v at in let drv = own.driver's a in
    let was : get_elem? s.views other ≡ some w = ⊎_elim (λ x. absurd (two x.0)) (λ x. x.1) (at_set s.views id other both w at') in let dev = (k.each other w was).device's b in
    let y' : Story = record y { device_seat = id } in record {
      story = y';
      kept = record {
        ring = k.ring;
        driver_heard = k.driver_heard;
        device_heard = k.device_heard;
        each = all_set (Fits y') vs other nobody (nobody_fits y' other)
            (λ j u away e. all_set (λ i x. i ≢ other → Fits y' i x) s.views id both
            (λ _. record { driver's = λ _. (drv.0, drv.1, dev.1, drv.3); device's = λ _. (refl, drv.1, dev.1, dev.3); frames = own.frames; done = own.done; note = (not_so v.of_driver na, not_so v.of_device nb) })
            (λ i x apart e' off. let f = k.each i x e' in record { driver's = f.driver's; device's = λ may. absurd (off ((f.device's may).0 ∙ sym dev.0)); frames = f.frames; done = f.done; note = f.note })
            j u e away);
        driver_notes = ap (λ (n : ℕ). n + y.e.notes_heard) (total_same by_driver vs other w nobody at' (ap one_if (sym c)) ∙ total_same by_driver s.views id v both at refl) ∙ k.driver_notes;
        device_notes = ap (λ (n : ℕ). n + y.d.notes_heard) (total_same by_device vs other w nobody at' (ap one_if (sym d)) ∙ total_same by_device s.views id v both at refl) ∙ k.device_notes;
      };
    }

-- a note of the driver's end
pub gives_driver : (Told : Telling) (id : ℕ) (v : TxKnown) → v.drives ≡ true → v.serves ≡ false → Splits (Queue Told) id v (gave_driver v) (driver_slip v)
gives_driver Told id v a b s l at =
    let z = driver_sees Told s l id v at a in let y : Story = driver's l.story id v in let left : TxKnown = gave_driver v in let right : TxKnown = driver_slip v in let vs : List TxKnown = set s.views id left in let own = z.each id v at in let mine = own.driver's a in
    let y' : Story = record y { d = left.driver } in let r = z.ring.core.reaped_first in record {
      story = y';
      kept = record {
        ring = z.ring;
        driver_heard = z.driver_heard;
        device_heard = z.device_heard;
        each = all_snoc (Fits y') vs right
            record { driver's = not_so false refl; device's = not_so false refl; frames = ([], append-nil v.driver.at.sent); done = omega arith; note = ((λ _. refl), not_so false refl) }
            (λ j u _. all_set (Fits y') s.views id left
            record { driver's = λ _. (refl, refl, mine.2, refl); device's = not_so v.serves b; frames = own.frames; done = own.done; note = own.note }
            (λ i x apart e. let f = z.each i x e in record { driver's = λ may. absurd (apart (f.driver's may).0); device's = f.device's; frames = f.frames; done = f.done; note = f.note })
            j u);
        driver_notes = let p = total_snoc by_driver vs right in let q = total_same by_driver s.views id v left at refl in let o = z.driver_notes in omega arith;
        device_notes = let p = total_snoc by_device vs right in let q = total_same by_device s.views id v left at refl in let o = z.device_notes in omega arith;
      };
    }

-- a note of the device's end
pub gives_device : (Told : Telling) (id : ℕ) (v : TxKnown) → v.serves ≡ true → v.drives ≡ false → Splits (Queue Told) id v (gave_device v) (device_slip v)
gives_device Told id v a b s l at =
    let z = device_sees Told s l id v at a in let y : Story = device's l.story id v in let left : TxKnown = gave_device v in let right : TxKnown = device_slip v in let vs : List TxKnown = set s.views id left in let own = z.each id v at in let mine = own.device's a in
    let y' : Story = record y { e = left.device } in let t : ℕ = length v.device.at.taken in record {
      story = y';
      kept = record {
        ring = z.ring;
        driver_heard = z.driver_heard;
        device_heard = z.device_heard;
        each = all_snoc (Fits y') vs right
            record { driver's = not_so false refl; device's = not_so false refl; frames = subst (λ xs. IsPrefix xs y.d.at.sent) (sym z.ring.core.taken_is) (drop t y.d.at.sent, take-append-drop t y.d.at.sent); done = omega arith; note = (not_so false refl, (λ _. refl)) }
            (λ j u _. all_set (Fits y') s.views id left
            record { driver's = not_so v.drives b; device's = λ _. (refl, refl, mine.2, refl); frames = own.frames; done = own.done; note = own.note }
            (λ i x apart e. let f = z.each i x e in record { driver's = f.driver's; device's = λ may. absurd (apart (f.device's may).0); frames = f.frames; done = f.done; note = f.note })
            j u);
        driver_notes = let p = total_snoc by_driver vs right in let q = total_same by_driver s.views id v left at refl in let o = z.driver_notes in omega arith;
        device_notes = let p = total_snoc by_device vs right in let q = total_same by_device s.views id v left at refl in let o = z.device_notes in omega arith;
      };
    }

-- the driver hears a note of the device
pub hears_device_keeps : (Told : Telling) (id : ℕ) (v : TxKnown) (other : ℕ) (w : TxKnown) → v.drives ≡ true → v.serves ≡ false → v.of_driver ≡ false → v.of_device ≡ false → w.of_device ≡ true → w.of_driver ≡ false → Joins (Queue Told) id v other w (hears_device v w) nobody
hears_device_keeps Told id v other w a away na nb b c s l at two at' =
    let z = driver_sees Told s l id v at a in let y : Story = driver's l.story id v in let now : TxKnown = hears_device v w in let vs : List TxKnown = set s.views id now in let y' : Story = record y { d = now.driver } in
    let was : get_elem? s.views other ≡ some w = ⊎_elim (λ x. absurd (two x.0)) (λ x. x.1) (at_set s.views id other now w at') in let theirs = z.each other w was in record {
      story = y';
      kept = record {
        ring = z.ring;
        driver_heard = pick_larger (λ (k : ℕ). k ≤ y.e.at.completed) v.driver.heard w.news.done z.driver_heard theirs.done;
        device_heard = z.device_heard;
        each = all_set (Fits y') vs other nobody (nobody_fits y' other)
            (λ j u _. all_set (Fits y') s.views id now
            record { driver's = λ _. (refl, refl, theirs.note.1 b, refl); device's = not_so v.serves away; frames = theirs.frames; done = theirs.done; note = (not_so v.of_driver na, not_so v.of_device nb) }
            (λ i x apart e. let f = z.each i x e in record { driver's = λ may. absurd (apart (f.driver's may).0); device's = f.device's; frames = f.frames; done = f.done; note = f.note })
            j u);
        driver_notes = ap (λ (n : ℕ). n + y.e.notes_heard) (total_same by_driver vs other w nobody at' (ap one_if (sym c)) ∙ total_same by_driver s.views id v now at refl) ∙ z.driver_notes;
        device_notes = let p = total_set by_device vs other w nobody at' in let q = total_same by_device s.views id v now at refl in let o = z.device_notes in let t = ap one_if b in omega arith;
      };
    }

-- the device hears a note of the driver
pub hears_driver_keeps : (Told : Telling) (id : ℕ) (v : TxKnown) (other : ℕ) (w : TxKnown) → v.serves ≡ true → v.drives ≡ false → v.of_driver ≡ false → v.of_device ≡ false → w.of_driver ≡ true → w.of_device ≡ false → Joins (Queue Told) id v other w (hears_driver v w) nobody
hears_driver_keeps Told id v other w a away na nb b c s l at two at' =
    let z = device_sees Told s l id v at a in let y : Story = device's l.story id v in let now : TxKnown = hears_driver v w in let vs : List TxKnown = set s.views id now in let y' : Story = record y { e = now.device } in
    let was : get_elem? s.views other ≡ some w = ⊎_elim (λ x. absurd (two x.0)) (λ x. x.1) (at_set s.views id other now w at') in let theirs = z.each other w was in record {
      story = y';
      kept = record {
        ring = z.ring;
        driver_heard = z.driver_heard;
        device_heard = pick_longer (λ l. IsPrefix l y.d.at.sent) v.device.heard w.news.frames z.device_heard theirs.frames;
        each = all_set (Fits y') vs other nobody (nobody_fits y' other)
            (λ j u _. all_set (Fits y') s.views id now
            record { driver's = not_so v.drives away; device's = λ _. (refl, refl, theirs.note.0 b, refl); frames = theirs.frames; done = theirs.done; note = (not_so v.of_driver na, not_so v.of_device nb) }
            (λ i x apart e. let f = z.each i x e in record { driver's = f.driver's; device's = λ may. absurd (apart (f.device's may).0); frames = f.frames; done = f.done; note = f.note })
            j u);
        driver_notes = let p = total_set by_driver vs other w nobody at' in let q = total_same by_driver s.views id v now at refl in let o = z.driver_notes in let t = ap one_if b in omega arith;
        device_notes = ap (λ (n : ℕ). n + y.d.notes_heard) (total_same by_device vs other w nobody at' (ap one_if (sym c)) ∙ total_same by_device s.views id v now at refl) ∙ z.device_notes;
      };
    }

-- what a load tells of the two ends where one seat has both
pub tells_met : (Told : Telling) (n id : ℕ) (me : Me TxBuffer TxKnown) → me.0.drives ≡ true → me.0.serves ≡ true → Allows (Queue Told) n id me 0 (λ x. x) (met (step n 0 0 0 none) me)
tells_met Told n id me a b = stays (Queue Told) n id me 0 (met (step n 0 0 0 none) me) (λ s l wide at.
    let v : TxKnown = me.0 in let y : Story = driver's l.story id v in let z = driver_sees Told s l id v at a in let own = z.each id v at in let drv = own.driver's a in let dev = own.device's b in let r = z.ring in let c = r.core in
    let e = v.device.at in let t : ℕ = length e.taken in let same = dev.3 in
    let taken : IsPrefix (sent_of e.taken) v.driver.at.sent = subst (λ x. IsPrefix (sent_of x.at.taken) v.driver.at.sent) (sym same) (subst (λ xs. IsPrefix xs v.driver.at.sent) (sym c.taken_is) (drop (length y.e.at.taken) v.driver.at.sent, take-append-drop (length y.e.at.taken) v.driver.at.sent)) in
    let order : (v.driver.at.reaped ≤ e.completed) × (e.completed ≤ length e.taken) = subst (λ x. (v.driver.at.reaped ≤ x.at.completed) × (x.at.completed ≤ length x.at.taken)) (sym same) ((let f = c.reaped_first in omega arith), c.completed_first) in
    let within : descriptors v.made v.driver.at.sent ≤ descriptors v.made (take v.driver.at.reaped v.driver.at.sent) + v.made.size = let p = descriptor_parts v.made v.driver.at.sent v.driver.at.reaped in let bd = bounds Told v.made v.driver.at y.e.at s.words s.homes r in let b2 = bd.room in let b4 = bd.posted_in in omega arith in
    (refl, drv.2, taken, order.0, order.1, within))

-- what it tells of the last note that an end heard
pub tells_driver : (Told : Telling) (n id : ℕ) (me : Me TxBuffer TxKnown) → me.0.drives ≡ true → Allows (Queue Told) n id me 0 (λ x. x) (driver_told (step n 0 0 0 none) me)
tells_driver Told n id me a = stays (Queue Told) n id me 0 (driver_told (step n 0 0 0 none) me) (λ s l wide at.
    let z = driver_sees Told s l id me.0 at a in let own = z.each id me.0 at in let c = z.ring.core.completed_first in let d = z.ring.core.taken_first in let e = own.done in (refl, (own.driver's a).2, own.frames, omega arith))

pub tells_device : (Told : Telling) (n id : ℕ) (me : Me TxBuffer TxKnown) → me.0.serves ≡ true → Allows (Queue Told) n id me 0 (λ x. x) (device_told (step n 0 0 0 none) me)
tells_device Told n id me a = stays (Queue Told) n id me 0 (device_told (step n 0 0 0 none) me) (λ s l wide at.
    let v : TxKnown = me.0 in let z = device_sees Told s l id v at a in let own = z.each id v at in let t : ℕ = length v.device.at.taken in let sent = l.story.d.at.sent in let taken = z.ring.core.taken_is in (
      refl,
      (own.device's a).2,
      own.done,
      subst (IsComparable v.news.frames) (sym taken) (prefix_beside_take v.news.frames sent t own.frames),
      subst (λ l. IsComparable l v.device.heard) (sym taken) (⊎_elim inr inl (prefix_beside_take v.device.heard sent t z.device_heard)),
    ))
