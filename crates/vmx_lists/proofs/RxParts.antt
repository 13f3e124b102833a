-- The rule at the start, where the seat is cut in two and where the two are joined, and where notes are given and heard.
use Rattle.std.proofs.Common.{◌≡◌, ◌≢◌, ℕ, suc, ◌+◌, ◌<◌, ◌≤◌, inl, inr, List, [], ◌∷◌, length, take, drop, set, Bool, true, false, true≢false, cond, sym, refl, ap, ◌∙◌, subst, ⊎_elim, arith, append-nil, length-take-le, mod-lt, take-append-drop, All, nat_lt}
use Rattle.std.proofs.lemmas.List.{length-map}
use Rattle.std.proofs.lemmas.List.Elements.{All-nil}
use mathlib.Core.Logic.{dite}
use mathlib.Core.List.{IsPrefix}
use mathlib.Core.Option.{none, some, some-ne-none}
use native.Mathlib.Decide.{dec_le}
use lib.ListN.{get_elem?}
use Rattle.atomic_table.specs.Table.{Me, step, Allows, Splits, Joins, opening}
use Rattle.atomic_table.proofs.Lists.{at_set, some_there}
use Rattle.vmx_ends.specs.declared.made.RxMade.{RxMade}
use Rattle.vmx_ends.specs.declared.frames.Delivery.{Delivery}
use Rattle.vmx_ends.specs.Receive.{used, took1, took2, posted1, posted2}
use Rattle.vmx_ends.specs.ReceiveClauses.{IsRefusal, made_of}
use Rattle.vmx_lists.specs.declared.rx.log.RxLog.{RxLog}
use Rattle.vmx_lists.specs.declared.rx.log.RxParcel.{RxParcel}
use Rattle.vmx_lists.specs.RxRing.{Story, Fits, Devices, Drivers, Queue, ahead, one_if, by_device, by_driver, nobody, newcomer, device_part, driver_part, together, gave_device, device_slip, gave_driver, driver_slip, hears_device, hears_driver}
use Rattle.vmx_lists.specs.RxPlays.{met, device_told, driver_told}
use Rattle.vmx_ends.specs.WalkCounts.{used_prefix, used_take_more}
use Rattle.vmx_ring_laws.specs.Views.{all_set, all_snoc, total_set, total_snoc, total_same}
use Rattle.vmx_ring_laws.specs.Lists.{prefix_trans, prefix_of_take, take_of_prefix}
use Rattle.vmx_ring_laws.specs.Steps.{stays}
use Rattle.vmx_ends.specs.declared.made.RxShape.{RxShape}
use Rattle.vmx_ends.specs.Frames.{IsComparable, longer}
use Rattle.vmx_lists.proofs.RxRings.{IsLong}

pick_case : (F : List Delivery → Type 0) (xs ys : List Delivery) → F xs → F ys → F (longer xs ys)
pick_case F xs ys p q = by_case (nat_lt (length xs) (length ys))
  where
    by_case : (b : Bool) → F (cond b ys xs)
    by_case true = q
    by_case false = p

pub begins : (shape : RxShape) (parcels : List RxParcel) → 0 < shape.size1 → length parcels ≡ shape.size1 → Queue (opening (0 ∷ 0 ∷ []) parcels (newcomer shape))
begins shape parcels pos many = let m : RxMade = made_of shape in record {
  story = record { made = m; slots = m.size1; device = 0; driver = 0; delivered = []; taken = 0; writing = false; reading = false; device_given = 0; device_heard = 0; driver_given = 0; driver_heard = 0 };
  ring = record {
    some_slot = pos;
    sized = refl;
    filled = refl;
    as_many_slots = length-map _ _ ∙ many;
    two_words = refl;
    behind = omega arith;
    within1 = omega arith;
    within2 = omega arith;
    frames = All-nil IsLong;
    each_takes = λ t le. let z : t ≡ 0 = omega arith in subst (λ (t : ℕ). 0 + used took1 (take t []) ≤ 0 + t) (sym z) (omega arith);
    room = λ e. absurd (true≢false (sym e));
    there = λ e. absurd (true≢false (sym e));
    delivered_word = refl;
    received_word = refl;
    in_slot = λ p d le e still. absurd (some-ne-none d (sym e));
    free_slot = λ p le less still. some_there parcels _ (let low = mod-lt p pos in omega arith);
  };
  each = all_snoc (Fits _) [] (newcomer shape)
      record {
        device's = λ _. record { seat_is = refl; made_is = refl; told_is = refl; delivered_is = refl; busy_is = refl; given_is = refl; heard_is = refl; refusals = All-nil (IsRefusal m) };
        driver's = λ _. record { seat_is = refl; made_is = refl; told_is = refl; received_is = refl; busy_is = refl; given_is = refl; heard_is = refl };
        seen = omega arith;
        heard_delivered = ([], refl);
        heard_received = ([], refl);
        latest = ([], refl);
        of_device = λ e. absurd (true≢false (sym e));
        of_driver = λ e. absurd (true≢false (sym e));
        told = ((omega arith), (omega arith));
      }
      (λ j u less e. absurd (omega arith));
  device_notes = refl;
  driver_notes = refl;
}

nobody's : (y : Story) (j : ℕ) → Fits y j nobody
nobody's y j = record { device's = λ e. absurd (true≢false (sym e)); driver's = λ e. absurd (true≢false (sym e)); seen = omega arith; heard_delivered = (y.delivered, refl); heard_received = (take y.taken y.delivered, refl); latest = (y.delivered, refl); of_device = λ e. absurd (true≢false (sym e)); of_driver = λ e. absurd (true≢false (sym e)); told = ((omega arith), (omega arith)) }

-- a seat's part, where the numbers of notes or the seats of the story change
re_device : (y y' : Story) (seat : ℕ) (v : RxLog) → Devices y seat v → seat ≡ y'.device → y'.made ≡ y.made → y'.delivered ≡ y.delivered → y'.writing ≡ y.writing → y'.device_given ≡ y.device_given → y'.device_heard ≡ y.device_heard → Devices y' seat v
re_device y y' seat v o a b c d e f = record { seat_is = a; made_is = o.made_is ∙ sym b; told_is = o.told_is ∙ sym b; delivered_is = o.delivered_is ∙ sym c; busy_is = o.busy_is ∙ sym d; given_is = o.given_is ∙ sym e; heard_is = o.heard_is ∙ sym f; refusals = o.refusals }

re_driver : (y : Story) (device driver dg dh vg vh : ℕ) (seat : ℕ) (v : RxLog) → Drivers y seat v → seat ≡ driver → vg ≡ y.driver_given → vh ≡ y.driver_heard → Drivers (record y { device = device; driver = driver; device_given = dg; device_heard = dh; driver_given = vg; driver_heard = vh }) seat v
re_driver y device driver dg dh vg vh seat v o a e f = record { seat_is = a; made_is = o.made_is; told_is = o.told_is; received_is = o.received_is; busy_is = o.busy_is; given_is = o.given_is ∙ sym e; heard_is = o.heard_is ∙ sym f }

pub parts : (id : ℕ) (v : RxLog) → v.delivers ≡ true → v.receives ≡ true → v.tells_delivered ≡ false → v.tells_received ≡ false → Splits Queue id v (driver_part v) (device_part v)
parts id v a b c d s l at =
    let y : Story = l.story in let own = l.each id v at in let left : RxLog = driver_part v in let right : RxLog = device_part v in let vs : List RxLog = set s.views id left in
    let y' : Story = record y { device = length vs } in let mine = own.device's a in let mine' = own.driver's b in record {
      story = y';
      ring = l.ring;
      each = all_snoc (Fits y') vs right
          record {
            device's = λ _. record { seat_is = refl; made_is = mine.made_is; told_is = mine.told_is; delivered_is = mine.delivered_is; busy_is = mine.busy_is; given_is = mine.given_is; heard_is = mine.heard_is; refusals = mine.refusals };
            driver's = λ e. absurd (true≢false (sym e));
            seen = own.seen;
            heard_delivered = own.heard_delivered;
            heard_received = own.heard_received;
            latest = own.latest;
            of_device = own.of_device;
            of_driver = own.of_driver;
            told = own.told;
          }
          (λ j u _. all_set (Fits y') s.views id left
          record {
            device's = λ e. absurd (true≢false (sym e));
            driver's = λ _. re_driver y (length vs) y.driver y.device_given y.device_heard y.driver_given y.driver_heard id left record { seat_is = mine'.seat_is; made_is = mine'.made_is; told_is = mine'.told_is; received_is = mine'.received_is; busy_is = mine'.busy_is; given_is = mine'.given_is; heard_is = mine'.heard_is } mine'.seat_is refl refl;
            seen = own.seen;
            heard_delivered = own.heard_delivered;
            heard_received = own.heard_received;
            latest = own.latest;
            of_device = own.of_device;
            of_driver = own.of_driver;
            told = own.told;
          }
          (λ i x apart e. let f = l.each i x e in
          record {
            device's = λ may. absurd (apart ((f.device's may).seat_is ∙ sym mine.seat_is));
            driver's = λ may. re_driver y (length vs) y.driver y.device_given y.device_heard y.driver_given y.driver_heard i x (f.driver's may) (f.driver's may).seat_is refl refl;
            seen = f.seen;
            heard_delivered = f.heard_delivered;
            heard_received = f.heard_received;
            latest = f.latest;
            of_device = f.of_device;
            of_driver = f.of_driver;
            told = f.told;
          })
          j u);
      device_notes = let p = total_snoc by_device vs right in let q = total_same by_device s.views id v left at refl in let o = l.device_notes in let z = ap one_if c in omega arith;
      driver_notes = let p = total_snoc by_driver vs right in let q = total_same by_driver s.views id v left at refl in let o = l.driver_notes in let z = ap one_if d in omega arith;
    }

-- the driver's seat takes in the device's
pub meets : (id : ℕ) (v : RxLog) (other : ℕ) (w : RxLog) → v.receives ≡ true → v.busy ≡ false → w.delivers ≡ true → w.busy ≡ false → w.tells_delivered ≡ false → w.tells_received ≡ false → Joins Queue id v other w (together v w) nobody
meets id v other w a idle b idle' c d s l at two at' =
    let y : Story = l.story in let both : RxLog = together v w in let own = l.each id v at in let mine = own.driver's a in let vs : List RxLog = set s.views id both in
    let was : get_elem? s.views other ≡ some w = ⊎_elim (λ x. absurd (two x.0)) (λ x. x.1) (at_set s.views id other both w at') in let theirs = (l.each other w was).device's b in
    let y' : Story = record y { device = id } in record {
      story = y';
      ring = l.ring;
      each = all_set (Fits y') vs other nobody (nobody's y' other)
          (λ j u apart e. all_set (λ i x. i ≢ other → Fits y' i x) s.views id both
          (λ _. record {
            device's = λ _. record { seat_is = refl; made_is = mine.made_is; told_is = theirs.made_is; delivered_is = theirs.delivered_is; busy_is = idle ∙ sym idle' ∙ theirs.busy_is; given_is = theirs.given_is; heard_is = theirs.heard_is; refusals = subst (λ m. All (IsRefusal m) w.refused) (theirs.made_is ∙ sym mine.made_is) theirs.refusals };
            driver's = λ _. record { seat_is = mine.seat_is; made_is = mine.made_is; told_is = theirs.made_is; received_is = mine.received_is; busy_is = mine.busy_is; given_is = mine.given_is; heard_is = mine.heard_is };
            seen = own.seen;
            heard_delivered = own.heard_delivered;
            heard_received = own.heard_received;
            latest = own.latest;
            of_device = own.of_device;
            of_driver = own.of_driver;
            told = own.told;
          })
          (λ i x not e' away. let f = l.each i x e' in
          record {
            device's = λ may. absurd (away ((f.device's may).seat_is ∙ sym theirs.seat_is));
            driver's = λ may. let o = f.driver's may in record { seat_is = o.seat_is; made_is = o.made_is; told_is = o.told_is; received_is = o.received_is; busy_is = o.busy_is; given_is = o.given_is; heard_is = o.heard_is };
            seen = f.seen;
            heard_delivered = f.heard_delivered;
            heard_received = f.heard_received;
            latest = f.latest;
            of_device = f.of_device;
            of_driver = f.of_driver;
            told = f.told;
          })
          j u e apart);
      device_notes = ap (λ (n : ℕ). n + y.driver_heard) (total_same by_device vs other w nobody at' (ap one_if (sym c)) ∙ total_same by_device s.views id v both at refl) ∙ l.device_notes;
      driver_notes = ap (λ (n : ℕ). n + y.device_heard) (total_same by_driver vs other w nobody at' (ap one_if (sym d)) ∙ total_same by_driver s.views id v both at refl) ∙ l.driver_notes;
    }

-- what the device found received is received
tells_seen : (y : Story) (v : RxLog) → {seat : ℕ} → Devices y seat v → v.seen ≤ y.taken
    → (posted1 v.made (take v.seen v.delivered) ≤ posted1 y.made (take y.taken y.delivered)) × (posted2 v.made (take v.seen v.delivered) ≤ posted2 y.made (take y.taken y.delivered))
tells_seen y v o le = subst (λ (z : RxMade × List Delivery). (posted1 v.made (take v.seen v.delivered) ≤ posted1 z.0 (take y.taken z.1)) × (posted2 v.made (take v.seen v.delivered) ≤ posted2 z.0 (take y.taken z.1))) (λ i. (o.made_is i, o.delivered_is i))
    (let a = used_take_more took1 v.delivered v.seen y.taken le in let b = used_take_more took2 v.delivered v.seen y.taken le in ((omega arith), (omega arith)))

-- a note of the device's end
pub gives_device : (id : ℕ) (v : RxLog) → v.delivers ≡ true → v.receives ≡ false → Splits Queue id v (gave_device v) (device_slip v)
gives_device id v a b s l at =
    let y : Story = l.story in let own = l.each id v at in let left : RxLog = gave_device v in let right : RxLog = device_slip v in let vs : List RxLog = set s.views id left in
    let mine = own.device's a in let y' : Story = record y { device_given = suc y.device_given } in record {
      story = y';
      ring = l.ring;
      each = all_snoc (Fits y') vs right
          record { device's = λ e. absurd (true≢false (sym e)); driver's = λ e. absurd (true≢false (sym e)); seen = omega arith; heard_delivered = ([], append-nil v.delivered ∙ mine.delivered_is); heard_received = (take y.taken y.delivered, refl); latest = (y.delivered, refl); of_device = λ _. mine.made_is; of_driver = λ e. absurd (true≢false (sym e)); told = tells_seen y v mine own.seen }
          (λ j u _. all_set (Fits y') s.views id left
          record {
            device's = λ _. record { seat_is = mine.seat_is; made_is = mine.made_is; told_is = mine.told_is; delivered_is = mine.delivered_is; busy_is = mine.busy_is; given_is = ap suc mine.given_is; heard_is = mine.heard_is; refusals = mine.refusals };
            driver's = λ e. absurd (true≢false (sym e ∙ b));
            seen = own.seen;
            heard_delivered = own.heard_delivered;
            heard_received = own.heard_received;
            latest = own.latest;
            of_device = own.of_device;
            of_driver = own.of_driver;
            told = own.told;
          }
          (λ i x apart e. let f = l.each i x e in
          record {
            device's = λ may. absurd (apart ((f.device's may).seat_is ∙ sym mine.seat_is));
            driver's = λ may. let o = f.driver's may in record { seat_is = o.seat_is; made_is = o.made_is; told_is = o.told_is; received_is = o.received_is; busy_is = o.busy_is; given_is = o.given_is; heard_is = o.heard_is };
            seen = f.seen;
            heard_delivered = f.heard_delivered;
            heard_received = f.heard_received;
            latest = f.latest;
            of_device = f.of_device;
            of_driver = f.of_driver;
            told = f.told;
          })
          j u);
      device_notes = let p = total_snoc by_device vs right in let q = total_same by_device s.views id v left at refl in let o = l.device_notes in omega arith;
      driver_notes = let p = total_snoc by_driver vs right in let q = total_same by_driver s.views id v left at refl in let o = l.driver_notes in omega arith;
    }

pub hears_device_keeps : (id : ℕ) (v : RxLog) (other : ℕ) (w : RxLog) → v.receives ≡ true → v.delivers ≡ false → w.tells_delivered ≡ true → w.tells_received ≡ false → Joins Queue id v other w (hears_device v w) nobody
hears_device_keeps id v other w a away b c s l at two at' =
    let y : Story = l.story in let now : RxLog = hears_device v w in let own = l.each id v at in let mine = own.driver's a in let vs : List RxLog = set s.views id now in
    let was : get_elem? s.views other ≡ some w = ⊎_elim (λ x. absurd (two x.0)) (λ x. x.1) (at_set s.views id other now w at') in let theirs = l.each other w was in
    let y' : Story = record y { driver_heard = suc y.driver_heard } in record {
      story = y';
      ring = l.ring;
      each = all_set (Fits y') vs other nobody (nobody's y' other)
          (λ j u _. all_set (Fits y') s.views id now
          record {
            device's = λ e. absurd (true≢false (sym e ∙ away));
            driver's = λ _. record { seat_is = mine.seat_is; made_is = mine.made_is; told_is = theirs.of_device b; received_is = mine.received_is; busy_is = mine.busy_is; given_is = mine.given_is; heard_is = ap suc mine.heard_is };
            seen = own.seen;
            heard_delivered = pick_case (λ l. IsPrefix l y.delivered) v.heard_delivered w.heard_delivered own.heard_delivered theirs.heard_delivered;
            heard_received = own.heard_received;
            latest = theirs.heard_delivered;
            of_device = own.of_device;
            of_driver = own.of_driver;
            told = theirs.told;
          }
          (λ i x apart e. let f = l.each i x e in
          record {
            device's = λ may. let o = f.device's may in record { seat_is = o.seat_is; made_is = o.made_is; told_is = o.told_is; delivered_is = o.delivered_is; busy_is = o.busy_is; given_is = o.given_is; heard_is = o.heard_is; refusals = o.refusals };
            driver's = λ may. absurd (apart ((f.driver's may).seat_is ∙ sym mine.seat_is));
            seen = f.seen;
            heard_delivered = f.heard_delivered;
            heard_received = f.heard_received;
            latest = f.latest;
            of_device = f.of_device;
            of_driver = f.of_driver;
            told = f.told;
          })
          j u);
      device_notes = let p = total_set by_device vs other w nobody at' in let q = total_same by_device s.views id v now at refl in let o = l.device_notes in let z = ap one_if b in omega arith;
      driver_notes = ap (λ (n : ℕ). n + y.device_heard) (total_same by_driver vs other w nobody at' (ap one_if (sym c)) ∙ total_same by_driver s.views id v now at refl) ∙ l.driver_notes;
    }

-- a note of the driver's end
pub gives_driver : (id : ℕ) (v : RxLog) → v.receives ≡ true → v.delivers ≡ false → v.busy ≡ false → Splits Queue id v (gave_driver v) (driver_slip v)
gives_driver id v a b idle s l at =
    let y : Story = l.story in let own = l.each id v at in let left : RxLog = gave_driver v in let right : RxLog = driver_slip v in let vs : List RxLog = set s.views id left in
    let mine = own.driver's a in let y' : Story = record y { driver_given = suc y.driver_given } in
    let got : v.received ≡ take y.taken y.delivered = mine.received_is ∙ ap (λ z. take (ahead z y.taken) y.delivered) (sym mine.busy_is ∙ idle) in record {
      story = y';
      ring = l.ring;
      each = all_snoc (Fits y') vs right
          record { device's = λ e. absurd (true≢false (sym e)); driver's = λ e. absurd (true≢false (sym e)); seen = omega arith; heard_delivered = (y.delivered, refl); heard_received = ([], append-nil v.received ∙ got); latest = (y.delivered, refl); of_device = λ e. absurd (true≢false (sym e)); of_driver = λ _. mine.made_is; told = ((omega arith), (omega arith)) }
          (λ j u _. all_set (Fits y') s.views id left
          record {
            device's = λ e. absurd (true≢false (sym e ∙ b));
            driver's = λ _. record { seat_is = mine.seat_is; made_is = mine.made_is; told_is = mine.told_is; received_is = mine.received_is; busy_is = mine.busy_is; given_is = ap suc mine.given_is; heard_is = mine.heard_is };
            seen = own.seen;
            heard_delivered = own.heard_delivered;
            heard_received = own.heard_received;
            latest = own.latest;
            of_device = own.of_device;
            of_driver = own.of_driver;
            told = own.told;
          }
          (λ i x apart e. let f = l.each i x e in
          record {
            device's = λ may. let o = f.device's may in record { seat_is = o.seat_is; made_is = o.made_is; told_is = o.told_is; delivered_is = o.delivered_is; busy_is = o.busy_is; given_is = o.given_is; heard_is = o.heard_is; refusals = o.refusals };
            driver's = λ may. absurd (apart ((f.driver's may).seat_is ∙ sym mine.seat_is));
            seen = f.seen;
            heard_delivered = f.heard_delivered;
            heard_received = f.heard_received;
            latest = f.latest;
            of_device = f.of_device;
            of_driver = f.of_driver;
            told = f.told;
          })
          j u);
      device_notes = let p = total_snoc by_device vs right in let q = total_same by_device s.views id v left at refl in let o = l.device_notes in omega arith;
      driver_notes = let p = total_snoc by_driver vs right in let q = total_same by_driver s.views id v left at refl in let o = l.driver_notes in omega arith;
    }

pub hears_driver_keeps : (id : ℕ) (v : RxLog) (other : ℕ) (w : RxLog) → v.delivers ≡ true → v.receives ≡ false → w.tells_received ≡ true → w.tells_delivered ≡ false → Joins Queue id v other w (hears_driver v w) nobody
hears_driver_keeps id v other w a away b c s l at two at' =
    let y : Story = l.story in let now : RxLog = hears_driver v w in let own = l.each id v at in let mine = own.device's a in let vs : List RxLog = set s.views id now in
    let was : get_elem? s.views other ≡ some w = ⊎_elim (λ x. absurd (two x.0)) (λ x. x.1) (at_set s.views id other now w at') in let theirs = l.each other w was in
    let y' : Story = record y { device_heard = suc y.device_heard } in record {
      story = y';
      ring = l.ring;
      each = all_set (Fits y') vs other nobody (nobody's y' other)
          (λ j u _. all_set (Fits y') s.views id now
          record {
            device's = λ _. record { seat_is = mine.seat_is; made_is = mine.made_is; told_is = theirs.of_driver b; delivered_is = mine.delivered_is; busy_is = mine.busy_is; given_is = mine.given_is; heard_is = ap suc mine.heard_is; refusals = mine.refusals };
            driver's = λ e. absurd (true≢false (sym e ∙ away));
            seen = own.seen;
            heard_delivered = own.heard_delivered;
            heard_received = pick_case (λ l. IsPrefix l (take y.taken y.delivered)) v.heard_received w.heard_received own.heard_received theirs.heard_received;
            latest = prefix_trans w.heard_received (take y.taken y.delivered) y.delivered theirs.heard_received (drop y.taken y.delivered, take-append-drop y.taken y.delivered);
            of_device = own.of_device;
            of_driver = own.of_driver;
            told = own.told;
          }
          (λ i x apart e. let f = l.each i x e in
          record {
            device's = λ may. absurd (apart ((f.device's may).seat_is ∙ sym mine.seat_is));
            driver's = λ may. let o = f.driver's may in record { seat_is = o.seat_is; made_is = o.made_is; told_is = o.told_is; received_is = o.received_is; busy_is = o.busy_is; given_is = o.given_is; heard_is = o.heard_is };
            seen = f.seen;
            heard_delivered = f.heard_delivered;
            heard_received = f.heard_received;
            latest = f.latest;
            of_device = f.of_device;
            of_driver = f.of_driver;
            told = f.told;
          })
          j u);
      driver_notes = let p = total_set by_driver vs other w nobody at' in let q = total_same by_driver s.views id v now at refl in let o = l.driver_notes in let z = ap one_if b in omega arith;
      device_notes = ap (λ (n : ℕ). n + y.driver_heard) (total_same by_device vs other w nobody at' (ap one_if (sym c)) ∙ total_same by_device s.views id v now at refl) ∙ l.device_notes;
    }

pub tells_met : (n id : ℕ) (me : Me RxParcel RxLog) → me.0.delivers ≡ true → me.0.receives ≡ true → me.0.busy ≡ false → Allows Queue n id me 0 (λ x. x) (met (step n 0 0 0 none) me)
tells_met n id me a b idle = stays Queue n id me 0 (met (step n 0 0 0 none) me) (λ s l wide at.
    let v : RxLog = me.0 in let y : Story = l.story in let own = l.each id v at in let dev = own.device's a in let drv = own.driver's b in let r = l.ring in let t : ℕ = y.taken in
    let got : v.received ≡ take t v.delivered = drv.received_is ∙ (λ i. take (ahead ((sym drv.busy_is ∙ idle) i) t) (sym dev.delivered_is i)) in
    let o = l.device_notes in let i = l.driver_notes in let dg = dev.given_is in let dh = dev.heard_is in let vg = drv.given_is in let vh = drv.heard_is in (
      refl,
      drv.told_is ∙ sym drv.made_is,
      subst (λ xs. IsPrefix xs v.delivered) (sym got) (drop t v.delivered, take-append-drop t v.delivered),
      dev.refusals,
      subst (λ (z : RxMade × List Delivery × List Delivery). used took1 z.1 ≤ posted1 z.0 z.2) (λ i. (sym dev.made_is i, sym dev.delivered_is i, (ap (take t) (sym dev.delivered_is) ∙ sym got) i)) r.within1,
      subst (λ (z : RxMade × List Delivery × List Delivery). used took2 z.1 ≤ posted2 z.0 z.2) (λ i. (sym dev.made_is i, sym dev.delivered_is i, (ap (take t) (sym dev.delivered_is) ∙ sym got) i)) r.within2,
    ))

pub tells_device : (n id : ℕ) (me : Me RxParcel RxLog) → me.0.delivers ≡ true → Allows Queue n id me 0 (λ x. x) (device_told (step n 0 0 0 none) me)
tells_device n id me a = stays Queue n id me 0 (device_told (step n 0 0 0 none) me) (λ s l wide at.
    let v : RxLog = me.0 in let y : Story = l.story in let own = l.each id v at in let mine = own.device's a in (
      refl,
      mine.told_is ∙ sym mine.made_is,
      subst (IsPrefix v.heard_received) (sym mine.delivered_is) (prefix_trans v.heard_received (take y.taken y.delivered) y.delivered own.heard_received (drop y.taken y.delivered, take-append-drop y.taken y.delivered)),
      subst (IsPrefix v.latest) (sym mine.delivered_is) own.latest,
    ))

-- of two prefixes of one list, one is a prefix of the other
beside : (xs sent : List Delivery) (t : ℕ) → IsPrefix xs sent → t ≤ length sent → IsComparable xs (take t sent)
beside xs sent t p le = dite (dec_le (length xs) t)
    (λ less. inl (prefix_of_take xs sent t p less))
    (λ more. inr (take_of_prefix xs sent t p (omega arith)))

pub tells_driver : (n id : ℕ) (me : Me RxParcel RxLog) → me.0.receives ≡ true → me.0.busy ≡ false → Allows Queue n id me 0 (λ x. x) (driver_told (step n 0 0 0 none) me)
tells_driver n id me b idle = stays Queue n id me 0 (driver_told (step n 0 0 0 none) me) (λ s l wide at.
    let v : RxLog = me.0 in let y : Story = l.story in let own = l.each id v at in let mine = own.driver's b in let r = l.ring in let t : ℕ = y.taken in
    let got : v.received ≡ take t y.delivered = mine.received_is ∙ ap (λ z. take (ahead z t) y.delivered) (sym mine.busy_is ∙ idle) in
    let count : length v.received ≡ t = ap length got ∙ length-take-le t y.delivered r.behind in let seen = own.seen in
    let u1 = used_prefix took1 v.latest y.delivered own.latest in let u2 = used_prefix took2 v.latest y.delivered own.latest in let w1 = r.within1 in let w2 = r.within2 in (
      refl,
      mine.told_is ∙ sym mine.made_is,
      subst (IsComparable v.heard_delivered) (sym got) (beside v.heard_delivered y.delivered t own.heard_delivered r.behind),
      subst (IsComparable v.latest) (sym got) (beside v.latest y.delivered t own.latest r.behind),
      subst (λ (z : RxMade × List Delivery). v.told1 ≤ posted1 z.0 z.1) (λ i. (sym mine.made_is i, sym got i)) own.told.0,
      subst (λ (z : RxMade × List Delivery). v.told2 ≤ posted2 z.0 z.1) (λ i. (sym mine.made_is i, sym got i)) own.told.1,
      subst (λ (z : RxMade × List Delivery). used took1 v.latest ≤ posted1 z.0 z.1) (λ i. (sym mine.made_is i, sym got i)) (omega arith),
      subst (λ (z : RxMade × List Delivery). used took2 v.latest ≤ posted2 z.0 z.1) (λ i. (sym mine.made_is i, sym got i)) (omega arith),
    ))
