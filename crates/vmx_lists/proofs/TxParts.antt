-- The rule of a transmit queue at the start, where the seat is cut in two and where the two are joined, and where notes are given and heard.
use Rattle.std.proofs.Common.{◌≡◌, ◌≢◌, ℕ, suc, ◌+◌, ◌<◌, ◌≤◌, inl, inr, List, [], ◌∷◌, length, take, drop, set, Bool, true, false, true≢false, cond, sym, refl, ap, ◌∙◌, subst, ⊎_elim, arith, append-nil, mod-lt, take-append-drop, nat_lt}
use Rattle.std.proofs.lemmas.List.{length-map}
use Rattle.std.proofs.lemmas.List.Elements.{All-nil}
use mathlib.Core.List.{IsPrefix}
use mathlib.Core.Option.{none, some, some-ne-none}
use lib.ListN.{get_elem?}
use Rattle.atomic_table.specs.Table.{Me, step, Allows, Splits, Joins, opening}
use Rattle.atomic_table.proofs.Lists.{at_set, some_there}
use Rattle.vmx_ring_laws.specs.Views.{all_set, all_snoc, total_set, total_snoc, total_same}
use Rattle.vmx_ring_laws.specs.Lists.{prefix_beside_take}
use Rattle.vmx_ring_laws.specs.Steps.{stays}
use Rattle.vmx_ends.specs.declared.made.TxMade.{TxMade}
use Rattle.vmx_ends.specs.declared.frames.Sent.{Sent}
use Rattle.vmx_ends.specs.Frames.{IsComparable, longer, larger, sent_of}
use Rattle.vmx_ends.specs.Transmit.{descriptors}
use Rattle.vmx_lists.specs.declared.tx.log.TxLog.{TxLog}
use Rattle.vmx_lists.specs.declared.tx.log.TxParcel.{TxParcel}
use Rattle.vmx_lists.specs.TxRing.{Story, Fits, Drivers, Devices, Queue, one_if, by_driver, by_device, nobody, newcomer, driver_part, device_part, together, gave_driver, driver_slip, gave_device, device_slip, hears_device, hears_driver}
use Rattle.vmx_lists.specs.TxPlays.{met, driver_told, device_told}
use Rattle.vmx_ends.specs.TransmitCounts.{parts as descriptor_parts}
use Rattle.vmx_lists.proofs.TxCounts.{MayGo}
use Rattle.vmx_lists.proofs.TxViews.{same_driver, same_device}

pick_longer : (F : List Sent → Type 0) (xs ys : List Sent) → F xs → F ys → F (longer xs ys)
pick_longer F xs ys p q = by_case (nat_lt (length xs) (length ys))
  where
    by_case : (b : Bool) → F (cond b ys xs)
    by_case true = q
    by_case false = p

pick_larger : (F : ℕ → Type 0) (a b : ℕ) → F a → F b → F (larger a b)
pick_larger F a b p q = by_case (nat_lt a b)
  where
    by_case : (c : Bool) → F (cond c b a)
    by_case true = q
    by_case false = p

pub begins : (m : TxMade) (parcels : List TxParcel) → 0 < m.size → 0 < m.piece → length parcels ≡ m.size → m.full ≡ true → Queue (opening (0 ∷ 0 ∷ []) parcels (newcomer m))
begins m parcels pos piece many full = record {
  story = record { made = m; slots = m.size; driver = 0; device = 0; sent = []; taken = []; completed = 0; reaped = 0; filling = false; emptying = false; driver_given = 0; driver_heard = 0; device_given = 0; device_heard = 0 };
  ring = record {
    some_slot = pos;
    sized = refl;
    full = full;
    piece = piece;
    as_many_slots = length-map _ _ ∙ many;
    two_words = refl;
    reaped_first = omega arith;
    completed_first = omega arith;
    one_ahead = omega arith;
    taken_first = omega arith;
    taken_is = refl;
    exact = refl;
    frames = All-nil MayGo;
    within = omega arith;
    room = λ e. absurd (true≢false (sym e));
    out = λ e. absurd (true≢false (sym e));
    posted_word = refl;
    completed_word = refl;
    at_home = λ p le less filled emptied. some_there parcels _ (let low = mod-lt p pos in omega arith);
    shows = λ p s le e. absurd (some-ne-none s (sym e));
  };
  each = all_snoc (Fits _) [] (newcomer m)
      record {
        driver's = λ _. record { seat_is = refl; made_is = refl; told_is = refl; sent_is = refl; reaped_is = refl; busy_is = refl; given_is = refl; heard_is = refl };
        device's = λ _. record { seat_is = refl; made_is = refl; told_is = refl; taken_is = refl; completed_is = refl; busy_is = refl; given_is = refl; heard_is = refl };
        heard_sent = ([], refl);
        heard_completed = omega arith;
        latest = ([], refl);
        latest_done = omega arith;
        of_driver = λ e. absurd (true≢false (sym e));
        of_device = λ e. absurd (true≢false (sym e));
      }
      (λ j u less e. absurd (omega arith));
  driver_notes = refl;
  device_notes = refl;
}

nobody's : (y : Story) (j : ℕ) → Fits y j nobody
nobody's y j = record { driver's = λ e. absurd (true≢false (sym e)); device's = λ e. absurd (true≢false (sym e)); heard_sent = (y.sent, refl); heard_completed = omega arith; latest = (y.sent, refl); latest_done = omega arith; of_driver = λ e. absurd (true≢false (sym e)); of_device = λ e. absurd (true≢false (sym e)) }

-- a seat whose parts are given anew, where nothing changes but seats and the numbers of notes
again : (y : Story) (driver device vg vh dg dh : ℕ) (j : ℕ) (u : TxLog) → Fits y j u → (u.sends ≡ true → Drivers (record y { driver = driver; device = device; driver_given = vg; driver_heard = vh; device_given = dg; device_heard = dh }) j u)
    → (u.takes ≡ true → Devices (record y { driver = driver; device = device; driver_given = vg; driver_heard = vh; device_given = dg; device_heard = dh }) j u) → Fits (record y { driver = driver; device = device; driver_given = vg; driver_heard = vh; device_given = dg; device_heard = dh }) j u
again y driver device vg vh dg dh j u f a b = record { driver's = a; device's = b; heard_sent = f.heard_sent; heard_completed = f.heard_completed; latest = f.latest; latest_done = f.latest_done; of_driver = f.of_driver; of_device = f.of_device }

-- the driver's seat is cut in two
pub cut : (id : ℕ) (v : TxLog) → v.sends ≡ true → v.takes ≡ true → v.tells_sent ≡ false → v.tells_taken ≡ false → Splits Queue id v (driver_part v) (device_part v)
cut id v a b c d s l at =
    let y : Story = l.story in let own = l.each id v at in let left : TxLog = driver_part v in let right : TxLog = device_part v in let vs : List TxLog = set s.views id left in
    let y' : Story = record y { device = length vs } in let drv = own.driver's a in let dev = own.device's b in record {
      story = y';
      ring = l.ring;
      each = all_snoc (Fits y') vs right
          record {
            driver's = λ e. absurd (true≢false (sym e));
            device's = λ _. record { seat_is = refl; made_is = dev.made_is; told_is = dev.told_is; taken_is = dev.taken_is; completed_is = dev.completed_is; busy_is = dev.busy_is; given_is = dev.given_is; heard_is = dev.heard_is };
            heard_sent = own.heard_sent;
            heard_completed = own.heard_completed;
            latest = own.latest;
            latest_done = own.latest_done;
            of_driver = own.of_driver;
            of_device = own.of_device;
          }
          (λ j u _. all_set (Fits y') s.views id left
          record {
            driver's = λ _. record { seat_is = drv.seat_is; made_is = drv.made_is; told_is = drv.told_is; sent_is = drv.sent_is; reaped_is = drv.reaped_is; busy_is = drv.busy_is; given_is = drv.given_is; heard_is = drv.heard_is };
            device's = λ e. absurd (true≢false (sym e));
            heard_sent = own.heard_sent;
            heard_completed = own.heard_completed;
            latest = own.latest;
            latest_done = own.latest_done;
            of_driver = own.of_driver;
            of_device = own.of_device;
          }
          (λ i x apart e. let f = l.each i x e in again y y.driver (length vs) y.driver_given y.driver_heard y.device_given y.device_heard i x f
          (λ may. same_driver y y.taken y.completed y.emptying (length vs) y.device_given y.device_heard i x (f.driver's may))
          (λ may. absurd (apart ((f.device's may).seat_is ∙ sym dev.seat_is))))
          j u);
      driver_notes = let p = total_snoc by_driver vs right in let q = total_same by_driver s.views id v left at refl in let o = l.driver_notes in let z = ap one_if c in omega arith;
      device_notes = let p = total_snoc by_device vs right in let q = total_same by_device s.views id v left at refl in let o = l.device_notes in let z = ap one_if d in omega arith;
    }

-- the driver's seat takes in the device's
pub meets : (id : ℕ) (v : TxLog) (other : ℕ) (w : TxLog) → v.sends ≡ true → v.takes ≡ false → w.takes ≡ true → w.sends ≡ false → w.tells_sent ≡ false → w.tells_taken ≡ false → Joins Queue id v other w (together v w) nobody
meets id v other w a away b away' c d s l at two at' =
    let y : Story = l.story in let both : TxLog = together v w in let own = l.each id v at in let drv = own.driver's a in let vs : List TxLog = set s.views id both in
    let was : get_elem? s.views other ≡ some w = ⊎_elim (λ x. absurd (two x.0)) (λ x. x.1) (at_set s.views id other both w at') in let dev = (l.each other w was).device's b in
    let y' : Story = record y { device = id } in record {
      story = y';
      ring = l.ring;
      each = all_set (Fits y') vs other nobody (nobody's y' other)
          (λ j u apart e. all_set (λ i x. i ≢ other → Fits y' i x) s.views id both
          (λ _. record {
            driver's = λ _. record { seat_is = drv.seat_is; made_is = drv.made_is; told_is = dev.made_is; sent_is = drv.sent_is; reaped_is = drv.reaped_is; busy_is = drv.busy_is; given_is = drv.given_is; heard_is = drv.heard_is };
            device's = λ _. record { seat_is = refl; made_is = drv.made_is; told_is = dev.made_is; taken_is = dev.taken_is; completed_is = dev.completed_is; busy_is = dev.busy_is; given_is = dev.given_is; heard_is = dev.heard_is };
            heard_sent = own.heard_sent;
            heard_completed = own.heard_completed;
            latest = own.latest;
            latest_done = own.latest_done;
            of_driver = own.of_driver;
            of_device = own.of_device;
          })
          (λ i x not e' off. let f = l.each i x e' in again y y.driver id y.driver_given y.driver_heard y.device_given y.device_heard i x f
          (λ may. same_driver y y.taken y.completed y.emptying id y.device_given y.device_heard i x (f.driver's may))
          (λ may. absurd (off ((f.device's may).seat_is ∙ sym dev.seat_is))))
          j u e apart);
      driver_notes = ap (λ (n : ℕ). n + y.device_heard) (total_same by_driver vs other w nobody at' (ap one_if (sym c)) ∙ total_same by_driver s.views id v both at refl) ∙ l.driver_notes;
      device_notes = ap (λ (n : ℕ). n + y.driver_heard) (total_same by_device vs other w nobody at' (ap one_if (sym d)) ∙ total_same by_device s.views id v both at refl) ∙ l.device_notes;
    }

-- a note of the driver's end
pub gives_driver : (id : ℕ) (v : TxLog) → v.sends ≡ true → v.takes ≡ false → Splits Queue id v (gave_driver v) (driver_slip v)
gives_driver id v a b s l at =
    let y : Story = l.story in let own = l.each id v at in let left : TxLog = gave_driver v in let right : TxLog = driver_slip v in let vs : List TxLog = set s.views id left in
    let mine = own.driver's a in let y' : Story = record y { driver_given = suc y.driver_given } in let r = l.ring.reaped_first in let e1 = mine.reaped_is in record {
      story = y';
      ring = l.ring;
      each = all_snoc (Fits y') vs right
          record { driver's = λ e. absurd (true≢false (sym e)); device's = λ e. absurd (true≢false (sym e)); heard_sent = (y.sent, refl); heard_completed = omega arith; latest = ([], append-nil v.sent ∙ mine.sent_is); latest_done = omega arith; of_driver = λ _. mine.made_is; of_device = λ e. absurd (true≢false (sym e)) }
          (λ j u _. all_set (Fits y') s.views id left
          record {
            driver's = λ _. record { seat_is = mine.seat_is; made_is = mine.made_is; told_is = mine.told_is; sent_is = mine.sent_is; reaped_is = mine.reaped_is; busy_is = mine.busy_is; given_is = ap suc mine.given_is; heard_is = mine.heard_is };
            device's = λ e. absurd (true≢false (sym e ∙ b));
            heard_sent = own.heard_sent;
            heard_completed = own.heard_completed;
            latest = own.latest;
            latest_done = own.latest_done;
            of_driver = own.of_driver;
            of_device = own.of_device;
          }
          (λ i x apart e. let f = l.each i x e in again y y.driver y.device (suc y.driver_given) y.driver_heard y.device_given y.device_heard i x f
          (λ may. absurd (apart ((f.driver's may).seat_is ∙ sym mine.seat_is)))
          (λ may. same_device y y.sent y.reaped y.filling y.driver (suc y.driver_given) y.driver_heard i x (f.device's may)))
          j u);
      driver_notes = let p = total_snoc by_driver vs right in let q = total_same by_driver s.views id v left at refl in let o = l.driver_notes in omega arith;
      device_notes = let p = total_snoc by_device vs right in let q = total_same by_device s.views id v left at refl in let o = l.device_notes in omega arith;
    }

-- a note of the device's end
pub gives_device : (id : ℕ) (v : TxLog) → v.takes ≡ true → v.sends ≡ false → Splits Queue id v (gave_device v) (device_slip v)
gives_device id v a b s l at =
    let y : Story = l.story in let own = l.each id v at in let left : TxLog = gave_device v in let right : TxLog = device_slip v in let vs : List TxLog = set s.views id left in
    let mine = own.device's a in let y' : Story = record y { device_given = suc y.device_given } in let e1 = mine.completed_is in
    let told : sent_of v.taken ≡ take (length y.taken) y.sent = ap sent_of mine.taken_is ∙ l.ring.taken_is in record {
      story = y';
      ring = l.ring;
      each = all_snoc (Fits y') vs right
          record { driver's = λ e. absurd (true≢false (sym e)); device's = λ e. absurd (true≢false (sym e)); heard_sent = (y.sent, refl); heard_completed = omega arith; latest = subst (λ xs. IsPrefix xs y.sent) (sym told) (drop (length y.taken) y.sent, take-append-drop (length y.taken) y.sent); latest_done = omega arith; of_driver = λ e. absurd (true≢false (sym e)); of_device = λ _. mine.made_is }
          (λ j u _. all_set (Fits y') s.views id left
          record {
            driver's = λ e. absurd (true≢false (sym e ∙ b));
            device's = λ _. record { seat_is = mine.seat_is; made_is = mine.made_is; told_is = mine.told_is; taken_is = mine.taken_is; completed_is = mine.completed_is; busy_is = mine.busy_is; given_is = ap suc mine.given_is; heard_is = mine.heard_is };
            heard_sent = own.heard_sent;
            heard_completed = own.heard_completed;
            latest = own.latest;
            latest_done = own.latest_done;
            of_driver = own.of_driver;
            of_device = own.of_device;
          }
          (λ i x apart e. let f = l.each i x e in again y y.driver y.device y.driver_given y.driver_heard (suc y.device_given) y.device_heard i x f
          (λ may. same_driver y y.taken y.completed y.emptying y.device (suc y.device_given) y.device_heard i x (f.driver's may))
          (λ may. absurd (apart ((f.device's may).seat_is ∙ sym mine.seat_is))))
          j u);
      driver_notes = let p = total_snoc by_driver vs right in let q = total_same by_driver s.views id v left at refl in let o = l.driver_notes in omega arith;
      device_notes = let p = total_snoc by_device vs right in let q = total_same by_device s.views id v left at refl in let o = l.device_notes in omega arith;
    }

pub hears_device_keeps : (id : ℕ) (v : TxLog) (other : ℕ) (w : TxLog) → v.sends ≡ true → v.takes ≡ false → w.tells_taken ≡ true → w.tells_sent ≡ false → Joins Queue id v other w (hears_device v w) nobody
hears_device_keeps id v other w a away b c s l at two at' =
    let y : Story = l.story in let now : TxLog = hears_device v w in let own = l.each id v at in let mine = own.driver's a in let vs : List TxLog = set s.views id now in
    let was : get_elem? s.views other ≡ some w = ⊎_elim (λ x. absurd (two x.0)) (λ x. x.1) (at_set s.views id other now w at') in let theirs = l.each other w was in
    let y' : Story = record y { driver_heard = suc y.driver_heard } in record {
      story = y';
      ring = l.ring;
      each = all_set (Fits y') vs other nobody (nobody's y' other)
          (λ j u _. all_set (Fits y') s.views id now
          record {
            driver's = λ _. record { seat_is = mine.seat_is; made_is = mine.made_is; told_is = theirs.of_device b; sent_is = mine.sent_is; reaped_is = mine.reaped_is; busy_is = mine.busy_is; given_is = mine.given_is; heard_is = ap suc mine.heard_is };
            device's = λ e. absurd (true≢false (sym e ∙ away));
            heard_sent = own.heard_sent;
            heard_completed = pick_larger (λ (k : ℕ). k ≤ y.completed) v.heard_completed w.latest_done own.heard_completed theirs.latest_done;
            latest = theirs.latest;
            latest_done = theirs.latest_done;
            of_driver = own.of_driver;
            of_device = own.of_device;
          }
          (λ i x apart e. let f = l.each i x e in again y y.driver y.device y.driver_given (suc y.driver_heard) y.device_given y.device_heard i x f
          (λ may. absurd (apart ((f.driver's may).seat_is ∙ sym mine.seat_is)))
          (λ may. same_device y y.sent y.reaped y.filling y.driver y.driver_given (suc y.driver_heard) i x (f.device's may)))
          j u);
      driver_notes = ap (λ (n : ℕ). n + y.device_heard) (total_same by_driver vs other w nobody at' (ap one_if (sym c)) ∙ total_same by_driver s.views id v now at refl) ∙ l.driver_notes;
      device_notes = let p = total_set by_device vs other w nobody at' in let q = total_same by_device s.views id v now at refl in let o = l.device_notes in let z = ap one_if b in omega arith;
    }

pub hears_driver_keeps : (id : ℕ) (v : TxLog) (other : ℕ) (w : TxLog) → v.takes ≡ true → v.sends ≡ false → w.tells_sent ≡ true → w.tells_taken ≡ false → Joins Queue id v other w (hears_driver v w) nobody
hears_driver_keeps id v other w a away b c s l at two at' =
    let y : Story = l.story in let now : TxLog = hears_driver v w in let own = l.each id v at in let mine = own.device's a in let vs : List TxLog = set s.views id now in
    let was : get_elem? s.views other ≡ some w = ⊎_elim (λ x. absurd (two x.0)) (λ x. x.1) (at_set s.views id other now w at') in let theirs = l.each other w was in
    let y' : Story = record y { device_heard = suc y.device_heard } in record {
      story = y';
      ring = l.ring;
      each = all_set (Fits y') vs other nobody (nobody's y' other)
          (λ j u _. all_set (Fits y') s.views id now
          record {
            driver's = λ e. absurd (true≢false (sym e ∙ away));
            device's = λ _. record { seat_is = mine.seat_is; made_is = mine.made_is; told_is = theirs.of_driver b; taken_is = mine.taken_is; completed_is = mine.completed_is; busy_is = mine.busy_is; given_is = mine.given_is; heard_is = ap suc mine.heard_is };
            heard_sent = pick_longer (λ l. IsPrefix l y.sent) v.heard_sent w.latest own.heard_sent theirs.latest;
            heard_completed = own.heard_completed;
            latest = theirs.latest;
            latest_done = theirs.latest_done;
            of_driver = own.of_driver;
            of_device = own.of_device;
          }
          (λ i x apart e. let f = l.each i x e in again y y.driver y.device y.driver_given y.driver_heard y.device_given (suc y.device_heard) i x f
          (λ may. same_driver y y.taken y.completed y.emptying y.device y.device_given (suc y.device_heard) i x (f.driver's may))
          (λ may. absurd (apart ((f.device's may).seat_is ∙ sym mine.seat_is))))
          j u);
      driver_notes = let p = total_set by_driver vs other w nobody at' in let q = total_same by_driver s.views id v now at refl in let o = l.driver_notes in let z = ap one_if b in omega arith;
      device_notes = ap (λ (n : ℕ). n + y.driver_heard) (total_same by_device vs other w nobody at' (ap one_if (sym c)) ∙ total_same by_device s.views id v now at refl) ∙ l.device_notes;
    }

pub tells_met : (n id : ℕ) (me : Me TxParcel TxLog) → me.0.sends ≡ true → me.0.takes ≡ true → Allows Queue n id me 0 (λ x. x) (met (step n 0 0 0 none) me)
tells_met n id me a b = stays Queue n id me 0 (met (step n 0 0 0 none) me) (λ s l wide at.
    let v : TxLog = me.0 in let y : Story = l.story in let own = l.each id v at in let drv = own.driver's a in let dev = own.device's b in let r = l.ring in
    let taken : sent_of v.taken ≡ take (length y.taken) y.sent = ap sent_of dev.taken_is ∙ r.taken_is in let c = r.reaped_first in let d = r.completed_first in let e1 = drv.reaped_is in let e2 = dev.completed_is in let e3 = ap length dev.taken_is in
    let within : descriptors y.made y.sent ≤ descriptors y.made (take y.reaped y.sent) + y.made.size = let p = descriptor_parts y.made y.sent y.reaped in let w = r.within in omega arith in (
      refl,
      drv.told_is ∙ sym drv.made_is,
      subst (λ (z : List Sent × List Sent). IsPrefix z.0 z.1) (λ i. (sym taken i, sym drv.sent_is i)) (drop (length y.taken) y.sent, take-append-drop (length y.taken) y.sent),
      omega arith,
      omega arith,
      subst (λ (z : TxMade × List Sent × ℕ). descriptors z.0 z.1 ≤ descriptors z.0 (take z.2 z.1) + z.0.size) (λ i. (sym drv.made_is i, sym drv.sent_is i, sym drv.reaped_is i)) within,
    ))

pub tells_driver : (n id : ℕ) (me : Me TxParcel TxLog) → me.0.sends ≡ true → Allows Queue n id me 0 (λ x. x) (driver_told (step n 0 0 0 none) me)
tells_driver n id me a = stays Queue n id me 0 (driver_told (step n 0 0 0 none) me) (λ s l wide at.
    let v : TxLog = me.0 in let y : Story = l.story in let own = l.each id v at in let mine = own.driver's a in let r = l.ring in let c = r.completed_first in let d = r.taken_first in let e = own.latest_done in let e3 = ap length mine.sent_is in (
      refl,
      mine.told_is ∙ sym mine.made_is,
      subst (IsPrefix v.latest) (sym mine.sent_is) own.latest,
      omega arith,
    ))

pub tells_device : (n id : ℕ) (me : Me TxParcel TxLog) → me.0.takes ≡ true → Allows Queue n id me 0 (λ x. x) (device_told (step n 0 0 0 none) me)
tells_device n id me a = stays Queue n id me 0 (device_told (step n 0 0 0 none) me) (λ s l wide at.
    let v : TxLog = me.0 in let y : Story = l.story in let own = l.each id v at in let mine = own.device's a in let r = l.ring in let t : ℕ = length y.taken in
    let taken : sent_of v.taken ≡ take t y.sent = ap sent_of mine.taken_is ∙ r.taken_is in let e = own.latest_done in let e2 = mine.completed_is in (
      refl,
      mine.told_is ∙ sym mine.made_is,
      omega arith,
      subst (IsComparable v.latest) (sym taken) (prefix_beside_take v.latest y.sent t own.latest),
      subst (λ l. IsComparable l v.heard_sent) (sym taken) (⊎_elim inr inl (prefix_beside_take v.heard_sent y.sent t own.heard_sent)),
    ))
