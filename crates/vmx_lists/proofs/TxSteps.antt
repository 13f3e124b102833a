-- Each step of an end of a transmit queue keeps the rule, and what it tells.
use Rattle.std.proofs.Common.{◌≡◌, ◌≢◌, ℕ, suc, ◌+◌, ◌%◌, ◌<◌, ◌≤◌, List, [], ◌∷◌, ◌++◌, length, get_or, take, drop, set, inl, inr, Bool, true, false, true≢false, sym, refl, ap, ◌∙◌, subst, ⊎_elim, arith, le_refl}
use Rattle.std.proofs.lemmas.List.{set-get_or}
use mathlib.Core.Logic.{dite}
use mathlib.Core.Option.{none, some}
use native.Mathlib.Decide.{dec_lt}
use Rattle.atomic_table.specs.Table.{Me, step, keeps, takes as takes_slot, gives, Allows}
use Rattle.vmx_ring_laws.specs.Views.{all_set, total_same}
use Rattle.vmx_ring_laws.specs.Lists.{prefix_longer, prefix_length, there_below, prefix_beside_take, take_one_more}
use Rattle.vmx_ends.specs.declared.frames.Sent.{Sent}
use Rattle.vmx_ends.specs.declared.meta.TxMark.{TxMark}
use Rattle.vmx_ends.specs.declared.frames.Taken.{Taken}
use Rattle.vmx_ends.specs.Frames.{IsMarked, IsComparable, sent_of}
use Rattle.vmx_ends.specs.Transmit.{need, descriptors}
use Rattle.vmx_lists.specs.declared.tx.log.TxLog.{TxLog}
use Rattle.vmx_lists.specs.declared.tx.log.TxParcel.{TxParcel}
use Rattle.vmx_lists.specs.TxRing.{Ring, Story, Fits, Queue, by_driver, by_device}
use Rattle.vmx_lists.specs.TxPlays.{to_fill, driver_opened, with_sent, driver_stored, one_reaped, not_reaped, driver_looked, to_empty, not_taken, device_looked, emptied, device_returned, one_completed, device_stored}
use Rattle.vmx_ends.specs.TransmitCounts.{under_way, sent_of-append, all_at}
use Rattle.vmx_lists.proofs.TxCounts.{MayGo, all_long}
use Rattle.vmx_lists.proofs.TxRings.{opens, posts, reaps, grabs, gives_back, completes}
use Rattle.vmx_lists.proofs.TxViews.{driver's, device's, driver_sees, device_sees, same_driver, same_device}

abbrev M : Type 0
M = Me TxParcel TxLog

abbrev holding : TxLog → ℕ → TxParcel → M
holding v i x = (v, (i, x) ∷ [])

-- another seat, where the driver's part changes
beside_driver : (y : Story) (reaped : ℕ) (filling : Bool) (j : ℕ) (u : TxLog) → j ≢ y.driver → Fits y j u → Fits (record y { reaped = reaped; filling = filling }) j u
beside_driver y reaped filling j u apart f = record {
  driver's = λ may. absurd (apart (f.driver's may).seat_is);
  device's = λ may. same_device y y.sent reaped filling y.driver y.driver_given y.driver_heard j u (f.device's may);
  heard_sent = f.heard_sent;
  heard_completed = f.heard_completed;
  latest = f.latest;
  latest_done = f.latest_done;
  of_driver = f.of_driver;
  of_device = f.of_device;
}

more_sent : (y : Story) (s : Sent) (filling : Bool) (j : ℕ) (u : TxLog) → j ≢ y.driver → Fits y j u → Fits (record y { sent = y.sent ++ s ∷ []; filling = filling }) j u
more_sent y s filling j u apart f = record {
  driver's = λ may. absurd (apart (f.driver's may).seat_is);
  device's = λ may. same_device y (y.sent ++ s ∷ []) y.reaped filling y.driver y.driver_given y.driver_heard j u (f.device's may);
  heard_sent = prefix_longer u.heard_sent y.sent (s ∷ []) f.heard_sent;
  heard_completed = f.heard_completed;
  latest = prefix_longer u.latest y.sent (s ∷ []) f.latest;
  latest_done = f.latest_done;
  of_driver = f.of_driver;
  of_device = f.of_device;
}

-- another seat, where the device's part changes
beside_device : (y : Story) (taken : List Taken) (completed : ℕ) (emptying : Bool) (j : ℕ) (u : TxLog) → y.completed ≤ completed → j ≢ y.device → Fits y j u → Fits (record y { taken = taken; completed = completed; emptying = emptying }) j u
beside_device y taken completed emptying j u up apart f = let a = f.heard_completed in let b = f.latest_done in record {
  driver's = λ may. same_driver y taken completed emptying y.device y.device_given y.device_heard j u (f.driver's may);
  device's = λ may. absurd (apart (f.device's may).seat_is);
  heard_sent = f.heard_sent;
  heard_completed = omega arith;
  latest = f.latest;
  latest_done = omega arith;
  of_driver = f.of_driver;
  of_device = f.of_device;
}

-- the driver's load before a post takes the next slot out
pub driver_opens : (n id : ℕ) (me : M) → me.0.sends ≡ true → me.0.takes ≡ false → me.0.filling ≡ false → me.1 ≡ [] → descriptors me.0.made (drop me.0.reaped me.0.sent) < me.0.made.size → Allows Queue n id me 1 (λ x. x) (driver_opened (step n 1 0 0 none) me)
driver_opens n id me may not idle bare some_free s l wide at _ =
    let v : TxLog = me.0 in let y : Story = driver's l.story n id v false in let z = driver_sees s l n id v false wide at may idle in let r = z.ring in let h : ℕ = length v.sent in
    let x : ℕ = get_or s.words 1 0 in let unmoved : set s.words 1 x ≡ s.words = set-get_or s.words 1 0 in let own = z.each id v at in let mine = own.driver's may in
    let a = r.reaped_first in let b = r.completed_first in let c = r.taken_first in let u = under_way v.made v.sent v.reaped r.piece (all_long v.sent r.frames) in let sized = r.sized in let less : h < v.reaped + n = omega arith in
    let slot = r.at_home h (omega arith) less (λ _. refl) (λ e. absurd (omega arith)) in let w : TxLog = to_fill v in (
      w,
      takes_slot (h % n) slot.0,
      slot.1,
      record {
        story = record y { filling = true };
        ring = subst (λ ws. Ring v.made n ws (set s.homes (h % n) none) v.sent y.taken y.completed v.reaped true y.emptying) (sym unmoved) (opens v.made n s.words s.homes v.sent y.taken y.completed v.reaped y.emptying r less);
        each = all_set (Fits (record y { filling = true })) s.views id w
            record {
              driver's = λ _. record { seat_is = refl; made_is = refl; told_is = mine.told_is; sent_is = refl; reaped_is = refl; busy_is = refl; given_is = refl; heard_is = refl };
              device's = λ gets. absurd (true≢false (sym gets ∙ not));
              heard_sent = own.heard_sent;
              heard_completed = own.heard_completed;
              latest = own.latest;
              latest_done = own.latest_done;
              of_driver = own.of_driver;
              of_device = own.of_device;
            }
            (λ j u apart e. beside_driver y v.reaped true j u apart (z.each j u e));
        driver_notes = ap (λ (c : ℕ). c + y.device_heard) (total_same by_driver s.views id v w at refl) ∙ z.driver_notes;
        device_notes = ap (λ (c : ℕ). c + y.driver_heard) (total_same by_device s.views id v w at refl) ∙ z.device_notes;
      },
      (less, slot.0, ap (λ (c : List (ℕ × TxParcel)). (w, (h % n, slot.0) ∷ c)) bare),
    )

-- the driver's store of the posted number, with the parcel that its slot has
stores_driver : (n id : ℕ) (v : TxLog) (x : TxParcel) → v.sends ≡ true → v.takes ≡ false → v.filling ≡ true → IsMarked (take x.len x.bytes.items) x.mark → descriptors v.made (drop v.reaped v.sent) + need v.made (length (take x.len x.bytes.items)) ≤ v.made.size
    → Allows Queue n id (holding v (length v.sent % n) x) 0 (λ _. length v.sent + 1) (λ _. driver_stored (step n 0 (length v.sent + 1) 0 none) (holding v (length v.sent % n) x) (length v.sent + 1))
stores_driver n id v x may not state frame fits s l wide at _ =
    let y : Story = driver's l.story n id v true in let z = driver_sees s l n id v true wide at may state in let r = z.ring in let own = z.each id v at in let mine = own.driver's may in
    let d : Sent = record { frame = take x.len x.bytes.items; mark = x.mark } in let w : TxLog = record v { filling = false; sent = v.sent ++ d ∷ [] } in let y' : Story = record y { sent = v.sent ++ d ∷ []; filling = false } in (
      w,
      gives,
      tt,
      record {
        story = y';
        ring = posts v.made n s.words s.homes v.sent y.taken y.completed v.reaped y.emptying x d (record { frame = refl; mark = refl }) frame fits r;
        each = all_set (Fits y') s.views id w
            record {
              driver's = λ _. record { seat_is = refl; made_is = refl; told_is = mine.told_is; sent_is = refl; reaped_is = refl; busy_is = refl; given_is = refl; heard_is = refl };
              device's = λ gets. absurd (true≢false (sym gets ∙ not));
              heard_sent = prefix_longer v.heard_sent v.sent (d ∷ []) own.heard_sent;
              heard_completed = own.heard_completed;
              latest = prefix_longer v.latest v.sent (d ∷ []) own.latest;
              latest_done = own.latest_done;
              of_driver = own.of_driver;
              of_device = own.of_device;
            }
            (λ j u apart e. more_sent y d false j u apart (z.each j u e));
        driver_notes = ap (λ (c : ℕ). c + y.device_heard) (total_same by_driver s.views id v w at refl) ∙ z.driver_notes;
        device_notes = ap (λ (c : ℕ). c + y.driver_heard) (total_same by_device s.views id v w at refl) ∙ z.device_notes;
      },
      refl,
    )

pub driver_stores : (n id : ℕ) (me : M) (v : TxLog) (x : TxParcel) (k new : ℕ) → me ≡ holding v (length v.sent % n) x → v.sends ≡ true → v.takes ≡ false → v.filling ≡ true → IsMarked (take x.len x.bytes.items) x.mark
    → descriptors v.made (drop v.reaped v.sent) + need v.made (length (take x.len x.bytes.items)) ≤ v.made.size → k ≡ 0 → new ≡ length v.sent + 1
    → Allows Queue n id me k (λ _. new) (λ _. driver_stored (step n k new 0 none) me new)
driver_stores n id me v x k new is may not state frame fits where_ what =
    subst (λ (z : M × ℕ × ℕ). Allows Queue n id z.0 z.1 (λ _. z.2) (λ _. driver_stored (step n z.1 z.2 0 none) z.0 z.2)) (λ i. (sym is i, sym where_ i, sym what i)) (stores_driver n id v x may not state frame fits)

-- the driver's load of the completed number
pub driver_looks : (n id : ℕ) (me : M) → me.0.sends ≡ true → me.0.takes ≡ false → me.0.filling ≡ false → Allows Queue n id me 1 (λ x. x) (driver_looked (step n 1 0 0 none) me)
driver_looks n id me may not idle s l wide at _ =
    let v : TxLog = me.0 in let y : Story = driver's l.story n id v false in let z = driver_sees s l n id v false wide at may idle in let r = z.ring in
    let x : ℕ = get_or s.words 1 0 in let unmoved : set s.words 1 x ≡ s.words = set-get_or s.words 1 0 in let own = z.each id v at in let mine = own.driver's may in
    let found : x ≡ y.completed = r.completed_word in let b = r.completed_first in let c = r.taken_first in let heard = own.heard_completed in
    dite (dec_lt v.reaped x)
    (λ some_in. let item = there_below v.sent v.reaped (omega arith) in let w : TxLog = one_reaped v in let y' : Story = record y { reaped = suc v.reaped } in (
      w,
      keeps,
      tt,
      record {
        story = y';
        ring = subst (λ ws. Ring v.made n ws s.homes v.sent y.taken y.completed (suc v.reaped) false y.emptying) (sym unmoved) (reaps v.made n s.words s.homes v.sent y.taken y.completed v.reaped false y.emptying item.0 item.1 (omega arith) r);
        each = all_set (Fits y') s.views id w
            record {
              driver's = λ _. record { seat_is = refl; made_is = refl; told_is = mine.told_is; sent_is = refl; reaped_is = refl; busy_is = idle; given_is = refl; heard_is = refl };
              device's = λ gets. absurd (true≢false (sym gets ∙ not));
              heard_sent = own.heard_sent;
              heard_completed = own.heard_completed;
              latest = own.latest;
              latest_done = own.latest_done;
              of_driver = own.of_driver;
              of_device = own.of_device;
            }
            (λ j u apart e. beside_driver y (suc v.reaped) false j u apart (z.each j u e));
        driver_notes = ap (λ (c : ℕ). c + y.device_heard) (total_same by_driver s.views id v w at refl) ∙ z.driver_notes;
        device_notes = ap (λ (c : ℕ). c + y.driver_heard) (total_same by_device s.views id v w at refl) ∙ z.device_notes;
      },
      ((λ _. (refl, omega arith)), (λ few. absurd (omega arith))),
    ))
    (λ none_in. let w : TxLog = not_reaped v in (
      w,
      keeps,
      tt,
      record {
        story = y;
        ring = subst (λ ws. Ring v.made n ws s.homes v.sent y.taken y.completed v.reaped false y.emptying) (sym unmoved) r;
        each = all_set (Fits y) s.views id w
            record {
              driver's = λ _. record { seat_is = refl; made_is = refl; told_is = mine.told_is; sent_is = refl; reaped_is = refl; busy_is = idle; given_is = refl; heard_is = refl };
              device's = λ gets. absurd (true≢false (sym gets ∙ not));
              heard_sent = own.heard_sent;
              heard_completed = own.heard_completed;
              latest = own.latest;
              latest_done = own.latest_done;
              of_driver = own.of_driver;
              of_device = own.of_device;
            }
            (λ j u apart e. z.each j u e);
        driver_notes = ap (λ (c : ℕ). c + y.device_heard) (total_same by_driver s.views id v w at refl) ∙ z.driver_notes;
        device_notes = ap (λ (c : ℕ). c + y.driver_heard) (total_same by_device s.views id v w at refl) ∙ z.device_notes;
      },
      ((λ more. absurd (omega arith)), (λ _. (refl, omega arith))),
    ))

-- the device's load of the posted number
pub device_looks : (n id : ℕ) (me : M) → me.0.takes ≡ true → me.0.sends ≡ false → me.0.emptying ≡ false → me.1 ≡ [] → me.0.completed ≡ length me.0.taken → Allows Queue n id me 0 (λ x. x) (device_looked (step n 0 0 0 none) me)
device_looks n id me may not idle bare whole s l wide at _ =
    let v : TxLog = me.0 in let t : ℕ = length v.taken in let y : Story = device's l.story n id v false in let z = device_sees s l n id v false wide at may idle in let r = z.ring in let sent : List Sent = y.sent in
    let x : ℕ = get_or s.words 0 0 in let unmoved : set s.words 0 x ≡ s.words = set-get_or s.words 0 0 in let own = z.each id v at in let mine = own.device's may in
    let found : x ≡ length sent = r.posted_word in let heard = prefix_length v.heard_sent sent own.heard_sent in
    dite (dec_lt t x)
    (λ some_in. let item = there_below sent t (omega arith) in let d : Sent = item.0 in let slot = r.shows t d (le_refl t) item.1 in let w : TxLog = to_empty v d in let y' : Story = record y { taken = w.taken; emptying = true } in
    let on : sent_of w.taken ≡ take (suc t) sent = sent_of-append v.taken _ ∙ ap (λ l. l ++ d ∷ []) r.taken_is ∙ sym (take_one_more sent t d item.1) in
    let long : IsMarked d.frame d.mark = all_at MayGo sent t d r.frames item.1 in
    let comparable : IsComparable (sent_of w.taken) v.heard_sent = subst (λ l. IsComparable l v.heard_sent) (sym on) (⊎_elim inr inl (prefix_beside_take v.heard_sent sent (suc t) own.heard_sent)) in (
      w,
      takes_slot (t % n) slot.0,
      slot.1,
      record {
        story = y';
        ring = subst (λ ws. Ring v.made n ws (set s.homes (t % n) none) sent w.taken v.completed y.reaped y.filling true) (sym unmoved) (grabs v.made n s.words s.homes sent v.taken v.completed y.reaped y.filling d whole item.1 r);
        each = all_set (Fits y') s.views id w
            record {
              driver's = λ gets. absurd (true≢false (sym gets ∙ not));
              device's = λ _. record { seat_is = refl; made_is = refl; told_is = mine.told_is; taken_is = refl; completed_is = refl; busy_is = refl; given_is = refl; heard_is = refl };
              heard_sent = own.heard_sent;
              heard_completed = own.heard_completed;
              latest = own.latest;
              latest_done = own.latest_done;
              of_driver = own.of_driver;
              of_device = own.of_device;
            }
            (λ j u apart e. beside_device y w.taken v.completed true j u (le_refl v.completed) apart (z.each j u e));
        driver_notes = ap (λ (c : ℕ). c + y.device_heard) (total_same by_driver s.views id v w at refl) ∙ z.driver_notes;
        device_notes = ap (λ (c : ℕ). c + y.driver_heard) (total_same by_device s.views id v w at refl) ∙ z.device_notes;
      },
      ((λ _. (d, slot.0, ap (λ (c : List (ℕ × TxParcel)). (w, (t % n, slot.0) ∷ c)) bare, slot.2, long, comparable)), (λ few. absurd (omega arith))),
    ))
    (λ none_in. let w : TxLog = not_taken v in (
      w,
      keeps,
      tt,
      record {
        story = y;
        ring = subst (λ ws. Ring v.made n ws s.homes sent v.taken v.completed y.reaped y.filling false) (sym unmoved) r;
        each = all_set (Fits y) s.views id w
            record {
              driver's = λ gets. absurd (true≢false (sym gets ∙ not));
              device's = λ _. record { seat_is = refl; made_is = refl; told_is = mine.told_is; taken_is = refl; completed_is = refl; busy_is = idle; given_is = refl; heard_is = refl };
              heard_sent = own.heard_sent;
              heard_completed = own.heard_completed;
              latest = own.latest;
              latest_done = own.latest_done;
              of_driver = own.of_driver;
              of_device = own.of_device;
            }
            (λ j u apart e. z.each j u e);
        driver_notes = ap (λ (c : ℕ). c + y.device_heard) (total_same by_driver s.views id v w at refl) ∙ z.driver_notes;
        device_notes = ap (λ (c : ℕ). c + y.driver_heard) (total_same by_device s.views id v w at refl) ∙ z.device_notes;
      },
      ((λ more. absurd (omega arith)), (λ _. (ap (λ (c : List (ℕ × TxParcel)). (w, c)) bare, omega arith))),
    ))

-- the device's load that puts the slot home
returns_device : (n id t : ℕ) (v : TxLog) (x : TxParcel) → v.takes ≡ true → v.sends ≡ false → v.emptying ≡ true → length v.taken ≡ suc t → Allows Queue n id (holding v (t % n) x) 0 (λ x. x) (device_returned (step n 0 0 0 none) (holding v (t % n) x))
returns_device n id t v x may not state long s l wide at _ =
    let y : Story = device's l.story n id v true in let z = device_sees s l n id v true wide at may state in let r = z.ring in let own = z.each id v at in let mine = own.device's may in
    let p : ℕ = get_or s.words 0 0 in let unmoved : set s.words 0 p ≡ s.words = set-get_or s.words 0 0 in
    let w : TxLog = emptied v in let y' : Story = record y { emptying = false } in (
      w,
      gives,
      tt,
      record {
        story = y';
        ring = subst (λ ws. Ring v.made n ws (set s.homes (t % n) (some x)) y.sent v.taken v.completed y.reaped y.filling false) (sym unmoved) (gives_back v.made n s.words s.homes y.sent v.taken v.completed y.reaped y.filling x t long r);
        each = all_set (Fits y') s.views id w
            record {
              driver's = λ gets. absurd (true≢false (sym gets ∙ not));
              device's = λ _. record { seat_is = refl; made_is = refl; told_is = mine.told_is; taken_is = refl; completed_is = refl; busy_is = refl; given_is = refl; heard_is = refl };
              heard_sent = own.heard_sent;
              heard_completed = own.heard_completed;
              latest = own.latest;
              latest_done = own.latest_done;
              of_driver = own.of_driver;
              of_device = own.of_device;
            }
            (λ j u apart e. beside_device y v.taken v.completed false j u (le_refl v.completed) apart (z.each j u e));
        driver_notes = ap (λ (c : ℕ). c + y.device_heard) (total_same by_driver s.views id v w at refl) ∙ z.driver_notes;
        device_notes = ap (λ (c : ℕ). c + y.driver_heard) (total_same by_device s.views id v w at refl) ∙ z.device_notes;
      },
      refl,
    )

pub device_returns : (n id t : ℕ) (me : M) (v : TxLog) (x : TxParcel) → me ≡ holding v (t % n) x → v.takes ≡ true → v.sends ≡ false → v.emptying ≡ true → length v.taken ≡ suc t → Allows Queue n id me 0 (λ x. x) (device_returned (step n 0 0 0 none) me)
device_returns n id t me v x is may not state long = subst (λ (z : M). Allows Queue n id z 0 (λ x. x) (device_returned (step n 0 0 0 none) z)) (sym is) (returns_device n id t v x may not state long)

-- the device's store of the completed number
stores_device : (n id : ℕ) (me : M) → me.0.takes ≡ true → me.0.sends ≡ false → me.0.emptying ≡ false → me.0.completed < length me.0.taken
    → Allows Queue n id me 1 (λ _. me.0.completed + 1) (λ _. device_stored (step n 1 (me.0.completed + 1) 0 none) me (me.0.completed + 1))
stores_device n id me may not idle less s l wide at _ =
    let v : TxLog = me.0 in let y : Story = device's l.story n id v false in let z = device_sees s l n id v false wide at may idle in let r = z.ring in let own = z.each id v at in let mine = own.device's may in
    let w : TxLog = one_completed v in let y' : Story = record y { completed = suc v.completed } in let a = own.heard_completed in let b = own.latest_done in (
      w,
      keeps,
      tt,
      record {
        story = y';
        ring = completes v.made n s.words s.homes y.sent v.taken v.completed y.reaped y.filling less r;
        each = all_set (Fits y') s.views id w
            record {
              driver's = λ gets. absurd (true≢false (sym gets ∙ not));
              device's = λ _. record { seat_is = refl; made_is = refl; told_is = mine.told_is; taken_is = refl; completed_is = refl; busy_is = idle; given_is = refl; heard_is = refl };
              heard_sent = own.heard_sent;
              heard_completed = omega arith;
              latest = own.latest;
              latest_done = omega arith;
              of_driver = own.of_driver;
              of_device = own.of_device;
            }
            (λ j u apart e. beside_device y v.taken (suc v.completed) false j u (omega arith) apart (z.each j u e));
        driver_notes = ap (λ (c : ℕ). c + y.device_heard) (total_same by_driver s.views id v w at refl) ∙ z.driver_notes;
        device_notes = ap (λ (c : ℕ). c + y.driver_heard) (total_same by_device s.views id v w at refl) ∙ z.device_notes;
      },
      refl,
    )

pub device_stores : (n id : ℕ) (me : M) (k new : ℕ) → me.0.takes ≡ true → me.0.sends ≡ false → me.0.emptying ≡ false → me.0.completed < length me.0.taken → k ≡ 1 → new ≡ me.0.completed + 1
    → Allows Queue n id me k (λ _. new) (λ _. device_stored (step n k new 0 none) me new)
device_stores n id me k new may not idle less where_ what =
    subst (λ (z : ℕ × ℕ). Allows Queue n id me z.0 (λ _. z.1) (λ _. device_stored (step n z.0 z.1 0 none) me z.1)) (λ i. (sym where_ i, sym what i)) (stores_device n id me may not idle less)

-- the view after a post
pub sent_now : (v w w' : TxLog) (x : TxParcel) (frame : List ℕ) (mark : TxMark) → w ≡ to_fill v → w' ≡ with_sent w ((0, x) ∷ []) → take x.len x.bytes.items ≡ frame → x.mark ≡ mark → w' ≡ record v { filling = false; sent = v.sent ++ record { frame = frame; mark = mark } ∷ [] }
sent_now v w w' x frame mark opened stored is marked = stored ∙ ap (λ (u : TxLog). with_sent u ((0, x) ∷ [])) opened ∙ (λ i. record v { filling = false; sent = v.sent ++ record { frame = is i; mark = marked i } ∷ [] })

-- the parcel that is lent is the one that was taken out
pub lent : (i k : ℕ) (x z : TxParcel) (m : M) (more : List (ℕ × TxParcel)) → m.1 ≡ (k, z) ∷ more → m.1 ≡ (i, x) ∷ [] → z ≡ x
lent i k x z m more a b = ap first (sym a ∙ b)
  where
    first : List (ℕ × TxParcel) → TxParcel
    first [] = x
    first (c ∷ cs) = c.1
