-- Each step of an end keeps the rule, and what it tells.
use Rattle.std.proofs.Common.{◌≡◌, ◌≢◌, ℕ, suc, ◌+◌, ◌%◌, ◌<◌, ◌≤◌, List, [], ◌∷◌, ◌++◌, length, get_or, take, set, inl, inr, Bool, true, false, true≢false, sym, refl, ap, ap₂, ◌∙◌, subst, ⊎_elim, arith, le_refl, length-take-le, if◌then◌else◌}
use Rattle.std.proofs.lemmas.List.{set-get_or, take-append-le}
use mathlib.Core.Logic.{dite}
use mathlib.Core.List.{IsPrefix}
use mathlib.Core.Option.{none}
use native.Mathlib.Decide.{dec_lt, dec_le}
use Rattle.atomic_table.specs.Table.{State, Me, Act, step, keeps, takes as takes_slot, gives, Allows, Valid, stepped, carried_after}
use Rattle.vmx_ends.specs.declared.frames.Delivery.{Delivery}
use Rattle.vmx_ends.specs.Receive.{used, took1, took2, posted1, posted2}
use Rattle.vmx_ends.specs.Walk.{further_pieces, Stand}
use Rattle.vmx_ends.specs.Core.{Outcome, takes, misses}
use Rattle.vmx_ends.specs.Frames.{IsComparable}
use Rattle.vmx_ends.specs.ReceiveClauses.{IsRefusal, ring_size}
use Rattle.vmx_lists.specs.declared.rx.log.RxLog.{RxLog}
use Rattle.vmx_lists.specs.declared.rx.log.RxParcel.{RxParcel}
use Rattle.vmx_lists.specs.RxRing.{Ring, Story, Fits, Devices, Queue, ahead, by_device, by_driver}
use Rattle.vmx_lists.specs.RxPlays.{sight, going, refusing, LooksBy, LooksAround, device_looked, added, walk_looks, device_stored, opening_it, missing, at_rest, driver_looked, driver_stored}
use Rattle.vmx_ends.specs.WalkCounts.{used_take_more, used_prefix, takes_counts}
use Rattle.vmx_ends.specs.LookWords.{missed_is, misses_at}
use Rattle.vmx_ring_laws.specs.Views.{all_set, total_same}
use Rattle.vmx_ring_laws.specs.Lists.{prefix_longer, prefix_length, take_one_more, there_below, prefix_of_take, take_of_prefix}
use Rattle.vmx_ends.specs.Alls.{all_more}
use Rattle.vmx_ends.specs.Frames.{IsFrame}
use Rattle.vmx_ends.specs.TransmitCounts.{all_at}
use Rattle.vmx_lists.proofs.RxRings.{IsLong, within, takes_out, publishes, grabs, frees}
use Rattle.vmx_lists.proofs.RxViews.{Told, device's, driver's, device_sees, driver_sees}

abbrev M : Type 0
M = Me RxParcel RxLog

abbrev holding : RxLog → ℕ → RxParcel → M
holding v i x = (v, (i, x) ∷ [])

-- another seat, where the device's state changes, and where its list grows
apart_from_device : (y : Story) (b : Bool) (j : ℕ) (u : RxLog) → j ≢ y.device → Fits y j u → Fits (record y { writing = b }) j u
apart_from_device y b j u apart f = record {
  device's = λ may. absurd (apart (f.device's may).seat_is);
  driver's = λ may. let o = f.driver's may in record { seat_is = o.seat_is; made_is = o.made_is; told_is = o.told_is; received_is = o.received_is; busy_is = o.busy_is; given_is = o.given_is; heard_is = o.heard_is };
  seen = f.seen;
  heard_delivered = f.heard_delivered;
  heard_received = f.heard_received;
  latest = f.latest;
  of_device = f.of_device;
  of_driver = f.of_driver;
  told = f.told;
}

more_delivered : (y : Story) (more : List Delivery) (b : Bool) (j : ℕ) (u : RxLog) → ahead y.reading y.taken ≤ length y.delivered → y.taken ≤ length y.delivered → j ≢ y.device → Fits y j u → Fits (record y { delivered = y.delivered ++ more; writing = b }) j u
more_delivered y more b j u near behind apart f = record {
  device's = λ may. absurd (apart (f.device's may).seat_is);
  driver's = λ may. let o = f.driver's may in record { seat_is = o.seat_is; made_is = o.made_is; told_is = o.told_is; received_is = o.received_is ∙ sym (take-append-le (ahead y.reading y.taken) y.delivered more near); busy_is = o.busy_is; given_is = o.given_is; heard_is = o.heard_is };
  seen = f.seen;
  heard_delivered = prefix_longer u.heard_delivered y.delivered more f.heard_delivered;
  heard_received = subst (IsPrefix u.heard_received) (sym (take-append-le y.taken y.delivered more behind)) f.heard_received;
  latest = prefix_longer u.latest y.delivered more f.latest;
  of_device = f.of_device;
  of_driver = f.of_driver;
  told = subst (λ l. (u.told1 ≤ posted1 y.made l) × (u.told2 ≤ posted2 y.made l)) (sym (take-append-le y.taken y.delivered more behind)) f.told;
}

-- another seat, where the driver's state changes, and where its count grows
apart_from_driver : (y : Story) (b : Bool) (j : ℕ) (u : RxLog) → j ≢ y.driver → Fits y j u → Fits (record y { reading = b }) j u
apart_from_driver y b j u apart f = record {
  device's = λ may. let o = f.device's may in record { seat_is = o.seat_is; made_is = o.made_is; told_is = o.told_is; delivered_is = o.delivered_is; busy_is = o.busy_is; given_is = o.given_is; heard_is = o.heard_is; refusals = o.refusals };
  driver's = λ may. absurd (apart (f.driver's may).seat_is);
  seen = f.seen;
  heard_delivered = f.heard_delivered;
  heard_received = f.heard_received;
  latest = f.latest;
  of_device = f.of_device;
  of_driver = f.of_driver;
  told = f.told;
}

reached : (t : ℕ) (sent : List Delivery) (reading : Bool) → t ≤ length sent → (reading ≡ true → t < length sent) → ahead reading t ≤ length sent
reached t sent false le f = le
reached t sent true le f = let a = f refl in omega arith

-- a new view and an act that keep the rule, where the walk comes to o
abbrev Comes : State RxParcel RxLog → ℕ → ℕ → M → ℕ → Outcome → Type 0
Comes s n id me x o = (w : RxLog) × (a : Act RxParcel) × Valid s.homes me.1 a × Queue (stepped s 1 x id me.1 w a) × (LooksBy o n me x (w, carried_after me.1 a) × LooksAround me x)

-- the device's load of the received number, for a frame of suc k pieces
pub device_looks : (k n id : ℕ) (me : M) → me.0.delivers ≡ true → me.0.receives ≡ false → me.0.busy ≡ false → me.1 ≡ [] → Allows Queue n id me 1 (λ x. x) (device_looked k (step n 1 0 0 none) me)
device_looks k n id me may not idle bare s l wide at _ = by_outcome (sight k v x) refl
  where
    v : RxLog
    v = me.0

    x : ℕ
    x = get_or s.words 1 0

    h : ℕ
    h = length v.delivered

    y : Story
    y = device's l.story n id v false

    z : Told s y
    z = device_sees s l n id v false wide at may idle

    t : ℕ
    t = y.taken

    shows : x ≡ t
    shows = z.ring.received_word

    unmoved : set s.words 1 x ≡ s.words
    unmoved = set-get_or s.words 1 0

    own : Fits y id v
    own = z.each id v at

    mine : Devices y id v
    mine = own.device's may

    around : LooksAround me x
    around = let seen = own.seen in let heard = prefix_length v.heard_received (take t v.delivered) own.heard_received in let count = length-take-le t v.delivered z.ring.behind in record {
      seen = subst (λ (r : ℕ). v.seen ≤ r) (sym shows) seen;
      heard = omega arith;
      behind = subst (λ (r : ℕ). r ≤ h) (sym shows) z.ring.behind;
      within = let a = within v.made n s.words s.homes v.delivered t false y.reading z.ring in let b = z.ring.sized in omega arith;
      heard1 = subst (λ (r : ℕ). used took1 v.heard_received ≤ used took1 (take r v.delivered)) (sym shows) (used_prefix took1 _ _ own.heard_received);
      heard2 = subst (λ (r : ℕ). used took2 v.heard_received ≤ used took2 (take r v.delivered)) (sym shows) (used_prefix took2 _ _ own.heard_received);
      within1 = subst (λ (r : ℕ). used took1 v.delivered ≤ posted1 v.made (take r v.delivered)) (sym shows) z.ring.within1;
      within2 = subst (λ (r : ℕ). used took2 v.delivered ≤ posted2 v.made (take r v.delivered)) (sym shows) z.ring.within2;
    }

    by_outcome : (o : Outcome) → sight k v x ≡ o → Comes s n id me x o
    by_outcome (takes passed end) is =
        let c = takes_counts v.made (used took1 v.delivered) (used took2 v.delivered) (posted1 v.made (take x v.delivered)) (posted2 v.made (take x v.delivered)) k passed end is in
        let one = c.one in let some = c.some in let e = z.ring.each_takes t z.ring.behind in let sized = z.ring.sized in
        let posted : posted1 v.made (take x v.delivered) ≡ v.made.size1 + used took1 (take t v.delivered) = ap₂ (λ b (r : ℕ). (if b then v.made.size1 else 0) + used took1 (take r v.delivered)) z.ring.filled shows in
        let room : h < t + n = omega arith in let slot = z.ring.free_slot h (le_refl h) room (λ _. refl) in let w : RxLog = going v x in (
          w,
          takes_slot (h % n) slot.0,
          slot.1,
          record {
            story = record y { writing = true };
            ring = subst (λ ws. Ring v.made n ws (set s.homes (h % n) none) v.delivered t true y.reading) (sym unmoved) (takes_out v.made n s.words s.homes v.delivered t y.reading z.ring room);
            each = all_set (Fits (record y { writing = true })) s.views id w
                record {
                  device's = λ _. record { seat_is = refl; made_is = refl; told_is = mine.told_is; delivered_is = refl; busy_is = refl; given_is = refl; heard_is = refl; refusals = mine.refusals };
                  driver's = λ gets. absurd (true≢false (sym gets ∙ not));
                  seen = subst (λ (r : ℕ). r ≤ t) (sym shows) (le_refl t);
                  heard_delivered = own.heard_delivered;
                  heard_received = own.heard_received;
                  latest = own.latest;
                  of_device = own.of_device;
                  of_driver = own.of_driver;
                  told = own.told;
                }
                (λ j u apart e. apart_from_device y true j u apart (z.each j u e));
            device_notes = ap (λ (c : ℕ). c + y.driver_heard) (total_same by_device s.views id v w at refl) ∙ z.device_notes;
            driver_notes = ap (λ (c : ℕ). c + y.device_heard) (total_same by_driver s.views id v w at refl) ∙ z.driver_notes;
          },
          ((slot.0, ap (λ (c : List (ℕ × RxParcel)). (w, (h % n, slot.0) ∷ c)) bare), around),
        )
    by_outcome (misses ring p looks) is =
        let w : RxLog = refusing v x ring p looks in
        let cause = misses_at v.made (used took1 v.delivered) (used took2 v.delivered) (posted1 v.made (take x v.delivered)) (posted2 v.made (take x v.delivered)) k ring p looks is in
        let far : ring_size v.made ring ≤ p = ⊎_elim
        (λ (c : (1 ≡ ring) × (posted1 v.made (take x v.delivered) ≡ p)). subst (λ (q : ℕ × ℕ). ring_size v.made q.0 ≤ q.1) (λ i. (c.0 i, c.1 i)) (let f : posted1 v.made (take x v.delivered) ≡ v.made.size1 + used took1 (take x v.delivered) = ap (λ b. (if b then v.made.size1 else 0) + used took1 (take x v.delivered)) z.ring.filled in omega arith))
        (λ (c : (2 ≡ ring) × (posted2 v.made (take x v.delivered) ≡ p)). subst (λ (q : ℕ × ℕ). ring_size v.made q.0 ≤ q.1) (λ i. (c.0 i, c.1 i)) (let f : posted2 v.made (take x v.delivered) ≡ v.made.size2 + used took2 (take x v.delivered) = ap (λ b. (if b then v.made.size2 else 0) + used took2 (take x v.delivered)) z.ring.filled in omega arith))
        cause in (
          w,
          keeps,
          tt,
          record {
            story = y;
            ring = subst (λ ws. Ring v.made n ws s.homes v.delivered t false y.reading) (sym unmoved) z.ring;
            each = all_set (Fits y) s.views id w
                record {
                  device's = λ _. record { seat_is = refl; made_is = refl; told_is = mine.told_is; delivered_is = refl; busy_is = idle; given_is = refl; heard_is = refl; refusals = all_more (IsRefusal v.made) v.refused _ mine.refusals (missed_is _ p, λ _. far) };
                  driver's = λ gets. absurd (true≢false (sym gets ∙ not));
                  seen = subst (λ (r : ℕ). r ≤ t) (sym shows) (le_refl t);
                  heard_delivered = own.heard_delivered;
                  heard_received = own.heard_received;
                  latest = own.latest;
                  of_device = own.of_device;
                  of_driver = own.of_driver;
                  told = own.told;
                }
                (λ j u apart e. z.each j u e);
            device_notes = ap (λ (c : ℕ). c + y.driver_heard) (total_same by_device s.views id v w at refl) ∙ z.device_notes;
            driver_notes = ap (λ (c : ℕ). c + y.device_heard) (total_same by_driver s.views id v w at refl) ∙ z.driver_notes;
          },
          (ap (λ (c : List (ℕ × RxParcel)). (w, c)) bare, around),
        )

-- the device's store of the delivered number, with the parcel that its slot has
stores_device : (n id : ℕ) (v : RxLog) (x : RxParcel) (passed : ℕ) (end : Stand) → v.delivers ≡ true → v.receives ≡ false → v.busy ≡ true → IsFrame (take x.len x.bytes.items) → sight (further_pieces x.len) v v.seen ≡ takes passed end → x.passed ≡ passed → x.pieces ≡ length end.chain
    → Allows Queue n id (holding v (length v.delivered % n) x) 0 (λ _. length v.delivered + 1) (λ _. device_stored (step n 0 (length v.delivered + 1) 0 none) (holding v (length v.delivered % n) x) (length v.delivered + 1))
stores_device n id v x passed end may not state frame goes_through passed_is pieces_is s l wide at _ =
    let y : Story = device's l.story n id v true in let z = device_sees s l n id v true wide at may state in let r = z.ring in let own = z.each id v at in let mine = own.device's may in
    let d : Delivery = record { frame = take x.len x.bytes.items; meta = x.meta; passed = passed; chain = end.chain } in
    let w : RxLog = record v { busy = false; delivered = v.delivered ++ d ∷ []; looks = v.looks ++ end.looks } in
    let c = takes_counts v.made (used took1 v.delivered) (used took2 v.delivered) (posted1 v.made (take v.seen v.delivered)) (posted2 v.made (take v.seen v.delivered)) (further_pieces x.len) passed end goes_through in
    let one = c.one in let two = c.two in let some = c.some in let m1 = used_take_more took1 v.delivered v.seen y.taken own.seen in let m2 = used_take_more took2 v.delivered v.seen y.taken own.seen in
    let behind = r.behind in let near = reached y.taken v.delivered y.reading behind r.there in let y' : Story = record y { delivered = v.delivered ++ d ∷ []; writing = false } in (
      w,
      gives,
      tt,
      record {
        story = y';
        ring = publishes v.made n s.words s.homes v.delivered y.taken y.reading x d record { frame = refl; meta = refl; passed = passed_is; pieces = pieces_is } frame (omega arith) (omega arith) (omega arith) r;
        each = all_set (Fits y') s.views id w
            record {
              device's = λ _. record { seat_is = refl; made_is = refl; told_is = mine.told_is; delivered_is = refl; busy_is = refl; given_is = refl; heard_is = refl; refusals = mine.refusals };
              driver's = λ gets. absurd (true≢false (sym gets ∙ not));
              seen = own.seen;
              heard_delivered = prefix_longer v.heard_delivered v.delivered (d ∷ []) own.heard_delivered;
              heard_received = subst (IsPrefix v.heard_received) (sym (take-append-le y.taken v.delivered (d ∷ []) behind)) own.heard_received;
              latest = prefix_longer v.latest v.delivered (d ∷ []) own.latest;
              of_device = own.of_device;
              of_driver = own.of_driver;
              told = subst (λ l. (v.told1 ≤ posted1 v.made l) × (v.told2 ≤ posted2 v.made l)) (sym (take-append-le y.taken v.delivered (d ∷ []) behind)) own.told;
            }
            (λ j u apart e. more_delivered y (d ∷ []) false j u near behind apart (z.each j u e));
        device_notes = ap (λ (c : ℕ). c + y.driver_heard) (total_same by_device s.views id v w at refl) ∙ z.device_notes;
        driver_notes = ap (λ (c : ℕ). c + y.device_heard) (total_same by_driver s.views id v w at refl) ∙ z.driver_notes;
      },
      ap (λ (o : Outcome). (record v { busy = false; delivered = v.delivered ++ added o x; looks = v.looks ++ walk_looks o }, [])) (sym goes_through),
    )

pub device_stores : (n id : ℕ) (me : M) (v : RxLog) (x : RxParcel) (passed : ℕ) (end : Stand) (k new : ℕ) → me ≡ holding v (length v.delivered % n) x → v.delivers ≡ true → v.receives ≡ false → v.busy ≡ true
    → IsFrame (take x.len x.bytes.items) → sight (further_pieces x.len) v v.seen ≡ takes passed end → x.passed ≡ passed → x.pieces ≡ length end.chain → k ≡ 0 → new ≡ length v.delivered + 1
    → Allows Queue n id me k (λ _. new) (λ _. device_stored (step n k new 0 none) me new)
device_stores n id me v x passed end k new is may not state frame through passed_is pieces_is where_ what =
    subst (λ (z : M × ℕ × ℕ). Allows Queue n id z.0 z.1 (λ _. z.2) (λ _. device_stored (step n z.1 z.2 0 none) z.0 z.2)) (λ i. (sym is i, sym where_ i, sym what i)) (stores_device n id v x passed end may not state frame through passed_is pieces_is)

-- of two prefixes of one list, one is a prefix of the other
beside : (xs sent : List Delivery) (t : ℕ) → IsPrefix xs sent → IsComparable (take t sent) xs
beside xs sent t p = dite (dec_le (length xs) t)
    (λ less. inr (prefix_of_take xs sent t p less))
    (λ more. inl (take_of_prefix xs sent t p (omega arith)))

-- the driver's load of the delivered number
pub driver_looks : (n id : ℕ) (me : M) → me.0.receives ≡ true → me.0.delivers ≡ false → me.0.busy ≡ false → me.1 ≡ [] → Allows Queue n id me 0 (λ x. x) (driver_looked (step n 0 0 0 none) me)
driver_looks n id me may not idle bare s l wide at _ =
    let v : RxLog = me.0 in let t : ℕ = length v.received in let y : Story = driver's l.story n id t v false in let z = driver_sees s l n id t v false wide at may idle refl in let sent : List Delivery = y.delivered in let h : ℕ = length sent in
    let r = z.ring in let x : ℕ = get_or s.words 0 0 in let unmoved : set s.words 0 x ≡ s.words = set-get_or s.words 0 0 in let own = z.each id v at in let mine = own.driver's may in
    let shows : x ≡ h = r.delivered_word in let heard = prefix_length v.heard_delivered sent own.heard_delivered in
    dite (dec_lt t h)
    (λ some_in. let item = there_below sent t some_in in let d : Delivery = item.0 in let slot = r.in_slot t d (le_refl t) item.1 (λ _. refl) in let w : RxLog = opening_it v d in
    let comparable : IsComparable (v.received ++ d ∷ []) v.heard_delivered = subst (λ xs. IsComparable xs v.heard_delivered) (take_one_more sent t d item.1 ∙ sym (ap (λ l. l ++ d ∷ []) mine.received_is)) (beside v.heard_delivered sent (suc t) own.heard_delivered) in (
      w,
      takes_slot (t % n) slot.0,
      slot.1,
      record {
        story = record y { reading = true };
        ring = subst (λ ws. Ring v.made n ws (set s.homes (t % n) none) sent t y.writing true) (sym unmoved) (grabs v.made n s.words s.homes sent t y.writing r some_in);
        each = all_set (Fits (record y { reading = true })) s.views id w
            record {
              device's = λ sends. absurd (true≢false (sym sends ∙ not));
              driver's = λ _. record { seat_is = refl; made_is = refl; told_is = mine.told_is; received_is = ap (λ l. l ++ d ∷ []) mine.received_is ∙ sym (take_one_more sent t d item.1); busy_is = refl; given_is = refl; heard_is = refl };
              seen = own.seen;
              heard_delivered = own.heard_delivered;
              heard_received = own.heard_received;
              latest = own.latest;
              of_device = own.of_device;
              of_driver = own.of_driver;
              told = own.told;
            }
            (λ j u apart e. apart_from_driver y true j u apart (z.each j u e));
        device_notes = ap (λ (c : ℕ). c + y.driver_heard) (total_same by_device s.views id v w at refl) ∙ z.device_notes;
        driver_notes = ap (λ (c : ℕ). c + y.device_heard) (total_same by_driver s.views id v w at refl) ∙ z.driver_notes;
      },
      ((λ _. (d, slot.0, ap (λ (c : List (ℕ × RxParcel)). (w, (t % n, slot.0) ∷ c)) bare, slot.2, all_at IsLong sent t d r.frames item.1, comparable)), (λ few. absurd (omega arith)), omega arith),
    ))
    (λ none_in. let w : RxLog = missing v in let behind = r.behind in (
      w,
      keeps,
      tt,
      record {
        story = y;
        ring = subst (λ ws. Ring v.made n ws s.homes sent t y.writing false) (sym unmoved) r;
        each = all_set (Fits y) s.views id w
            record {
              device's = λ sends. absurd (true≢false (sym sends ∙ not));
              driver's = λ _. record { seat_is = refl; made_is = refl; told_is = mine.told_is; received_is = mine.received_is; busy_is = idle; given_is = refl; heard_is = refl };
              seen = own.seen;
              heard_delivered = own.heard_delivered;
              heard_received = own.heard_received;
              latest = own.latest;
              of_device = own.of_device;
              of_driver = own.of_driver;
              told = own.told;
            }
            (λ j u apart e. z.each j u e);
        device_notes = ap (λ (c : ℕ). c + y.driver_heard) (total_same by_device s.views id v w at refl) ∙ z.device_notes;
        driver_notes = ap (λ (c : ℕ). c + y.device_heard) (total_same by_driver s.views id v w at refl) ∙ z.driver_notes;
      },
      ((λ more. absurd (omega arith)), (λ _. (ap (λ (c : List (ℕ × RxParcel)). (w, c)) bare, omega arith)), omega arith),
    ))

stores_driver : (n id t : ℕ) (v : RxLog) (x : RxParcel) → v.receives ≡ true → v.delivers ≡ false → v.busy ≡ true → length v.received ≡ suc t
    → Allows Queue n id (holding v (t % n) x) 1 (λ _. t + 1) (λ _. driver_stored (step n 1 (t + 1) 0 none) (holding v (t % n) x) (t + 1))
stores_driver n id t v x may not state count s l wide at _ =
    let y : Story = driver's l.story n id t v true in let z = driver_sees s l n id t v true wide at may state count in let sent : List Delivery = y.delivered in let r = z.ring in let own = z.each id v at in let mine = own.driver's may in
    let w : RxLog = at_rest v in let y' : Story = record y { taken = suc t; reading = false } in let item = there_below sent t (r.there refl) in let seen = own.seen in
    let more : (u : RxLog) → IsPrefix u.heard_received (take t sent) → IsPrefix u.heard_received (take (suc t) sent) = λ u p. subst (IsPrefix u.heard_received) (sym (take_one_more sent t item.0 item.1)) (prefix_longer u.heard_received (take t sent) (item.0 ∷ []) p) in
    let g1 = used_take_more took1 sent t (suc t) (omega arith) in let g2 = used_take_more took2 sent t (suc t) (omega arith) in
    let more_told : (u : RxLog) → (u.told1 ≤ posted1 v.made (take t sent)) × (u.told2 ≤ posted2 v.made (take t sent)) → (u.told1 ≤ posted1 v.made (take (suc t) sent)) × (u.told2 ≤ posted2 v.made (take (suc t) sent)) = λ u p. let p1 = p.0 in let p2 = p.1 in ((omega arith), (omega arith)) in (
      w,
      gives,
      tt,
      record {
        story = y';
        ring = frees v.made n s.words s.homes sent t y.writing x r;
        each = all_set (Fits y') s.views id w
            record {
              device's = λ sends. absurd (true≢false (sym sends ∙ not));
              driver's = λ _. record { seat_is = refl; made_is = refl; told_is = mine.told_is; received_is = mine.received_is; busy_is = refl; given_is = refl; heard_is = refl };
              seen = omega arith;
              heard_delivered = own.heard_delivered;
              heard_received = more v own.heard_received;
              latest = own.latest;
              of_device = own.of_device;
              of_driver = own.of_driver;
              told = more_told v own.told;
            }
            (λ j u apart e. let f = z.each j u e in let few = f.seen in record {
              device's = λ may. let o = f.device's may in record { seat_is = o.seat_is; made_is = o.made_is; told_is = o.told_is; delivered_is = o.delivered_is; busy_is = o.busy_is; given_is = o.given_is; heard_is = o.heard_is; refusals = o.refusals };
              driver's = λ may. absurd (apart (f.driver's may).seat_is);
              seen = omega arith;
              heard_delivered = f.heard_delivered;
              heard_received = more u f.heard_received;
              latest = f.latest;
              of_device = f.of_device;
              of_driver = f.of_driver;
              told = more_told u f.told;
            });
        device_notes = ap (λ (c : ℕ). c + y.driver_heard) (total_same by_device s.views id v w at refl) ∙ z.device_notes;
        driver_notes = ap (λ (c : ℕ). c + y.device_heard) (total_same by_driver s.views id v w at refl) ∙ z.driver_notes;
      },
      refl,
    )

pub driver_stores : (n id : ℕ) (me : M) (v : RxLog) (x : RxParcel) (t k new : ℕ) → me ≡ holding v (t % n) x → v.receives ≡ true → v.delivers ≡ false → v.busy ≡ true → length v.received ≡ suc t → k ≡ 1 → new ≡ t + 1
    → Allows Queue n id me k (λ _. new) (λ _. driver_stored (step n k new 0 none) me new)
driver_stores n id me v x t k new is may not state count where_ what =
    subst (λ (z : M × ℕ × ℕ). Allows Queue n id z.0 z.1 (λ _. z.2) (λ _. driver_stored (step n z.1 z.2 0 none) z.0 z.2)) (λ i. (sym is i, sym where_ i, sym what i)) (stores_driver n id t v x may not state count)

-- the parcel that is lent is the one that was taken out, and what the seat has after it
pub lent : (i k : ℕ) (x z : RxParcel) (m : M) (more : List (ℕ × RxParcel)) → m.1 ≡ (k, z) ∷ more → m.1 ≡ (i, x) ∷ [] → z ≡ x
lent i k x z m more a b = ap first (sym a ∙ b)
  where
    first : List (ℕ × RxParcel) → RxParcel
    first [] = x
    first (c ∷ cs) = c.1
