-- The driver's steps: its looks at completions, the load that takes a buffer out, and the stores that post descriptors back.
use Rattle.std.proofs.Common.{vec_len, ◌≡◌, ℕ, suc, ◌+◌, ◌%◌, ◌<◌, ◌≤◌, List, [], ◌∷◌, ◌++◌, length, take, drop, slice_set, slice_index, Bool, true, false, not, sym, refl, ap, ◌∙◌, subst, ⊎_elim, arith, append-nil, append_assoc, length-append}
use Rattle.std.proofs.lemmas.List.{set-get_or}
use Rattle.std.proofs.Math.Seq.{take-append_seam}
use mathlib.Core.Logic.{dite}
use native.Mathlib.Decide.{dec_lt}
use mathlib.Core.Option.{none, some}
use mathlib.Core.List.{IsPrefix}
use lib.ListN.{get_elem?}
use Rattle.atomic_table.specs.Table.{step, keeps, takes, gives, Allows}
use Rattle.atomic_table.proofs.Lists.{at_longer}
use Rattle.vmx_ring_laws.specs.Lists.{at_below, prefix_length, prefix_beside_take}
use Rattle.vmx_ring_laws.specs.Steps.{stays}
use Rattle.vmx_genring.specs.Rings.{generation}
use Rattle.vmx_ends.specs.Words.{bit, missed_word}
use Rattle.vmx_ends.specs.Frames.{IsComparable}
use Rattle.vmx_ends.specs.Receive.{used, took1, took2, pieces_of}
use Rattle.vmx_ends.specs.WalkCounts.{used-append}
use Rattle.vmx_ends.specs.declared.made.RxMade.{RxMade}
use Rattle.vmx_ends.specs.declared.frames.Delivery.{Delivery}
use Rattle.vmx_rx_ring.specs.declared.known.Buffer.{Buffer}
use Rattle.vmx_rx_ring.specs.declared.known.Entry.{Entry}
use Rattle.vmx_rx_ring.specs.declared.known.DeviceKnows.{DeviceKnows}
use Rattle.vmx_rx_ring.specs.declared.known.DriverKnows.{DriverKnows}
use Rattle.vmx_rx_ring.specs.declared.known.Known.{Known}
use Rattle.vmx_rx_ring.specs.Words.{room_at, count, slot_of, second1, second2, shown_bit, shown_in, flat}
use Rattle.vmx_rx_ring.specs.Rule.{Rising, Rings, IsPlaced, Knows, Kept, Queue, numbers}
use Rattle.vmx_rx_ring.specs.Tells as tells
use Rattle.vmx_rx_ring.specs.Tells.{Seated, with_driver, Found, IsNext}
use Rattle.vmx_rx_ring.proofs.Bits.{not_same}
use Rattle.vmx_rx_ring.proofs.Risings.{rising_first, rising_skip}
use Rattle.vmx_rx_ring.proofs.Flats.{flat_count, flat_prefix}
use Rattle.vmx_rx_ring.proofs.WordMoves as moves
use Rattle.vmx_rx_ring.proofs.HomeMoves as homes
use Rattle.vmx_rx_ring.proofs.Views.{Table, driver's, driver_sees, driver_keeps}

-- two beginnings of one list
pub beside : {A : Type 0} (xs ys l : List A) → IsPrefix xs l → IsPrefix ys l → IsComparable xs ys
beside xs ys l p q = subst (IsComparable xs) (ap (take (length ys)) (sym q.1) ∙ take-append_seam ys q.0) (prefix_beside_take xs l (length ys) p)

seam : (xs : List Delivery) (d : Delivery) (more : List Delivery) → get_elem? (xs ++ d ∷ more) (length xs) ≡ some d
seam [] d more = refl
seam (y ∷ ys) d more = seam ys d more

-- what the ends know of each other, where the driver's numbers grow
knows_read : (m : RxMade) (e : DeviceKnows) (g : DriverKnows) (received : List Delivery) (read back1 back2 : ℕ) (reading : Bool) (looks : List (ℕ × ℕ)) → Knows m e g → IsPrefix received e.delivered → IsPrefix g.received received → g.back1 ≤ back1 → g.back2 ≤ back2
    → Knows m e (record g { received = received; read = read; back1 = back1; back2 = back2; reading = reading; looks = looks })
knows_read m e g received read back1 back2 reading looks k within grows up1 up2 = let a = k.seen1 in let b = k.seen2 in let c = k.heard1 in let d = k.heard2 in let h = k.heard in record {
  full = k.full;
  received = within;
  placed = k.placed;
  seen1 = omega arith;
  seen2 = omega arith;
  refusals = k.refusals;
  heard = (h.0 ++ grows.0, sym (append_assoc e.heard h.0 grows.0) ∙ ap (λ l. l ++ grows.0) h.1 ∙ grows.1);
  heard1 = omega arith;
  heard2 = omega arith;
  told = k.told;
  latest = let l = k.latest in let p0 = l.posted.0 in let p1 = l.posted.1 in let q0 = l.gone.0 in let q1 = l.gone.1 in let t = l.driver's.0 in record { driver's = ((t.0 ++ grows.0, sym (append_assoc e.latest t.0 grows.0) ∙ ap (λ x. x ++ grows.0) t.1 ∙ grows.1), l.driver's.1); device's = l.device's; posted = (omega arith, omega arith); gone = (omega arith, omega arith) };
}

-- the entry that is read next, in the log
next_in : (m : RxMade) (e : DeviceKnows) (g : DriverKnows) (x : Entry) → IsPrefix g.received e.delivered → get_elem? (flat m g.received) g.read ≡ some x → (get_elem? (flat m e.delivered ++ e.staged) g.read ≡ some x) × (g.read < length (flat m e.delivered))
next_in m e g x within at = let p = flat_prefix m g.received e.delivered within in
    let there : get_elem? (flat m e.delivered) g.read ≡ some x = ap (λ l. get_elem? l g.read) (sym p.1) ∙ at_longer (flat m g.received) p.0 g.read x at in
    (at_longer (flat m e.delivered) e.staged g.read x there, at_below (flat m e.delivered) g.read x there)

-- A look for the next frame, all completions of the received ones being read.
module _ {how : Bool} (seat : ℕ) (me : Seated) (k : ℕ) (may : me.0.receives ≡ true) (lone : me.0.delivers ≡ false) (all : me.0.driver.read ≡ used pieces_of me.0.driver.received) (s : Table) (l : Queue how s) (at : get_elem? s.views seat ≡ some me.0) where
  abbrev v : Known
  v = me.0

  abbrev g : DriverKnows
  g = v.driver

  abbrev e : DeviceKnows
  e = l.story.e

  abbrev m : RxMade
  m = v.made

  z : Kept how (driver's l.story seat v) s
  z = driver_sees s l seat v at may

  abbrev published : ℕ
  published = length (flat m e.delivered)

  -- the table after the load
  abbrev loaded : DriverKnows → Table
  loaded g' = record { words = slice_set s.words k (slice_index s.words k); homes = s.homes; views = slice_set s.views seat (with_driver v g') }

  leaves : (received : List Delivery) (looks : List (ℕ × ℕ)) → IsPrefix received e.delivered → IsPrefix g.received received → Queue how (loaded (record g { received = received; looks = looks }))
  leaves received looks a b = let g' : DriverKnows = record g { received = received; looks = looks } in
      driver_keeps s l seat v g' (slice_set s.words k (slice_index s.words k)) s.homes at may lone (subst (λ ws. Rings how m ws (numbers m e g')) (sym (set-get_or s.words k 0)) z.rings)
      (record { as_many_slots = z.homes.as_many_slots; rooms = z.homes.rooms; at_home = z.homes.at_home; filled = z.homes.filled })
      (knows_read m e g received g.read g.back1 g.back2 g.reading looks z.knows a b (omega arith) (omega arith)) b (omega arith) (omega arith) refl refl

  none_left : (more : List Delivery) → g.received ++ more ≡ e.delivered → g.read ≡ published → length e.delivered ≤ length g.received
  none_left [] is_all here = let a = ap length (sym is_all) in let b = length-append g.received [] in omega arith
  none_left (d ∷ more) is_all here = let c = flat_count m e.delivered in let a = ap (used pieces_of) is_all in let b = used-append pieces_of g.received (d ∷ more) in
      let there : get_elem? e.delivered (length g.received) ≡ some d = ap (λ l. get_elem? l (length g.received)) (sym is_all) ∙ seam g.received d more in
      let some_piece = at_below d.chain 0 _ (z.knows.placed (length g.received) d there).0.head in absurd (omega arith)

  -- nothing is visible that is not read: the look is kept
  looks_in_vain : (word : ℕ) → g.read ≡ published → Queue how (loaded (tells.finds_none g word)) × (length g.heard ≤ length g.received)
  looks_in_vain word here = (
    leaves g.received (g.looks ++ (g.read, word) ∷ []) z.knows.received ([], append-nil _),
    let h = prefix_length g.heard e.delivered z.knows.told in let w = z.knows.received in let f = none_left w.0 w.1 here in omega arith,
  )

  -- a completion is visible that is not read: the next frame is received
  finds_next : g.read < published → (d : Delivery) × Found v d × IsPrefix (g.received ++ d ∷ []) e.delivered × Queue how (loaded (tells.receives g d))
  finds_next less = let w = z.knows.received in by_rest w.0 w.1
    where
      by_rest : (more : List Delivery) → g.received ++ more ≡ e.delivered → (d : Delivery) × Found v d × IsPrefix (g.received ++ d ∷ []) e.delivered × Queue how (loaded (tells.receives g d))
      by_rest [] is_all = let c = flat_count m e.delivered in let a = ap (used pieces_of) (sym (append-nil g.received) ∙ is_all) in absurd (omega arith)
      by_rest (d ∷ more) is_all =
          let there : get_elem? e.delivered (length g.received) ≡ some d = ap (λ l. get_elem? l (length g.received)) (sym is_all) ∙ seam g.received d more in
          let front : take (length g.received) e.delivered ≡ g.received = ap (take (length g.received)) (sym is_all) ∙ take-append_seam g.received (d ∷ more) in
          let grown : IsPrefix (g.received ++ d ∷ []) e.delivered = (more, append_assoc g.received (d ∷ []) more ∙ is_all) in
          let known = z.knows.placed (length g.received) d there in (
            d,
            record { placed = subst (λ (u : List Delivery). IsPlaced (used took1 u) (used took2 u) d) front known.0; frame = known.1; tag = known.2; comparable = beside (g.received ++ d ∷ []) g.heard e.delivered grown z.knows.told },
            grown,
            leaves (g.received ++ d ∷ []) g.looks grown (d ∷ [], refl),
          )

-- A look for the next frame's first completion, where completions show generations.
looks_shown : (n seat : ℕ) (me : Seated) (k : ℕ) → me.0.receives ≡ true → me.0.delivers ≡ false → me.1 ≡ [] → me.0.driver.read ≡ used pieces_of me.0.driver.received → k ≡ count me.0.made + count me.0.made + me.0.driver.read % count me.0.made
    → Allows (Queue false) n seat me k (λ x. x) (tells.completion_looked (step n k 0 0 none) me)
looks_shown n seat me k may lone bare all is s l wide at _ = let v : Known = me.0 in let g : DriverKnows = v.driver in let e : DeviceKnows = l.story.e in let m : RxMade = v.made in let z = driver_sees s l seat v at may in let x : ℕ = slice_index s.words k in
    ⊎_elim
    (λ (t : (g.read < length (flat m e.delivered)) × (bit 63 (slice_index s.words (count m + count m + g.read % count m)) ≡ generation (count m) g.read)).
    let f = finds_next seat me k may lone all s l at t.0 in let w : Known = with_driver v (tells.receives g f.0) in (
      w,
      keeps,
      tt,
      f.3,
      (
        (λ _. (f.0, f.1, ap (λ (c : List (ℕ × Buffer)). (w, c)) bare, λ c next. let there = next_in m e (tells.receives g f.0) c f.2 next in let shows = z.rings.lap.full g.read c (omega arith) there.0 in (shown_bit (count m) (length (flat m e.delivered)) g.read, ap (λ (i : ℕ). slice_index s.words i) is ∙ shows.0))),
        λ miss. absurd (not_same (generation (count m) g.read) (sym miss ∙ ap (λ (i : ℕ). bit 63 (slice_index s.words i)) is ∙ t.1)),
      ),
    ))
    (λ (t : (g.read ≡ length (flat m e.delivered)) × (bit 63 (slice_index s.words (count m + count m + g.read % count m)) ≡ not (generation (count m) g.read))).
    let miss = ap (λ (i : ℕ). bit 63 (slice_index s.words i)) is ∙ t.1 in let f = looks_in_vain seat me k may lone all s l at x t.0 in let w : Known = with_driver v (tells.finds_none g x) in (
      w,
      keeps,
      tt,
      f.0,
      ((λ hit. absurd (not_same (generation (count m) g.read) (sym miss ∙ hit))), λ _. (ap (λ (c : List (ℕ × Buffer)). (w, c)) bare, f.1)),
    ))
    (moves.completion_tells m s.words (numbers m e g) z.rings)

-- The same at the word that counts the visible ones.
looks_counted : (n seat : ℕ) (me : Seated) (k : ℕ) → me.0.receives ≡ true → me.0.delivers ≡ false → me.1 ≡ [] → me.0.driver.read ≡ used pieces_of me.0.driver.received → k ≡ count me.0.made + count me.0.made + count me.0.made + count me.0.made
    → Allows (Queue true) n seat me k (λ x. x) (tells.count_looked (step n k 0 0 none) me)
looks_counted n seat me k may lone bare all is s l wide at _ = let v : Known = me.0 in let g : DriverKnows = v.driver in let e : DeviceKnows = l.story.e in let m : RxMade = v.made in let z = driver_sees s l seat v at may in let x : ℕ = slice_index s.words k in
    let counts : x ≡ length (flat m e.delivered) = ap (λ (i : ℕ). slice_index s.words i) is ∙ moves.count_tells m s.words (numbers m e g) z.rings in let up = z.rings.read_published in let look : ℕ = missed_word 63 (count m) g.read in
    dite (dec_lt g.read (length (flat m e.delivered)))
    (λ less. let f = finds_next seat me k may lone all s l at less in let w : Known = with_driver v (tells.receives g f.0) in (
      w,
      keeps,
      tt,
      f.3,
      ((λ _. (f.0, f.1, ap (λ (c : List (ℕ × Buffer)). (w, c)) bare)), λ miss. absurd (omega arith)),
    ))
    (λ not_less. let f = looks_in_vain seat me k may lone all s l at look (omega arith) in let w : Known = with_driver v (tells.finds_none g look) in (
      w,
      keeps,
      tt,
      f.0,
      ((λ hit. absurd (omega arith)), λ _. (ap (λ (c : List (ℕ × Buffer)). (w, c)) bare, f.1)),
    ))

pub completion_looks : (how : Bool) → how ≡ false → (n seat : ℕ) (me : Seated) (k : ℕ) → me.0.receives ≡ true → me.0.delivers ≡ false → me.1 ≡ [] → me.0.driver.read ≡ used pieces_of me.0.driver.received → k ≡ count me.0.made + count me.0.made + me.0.driver.read % count me.0.made
    → Allows (Queue how) n seat me k (λ x. x) (tells.completion_looked (step n k 0 0 none) me)
completion_looks how is_so n seat me k may lone bare all is = subst (λ (b : Bool). Allows (Queue b) n seat me k (λ x. x) (tells.completion_looked (step n k 0 0 none) me)) (sym is_so) (looks_shown n seat me k may lone bare all is)

pub count_looks : (how : Bool) → how ≡ true → (n seat : ℕ) (me : Seated) (k : ℕ) → me.0.receives ≡ true → me.0.delivers ≡ false → me.1 ≡ [] → me.0.driver.read ≡ used pieces_of me.0.driver.received → k ≡ count me.0.made + count me.0.made + count me.0.made + count me.0.made
    → Allows (Queue how) n seat me k (λ x. x) (tells.count_looked (step n k 0 0 none) me)
count_looks how is_so n seat me k may lone bare all is = subst (λ (b : Bool). Allows (Queue b) n seat me k (λ x. x) (tells.count_looked (step n k 0 0 none) me)) (sym is_so) (looks_counted n seat me k may lone bare all is)

-- the second word of a further completion of the frame
pub second_loads : (how : Bool) (n seat : ℕ) (me : Seated) (k : ℕ) (x : Entry) → me.0.receives ≡ true → IsNext me.0 x → k ≡ count me.0.made + count me.0.made + me.0.driver.read % count me.0.made
    → Allows (Queue how) n seat me k (λ z. z) (tells.second_loaded (step n k 0 0 none) me)
second_loads how n seat me k x may next is = stays (Queue how) n seat me k (tells.second_loaded (step n k 0 0 none) me) (λ s l wide at. let v : Known = me.0 in let g : DriverKnows = v.driver in let e : DeviceKnows = l.story.e in let m : RxMade = v.made in let z = driver_sees s l seat v at may in
    let f = next_in m e g x z.knows.received next in let less = f.1 in let shows = z.rings.lap.full g.read x (omega arith) f.0 in
    (refl, x, next, (shown_in how (count m) (length (flat m e.delivered)) g.read, ap (λ (i : ℕ). slice_index s.words i) is ∙ shows.0)))

-- the first word, and the buffer
pub grabs_buffer : (how : Bool) (n seat : ℕ) (me : Seated) (k : ℕ) (x : Entry) → me.0.receives ≡ true → me.0.delivers ≡ false → me.1 ≡ [] → me.0.driver.reading ≡ false → IsNext me.0 x → k ≡ count me.0.made + count me.0.made + count me.0.made + me.0.driver.read % count me.0.made
    → Allows (Queue how) n seat me k (λ z. z) (tells.grabbed (step n k 0 0 none) me)
grabs_buffer how n seat me k x may lone bare idle next is s l wide at _ = let v : Known = me.0 in let g : DriverKnows = v.driver in let e : DeviceKnows = l.story.e in let m : RxMade = v.made in let z = driver_sees s l seat v at may in
    let f = next_in m e g x z.knows.received next in let less = f.1 in let shows = z.rings.lap.full g.read x (omega arith) f.0 in let b = z.homes.filled g.read x (omega arith) f.0 (λ _. idle) in let i : ℕ = slot_of m x in
    let g' : DriverKnows = tells.reads g in let w : Known = with_driver v g' in (
      w,
      takes i b.0,
      b.1,
      driver_keeps s l seat v g' (slice_set s.words k (slice_index s.words k)) (slice_set s.homes i none) at may lone
          (subst (λ ws. Rings how m ws (numbers m e g')) (sym (set-get_or s.words k 0)) (record {
            some1 = z.rings.some1;
            some2 = z.rings.some2;
            as_many_words = z.rings.as_many_words;
            posts1 = z.rings.posts1;
            posts2 = z.rings.posts2;
            low = z.rings.low;
            lap = z.rings.lap;
            count_word = z.rings.count_word;
            read_published = z.rings.read_published;
            published_log = z.rings.published_log;
            rising = z.rings.rising;
            within1 = z.rings.within1;
            within2 = z.rings.within2;
            reach = z.rings.reach;
            there = λ _. less;
            opened_word = z.rings.opened_word;
          }))
          (homes.grabs m s.words s.homes _ z.rings z.homes x idle f.0)
          (knows_read m e g g.received g.read g.back1 g.back2 true g.looks z.knows z.knows.received ([], append-nil _) (omega arith) (omega arith)) ([], append-nil _) (omega arith) (omega arith) refl refl,
      (x, next, ap (λ (j : ℕ). slice_index s.words j) is ∙ shows.2, b.0, ap (λ (c : List (ℕ × Buffer)). (w, (i, b.0) ∷ c)) bare, b.2, z.homes.rooms i b.0 b.1),
    )

-- a descriptor that was passed over before the head is posted back, while the head's buffer is out
pub skips_descriptor : (how : Bool) (n seat : ℕ) (me : Seated) (k new : ℕ) (x : Entry) → me.0.receives ≡ true → me.0.delivers ≡ false → IsNext me.0 x → x.ring ≡ 1 → me.0.driver.back1 < x.position
    → k ≡ (me.0.made.size1 + me.0.driver.back1) % me.0.made.size1 → new ≡ second1 me.0.made (me.0.made.size1 + me.0.driver.back1)
    → Allows (Queue how) n seat me k (λ _. new) (λ _. tells.skipped (step n k new 0 none) me new)
skips_descriptor how n seat me k new x may lone next one less is what s l wide at _ = let v : Known = me.0 in let g : DriverKnows = v.driver in let e : DeviceKnows = l.story.e in let m : RxMade = v.made in let z = driver_sees s l seat v at may in
    let f = next_in m e g x z.knows.received next in let g' : DriverKnows = record g { back1 = suc g.back1 } in (
      with_driver v g',
      keeps,
      tt,
      driver_keeps s l seat v g' (slice_set s.words k new) s.homes at may lone
          (subst (λ (u : ℕ × ℕ). Rings how m (slice_set s.words u.0 u.1) (numbers m e g')) (λ i. (sym is i, sym what i)) (moves.skips m s.words _ z.rings (rising_skip _ _ _ g.read _ _ x z.rings.rising f.0 one less)))
          (record { as_many_slots = z.homes.as_many_slots; rooms = z.homes.rooms; at_home = z.homes.at_home; filled = z.homes.filled })
          (knows_read m e g g.received g.read (suc g.back1) g.back2 g.reading g.looks z.knows z.knows.received ([], append-nil _) (omega arith) (omega arith)) ([], append-nil _) (omega arith) (omega arith) refl refl,
      refl,
    )

-- the descriptor of the completion is posted back, and the buffer goes home
returns_one : (how : Bool) (n seat : ℕ) (v : Known) (b : Buffer) (k new : ℕ) (x : Entry) → v.receives ≡ true → v.delivers ≡ false → v.driver.reading ≡ true → IsNext v x → x.ring ≡ 1 → x.position ≡ v.driver.back1 → vec_len b.bytes ≡ room_at v.made (slot_of v.made x)
    → k ≡ (v.made.size1 + v.driver.back1) % v.made.size1 → new ≡ second1 v.made (v.made.size1 + v.driver.back1)
    → Allows (Queue how) n seat (v, (slot_of v.made x, b) ∷ []) k (λ _. new) (λ _. tells.returned1 (step n k new 0 none) (v, (slot_of v.made x, b) ∷ []) new)
returns_one how n seat v b k new x may lone reading next one here room_is is what s l wide at _ = let g : DriverKnows = v.driver in let e : DeviceKnows = l.story.e in let m : RxMade = v.made in let z = driver_sees s l seat v at may in
    let f = next_in m e g x z.knows.received next in let g' : DriverKnows = record g { back1 = suc g.back1; read = suc g.read; reading = false } in
    let rises : Rising (suc g.back1) g.back2 (drop (suc g.read) (flat m e.delivered ++ e.staged)) e.gone1 e.gone2 = ⊎_elim
    (λ (t : (x.ring ≡ 1) × (g.back1 ≤ x.position) × Rising (suc x.position) g.back2 (drop (suc g.read) (flat m e.delivered ++ e.staged)) e.gone1 e.gone2). subst (λ (p : ℕ). Rising (suc p) g.back2 (drop (suc g.read) (flat m e.delivered ++ e.staged)) e.gone1 e.gone2) here t.2)
    (λ (t : (x.ring ≡ 2) × (g.back2 ≤ x.position) × Rising g.back1 (suc x.position) (drop (suc g.read) (flat m e.delivered ++ e.staged)) e.gone1 e.gone2). let two = t.0 in absurd (omega arith))
    (rising_first _ _ _ g.read _ _ x z.rings.rising f.0) in (
      with_driver v g',
      gives,
      tt,
      driver_keeps s l seat v g' (slice_set s.words k new) (slice_set s.homes (slot_of m x) (some b)) at may lone
          (subst (λ (u : ℕ × ℕ). Rings how m (slice_set s.words u.0 u.1) (numbers m e g')) (λ i. (sym is i, sym what i)) (moves.returns1 m s.words _ z.rings reading rises))
          (homes.gives_home m s.words s.homes _ z.rings z.homes x b (suc g.back1) g.back2 reading f.0 room_is)
          (knows_read m e g g.received (suc g.read) (suc g.back1) g.back2 false g.looks z.knows z.knows.received ([], append-nil _) (omega arith) (omega arith)) ([], append-nil _) (omega arith) (omega arith) refl refl,
      refl,
    )

returns_two : (how : Bool) (n seat : ℕ) (v : Known) (b : Buffer) (k new : ℕ) (x : Entry) → v.receives ≡ true → v.delivers ≡ false → v.driver.reading ≡ true → IsNext v x → x.ring ≡ 2 → x.position ≡ v.driver.back2 → vec_len b.bytes ≡ room_at v.made (slot_of v.made x)
    → k ≡ v.made.size1 + (v.made.size2 + v.driver.back2) % v.made.size2 → new ≡ second2 v.made (v.made.size2 + v.driver.back2)
    → Allows (Queue how) n seat (v, (slot_of v.made x, b) ∷ []) k (λ _. new) (λ _. tells.returned2 (step n k new 0 none) (v, (slot_of v.made x, b) ∷ []) new)
returns_two how n seat v b k new x may lone reading next two here room_is is what s l wide at _ = let g : DriverKnows = v.driver in let e : DeviceKnows = l.story.e in let m : RxMade = v.made in let z = driver_sees s l seat v at may in
    let f = next_in m e g x z.knows.received next in let g' : DriverKnows = record g { back2 = suc g.back2; read = suc g.read; reading = false } in
    let rises : Rising g.back1 (suc g.back2) (drop (suc g.read) (flat m e.delivered ++ e.staged)) e.gone1 e.gone2 = ⊎_elim
    (λ (t : (x.ring ≡ 1) × (g.back1 ≤ x.position) × Rising (suc x.position) g.back2 (drop (suc g.read) (flat m e.delivered ++ e.staged)) e.gone1 e.gone2). let one = t.0 in absurd (omega arith))
    (λ (t : (x.ring ≡ 2) × (g.back2 ≤ x.position) × Rising g.back1 (suc x.position) (drop (suc g.read) (flat m e.delivered ++ e.staged)) e.gone1 e.gone2). subst (λ (p : ℕ). Rising g.back1 (suc p) (drop (suc g.read) (flat m e.delivered ++ e.staged)) e.gone1 e.gone2) here t.2)
    (rising_first _ _ _ g.read _ _ x z.rings.rising f.0) in (
      with_driver v g',
      gives,
      tt,
      driver_keeps s l seat v g' (slice_set s.words k new) (slice_set s.homes (slot_of m x) (some b)) at may lone
          (subst (λ (u : ℕ × ℕ). Rings how m (slice_set s.words u.0 u.1) (numbers m e g')) (λ i. (sym is i, sym what i)) (moves.returns2 m s.words _ z.rings reading rises))
          (homes.gives_home m s.words s.homes _ z.rings z.homes x b g.back1 (suc g.back2) reading f.0 room_is)
          (knows_read m e g g.received (suc g.read) g.back1 (suc g.back2) false g.looks z.knows z.knows.received ([], append-nil _) (omega arith) (omega arith)) ([], append-nil _) (omega arith) (omega arith) refl refl,
      refl,
    )

pub returns_descriptor1 : (how : Bool) (n seat : ℕ) (me : Seated) (v : Known) (b : Buffer) (k new : ℕ) (x : Entry) → me ≡ (v, (slot_of v.made x, b) ∷ []) → v.receives ≡ true → v.delivers ≡ false → v.driver.reading ≡ true → IsNext v x → x.ring ≡ 1 → x.position ≡ v.driver.back1 → vec_len b.bytes ≡ room_at v.made (slot_of v.made x)
    → k ≡ (v.made.size1 + v.driver.back1) % v.made.size1 → new ≡ second1 v.made (v.made.size1 + v.driver.back1)
    → Allows (Queue how) n seat me k (λ _. new) (λ _. tells.returned1 (step n k new 0 none) me new)
returns_descriptor1 how n seat me v b k new x same may lone reading next one here room_is is what = subst (λ (z : Seated). Allows (Queue how) n seat z k (λ _. new) (λ _. tells.returned1 (step n k new 0 none) z new)) (sym same) (returns_one how n seat v b k new x may lone reading next one here room_is is what)

pub returns_descriptor2 : (how : Bool) (n seat : ℕ) (me : Seated) (v : Known) (b : Buffer) (k new : ℕ) (x : Entry) → me ≡ (v, (slot_of v.made x, b) ∷ []) → v.receives ≡ true → v.delivers ≡ false → v.driver.reading ≡ true → IsNext v x → x.ring ≡ 2 → x.position ≡ v.driver.back2 → vec_len b.bytes ≡ room_at v.made (slot_of v.made x)
    → k ≡ v.made.size1 + (v.made.size2 + v.driver.back2) % v.made.size2 → new ≡ second2 v.made (v.made.size2 + v.driver.back2)
    → Allows (Queue how) n seat me k (λ _. new) (λ _. tells.returned2 (step n k new 0 none) me new)
returns_descriptor2 how n seat me v b k new x same may lone reading next two here room_is is what = subst (λ (z : Seated). Allows (Queue how) n seat z k (λ _. new) (λ _. tells.returned2 (step n k new 0 none) z new)) (sym same) (returns_two how n seat v b k new x may lone reading next two here room_is is what)
