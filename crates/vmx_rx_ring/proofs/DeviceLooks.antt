-- The device's loads: the walk's looks at second words, and the load of a first word, which takes the buffer out.
use Rattle.std.proofs.Common.{◌≡◌, ℕ, suc, ◌+◌, ◌%◌, ◌<◌, ◌≤◌, inl, inr, List, [], ◌∷◌, ◌++◌, slice_set, slice_index, Bool, true, false, not, cond, nat_lt, Some, None, All, sym, refl, ap, ◌∙◌, subst, ⊎_elim, arith, append-nil}
use Rattle.std.proofs.lemmas.List.{set-get_or}
use mathlib.Core.Option.{none, some}
use lib.ListN.{get_elem?}
use Rattle.atomic_table.specs.Table.{step, keeps, takes, Allows}
use Rattle.vmx_genring.specs.Rings.{generation}
use Rattle.vmx_ends.specs.Words.{bit}
use Rattle.vmx_ends.specs.Frames.{larger}
use Rattle.vmx_ends.specs.Alls.{all_more}
use Rattle.vmx_ends.specs.Receive.{is_body, used, took1, took2, posted1, posted2}
use Rattle.vmx_ends.specs.ReceiveClauses.{IsRefusal}
use Rattle.vmx_ends.specs.declared.made.RxMade.{RxMade}
use Rattle.vmx_ends.specs.declared.frames.Delivery.{Delivery}
use Rattle.vmx_rx_ring.specs.declared.known.Buffer.{Buffer}
use Rattle.vmx_rx_ring.specs.declared.known.DeviceKnows.{DeviceKnows}
use Rattle.vmx_rx_ring.specs.declared.known.DriverKnows.{DriverKnows}
use Rattle.vmx_rx_ring.specs.declared.known.Known.{Known}
use Rattle.vmx_rx_ring.specs.Words.{slot}
use Rattle.vmx_rx_ring.specs.Rule.{Between, Rings, Knows, Queue, numbers}
use Rattle.vmx_rx_ring.specs.Tells.{spot_in, Seated, with_device, saw_head, saw_one, saw_two, refuses, looks_past, fills, head_looked, one_looked, two_looked, took}
use Rattle.vmx_rx_ring.proofs.Bits.{not_same}
use Rattle.vmx_rx_ring.proofs.Layouts.{kind, kind_small, posted_is}
use Rattle.vmx_rx_ring.proofs.Risings.{rising_ends}
use Rattle.vmx_rx_ring.proofs.WordMoves.{posts_tell}
use Rattle.vmx_rx_ring.proofs.HomeMoves.{is_home, takes_out}
use Rattle.vmx_rx_ring.proofs.Views.{Table, device_sees, device_keeps}

abbrev pair : ℕ → ℕ → ℕ × ℕ
pair a b = (a, b)

larger_most : (a b c : ℕ) → a ≤ c → b ≤ c → larger a b ≤ c
larger_most a b c p q = by_case (nat_lt a b)
  where
    by_case : (t : Bool) → cond t b a ≤ c
    by_case true = q
    by_case false = p

pub posted_full1 : (m : RxMade) (ds : List Delivery) → m.full ≡ true → posted1 m ds ≡ m.size1 + used took1 ds
posted_full1 m ds e = ap (λ b. cond b m.size1 0 + used took1 ds) e

pub posted_full2 : (m : RxMade) (ds : List Delivery) → m.full ≡ true → posted2 m ds ≡ m.size2 + used took2 ds
posted_full2 m ds e = ap (λ b. cond b m.size2 0 + used took2 ds) e

-- what the ends know of each other, where the device's looks grow
pub knows_more : (m : RxMade) (e : DeviceKnows) (g : DriverKnows) (next1 next2 seen1 seen2 head : ℕ) (looks : List (ℕ × ℕ)) (refused : List (ℕ × ℕ × ℕ)) → Knows m e g → seen1 ≤ m.size1 + g.back1 → seen2 ≤ m.size2 + g.back2 → All (IsRefusal m) refused
    → Knows m (record e { next1 = next1; next2 = next2; seen1 = seen1; seen2 = seen2; head = head; looks = looks; refused = refused }) g
knows_more m e g next1 next2 seen1 seen2 head looks refused k up1 up2 all = record { full = k.full; received = k.received; placed = k.placed; seen1 = up1; seen2 = up2; refusals = all; heard = k.heard; heard1 = k.heard1; heard2 = k.heard2; told = k.told; latest = k.latest }

-- a load that leaves words and buffers, where the device then knows e
device_loads : {how : Bool} (s : Table) (l : Queue how s) (seat : ℕ) (v : Known) (k : ℕ) (next1 next2 seen1 seen2 head : ℕ) (looks : List (ℕ × ℕ)) (refused : List (ℕ × ℕ × ℕ)) → get_elem? s.views seat ≡ some v → v.delivers ≡ true → v.receives ≡ false
    → seen1 ≤ v.made.size1 + l.story.d.back1 → seen2 ≤ v.made.size2 + l.story.d.back2 → All (IsRefusal v.made) refused
    → Queue how record { words = slice_set s.words k (slice_index s.words k); homes = s.homes; views = slice_set s.views seat (with_device v (record v.device { next1 = next1; next2 = next2; seen1 = seen1; seen2 = seen2; head = head; looks = looks; refused = refused })) }
device_loads {how} s l seat v k next1 next2 seen1 seen2 head looks refused at may lone up1 up2 all = let z = device_sees s l seat v at may in let e : DeviceKnows = record v.device { next1 = next1; next2 = next2; seen1 = seen1; seen2 = seen2; head = head; looks = looks; refused = refused } in
    device_keeps s l seat v e (slice_set s.words k (slice_index s.words k)) s.homes at may lone
    (subst (λ ws. Rings how v.made ws (numbers v.made e l.story.d)) (sym (set-get_or s.words k 0)) z.rings) z.homes (knows_more v.made v.device l.story.d next1 next2 seen1 seen2 head looks refused z.knows up1 up2 all) ([], append-nil _) refl refl

-- the search for a head
pub head_looks : (how : Bool) (n seat : ℕ) (me : Seated) (k : ℕ) → me.0.delivers ≡ true → me.0.receives ≡ false → me.1 ≡ [] → me.0.device.gone1 ≤ me.0.device.next1 → me.0.device.next1 ≤ me.0.device.seen1 → k ≡ me.0.device.next1 % me.0.made.size1
    → Allows (Queue how) n seat me k (λ x. x) (head_looked (step n k 0 0 none) me)
head_looks how n seat me k may lone bare low high is s l wide at _ =
    let v : Known = me.0 in let e : DeviceKnows = v.device in let g : DriverKnows = l.story.d in let m : RxMade = v.made in let p : ℕ = e.next1 in let z = device_sees s l seat v at may in let x : ℕ = slice_index s.words k in
    let ends = (rising_ends _ _ _ _ _ z.rings.rising).0 in let up1 = z.knows.seen1 in let heard = z.knows.heard1 in let full = posted_full1 m e.heard z.knows.full in let where_ : k ≡ 0 + p % m.size1 = omega arith in
    ⊎_elim
    (λ (t : (p < m.size1 + g.back1) × (bit 31 (slice_index s.words (0 + p % m.size1)) ≡ generation m.size1 p)). let less = t.0 in let w : Known = with_device v (saw_head e) in (
      w,
      keeps,
      tt,
      device_loads s l seat v k (suc p) e.next2 (larger e.seen1 (suc p)) e.seen2 p e.looks e.refused at may lone (larger_most e.seen1 (suc p) _ up1 (omega arith)) z.knows.seen2 z.knows.refusals,
      ((λ _. ap (λ (c : List (ℕ × Buffer)). (w, c)) bare), λ miss. absurd (not_same (generation m.size1 p) (sym miss ∙ ap (λ (i : ℕ). bit 31 (slice_index s.words i)) where_ ∙ t.1))),
    ))
    (λ (t : (p ≡ m.size1 + g.back1) × (bit 31 (slice_index s.words (0 + p % m.size1)) ≡ not (generation m.size1 p))). let here = t.0 in let miss = ap (λ (i : ℕ). bit 31 (slice_index s.words i)) where_ ∙ t.1 in let w : Known = with_device v (refuses e 1 p x) in (
      w,
      keeps,
      tt,
      device_loads s l seat v k e.gone1 e.gone2 e.seen1 e.seen2 e.head e.looks (e.refused ++ (1, p, x) ∷ []) at may lone up1 z.knows.seen2 (all_more (IsRefusal m) e.refused (1, p, x) z.knows.refusals (miss, λ _. omega arith)),
      ((λ hit. absurd (not_same (generation m.size1 p) (sym miss ∙ hit))), λ _. (ap (λ (c : List (ℕ × Buffer)). (w, c)) bare, omega arith)),
    ))
    (posts_tell s.words 0 m.size1 g.back1 (λ q. kind (is_body m q)) p z.rings.some1 (λ q. kind_small (is_body m q)) (λ q less near. z.rings.posts1 q less near ∙ posted_is (is_body m q) (generation m.size1 q)) (omega arith) (omega arith))

-- a further piece in ring 1
pub one_looks : (how : Bool) (n seat : ℕ) (me : Seated) (k : ℕ) → me.0.delivers ≡ true → me.0.receives ≡ false → me.1 ≡ [] → me.0.device.gone1 ≤ me.0.device.next1 → me.0.device.next1 ≤ me.0.device.seen1 → k ≡ me.0.device.next1 % me.0.made.size1
    → Allows (Queue how) n seat me k (λ x. x) (one_looked (step n k 0 0 none) me)
one_looks how n seat me k may lone bare low high is s l wide at _ =
    let v : Known = me.0 in let e : DeviceKnows = v.device in let g : DriverKnows = l.story.d in let m : RxMade = v.made in let p : ℕ = e.next1 in let z = device_sees s l seat v at may in let x : ℕ = slice_index s.words k in
    let ends = (rising_ends _ _ _ _ _ z.rings.rising).0 in let up1 = z.knows.seen1 in let heard = z.knows.heard1 in let full = posted_full1 m e.heard z.knows.full in let where_ : k ≡ 0 + p % m.size1 = omega arith in
    ⊎_elim
    (λ (t : (p < m.size1 + g.back1) × (bit 31 (slice_index s.words (0 + p % m.size1)) ≡ generation m.size1 p)). let less = t.0 in let w : Known = with_device v (saw_one e) in (
      w,
      keeps,
      tt,
      device_loads s l seat v k (suc p) e.next2 (larger e.seen1 (suc p)) e.seen2 e.head e.looks e.refused at may lone (larger_most e.seen1 (suc p) _ up1 (omega arith)) z.knows.seen2 z.knows.refusals,
      ((λ _. ap (λ (c : List (ℕ × Buffer)). (w, c)) bare), λ miss. absurd (not_same (generation m.size1 p) (sym miss ∙ ap (λ (i : ℕ). bit 31 (slice_index s.words i)) where_ ∙ t.1))),
    ))
    (λ (t : (p ≡ m.size1 + g.back1) × (bit 31 (slice_index s.words (0 + p % m.size1)) ≡ not (generation m.size1 p))). let here = t.0 in let miss = ap (λ (i : ℕ). bit 31 (slice_index s.words i)) where_ ∙ t.1 in let w : Known = with_device v (looks_past e x) in (
      w,
      keeps,
      tt,
      device_loads s l seat v k e.next1 e.next2 e.seen1 e.seen2 e.head (e.looks ++ (p, x) ∷ []) e.refused at may lone up1 z.knows.seen2 z.knows.refusals,
      ((λ hit. absurd (not_same (generation m.size1 p) (sym miss ∙ hit))), λ _. (ap (λ (c : List (ℕ × Buffer)). (w, c)) bare, omega arith)),
    ))
    (posts_tell s.words 0 m.size1 g.back1 (λ q. kind (is_body m q)) p z.rings.some1 (λ q. kind_small (is_body m q)) (λ q less near. z.rings.posts1 q less near ∙ posted_is (is_body m q) (generation m.size1 q)) (omega arith) (omega arith))

-- one in ring 2
pub two_looks : (how : Bool) (n seat : ℕ) (me : Seated) (k : ℕ) → me.0.delivers ≡ true → me.0.receives ≡ false → me.1 ≡ [] → me.0.device.gone2 ≤ me.0.device.next2 → me.0.device.next2 ≤ me.0.device.seen2 → k ≡ me.0.made.size1 + me.0.device.next2 % me.0.made.size2
    → Allows (Queue how) n seat me k (λ x. x) (two_looked (step n k 0 0 none) me)
two_looks how n seat me k may lone bare low high is s l wide at _ =
    let v : Known = me.0 in let e : DeviceKnows = v.device in let g : DriverKnows = l.story.d in let m : RxMade = v.made in let p : ℕ = e.next2 in let z = device_sees s l seat v at may in let x : ℕ = slice_index s.words k in
    let ends = (rising_ends _ _ _ _ _ z.rings.rising).1 in let up2 = z.knows.seen2 in let heard = z.knows.heard2 in let full = posted_full2 m e.heard z.knows.full in
    ⊎_elim
    (λ (t : (p < m.size2 + g.back2) × (bit 31 (slice_index s.words (m.size1 + p % m.size2)) ≡ generation m.size2 p)). let less = t.0 in let w : Known = with_device v (saw_two e) in (
      w,
      keeps,
      tt,
      device_loads s l seat v k e.next1 (suc p) e.seen1 (larger e.seen2 (suc p)) e.head e.looks e.refused at may lone z.knows.seen1 (larger_most e.seen2 (suc p) _ up2 (omega arith)) z.knows.refusals,
      ((λ _. ap (λ (c : List (ℕ × Buffer)). (w, c)) bare), λ miss. absurd (not_same (generation m.size2 p) (sym miss ∙ ap (λ (i : ℕ). bit 31 (slice_index s.words i)) is ∙ t.1))),
    ))
    (λ (t : (p ≡ m.size2 + g.back2) × (bit 31 (slice_index s.words (m.size1 + p % m.size2)) ≡ not (generation m.size2 p))). let here = t.0 in let miss = ap (λ (i : ℕ). bit 31 (slice_index s.words i)) is ∙ t.1 in let w : Known = with_device v (refuses e 2 p x) in (
      w,
      keeps,
      tt,
      device_loads s l seat v k e.gone1 e.gone2 e.seen1 e.seen2 e.head e.looks (e.refused ++ (2, p, x) ∷ []) at may lone z.knows.seen1 up2 (all_more (IsRefusal m) e.refused (2, p, x) z.knows.refusals (miss, λ _. omega arith)),
      ((λ hit. absurd (not_same (generation m.size2 p) (sym miss ∙ hit))), λ _. (ap (λ (c : List (ℕ × Buffer)). (w, c)) bare, omega arith)),
    ))
    (posts_tell s.words m.size1 m.size2 g.back2 (λ _. kind true) p z.rings.some2 (λ _. kind_small true) (λ q less near. z.rings.posts2 q less near ∙ posted_is true (generation m.size2 q)) (omega arith) (omega arith))

-- the load of a first word, of a position that the walk found and that no staged completion has
pub takes_buffer : (how : Bool) (n seat : ℕ) (me : Seated) (k ring p : ℕ) (in_entry : Bool) → me.0.delivers ≡ true → me.0.receives ≡ false → me.1 ≡ [] → me.0.device.filling ≡ None → Between me.0.device.gone1 me.0.device.gone2 ring p me.0.device.seen1 me.0.device.seen2
    → Allows (Queue how) n seat me k (λ x. x) (λ r m'. took ring p in_entry me m')
takes_buffer how n seat me k ring p in_entry may lone bare idle b s l wide at _ =
    let v : Known = me.0 in let e : DeviceKnows = v.device in let g : DriverKnows = l.story.d in let m : RxMade = v.made in let z = device_sees s l seat v at may in let up1 = z.knows.seen1 in let up2 = z.knows.seen2 in
    let in_reach = farther (m.size1 + g.back1) (m.size2 + g.back2) up1 up2 b in let x = is_home m s.words s.homes _ z.rings z.homes ring p idle in_reach in let i : ℕ = slot m ring p in let e' : DeviceKnows = fills e ring p in_entry in let w : Known = with_device v e' in (
      w,
      takes i x.0,
      x.1,
      device_keeps s l seat v e' (slice_set s.words k (slice_index s.words k)) (slice_set s.homes i none) at may lone
          (subst (λ ws. Rings how m ws (numbers m e' g)) (sym (set-get_or s.words k 0)) (record {
            some1 = z.rings.some1;
            some2 = z.rings.some2;
            as_many_words = z.rings.as_many_words;
            posts1 = z.rings.posts1;
            posts2 = z.rings.posts2;
            low = z.rings.low;
            lap = z.rings.lap;
            count_word = z.rings.count_word;
            read_published = z.rings.read_published;
            published_log = z.rings.published_log;
            rising = z.rings.rising;
            within1 = z.rings.within1;
            within2 = z.rings.within2;
            reach = λ ring' p' same. subst (λ (t : ℕ × ℕ). Between e.gone1 e.gone2 t.0 t.1 (m.size1 + g.back1) (m.size2 + g.back2)) (spot_same same) in_reach;
            there = z.rings.there;
            opened_word = z.rings.opened_word;
          }))
          (takes_out m s.words s.homes _ z.rings z.homes ring p idle in_reach)
          (record { full = z.knows.full; received = z.knows.received; placed = z.knows.placed; seen1 = up1; seen2 = up2; refusals = z.knows.refusals; heard = z.knows.heard; heard1 = z.knows.heard1; heard2 = z.knows.heard2; told = z.knows.told; latest = z.knows.latest })
          ([], append-nil _) refl refl,
      (x.0, ap (λ (c : List (ℕ × Buffer)). (w, (i, x.0) ∷ c)) bare, z.homes.rooms i x.0 x.1),
    )
  where
    farther : (a1 a2 : ℕ) → me.0.device.seen1 ≤ a1 → me.0.device.seen2 ≤ a2 → Between me.0.device.gone1 me.0.device.gone2 ring p me.0.device.seen1 me.0.device.seen2 → Between me.0.device.gone1 me.0.device.gone2 ring p a1 a2
    farther a1 a2 up1 up2 b = ⊎_elim
        (λ (z : (ring ≡ 1) × (me.0.device.gone1 ≤ p) × (p < me.0.device.seen1)). let l = z.2 in inl (z.0, z.1, omega arith))
        (λ (z : (ring ≡ 2) × (me.0.device.gone2 ≤ p) × (p < me.0.device.seen2)). let l = z.2 in inr (z.0, z.1, omega arith))
        b

    spot_same : {ring' p' : ℕ} → Some (pair ring p) ≡ Some (pair ring' p') → pair ring p ≡ pair ring' p'
    spot_same same = ap spot_in same
