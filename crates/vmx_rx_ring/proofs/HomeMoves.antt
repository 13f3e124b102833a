-- What each kind of step does to the buffers.
use Rattle.std.proofs.Common.{vec_len, ◌≡◌, ◌≢◌, ℕ, suc, ◌+◌, ◌%◌, ◌<◌, ◌≤◌, List, [], ◌∷◌, ◌++◌, length, take, drop, slice_set, inl, inr, Bool, true, false, true≢false, Option, Some, None, sym, refl, ap, ◌∙◌, subst, ⊎_elim, arith, mod-lt, length-set}
use mathlib.Core.Logic.{dite}
use mathlib.Core.Option.{none, some, some-injective, some-ne-none}
use mathlib.Core.Option as maybe
use native.Mathlib.Decide.{ℕ_discrete}
use lib.ListN.{get_elem?}
use Rattle.atomic_table.proofs.Lists.{set_here, set_else, at_longer}
use Rattle.vmx_ring_laws.specs.Lists.{snoc_cases}
use Rattle.vmx_ring_laws.specs.Moves.{elsewhere}
use Rattle.vmx_ends.specs.declared.made.RxMade.{RxMade}
use Rattle.vmx_rx_ring.specs.declared.known.Buffer.{Buffer}
use Rattle.vmx_rx_ring.specs.declared.known.Entry.{Entry}
use Rattle.vmx_rx_ring.specs.Words.{room_at, count, slot, slot_of, lies as part}
use Rattle.vmx_rx_ring.specs.Rule.{Rising, Between, Numbers, Rings, Rooms, Homes}
use Rattle.vmx_rx_ring.proofs.Risings.{rising_from, rising_first}

abbrev spot_in : Option (ℕ × ℕ) → ℕ × ℕ
spot_in None = (0, 0)
spot_in (Some s) = s

abbrev Slots : Type 0
Slots = List (maybe.Option Buffer)

abbrev nothing : maybe.Option Buffer
nothing = none

none_is_not : (x : Buffer) → some nothing ≢ some (some x)
none_is_not x e = some-ne-none x (sym (some-injective nothing (some x) e))

-- a buffer goes out of its slot, and comes home
pub rooms_out : (m : RxMade) (homes : Slots) (k : ℕ) → k < length homes → Rooms m homes → Rooms m (slice_set homes k none)
rooms_out m homes k low r j x at = dite (ℕ_discrete j k)
    (λ here. absurd (none_is_not x (sym (set_here homes k none low) ∙ ap (λ (i : ℕ). get_elem? (slice_set homes k none) i) (sym here) ∙ at)))
    (λ other. r j x (sym (set_else homes k j none other) ∙ at))

pub rooms_in : (m : RxMade) (homes : Slots) (k : ℕ) (b : Buffer) → k < length homes → vec_len b.bytes ≡ room_at m k → Rooms m homes → Rooms m (slice_set homes k (some b))
rooms_in m homes k b low is r j x at = dite (ℕ_discrete j k)
    (λ here. subst (λ (z : ℕ × Buffer). vec_len z.1.bytes ≡ room_at m z.0) (λ i. (sym here i, same here i)) is)
    (λ other. r j x (sym (set_else homes k j (some b) other) ∙ at))
  where
    same : j ≡ k → b ≡ x
    same here = some-injective b x (some-injective (some b) (some x) (sym (set_here homes k (some b) low) ∙ ap (λ (i : ℕ). get_elem? (slice_set homes k (some b)) i) (sym here) ∙ at))

module _ (m : RxMade) (some1 : 0 < m.size1) (some2 : 0 < m.size2) where
  pub slot_one : (ring p : ℕ) → ring ≡ 1 → slot m ring p ≡ p % m.size1
  slot_one ring p is = ap (λ (r : ℕ). slot m r p) is

  pub slot_two : (ring p : ℕ) → ring ≡ 2 → slot m ring p ≡ m.size1 + p % m.size2
  slot_two ring p is = ap (λ (r : ℕ). slot m r p) is

  pub slot_below : (a1 a2 ring p b1 b2 : ℕ) → Between a1 a2 ring p b1 b2 → slot m ring p < count m
  slot_below a1 a2 ring p b1 b2 b = ⊎_elim
      (λ (z : (ring ≡ 1) × (a1 ≤ p) × (p < b1)). let s = slot_one ring p z.0 in let l : p % m.size1 < m.size1 = mod-lt p some1 in omega arith)
      (λ (z : (ring ≡ 2) × (a2 ≤ p) × (p < b2)). let s = slot_two ring p z.0 in let l : p % m.size2 < m.size2 = mod-lt p some2 in omega arith)
      b

  -- a position of the second part of a lap has another slot than one of the first part
  pub slots_apart : (a1 a2 c1 c2 ring p ring' p' : ℕ) → Between a1 a2 ring p c1 c2 → Between c1 c2 ring' p' (m.size1 + a1) (m.size2 + a2) → slot m ring p ≢ slot m ring' p'
  slots_apart a1 a2 c1 c2 ring p ring' p' b b' = ⊎_elim
      (λ (z : (ring ≡ 1) × (a1 ≤ p) × (p < c1)). ⊎_elim
      (λ (z' : (ring' ≡ 1) × (c1 ≤ p') × (p' < m.size1 + a1)). let u = z.1 in let l = z.2 in let u' = z'.1 in let l' = z'.2 in
      λ e. elsewhere m.size1 p p' (omega arith) (omega arith) (sym (slot_one ring' p' z'.0) ∙ sym e ∙ slot_one ring p z.0))
      (λ (z' : (ring' ≡ 2) × (c2 ≤ p') × (p' < m.size2 + a2)). let l : p % m.size1 < m.size1 = mod-lt p some1 in let s = slot_one ring p z.0 in let s' = slot_two ring' p' z'.0 in λ e. omega arith)
      b')
      (λ (z : (ring ≡ 2) × (a2 ≤ p) × (p < c2)). ⊎_elim
      (λ (z' : (ring' ≡ 1) × (c1 ≤ p') × (p' < m.size1 + a1)). let l : p' % m.size1 < m.size1 = mod-lt p' some1 in let s = slot_two ring p z.0 in let s' = slot_one ring' p' z'.0 in λ e. omega arith)
      (λ (z' : (ring' ≡ 2) × (c2 ≤ p') × (p' < m.size2 + a2)). let u = z.1 in let l = z.2 in let u' = z'.1 in let l' = z'.2 in let s = slot_two ring p z.0 in let s' = slot_two ring' p' z'.0 in
      λ e. elsewhere m.size2 p p' (omega arith) (omega arith) (omega arith))
      b')
      b

module _ {how : Bool} (m : RxMade) (words : List ℕ) (homes : Slots) (y : Numbers) (r : Rings how m words y) (h : Homes m homes y) where
  -- where an unread completion lies
  pub lies : (q : ℕ) (e : Entry) → y.read ≤ q → get_elem? y.log q ≡ some e → Between y.back1 y.back2 e.ring e.position y.gone1 y.gone2
  lies q e le at = rising_from y.back1 y.back2 y.log y.read y.gone1 y.gone2 q e r.rising le at

  -- a position that the device may use has another slot
  apart : (ring p : ℕ) → Between y.gone1 y.gone2 ring p (m.size1 + y.back1) (m.size2 + y.back2) → (q : ℕ) (e : Entry) → y.read ≤ q → get_elem? y.log q ≡ some e → slot_of m e ≢ slot m ring p
  apart ring p b q e le at = slots_apart m r.some1 r.some2 _ _ _ _ e.ring e.position ring p (lies q e le at) b

  -- so has the completion behind the first unread one
  behind_first : (e : Entry) → get_elem? y.log y.read ≡ some e → (q : ℕ) (z : Entry) → suc y.read ≤ q → get_elem? y.log q ≡ some z → slot_of m z ≢ slot_of m e
  behind_first e at q z le is = let in1 = r.within1 in let in2 = r.within2 in ⊎_elim
      (λ (f : (e.ring ≡ 1) × (y.back1 ≤ e.position) × Rising (suc e.position) y.back2 (drop (suc y.read) y.log) y.gone1 y.gone2). let up = f.1 in
      let own : Between e.position y.back2 e.ring e.position (suc e.position) y.back2 = inl (f.0, omega arith, omega arith) in
      let other = wider z _ _ _ _ _ _ (omega arith) (omega arith) (rising_from _ _ y.log (suc y.read) _ _ q z f.2 le is) in
      λ same. slots_apart m r.some1 r.some2 e.position y.back2 (suc e.position) y.back2 e.ring e.position z.ring z.position own other (sym same))
      (λ (f : (e.ring ≡ 2) × (y.back2 ≤ e.position) × Rising y.back1 (suc e.position) (drop (suc y.read) y.log) y.gone1 y.gone2). let up = f.1 in
      let own : Between y.back1 e.position e.ring e.position y.back1 (suc e.position) = inr (f.0, omega arith, omega arith) in
      let other = wider z _ _ _ _ _ _ (omega arith) (omega arith) (rising_from _ _ y.log (suc y.read) _ _ q z f.2 le is) in
      λ same. slots_apart m r.some1 r.some2 y.back1 e.position y.back1 (suc e.position) e.ring e.position z.ring z.position own other (sym same))
      (rising_first y.back1 y.back2 y.log y.read y.gone1 y.gone2 e r.rising at)
    where
      wider : (z : Entry) (c1 c2 b1 b2 d1 d2 : ℕ) → b1 ≤ d1 → b2 ≤ d2 → Between c1 c2 z.ring z.position b1 b2 → Between c1 c2 z.ring z.position d1 d2
      wider z c1 c2 b1 b2 d1 d2 p q b = ⊎_elim (λ (f : (z.ring ≡ 1) × (c1 ≤ z.position) × (z.position < b1)). let l = f.2 in inl (f.0, f.1, omega arith)) (λ (f : (z.ring ≡ 2) × (c2 ≤ z.position) × (z.position < b2)). let l = f.2 in inr (f.0, f.1, omega arith)) b

  -- the buffer that the device takes is at home
  pub is_home : (ring p : ℕ) → y.filling ≡ None → Between y.gone1 y.gone2 ring p (m.size1 + y.back1) (m.size2 + y.back2) → (x : Buffer) × (get_elem? homes (slot m ring p) ≡ some (some x))
  is_home ring p idle b = h.at_home (slot m ring p) (slot_below m r.some1 r.some2 _ _ ring p _ _ b) (λ ring' p' e. absurd (cc (sym idle ∙ e))) (λ e reading at. apart ring p b y.read e (omega arith) at)

  pub takes_out : (ring p : ℕ) → y.filling ≡ None → Between y.gone1 y.gone2 ring p (m.size1 + y.back1) (m.size2 + y.back2) → Homes m (slice_set homes (slot m ring p) none) (record y { filling = Some (ring, p) })
  takes_out ring p idle b = let k : ℕ = slot m ring p in let low = slot_below m r.some1 r.some2 _ _ ring p _ _ b in let many = h.as_many_slots in record {
    as_many_slots = length-set homes k none ∙ many;
    rooms = rooms_out m homes k (omega arith) h.rooms;
    at_home = λ j less other still. let x = h.at_home j less (λ ring' p' e. absurd (cc (sym idle ∙ e))) still in (x.0, set_else homes k j none (λ e. other ring p refl (sym e)) ∙ x.1);
    filled = λ q e le at still. let x = h.filled q e le at still in (x.0, set_else homes k (slot_of m e) none (apart ring p b q e le at) ∙ x.1, x.2);
  }

  -- it comes home with its piece
  pub puts_home : (e : Entry) (x : Buffer) (g1 g2 : ℕ) → y.filling ≡ Some (e.ring, e.position) → take (length e.bytes) (part e.in_data x) ≡ e.bytes → vec_len x.bytes ≡ room_at m (slot_of m e)
      → Homes m (slice_set homes (slot_of m e) (some x)) (record y { log = y.log ++ e ∷ []; opened = []; filling = None; gone1 = g1; gone2 = g2 })
  puts_home e x g1 g2 out holds room = let k : ℕ = slot_of m e in let b = r.reach e.ring e.position out in let low = slot_below m r.some1 r.some2 _ _ e.ring e.position _ _ b in let many = h.as_many_slots in record {
    as_many_slots = length-set homes k (some x) ∙ many;
    rooms = rooms_in m homes k x (omega arith) room h.rooms;
    at_home = λ j less other still. dite (ℕ_discrete j k)
        (λ here. (x, ap (λ (i : ℕ). get_elem? (slice_set homes k (some x)) i) here ∙ set_here homes k (some x) (omega arith)))
        (λ apart. let z = h.at_home j less (λ ring p is same. apart (sym same ∙ ap (λ (s : ℕ × ℕ). slot m s.0 s.1) (sym (ap spot_in (sym out ∙ is))))) (λ f reading at. still f reading (at_longer y.log (e ∷ []) y.read f at)) in
        (z.0, set_else homes k j (some x) apart ∙ z.1));
    filled = λ q f le at still. ⊎_elim
        (λ (c : (q ≡ length y.log) × (e ≡ f)). subst (λ (z : Entry). (b : Buffer) × (get_elem? (slice_set homes k (some x)) (slot_of m z) ≡ some (some b)) × (take (length z.bytes) (part z.in_data b) ≡ z.bytes)) c.1 (x, set_here homes k (some x) (omega arith), holds))
        (λ (c : (q < length y.log) × (get_elem? y.log q ≡ some f)). let z = h.filled q f le c.1 still in (z.0, set_else homes k (slot_of m f) (some x) (apart e.ring e.position b q f le c.1) ∙ z.1, z.2))
        (snoc_cases y.log e f q at);
  }

  -- the driver takes out the buffer of the first unread completion
  pub grabs : (e : Entry) → y.reading ≡ false → get_elem? y.log y.read ≡ some e → Homes m (slice_set homes (slot_of m e) none) (record y { reading = true })
  grabs e idle at = let k : ℕ = slot_of m e in let low = slot_below m r.some1 r.some2 _ _ e.ring e.position _ _ (lies y.read e (omega arith) at) in let in1 = r.within1 in let in2 = r.within2 in let many = h.as_many_slots in record {
    as_many_slots = length-set homes k none ∙ many;
    rooms = rooms_out m homes k (omega arith) h.rooms;
    at_home = λ j less other still. let x = h.at_home j less other (λ f reading is. absurd (true≢false (sym reading ∙ idle))) in (x.0, set_else homes k j none (λ same. still e refl at (sym same)) ∙ x.1);
    filled = λ q f le is still. let x = h.filled q f le is (λ _. idle) in
        (x.0, set_else homes k (slot_of m f) none (behind_first e at q f (let n : q ≢ y.read = λ same. absurd (true≢false (still same)) in omega arith) is) ∙ x.1, x.2);
  }

  -- it puts it home
  pub gives_home : (e : Entry) (x : Buffer) (a1 a2 : ℕ) → y.reading ≡ true → get_elem? y.log y.read ≡ some e → vec_len x.bytes ≡ room_at m (slot_of m e) → Homes m (slice_set homes (slot_of m e) (some x)) (record y { back1 = a1; back2 = a2; read = suc y.read; reading = false })
  gives_home e x a1 a2 reading at room = let k : ℕ = slot_of m e in let low = slot_below m r.some1 r.some2 _ _ e.ring e.position _ _ (lies y.read e (omega arith) at) in let many = h.as_many_slots in record {
    as_many_slots = length-set homes k (some x) ∙ many;
    rooms = rooms_in m homes k x (omega arith) room h.rooms;
    at_home = λ j less other still. dite (ℕ_discrete j k)
        (λ here. (x, ap (λ (i : ℕ). get_elem? (slice_set homes k (some x)) i) here ∙ set_here homes k (some x) (omega arith)))
        (λ apart. let z = h.at_home j less other (λ f reading' is same. apart (sym same ∙ ap (slot_of m) (some-injective f e (sym is ∙ at)))) in (z.0, set_else homes k j (some x) apart ∙ z.1));
    filled = λ q f le is still. let z = h.filled q f (omega arith) is (λ same. absurd (omega arith)) in (z.0, set_else homes k (slot_of m f) (some x) (behind_first e at q f le is) ∙ z.1, z.2);
  }
