-- What the loads of the walk come to.
use Rattle.std.proofs.Common.{◌≡◌, ℕ, zero, suc, ◌+◌, ◌-◌, ◌%◌, ◌<◌, ◌≤◌, inl, inr, List, [], ◌∷◌, ◌++◌, Bool, true, false, not, cond, nat_lt, Option, Some, None, All, sym, refl, ap, ap₂, ◌∙◌, subst, ⊎_elim, arith, append-nil, append_assoc, mod-lt}
use mathlib.Core.Logic.{dite}
use native.Mathlib.Decide.{ℕ_discrete}
use Rattle.atomic_table.specs.Seated.{TableId}
use Rattle.std.proofs.lemmas.Bool.{ltb-true, ltb-false}
use Rattle.std.proofs.lemmas.List.Elements.{All-nil, All-append}
use Rattle.vmx_genring.specs.Rings.{generation}
use Rattle.vmx_ends.specs.Words.{bit, IsMissed}
use Rattle.vmx_ends.specs.Frames.{larger}
use Rattle.vmx_ends.specs.Receive.{is_body, posted1, posted2}
use Rattle.vmx_ends.specs.Walk.{Stand, at_head, from_one, from_two, by_load, further, walk, AreBodies}
use Rattle.vmx_ends.specs.Core.{head_from}
use Rattle.vmx_ends.specs.Alls.{all_more}
use Rattle.vmx_ends.specs.declared.made.RxMade.{RxMade}
use Rattle.vmx_ends.specs.declared.made.RxShape.{RxShape}
use Rattle.vmx_ends.specs.declared.frames.Delivery.{Delivery}
use Rattle.vmx_rx_ring.specs.declared.known.DeviceKnows.{DeviceKnows}
use Rattle.vmx_rx_walk.specs.declared.walking.HeadEnd.{HeadEnd}
use Rattle.vmx_rx_walk.specs.declared.walking.HeadEnd.TheVariants as head
use Rattle.vmx_rx_ring.specs.Tells.{Seated, with_device, saw_head, saw_one, saw_two, refuses, looks_past}
use Rattle.vmx_rx_walk.specs.declared.walking.More.TheVariants as on
use Rattle.vmx_rx_ring.specs.Shapes.{IsTable}
use Rattle.vmx_rx_walk.specs.Walking.{HeadSearched, LooksAtOne, IsPast, Walking, WalkMissed, LooksOn}

pub larger_first : (a b : ℕ) → a ≤ larger a b
larger_first a b = by_case (nat_lt a b) refl
  where
    by_case : (t : Bool) → nat_lt a b ≡ t → a ≤ cond t b a
    by_case true e = let less = ltb-true a b e in omega arith
    by_case false e = omega arith

pub larger_second : (a b : ℕ) → b ≤ larger a b
larger_second a b = by_case (nat_lt a b) refl
  where
    by_case : (t : Bool) → nat_lt a b ≡ t → b ≤ cond t b a
    by_case true e = omega arith
    by_case false e = ltb-false a b e

-- the indices of words
pub word1_below : (how : Bool) (a b : TableId) (s : RxShape) (p : ℕ) → IsTable how a b s → p % s.size1 < b.words
word1_below how a b s p t = let same = ap (λ z. z.words) t.0 in let w = t.1 in let b1 = t.2.0 in let b2 = t.2.2 in let l : p % s.size1 < s.size1 = mod-lt p (omega arith) in omega arith

pub word2_below : (how : Bool) (a b : TableId) (s : RxShape) (p : ℕ) → IsTable how a b s → s.size1 + p % s.size2 < b.words
word2_below how a b s p t = let same = ap (λ z. z.words) t.0 in let w = t.1 in let b1 = t.2.0 in let b2 = t.2.2 in let l : p % s.size2 < s.size2 = mod-lt p (omega arith) in omega arith

-- the bit as the call found it, in the view's words
pub hit_in : (a b p q word : ℕ) → a ≡ b → p ≡ q → bit 31 word ≡ generation a p → bit 31 word ≡ generation b q
hit_in a b p q word e f hit = hit ∙ ap₂ generation e f

pub miss_in : (a b p q word : ℕ) → a ≡ b → p ≡ q → IsMissed 31 a p word → IsMissed 31 b q word
miss_in a b p q word e f miss = miss ∙ ap₂ (λ (x y : ℕ). not (generation x y)) e f

-- a body is passed over
pub passes : (m m1 m2 : Seated) (r : HeadEnd) → m1 ≡ (with_device m.0 (saw_head m.0.device), []) → is_body m.0.made m.0.device.next1 ≡ true → HeadSearched m1 r m2 → HeadSearched m r m2
passes m m1 m2 r is body f = by_end r (subst (λ (z : Seated). HeadSearched z r m2) is f)
  where
    e : DeviceKnows
    e = m.0.device

    more : (p : ℕ) → AreBodies m.0.made (suc e.next1) p → AreBodies m.0.made e.next1 p
    more p b = let up = b.0 in (omega arith, λ q low less. dite (ℕ_discrete q e.next1) (λ here. ap (is_body m.0.made) here ∙ body) (λ other. b.1 q (omega arith) less))

    by_end : (r : HeadEnd) → HeadSearched (with_device m.0 (saw_head e), []) r m2 → HeadSearched m r m2
    by_end (head.Found p) f = let a = larger_first e.seen1 (suc e.next1) in let b = f.2 in (f.0, f.1, omega arith, f.3, (more p f.4.0, f.4.1))
    by_end (head.Missing p word) f = let a = larger_first e.seen1 (suc e.next1) in let b = f.3 in (f.0, f.1, f.2, omega arith, f.4, more p f.5, f.6, f.7)

-- the head is found
pub finds : (m m1 : Seated) (p : ℕ) → m1 ≡ (with_device m.0 (saw_head m.0.device), []) → p ≡ m.0.device.next1 → is_body m.0.made m.0.device.next1 ≡ false → HeadSearched m (head.Found p) m1
finds m m1 p is here headed = let e : DeviceKnows = m.0.device in subst (λ (q : ℕ). HeadSearched m (head.Found q) m1) (sym here)
    (larger e.seen1 (suc e.next1), is, larger_first e.seen1 (suc e.next1), larger_second e.seen1 (suc e.next1), ((omega arith, λ q low less. absurd (omega arith)), headed))

pub finds_none : (m m1 : Seated) (p word : ℕ) → m1 ≡ (with_device m.0 (refuses m.0.device 1 m.0.device.next1 word), []) → p ≡ m.0.device.next1 → m.0.device.next1 ≤ m.0.device.seen1 → IsMissed 31 m.0.made.size1 m.0.device.next1 word → posted1 m.0.made m.0.device.heard ≤ m.0.device.next1
    → HeadSearched m (head.Missing p word) m1
finds_none m m1 p word is here low miss past = let e : DeviceKnows = m.0.device in subst (λ (q : ℕ). HeadSearched m (head.Missing q word) m1) (sym here)
    (e.seen1, e.head, is, omega arith, low, (omega arith, λ q a b. absurd (omega arith)), miss, past)

-- the fuel reaches the head
pub fuel_left : (m : RxMade) (fuel p : ℕ) → head_from m fuel p < p + fuel → 0 < fuel
fuel_left m zero p less = absurd (omega arith)
fuel_left m (suc fuel) p less = omega arith

pub nearer : (m : RxMade) (fuel p : ℕ) → head_from m fuel p < p + fuel → is_body m p ≡ true → head_from m (fuel - 1) (p + 1) < p + 1 + (fuel - 1)
nearer m zero p less body = absurd (omega arith)
nearer m (suc fuel) p less body = let step : head_from m (suc fuel) p ≡ head_from m fuel (suc p) = ap (λ b. cond b (head_from m fuel (suc p)) p) body in
    let same : head_from m (suc fuel - 1) (p + 1) ≡ head_from m fuel (suc p) = (let u : suc fuel - 1 ≡ fuel = omega arith in let w : p + 1 ≡ suc p = omega arith in ap₂ (λ (a b : ℕ). head_from m a b) u w) in omega arith

-- a walk with one answer more
walk_more : (m : RxMade) (a : Stand) (found : List (Option ℕ)) (f : Option ℕ) → walk m a (found ++ f ∷ []) ≡ further m (walk m a found) f
walk_more m a [] f = refl
walk_more m a (g ∷ found) f = walk_more m (further m a g) found f

-- a further piece from ring 1
walking_one : (m : RxMade) (e0 e : DeviceKnows) (h : ℕ) (a : Stand) (found : List (Option ℕ)) → is_body m e.next1 ≡ true → Walking m e0 e h a found
    → (f : Option ℕ) × Walking m e0 (saw_one e) h (further m a f) (found ++ f ∷ []) × ((further m a f).chain ≡ a.chain ++ (1, e.next1) ∷ [])
walking_one m e0 e h a found body w = let at : e.next1 ≡ a.next1 = ap (λ (z : DeviceKnows). z.next1) w.is in
    let goes : further m a None ≡ from_one a = ap (λ b. cond b (from_one a) (from_two a)) (sym (ap (is_body m) at) ∙ body) in let seen = w.seen.1 in let was1 = w.was.0 in let was2 = w.was.1 in
    let l1 = larger_first e.seen1 (suc e.next1) in let l2 = larger_second e.seen1 (suc e.next1) in (
      None,
      subst (λ (b : Stand). Walking m e0 (saw_one e) h b (found ++ None ∷ [])) (sym goes) record {
        is = (λ i. record (w.is i) { next1 = suc (e.next1); seen1 = larger e.seen1 (suc e.next1) }) ∙ (λ i. record e0 { next1 = suc (at i); next2 = a.next2; head = h; looks = e0.looks ++ a.looks; seen1 = larger e.seen1 (suc e.next1); seen2 = e.seen2 });
        walked = sym goes ∙ ap (λ (b : Stand). further m b None) w.walked ∙ sym (walk_more m (at_head h e0.gone2) found None);
        was = (omega arith, was2);
        seen = (omega arith, seen);
        looked = w.looked;
      },
      ap (λ (b : Stand). b.chain) goes ∙ ap (λ (p : ℕ). a.chain ++ (1, p) ∷ []) (sym at),
    )

-- one from ring 2, where ring 1's next is HEAD, or BODY and the driver's
walking_two : (m : RxMade) (e0 e : DeviceKnows) (h : ℕ) (a : Stand) (found : List (Option ℕ)) (e1 : DeviceKnows) (more : List (ℕ × ℕ)) (f : Option ℕ) → Walking m e0 e h a found → e1 ≡ record e { looks = e.looks ++ more }
    → further m a f ≡ from_two (record a { looks = a.looks ++ more }) → All (IsPast m e0) (a.looks ++ more)
    → Walking m e0 (saw_two e1) h (further m a f) (found ++ f ∷ []) × ((further m a f).chain ≡ a.chain ++ (2, e.next2) ∷ [])
walking_two m e0 e h a found e1 more f w is goes all = let at : e.next2 ≡ a.next2 = ap (λ (z : DeviceKnows). z.next2) w.is in let at1 : e.next1 ≡ a.next1 = ap (λ (z : DeviceKnows). z.next1) w.is in let seen = w.seen.0 in let was1 = w.was.0 in let was2 = w.was.1 in
    let l1 = larger_first e.seen2 (suc e.next2) in let l2 = larger_second e.seen2 (suc e.next2) in (
      subst (λ (z : Stand × DeviceKnows). Walking m e0 (saw_two z.1) h z.0 (found ++ f ∷ [])) (λ i. (sym goes i, sym is i)) record {
        is = (λ i. record (w.is i) { next2 = suc (at i); looks = (w.is i).looks ++ more; seen2 = larger e.seen2 (suc e.next2) }) ∙ (λ i. record e0 { next1 = a.next1; next2 = suc a.next2; head = h; looks = append_assoc e0.looks a.looks more i; seen1 = e.seen1; seen2 = larger e.seen2 (suc e.next2) });
        walked = sym goes ∙ ap (λ (b : Stand). further m b f) w.walked ∙ sym (walk_more m (at_head h e0.gone2) found f);
        was = (was1, omega arith);
        seen = (seen, omega arith);
        looked = all;
      },
      ap (λ (b : Stand). b.chain) goes ∙ ap (λ (p : ℕ). a.chain ++ (2, p) ∷ []) (sym at),
    )

-- the look at ring 1 that leaves the piece to ring 2
record PastOne (m m1 : Seated) : Type 0 where
  more : List (ℕ × ℕ)
  f : Option ℕ
  now : m1 ≡ (with_device m.0 (record m.0.device { looks = m.0.device.looks ++ more }), [])
  goes : (a : Stand) → a.next1 ≡ m.0.device.next1 → further m.0.made a f ≡ from_two (record a { looks = a.looks ++ more })
  past : All (IsPast m.0.made m.0.device) more

past_one : (m m1 : Seated) → LooksAtOne m false m1 → PastOne m m1
past_one m m1 l = let e : DeviceKnows = m.0.device in ⊎_elim
    (λ (z : (is_body m.0.made e.next1 ≡ false) × (m1 ≡ (with_device m.0 e, []))). record {
      more = [];
      f = None;
      now = z.1 ∙ (λ i. (with_device m.0 (record e { looks = sym (append-nil e.looks) i }), []));
      goes = λ a at. ap (λ b. cond b (from_one a) (from_two a)) (ap (is_body m.0.made) at ∙ z.0) ∙ (λ i. from_two (record a { looks = sym (append-nil a.looks) i }));
      past = All-nil (IsPast m.0.made e);
    })
    (λ (z : (word : ℕ) × (is_body m.0.made e.next1 ≡ true) × (m1 ≡ (with_device m.0 (looks_past e word), [])) × IsPast m.0.made e (e.next1, word)). record {
      more = (e.next1, z.0) ∷ [];
      f = Some z.0;
      now = z.2;
      goes = λ a at. ap (λ b. cond b (by_load a (Some z.0)) (from_two a)) (ap (is_body m.0.made) at ∙ z.1) ∙ (λ i. from_two (record a { looks = a.looks ++ (at i, z.0) ∷ [] }));
      past = all_more (IsPast m.0.made e) [] (e.next1, z.0) (All-nil (IsPast m.0.made e)) z.3;
    })
    l

-- what was known at the start of the walk is the same
same_past : (m : RxMade) (e0 e : DeviceKnows) (h : ℕ) (a : Stand) (found : List (Option ℕ)) (more : List (ℕ × ℕ)) → Walking m e0 e h a found → All (IsPast m e) more → All (IsPast m e0) (a.looks ++ more)
same_past m e0 e h a found more w all = All-append (IsPast m e0) a.looks more w.looked (subst (λ (ds : List Delivery). All (λ (look : ℕ × ℕ). IsMissed 31 m.size1 look.0 look.1 × (posted1 m ds ≤ look.0)) more) (ap (λ (z : DeviceKnows). z.heard) w.is) all)

pub more_one : (m m1 : Seated) (one : ℕ) → one ≡ m.0.device.next1 → LooksAtOne m true m1 → LooksOn m (on.Ring 1 one) m1
more_one m m1 one here l = let e : DeviceKnows = m.0.device in let now = l.1 in subst (λ (z : ℕ × Seated). LooksOn m (on.Ring 1 z.0) z.1) (λ i. (sym here i, sym now i))
    (refl, inl (refl, refl, refl, refl), (λ r. (larger_second e.seen1 (suc e.next1), r.1), refl, refl, refl), λ e0 h a found w. walking_one m.0.made e0 e h a found l.0 w)

pub more_two : (m m1 m2 : Seated) (two : ℕ) → two ≡ m.0.device.next2 → LooksAtOne m false m1 → m2 ≡ (with_device m1.0 (saw_two m1.0.device), []) → LooksOn m (on.Ring 2 two) m2
more_two m m1 m2 two here l now = let p = past_one m m1 l in let e : DeviceKnows = m.0.device in let e1 : DeviceKnows = record e { looks = e.looks ++ p.more } in
    let is : m2 ≡ (with_device m.0 (saw_two e1), []) = now ∙ (λ i. (with_device (p.now i).0 (saw_two (p.now i).0.device), [])) in
    subst (λ (z : ℕ × Seated). LooksOn m (on.Ring 2 z.0) z.1) (λ i. (sym here i, sym is i))
    (refl, inr (refl, refl, refl, refl), (λ r. (r.0, larger_second e.seen2 (suc e.next2)), refl, refl, refl), λ e0 h a found w. let r = walking_two m.0.made e0 e h a found e1 p.more p.f w refl (p.goes a (sym (ap (λ (z : DeviceKnows). z.next1) w.is))) (same_past m.0.made e0 e h a found p.more w p.past) in (p.f, r.0, r.1))

pub more_none : (m m1 m2 : Seated) (two word : ℕ) → two ≡ m.0.device.next2 → m.0.device.next2 ≤ m.0.device.seen2 → LooksAtOne m false m1 → m2 ≡ (with_device m1.0 (refuses m1.0.device 2 m1.0.device.next2 word), []) → IsMissed 31 m.0.made.size2 m.0.device.next2 word → posted2 m.0.made m.0.device.heard ≤ m.0.device.next2
    → LooksOn m (on.Missing two word) m2
more_none m m1 m2 two word here low l now miss past = let p = past_one m m1 l in let e : DeviceKnows = m.0.device in let e1 : DeviceKnows = record e { looks = e.looks ++ p.more } in
    let is : m2 ≡ (with_device m.0 (refuses e1 2 e.next2 word), []) = now ∙ (λ i. (with_device (p.now i).0 (refuses (p.now i).0.device 2 (p.now i).0.device.next2 word), [])) in
    subst (λ (z : ℕ × Seated). LooksOn m (on.Missing z.0 word) z.1) (λ i. (sym here i, sym is i)) (
      refl,
      miss,
      past,
      λ e0 h a found w. let goes = p.goes a (sym (ap (λ (z : DeviceKnows). z.next1) w.is)) in let at : e.next2 ≡ a.next2 = ap (λ (z : DeviceKnows). z.next2) w.is in let seen1 = w.seen.0 in let was1 = w.was.0 in let was2 = w.was.1 in (
        p.f,
        subst (λ (b : Stand). WalkMissed m.0.made e0 (refuses e1 2 e.next2 word) h e.next2 word b (found ++ p.f ∷ [])) (sym goes) record {
          is = (λ i. record (w.is i) { refused = (w.is i).refused ++ (2, e.next2, word) ∷ []; next1 = (w.is i).gone1; next2 = (w.is i).gone2; looks = (w.is i).looks ++ p.more })
              ∙ (λ i. record e0 { refused = e0.refused ++ (2, e.next2, word) ∷ []; next1 = e0.gone1; next2 = e0.gone2; head = h; looks = append_assoc e0.looks a.looks p.more i; seen1 = e.seen1; seen2 = e.seen2 });
          walked = sym goes ∙ ap (λ (b : Stand). further m.0.made b p.f) w.walked ∙ sym (walk_more m.0.made (at_head h e0.gone2) found p.f);
          was = (was1, was2);
          seen = (seen1, low);
          looked = same_past m.0.made e0 e h a found p.more w p.past;
        },
        ap (λ (b : Stand). b.chain) goes ∙ ap (λ (q : ℕ). a.chain ++ (2, q) ∷ []) (sym at),
      ),
    )

-- the seat after the look at ring 1
pub after_one : (m m1 : Seated) → LooksAtOne m false m1 → (m1.0.delivers ≡ m.0.delivers) × (m1.0.receives ≡ m.0.receives) × (m1.1 ≡ []) × (m1.0.made ≡ m.0.made) × (m1.0.device.next2 ≡ m.0.device.next2) × (m1.0.device.gone2 ≡ m.0.device.gone2) × (m1.0.device.seen2 ≡ m.0.device.seen2) × (m1.0.device.heard ≡ m.0.device.heard)
after_one m m1 l = let p = past_one m m1 l in let n = p.now in (ap (λ z. z.0.delivers) n, ap (λ z. z.0.receives) n, ap (λ z. z.1) n, ap (λ z. z.0.made) n, ap (λ z. z.0.device.next2) n, ap (λ z. z.0.device.gone2) n, ap (λ z. z.0.device.seen2) n, ap (λ z. z.0.device.heard) n)
