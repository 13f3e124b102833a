-- What a delivery comes to, from the walk, the staging and the publishing.
use Rattle.std.proofs.Common.{◌≡◌, ◌≢◌, ℕ, zero, suc, ◌+◌, ◌-◌, ◌/◌, ◌≤◌, inl, inr, List, [], ◌∷◌, ◌++◌, length, take, true, false, true≢false, None, sym, refl, ap, ◌∙◌, subst, ⊎_elim, arith, append-nil, length-append, length-take-le}
use mathlib.Core.Option.{some}
use lib.ListN.{get_elem?}
use Rattle.vmx_ends.specs.Frames.{IsFrame}
use Rattle.vmx_ends.specs.Receive.{is_body, used, took1, took2, pieces_of, in_ring}
use Rattle.vmx_ends.specs.ReceiveClauses.{made_of, DeliversFrame, Refuses, GrowsDelivered}
use Rattle.vmx_ends.specs.Walk.{Stand, at_head, walk, AreBodies, IsHead}
use Rattle.vmx_ends.specs.WalkCounts.{used-append}
use Rattle.vmx_ends.specs.declared.made.RxMade.{RxMade}
use Rattle.vmx_ends.specs.declared.made.RxShape.{RxShape}
use Rattle.vmx_ends.specs.declared.meta.RxMeta.{RxMeta}
use Rattle.vmx_ends.specs.declared.frames.Delivery.{Delivery}
use Rattle.vmx_rx_ring.specs.declared.known.Entry.{Entry}
use Rattle.vmx_rx_ring.specs.declared.known.DeviceKnows.{DeviceKnows}
use Rattle.vmx_rx_ring.specs.declared.known.Known.{Known}
use Rattle.vmx_rx_ring.specs.declared.known.Spot.{Spot}
use Rattle.vmx_rx_walk.specs.declared.walking.HeadEnd.TheVariants as head
use Rattle.vmx_rx_walk.specs.declared.walking.Plan.TheVariants as plan
use Rattle.vmx_rx_ring.specs.Words.{body_of, body_word, entry, entries, entries_from, flat, TagFits}
use Rattle.vmx_rx_ring.specs.Rule.{IsPlaced}
use Rattle.vmx_rx_ring.specs.Tells.{Seated, with_device, delivers}
use Rattle.vmx_rx_ring.specs.Shapes.{IsShape}
use Rattle.vmx_rx_ring.specs.Words.{spot_of}
use Rattle.vmx_rx_walk.specs.Walking.{IsDevice, chain_of, AreInBodies, IsResting, PlanGoes, PlanStops, HeadSearched, Planned}
use Rattle.vmx_rx_walk.specs.Staging.{AreFor, AreFitting, moved, has_staged, WillDeliver, HasDelivered}
use Rattle.vmx_rx_ends.specs.Views.{device_seen}
use Rattle.vmx_rx_walk.proofs.Ways.{head_soonest}
use Rattle.vmx_rx_ring.proofs.Flats.{flat_count}
use Rattle.vmx_rx_ends.proofs.Follows.{Follows, follows_count, follows_sum, in_ring_few, follows_at, WalkFollows, walk_follows, tail_of, chain_tail, are_for}
use Rattle.vmx_rx_ends.proofs.Deliveries.{same_delivery}

abbrev tail : List (ℕ × ℕ) → List (ℕ × ℕ)
tail [] = []
tail (x ∷ xs) = xs

first_entry : (mm : RxMade) (n : ℕ) (meta : RxMeta) (a b c : Spot) (frame : List ℕ) (body : ℕ) → (n ≡ 0 → body ≡ body_of true meta frame) → (n ≢ 0 → body ≡ body_of false meta (take 2048 frame))
    → (e : Entry) × (get_elem? (entries_from mm true meta (chain_of n a b c) frame) 0 ≡ some e) × (e.body ≡ body)
first_entry mm zero meta a b c frame body one more = (entry mm true true meta (spot_of a) frame, refl, sym (one refl))
first_entry mm (suc zero) meta a b c frame body one more = (entry mm true false meta (spot_of a) (take 2048 frame), refl, sym (more (λ e. omega arith)))
first_entry mm (suc (suc n)) meta a b c frame body one more = (entry mm true false meta (spot_of a) (take 2048 frame), refl, sym (more (λ e. omega arith)))

module _ (s : RxShape) (shape : IsShape s) (m m1 : Seated) (n : ℕ) (first second third : Spot) (next1 next2 : ℕ) (frame : List ℕ) (meta : RxMeta) (dev : IsDevice m s) (rests : IsResting m.0.device) (now1 : m1 ≡ (with_device m.0 m1.0.device, []))
    (goes : PlanGoes m.0.made m.0.device m1.0.device n first second third next1 next2) (count : n ≡ (length frame + 2047) / 4096) (sized : IsFrame frame)
    (gone1 : m.0.device.gone1 ≡ used took1 m.0.device.delivered) (gone2 : m.0.device.gone2 ≡ used took2 m.0.device.delivered) where
  abbrev e0 : DeviceKnows
  e0 = m.0.device

  abbrev e1 : DeviceKnows
  e1 = m1.0.device

  abbrev end : Stand
  end = goes.ends.stand

  abbrev pub the_frame : Delivery
  the_frame = record { frame = frame; meta = meta; passed = first.position - e0.gone1; chain = chain_of n first second third }

  few : n ≤ 2
  few = let a = sized.1 in omega arith

  low : e0.gone1 ≤ first.position
  low = goes.head.0.0

  near : first.position ≤ e0.gone1 + 2
  near = head_soonest s m.0.made e0.gone1 first.position shape dev.3 goes.head

  follows : Follows (suc first.position) e0.gone2 (tail_of n second third) end.next1 end.next2
  follows = let w = subst (λ (z : Stand). WalkFollows (at_head first.position e0.gone2) z (length goes.ends.found)) (sym goes.ends.walking.walked) (walk_follows m.0.made (at_head first.position e0.gone2) goes.ends.found) in
      subst (λ (z : List (ℕ × ℕ)). Follows (suc first.position) e0.gone2 z end.next1 end.next2) (ap tail (sym w.chain_is ∙ goes.ends.chain_is ∙ chain_tail n first second third)) w.follows

  -- from the head on
  whole : Follows first.position e0.gone2 (chain_of n first second third) end.next1 end.next2
  whole = subst (λ (z : List (ℕ × ℕ)). Follows first.position e0.gone2 z end.next1 end.next2) (sym (chain_tail n first second third)) (inl ((λ i. (goes.is_first i, first.position)), follows))

  many : length (chain_of n first second third) ≡ n + 1
  many = by_count n few
    where
      by_count : (k : ℕ) → k ≤ 2 → length (chain_of k first second third) ≡ k + 1
      by_count zero le = refl
      by_count (suc zero) le = refl
      by_count (suc (suc zero)) le = refl
      by_count (suc (suc (suc k))) le = absurd (omega arith)

  fits : AreFor e1 n first second third × ((moved e1 n first second third).gone1 ≡ end.next1) × ((moved e1 n first second third).gone2 ≡ end.next2)
  fits = let is = goes.ends.walking.is in let g1 : e1.gone1 ≡ e0.gone1 = ap (λ (z : DeviceKnows). z.gone1) is in let g2 : e1.gone2 ≡ e0.gone2 = ap (λ (z : DeviceKnows). z.gone2) is in let h : e1.head ≡ first.position = ap (λ (z : DeviceKnows). z.head) is in let l = low in
      are_for e1 n first second third end.next1 end.next2 few goes.is_first (sym h) (omega arith) (subst (λ (q : ℕ). Follows (suc first.position) q (tail_of n second third) end.next1 end.next2) (sym g2) follows) goes.ends.walking.seen.0 goes.ends.walking.seen.1

  pub reach : AreFor e1 n first second third
  reach = fits.0

  pub fitting : AreInBodies (made_of s) n (plan.Goes first second third next1 next2) → AreFitting (made_of s) n first second third
  fitting f = (goes.is_first, subst (λ (z : RxMade). is_body z first.position ≡ false) dev.3 goes.head.1, f.0, f.1)

  pub placed : IsPlaced (used took1 e0.delivered) (used took2 e0.delivered) the_frame
  placed = subst (λ (z : ℕ × ℕ). IsPlaced z.0 z.1 the_frame) (λ i. (gone1 i, gone2 i)) record {
    head = ap (λ (z : List (ℕ × ℕ)). get_elem? z 0) (chain_tail n first second third) ∙ (λ i. some (goes.is_first i, back i));
    spots = λ j x at. let c = follows_at first.position e0.gone2 (chain_of n first second third) end.next1 end.next2 j x whole at in let b = back in ⊎_elim
        (λ (z : (x.0 ≡ 1) × (x.1 ≡ first.position + in_ring 1 (take j (chain_of n first second third)))). let p = z.1 in inl (z.0, omega arith))
        (λ (z : (x.0 ≡ 2) × (x.1 ≡ e0.gone2 + in_ring 2 (take j (chain_of n first second third)))). inr z)
        c;
    few = let a = many in let b = near in let c = few in omega arith;
    near = let b = near in omega arith;
  }
    where
      back : first.position ≡ e0.gone1 + (first.position - e0.gone1)
      back = let l = low in omega arith

  -- the counts of what is gone then
  pub counts : (end.next1 ≡ used took1 (e0.delivered ++ the_frame ∷ [])) × (end.next2 ≡ used took2 (e0.delivered ++ the_frame ∷ []))
  counts = let c = follows_count first.position e0.gone2 (chain_of n first second third) end.next1 end.next2 whole in let a1 = used-append took1 e0.delivered (the_frame ∷ []) in let a2 = used-append took2 e0.delivered (the_frame ∷ []) in let l = low in let c0 = c.0 in let c1 = c.1 in (omega arith, omega arith)

  pub will : (m2 : Seated) (body : ℕ) → m2 ≡ (with_device m1.0 (has_staged (made_of s) e1 n meta first second third frame), []) → (n ≡ 0 → body ≡ body_of true meta frame) → (n ≢ 0 → body ≡ body_word None 2048) → TagFits meta.tci → WillDeliver m2 body
  will m2 body now2 one more tag = subst (λ (z : Seated). WillDeliver z body) (sym (now2 ∙ (λ i. (with_device (now1 i).0 (has_staged (made_of s) e1 n meta first second third frame), [])))) (let f = first_entry (made_of s) n meta first second third frame body one
      (λ some. let l = length-take-le 2048 frame (let c = count in omega arith) in more some ∙ ap (body_word None) (sym l)) in record {
        frame = the_frame;
        whole = ap (λ (z : RxMade). entries z the_frame) dev.3;
        first = f.0;
        first_at = f.1;
        body_is = f.2;
        placed = subst (λ (ds : List Delivery). IsPlaced (used took1 ds) (used took2 ds) the_frame) (sym (ap (λ (z : DeviceKnows). z.delivered) goes.ends.walking.is)) placed;
        sized = sized;
        tag = tag;
      })

  -- how many completions are published
  pub published1 : (p : ℕ) → p ≡ used pieces_of e0.delivered → p ≡ length (flat m1.0.made m1.0.device.delivered)
  published1 p is = is ∙ sym (flat_count m.0.made e0.delivered) ∙ (λ i. length (flat (sym now1 i).0.made ((sym (ap (λ (z : DeviceKnows). z.delivered) goes.ends.walking.is)) i)))

  pub published2 : (p : ℕ) (m2 : Seated) → m2 ≡ (with_device m1.0 (has_staged (made_of s) e1 n meta first second third frame), []) → p ≡ used pieces_of e0.delivered → p ≡ length (flat m2.0.made m2.0.device.delivered)
  published2 p m2 now2 is = published1 p is ∙ (λ i. length (flat (sym now2 i).0.made (sym now2 i).0.device.delivered))

  -- what the device knows then
  abbrev pub after : DeviceKnows
  after = delivers (has_staged (made_of s) e1 n meta first second third frame) the_frame

  pub delivered : (m2 m3 : Seated) → m2 ≡ (with_device m1.0 (has_staged (made_of s) e1 n meta first second third frame), []) → HasDelivered m2 m3 → m3 ≡ (with_device m.0 after, [])
  delivered m2 m3 now2 h = by_frame (subst (λ (z : Seated). HasDelivered z m3) (now2 ∙ (λ i. (with_device (now1 i).0 (has_staged (made_of s) e1 n meta first second third frame), []))) h)
    where
      by_frame : HasDelivered (with_device m.0 (has_staged (made_of s) e1 n meta first second third frame), []) m3 → m3 ≡ (with_device m.0 after, [])
      by_frame h = let same = same_delivery m.0.made (used took1 e0.delivered) (used took2 e0.delivered) h.0 the_frame (subst (λ (ds : List Delivery). IsPlaced (used took1 ds) (used took2 ds) h.0) (ap (λ (z : DeviceKnows). z.delivered) goes.ends.walking.is) h.2) placed (h.1 ∙ sym (ap (λ (z : RxMade). entries z the_frame) dev.3)) in
          h.3 ∙ (λ i. (with_device m.0 (delivers (has_staged (made_of s) e1 n meta first second third frame) (same i)), []))

  -- the clause of the call
  pub clause : (key : List ℕ) (v : Known) → v ≡ with_device m.0 after → DeliversFrame (device_seen key m.0) frame meta (device_seen key v)
  clause key v is = subst (λ (z : Known). DeliversFrame (device_seen key m.0) frame meta (device_seen key z)) (sym is) (let w = goes.ends.walking in let c = count in let counted = goes.ends.count_is in let back : e0.gone1 + (first.position - e0.gone1) ≡ first.position = (let l = low in omega arith) in record {
    fine = refl;
    passed = first.position - e0.gone1;
    found = goes.ends.found;
    as_many = omega arith;
    head = subst (λ (z : ℕ × ℕ). IsHead m.0.made z.0 z.1) (λ i. (gone1 i, (sym back ∙ ap (λ (g : ℕ). g + (first.position - e0.gone1)) gone1) i)) goes.head;
    end = end;
    walked = w.walked ∙ (λ i. walk m.0.made (at_head ((sym back ∙ ap (λ (g : ℕ). g + (first.position - e0.gone1)) gone1) i) (gone2 i)) goes.ends.found);
    few = λ _. let a = many in let b = near in let f = few in let ch = ap length goes.ends.chain_is in omega arith;
    looked = w.looked;
    was = w.was;
    seen = w.seen;
    is = (λ i. device_seen key (with_device m.0 (delivers (has_staged (made_of s) (w.is i) n meta first second third frame) (record { frame = frame; meta = meta; passed = first.position - e0.gone1; chain = sym goes.ends.chain_is i }))));
  })

  pub grows : (key : List ℕ) (v : Known) → v ≡ with_device m.0 after → GrowsDelivered (device_seen key m.0) (device_seen key v)
  grows key v is = subst (λ (z : Known). GrowsDelivered (device_seen key m.0) (device_seen key z)) (sym is) (let ds = ap (λ (z : DeviceKnows). z.delivered) goes.ends.walking.is in let rf = ap (λ (z : DeviceKnows). length z.refused) goes.ends.walking.is in
      let longer = length-append e1.delivered (the_frame ∷ []) in let same = ap length ds in let c = counts in let c0 = c.0 in let c1 = c.1 in let u1 = ap (λ (l : List Delivery). used took1 (l ++ the_frame ∷ [])) ds in let u2 = ap (λ (l : List Delivery). used took2 (l ++ the_frame ∷ [])) ds in
      let q = follows_count first.position e0.gone2 (chain_of n first second third) end.next1 end.next2 whole in let q0 = q.0 in let q1 = q.1 in let b = near in let f = few in let k0 = in_ring_few 1 (chain_of n first second third) in let k1 = in_ring_few 2 (chain_of n first second third) in let len = many in record {
        delivered = omega arith;
        refused = omega arith;
        positions = λ _. (omega arith, omega arith);
        within = λ e. absurd (true≢false (sym e));
      })

  -- the ends of the walk, as the call counts them
  pub sums : (end.next1 + end.next2 ≡ first.position + e0.gone2 + (n + 1)) × (e0.gone1 ≤ first.position)
  sums = let a = follows_sum first.position e0.gone2 (chain_of n first second third) end.next1 end.next2 whole in let b = many in (omega arith, low)

  pub pieces_more : used pieces_of (e0.delivered ++ the_frame ∷ []) ≡ used pieces_of e0.delivered + (n + 1)
  pieces_more = let a = used-append pieces_of e0.delivered (the_frame ∷ []) in let b = many in omega arith

  -- what the end keeps
  pub record Keeps (e : DeviceKnows) : Type 0 where
    pub filling : e.filling ≡ None
    pub opened : e.opened ≡ []
    pub staged : e.staged ≡ []
    pub next1_is : e.next1 ≡ next1
    pub next2_is : e.next2 ≡ next2
    pub gone1_is : e.gone1 ≡ next1
    pub gone2_is : e.gone2 ≡ next2
    pub seen : (next1 ≤ e.seen1) × (next2 ≤ e.seen2)
    pub used1 : next1 ≡ used took1 e.delivered
    pub used2 : next2 ≡ used took2 e.delivered
    pub delivered_is : e.delivered ≡ e0.delivered ++ the_frame ∷ []
    pub refused_is : e.refused ≡ e0.refused

  pub keeps : Keeps after
  keeps = let is = goes.ends.walking.is in let ds = ap (λ (z : DeviceKnows). z.delivered) is in let nexts = goes.ends.nexts in let n1 = nexts.0 in let n2 = nexts.1 in let f1 = fits.1 in let f2 = fits.2 in let s1 = goes.ends.walking.seen.0 in let s2 = goes.ends.walking.seen.1 in let c = counts in record {
    filling = refl;
    opened = refl;
    staged = refl;
    next1_is = ap (λ (z : DeviceKnows). z.next1) is ∙ sym n1;
    next2_is = ap (λ (z : DeviceKnows). z.next2) is ∙ sym n2;
    gone1_is = f1 ∙ sym n1;
    gone2_is = f2 ∙ sym n2;
    seen = (omega arith, omega arith);
    used1 = n1 ∙ c.0 ∙ ap (λ (l : List Delivery). used took1 (l ++ the_frame ∷ [])) (sym ds);
    used2 = n2 ∙ c.1 ∙ ap (λ (l : List Delivery). used took2 (l ++ the_frame ∷ [])) (sym ds);
    delivered_is = ap (λ (l : List Delivery). l ++ the_frame ∷ []) ds;
    refused_is = ap (λ (z : DeviceKnows). z.refused) is;
  }

-- a frame is refused
pub refuses : (s : RxShape) (m m1 : Seated) (key : List ℕ) (n bytes ring p word look : ℕ) → n ≡ (bytes + 2047) / 4096 → IsResting m.0.device → m.0.device.gone1 ≡ used took1 m.0.device.delivered → m.0.device.gone2 ≡ used took2 m.0.device.delivered → look ≡ length m.0.device.refused
    → Planned m n (plan.Missing ring p word) m1 → Refuses (device_seen key m.0) bytes ring p word look (device_seen key m1.0)
refuses s m m1 key n bytes ring p word look count rests gone1 gone2 number pl = ⊎_elim
    (λ (z : (ring ≡ 1) × HeadSearched m (head.Missing p word) m1). let h = z.1 in let is = ap (λ (y : Seated). y.0) h.2 in record {
      fine = refl;
      looks = [];
      where_ = inl (z.0, refl, record { bodies = subst (λ (c : ℕ). AreBodies m.0.made c p) (rests.0 ∙ gone1) h.5; missed = (h.6, h.7); seen = subst (λ (y : Known). p ≤ y.device.seen1) (sym is) h.4 });
      number = number;
      was = subst (λ (y : Known). (m.0.device.seen1 ≤ y.device.seen1) × (m.0.device.seen2 ≤ y.device.seen2)) (sym is) (h.3, omega arith);
      is = again1 ring z.0 h.0 h.1 is;
    })
    (λ (z : (ring ≡ 2) × (m1 ≡ (with_device m.0 m1.0.device, [])) × PlanStops m.0.made m.0.device m1.0.device n p word). let st = z.2 in let w = st.stops.missed in let few = st.stops.few in let up = st.head.0.0 in let is = ap (λ (y : Seated). y.0) z.1 in
    let back : m.0.device.gone1 + (st.h - m.0.device.gone1) ≡ st.h = omega arith in record {
      fine = refl;
      looks = st.stops.stand.looks;
      where_ = inr (
        z.0,
        record {
          passed = st.h - m.0.device.gone1;
          found = st.stops.found;
          not_all = omega arith;
          head = subst (λ (y : ℕ × ℕ). IsHead m.0.made y.0 y.1) (λ i. (gone1 i, (sym back ∙ ap (λ (g : ℕ). g + (st.h - m.0.device.gone1)) gone1) i)) st.head;
          end = st.stops.stand;
          walked = w.walked ∙ (λ i. walk m.0.made (at_head ((sym back ∙ ap (λ (g : ℕ). g + (st.h - m.0.device.gone1)) gone1) i) (gone2 i)) st.stops.found);
          needed = st.stops.last;
          looks_are = refl;
          looked = w.looked;
          missed = (st.missed, st.unheard);
          seen = w.seen;
        },
      );
      number = number;
      was = w.was;
      is = (λ i. device_seen key (is i)) ∙ (λ i. device_seen key (with_device m.0 (w.is i))) ∙ (λ i. record (device_seen key m.0) { refused = m.0.device.refused ++ (sym z.0 i, p, word) ∷ []; looks = m.0.device.looks ++ st.stops.stand.looks; seen1 = m1.0.device.seen1; seen2 = m1.0.device.seen2 });
    })
    pl
  where
    again1 : (ring : ℕ) → ring ≡ 1 → (seen1 h : ℕ) → m1.0 ≡ with_device m.0 (record m.0.device { refused = m.0.device.refused ++ (1, p, word) ∷ []; next1 = m.0.device.gone1; next2 = m.0.device.gone2; seen1 = seen1; head = h })
        → device_seen key m1.0 ≡ record (device_seen key m.0) { refused = m.0.device.refused ++ (ring, p, word) ∷ []; looks = m.0.device.looks ++ []; seen1 = m1.0.device.seen1; seen2 = m1.0.device.seen2 }
    again1 ring one seen1 h is = (λ i. device_seen key (is i)) ∙ (λ i. record (device_seen key m.0) { refused = m.0.device.refused ++ (sym one i, p, word) ∷ []; looks = sym (append-nil m.0.device.looks) i; seen1 = (sym is i).device.seen1; seen2 = (sym is i).device.seen2 })
