-- What a receive comes to.
use Rattle.std.proofs.Common.{◌≡◌, ℕ, suc, ◌+◌, ◌*◌, ◌/◌, ◌%◌, ◌^◌, ◌<◌, ◌≤◌, ◌⊎◌, inl, inr, List, [], ◌∷◌, ◌++◌, length, take, drop, true, false, sym, refl, ap, ap₂, ◌∙◌, subst, ⊎_elim, arith, length-append}
use Rattle.std.proofs.Math.Seq.{drop-append_seam}
use mathlib.Core.Option.{some, some-injective, some-ne-none}
use lib.ListN.{get_elem?}
use Rattle.vmx_ends.specs.Frames.{IsFrame, IsComparable}
use Rattle.vmx_ends.specs.Receive.{used, took1, took2, pieces_of, in_ring}
use Rattle.vmx_ends.specs.ReceiveClauses.{made_of, ReceivesFrame, GrowsReceived}
use Rattle.vmx_ends.specs.WalkCounts.{used-append}
use Rattle.vmx_ends.specs.declared.made.RxShape.{RxShape}
use Rattle.vmx_ends.specs.declared.meta.RxMeta.{RxMeta}
use Rattle.vmx_ends.specs.declared.frames.Delivery.{Delivery}
use Rattle.vmx_rx_ring.specs.declared.known.Entry.{Entry}
use Rattle.vmx_rx_ring.specs.declared.known.DriverKnows.{DriverKnows}
use Rattle.vmx_rx_ring.specs.Words.{count, entries, entries_from, flat}
use Rattle.vmx_rx_ring.specs.Rule.{IsPlaced}
use Rattle.vmx_rx_ring.specs.Tells.{Seated, with_driver, receives, Found, IsNext, Tells}
use Rattle.vmx_rx_ring.specs.Shapes.{IsShape}
use Rattle.vmx_rx_walk.specs.Reading.{IsNamed, IsTagged, Follows, Reads, FrameRead, TagRead}
use Rattle.vmx_rx_ends.specs.Views.{driver_seen}
use Rattle.vmx_rx_ring.proofs.Flats.{flat_count, flat_one}
use Rattle.vmx_rx_ends.proofs.Follows as walks
use Rattle.vmx_rx_walk.proofs.Frames.{the_piece, next, apart_now}

-- a chain by its places is one behind the other
placed_follows : (p q : ℕ) (ss : List (ℕ × ℕ)) → ((j : ℕ) (x : ℕ × ℕ) → get_elem? ss j ≡ some x → ((x.0 ≡ 1) × (x.1 ≡ p + in_ring 1 (take j ss))) ⊎ ((x.0 ≡ 2) × (x.1 ≡ q + in_ring 2 (take j ss)))) → Follows p q ss (p + in_ring 1 ss) (q + in_ring 2 ss)
placed_follows p q [] f = (omega arith, omega arith)
placed_follows p q (s ∷ ss) f = ⊎_elim
    (λ (z : (s.0 ≡ 1) × (s.1 ≡ p + 0)). let at = z.1 in let here = walks.in_one 1 s ss z.0 in let other = walks.in_other 2 s ss (λ e. let one = z.0 in omega arith) in inl (
      z.0,
      omega arith,
      subst (λ (y : ℕ × ℕ). Follows (suc p) q ss y.0 y.1) (λ i. ((let a : suc p + in_ring 1 ss ≡ p + in_ring 1 (s ∷ ss) = omega arith in a) i, (let a : q + in_ring 2 ss ≡ q + in_ring 2 (s ∷ ss) = omega arith in a) i))
          (placed_follows (suc p) q ss (λ j x at'. let h = walks.in_one 1 s (take j ss) z.0 in let o = walks.in_other 2 s (take j ss) (λ e. let one = z.0 in omega arith) in ⊎_elim
          (λ (y : (x.0 ≡ 1) × (x.1 ≡ p + in_ring 1 (s ∷ take j ss))). let b = y.1 in inl (y.0, omega arith))
          (λ (y : (x.0 ≡ 2) × (x.1 ≡ q + in_ring 2 (s ∷ take j ss))). let b = y.1 in inr (y.0, omega arith))
          (f (suc j) x at'))),
    ))
    (λ (z : (s.0 ≡ 2) × (s.1 ≡ q + 0)). let at = z.1 in let here = walks.in_one 2 s ss z.0 in let other = walks.in_other 1 s ss (λ e. let two = z.0 in omega arith) in inr (
      z.0,
      omega arith,
      subst (λ (y : ℕ × ℕ). Follows p (suc q) ss y.0 y.1) (λ i. ((let a : p + in_ring 1 ss ≡ p + in_ring 1 (s ∷ ss) = omega arith in a) i, (let a : suc q + in_ring 2 ss ≡ q + in_ring 2 (s ∷ ss) = omega arith in a) i))
          (placed_follows p (suc q) ss (λ j x at'. let h = walks.in_one 2 s (take j ss) z.0 in let o = walks.in_other 1 s (take j ss) (λ e. let two = z.0 in omega arith) in ⊎_elim
          (λ (y : (x.0 ≡ 1) × (x.1 ≡ p + in_ring 1 (s ∷ take j ss))). let b = y.1 in inl (y.0, omega arith))
          (λ (y : (x.0 ≡ 2) × (x.1 ≡ q + in_ring 2 (s ∷ take j ss))). let b = y.1 in inr (y.0, omega arith))
          (f (suc j) x at'))),
    ))
    (f 0 s refl)

follows_sum : (p q : ℕ) (ss : List (ℕ × ℕ)) (p' q' : ℕ) → Follows p q ss p' q' → p' + q' ≡ p + q + length ss
follows_sum p q [] p' q' f = let a = f.0 in let b = f.1 in omega arith
follows_sum p q (s ∷ ss) p' q' f = ⊎_elim
    (λ (z : (s.0 ≡ 1) × (s.1 ≡ p) × Follows (suc p) q ss p' q'). let r = follows_sum (suc p) q ss p' q' z.2 in omega arith)
    (λ (z : (s.0 ≡ 2) × (s.1 ≡ q) × Follows p (suc q) ss p' q'). let r = follows_sum p (suc q) ss p' q' z.2 in omega arith)
    f

module _ (s : RxShape) (shape : IsShape s) (m m1 : Seated) (d : Delivery) (word : ℕ) (made : m.0.made ≡ made_of s) (found : Found m.0 d) (now1 : m1 ≡ (with_driver m.0 (receives m.0.driver d), [])) (shows : (x : Entry) → IsNext m1.0 x → Tells x word)
    (read : m.0.driver.read ≡ used pieces_of m.0.driver.received) (sum1 : m.0.driver.back1 ≡ used took1 m.0.driver.received) (sum2 : m.0.driver.back2 ≡ used took2 m.0.driver.received)
    (small : m.0.driver.read < 2 ^ 62) (few1 : m.0.driver.back1 ≤ 3 * m.0.driver.read) (few2 : m.0.driver.back2 ≤ m.0.driver.read) where
  abbrev g : DriverKnows
  g = m.0.driver

  abbrev h : ℕ
  h = g.back1 + d.passed

  tail_of : List (ℕ × ℕ) → List (ℕ × ℕ)
  tail_of [] = []
  tail_of (x ∷ xs) = xs

  placed : IsPlaced g.back1 g.back2 d
  placed = subst (λ (y : ℕ × ℕ). IsPlaced y.0 y.1 d) (λ i. (sym sum1 i, sym sum2 i)) found.placed

  -- what is read then, as a frame
  pub record Plan : Type 0 where
    pub reads : Reads s m1 16 word 0
    pub bytes_are : reads.bytes ≡ d.frame
    pub meta_are : reads.meta ≡ d.meta
    pub sop_is : reads.sop ≡ true
    pub many : suc (length reads.chain) ≡ length d.chain
    pub q1_is : reads.q1 ≡ g.back1 + d.passed + in_ring 1 d.chain
    pub q2_is : reads.q2 ≡ g.back2 + in_ring 2 d.chain

  pub sum_is : in_ring 1 d.chain + in_ring 2 d.chain ≡ length d.chain
  sum_is = let f = follows_sum h g.back2 d.chain _ _ (placed_follows h g.back2 d.chain placed.spots) in omega arith

  pub plan : Plan
  plan = by_chain d.chain refl placed.head (placed_follows h g.back2 d.chain placed.spots)
    where
      by_chain : (chain : List (ℕ × ℕ)) → d.chain ≡ chain → get_elem? chain 0 ≡ some (1, h) → Follows h g.back2 d.chain (h + in_ring 1 d.chain) (g.back2 + in_ring 2 d.chain) → Plan
      by_chain [] is head f = absurd (some-ne-none (1, h) (sym head))
      by_chain (x ∷ more) is head f = let spot_is : x ≡ walks.at_ 1 h = some-injective x (1, h) head in let ring : x.0 ≡ 1 = ap (λ (y : ℕ × ℕ). y.0) spot_is in let place : x.1 ≡ h = ap (λ (y : ℕ × ℕ). y.1) spot_is in let n = placed.near in let few = placed.few in let len = ap length is in let z = shape.0 in let sz = sum_is in let fr = found.frame.1 in
          let f' : Follows h g.back2 (x ∷ more) (h + in_ring 1 d.chain) (g.back2 + in_ring 2 d.chain) = subst (λ l. Follows h g.back2 l (h + in_ring 1 d.chain) (g.back2 + in_ring 2 d.chain)) is f in record {
            reads = record {
              sop = true;
              meta = d.meta;
              spot = x;
              chain = more;
              head = λ _. ring;
              bytes = d.frame;
              tag = found.tag;
              q1 = h + in_ring 1 d.chain;
              q2 = g.back2 + in_ring 2 d.chain;
              left_is = subst (λ (y : Seated). drop y.0.driver.read (flat y.0.made y.0.driver.received) ≡ entries_from y.0.made true d.meta (x ∷ more) d.frame) (sym now1)
                  (ap₂ (λ (k : ℕ) (l : List Entry). drop k l) (read ∙ sym (flat_count m.0.made g.received)) (flat_one m.0.made g.received d) ∙ drop-append_seam (flat m.0.made g.received) (entries m.0.made d) ∙ ap (λ (c : List (ℕ × ℕ)). entries_from m.0.made true d.meta c d.frame) is);
              lies = subst (λ (y : Seated). ((x.0 ≡ 1) × (y.0.driver.back1 ≤ x.1) × (x.1 < y.0.driver.back1 + s.size1) × Follows (suc x.1) y.0.driver.back2 more (h + in_ring 1 d.chain) (g.back2 + in_ring 2 d.chain)) ⊎ ((x.0 ≡ 2) × (x.1 ≡ y.0.driver.back2) × Follows y.0.driver.back1 (suc x.1) more (h + in_ring 1 d.chain) (g.back2 + in_ring 2 d.chain))) (sym now1) (inl (
                ring,
                omega arith,
                omega arith,
                ⊎_elim
                    (λ (y : (x.0 ≡ 1) × (x.1 ≡ h) × Follows (suc h) g.back2 more (h + in_ring 1 d.chain) (g.back2 + in_ring 2 d.chain)). subst (λ (p : ℕ). Follows (suc p) g.back2 more (h + in_ring 1 d.chain) (g.back2 + in_ring 2 d.chain)) (sym place) y.2)
                    (λ (y : (x.0 ≡ 2) × (x.1 ≡ g.back2) × Follows h (suc g.back2) more (h + in_ring 1 d.chain) (g.back2 + in_ring 2 d.chain)). let two = y.0 in absurd (omega arith))
                    f',
              ));
              word = shows;
              fits = omega arith;
              few = omega arith;
              bounds = (omega arith, omega arith, subst (λ (y : Seated). y.0.driver.read + 16 < 2 ^ 62 + 32) (sym now1) (omega arith));
            };
            bytes_are = refl;
            meta_are = refl;
            sop_is = refl;
            many = sym len;
            q1_is = refl;
            q2_is = refl;
          }

  pub made1 : m1.0.made ≡ made_of s
  made1 = ap (λ (z : Seated). z.0.made) now1 ∙ made

  abbrev pub after : DriverKnows
  after = record g { received = g.received ++ d ∷ []; read = length d.chain + g.read; back1 = g.back1 + d.passed + in_ring 1 d.chain; back2 = g.back2 + in_ring 2 d.chain; reading = false }

  pub done : (m2 : Seated) (into into2 : List ℕ) → into ≡ [] → FrameRead s m1 16 word into m2 into2 → (m2 ≡ (with_driver m.0 after, [])) × (into2 ≡ d.frame)
  done m2 into into2 empty f = let p = plan in let r = (subst (λ (l : List ℕ). FrameRead s m1 16 word l m2 into2) empty f) p.reads in (
    r.0 ∙ (λ i. (with_driver (now1 i).0 (record (now1 i).0.driver { read = p.many i + (now1 i).0.driver.read; back1 = p.q1_is i; back2 = p.q2_is i; reading = false }), [])),
    r.1 ∙ p.bytes_are,
  )

  -- what the first word tells
  pub told : (w : ℕ) → ((x : Entry) → IsNext m1.0 x → w ≡ x.first) → (w / 67108864 % 16 ≡ d.meta.kind) × (w / 4294967296 ≡ d.meta.hash) × IsNamed w
  told w f = let p = plan in let a = apart_now s m1 16 word 0 p.reads shape made1 w (f (the_piece s m1 16 word 0 p.reads shape made1) (next s m1 16 word 0 p.reads shape made1)) in
      (a.kind p.sop_is ∙ ap (λ (z : RxMeta). z.kind) p.meta_are, a.hash p.sop_is ∙ ap (λ (z : RxMeta). z.hash) p.meta_are, a.named)

  -- what the last second word tells
  pub told_last : (last : ℕ) (into : List ℕ) → into ≡ [] → TagRead s m1 16 word into last → IsTagged last d.meta.tci
  told_last last into empty f = let p = plan in subst (λ (t : RxMeta). IsTagged last t.tci) p.meta_are ((subst (λ (l : List ℕ). TagRead s m1 16 word l last) empty f) p.reads)

  pub clause : (key : List ℕ) (m2 : Seated) (into2 : List ℕ) (place count : ℕ) (meta : RxMeta) → m2 ≡ (with_driver m.0 after, []) → into2 ≡ d.frame → meta ≡ d.meta → place ≡ length g.received → count ≡ d.passed + length d.chain
      → ReceivesFrame (driver_seen key m.0) into2 place meta count (driver_seen key m2.0)
  clause key m2 into2 place count meta now bytes same number many = record {
    place_is = number;
    frame = subst IsFrame (sym bytes) found.frame;
    passed = d.passed;
    chain = d.chain;
    count_is = many;
    few = λ _. placed.few;
    is = (λ i. driver_seen key (now i).0) ∙ (λ i. record (driver_seen key m.0) { received = g.received ++ record { frame = sym bytes i; meta = sym same i; passed = d.passed; chain = d.chain } ∷ [] });
    comparable = subst (λ (z : Seated). IsComparable z.0.driver.received z.0.driver.heard) (sym now) found.comparable;
  }

  pub grows : (key : List ℕ) (m2 : Seated) → m2 ≡ (with_driver m.0 after, []) → GrowsReceived (driver_seen key m.0) (driver_seen key m2.0)
  grows key m2 now = subst (λ (z : Seated). GrowsReceived (driver_seen key m.0) (driver_seen key z.0)) (sym now) (let l = length-append g.received (d ∷ []) in let u = used-append pieces_of g.received (d ∷ []) in let few = placed.few in record { received = omega arith; looks = omega arith; positions = λ _. omega arith })

  -- what the end keeps
  pub sums : (length d.chain + g.read ≡ used pieces_of (g.received ++ d ∷ [])) × (g.back1 + d.passed + in_ring 1 d.chain ≡ used took1 (g.received ++ d ∷ [])) × (g.back2 + in_ring 2 d.chain ≡ used took2 (g.received ++ d ∷ []))
      × (g.back1 + d.passed + in_ring 1 d.chain ≤ 3 * (length d.chain + g.read)) × (g.back2 + in_ring 2 d.chain ≤ length d.chain + g.read) × (d.passed + length d.chain ≤ 16)
  sums = let a = used-append pieces_of g.received (d ∷ []) in let b = used-append took1 g.received (d ∷ []) in let c = used-append took2 g.received (d ∷ []) in let z = sum_is in let n = placed.near in let few = placed.few in let some = some_piece in
      (omega arith, omega arith, omega arith, omega arith, omega arith, few)
    where
      some_piece : 0 < length d.chain
      some_piece = by_chain d.chain placed.head
        where
          by_chain : (chain : List (ℕ × ℕ)) → get_elem? chain 0 ≡ some (1, h) → 0 < length chain
          by_chain [] e = absurd (some-ne-none (1, h) (sym e))
          by_chain (x ∷ more) e = omega arith

pub no_items : (l : List ℕ) → 0 ≡ length l → l ≡ []
no_items [] e = refl
no_items (x ∷ xs) e = absurd (omega arith)
