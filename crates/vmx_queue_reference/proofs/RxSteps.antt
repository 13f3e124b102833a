-- What stays right of a plain receive queue where a frame is laid and where one is received.
use Rattle.std.proofs.Common.{◌≡◌, ℕ, suc, ◌+◌, ◌-◌, ◌<◌, ◌≤◌, List, [], ◌∷◌, ◌++◌, length, take, drop, get_or, Bool, true, false, cond, ◌==◌, sym, refl, ap, ap₂, ◌∙◌, subst, arith}
use Rattle.std.proofs.lemmas.List.{length_push}
use Rattle.vmx_io.specs.declared.buffer.TheConstants.{MAX_FRAME}
use Rattle.vmx_ends.specs.declared.limits.TheConstants.{MAX_DESCRIPTORS}
use Rattle.vmx_ends.specs.Frames.{IsFrame}
use Rattle.vmx_ends.specs.Receive.{in_ring, used, took1, took2, posted1, posted2}
use Rattle.vmx_ends.specs.Walk.{further_pieces, Stand}
use Rattle.vmx_ends.specs.Core.{Outcome, takes, misses, head_from}
use Rattle.vmx_ends.specs.ReceiveClauses.{made_of}
use Rattle.vmx_ends.specs.ReceiveCore.{comes_to}
use Rattle.vmx_ends.specs.WalkLaws.{head_is, through}
use Rattle.vmx_ends.specs.HeadNear.{head_soon}
use Rattle.vmx_ends.specs.ExactWalk.{one_head}
use Rattle.vmx_ends.specs.declared.frames.Delivery.{Delivery}
use Rattle.vmx_ends.specs.declared.made.RxMade.{RxMade}
use Rattle.vmx_ends.specs.declared.made.RxShape.{RxShape}
use Rattle.vmx_queue_reference.specs.declared.rx.Buffer.{Buffer}
use Rattle.vmx_queue_reference.specs.declared.rx.PlainRx.{PlainRx}
use Rattle.vmx_queue_reference.specs.declared.rx.RxFrame.{RxFrame}
use Rattle.vmx_queue_reference.specs.declared.rx.Way.{Way}
use Rattle.vmx_queue_reference.specs.declared.rx.Walked.TheVariants.{Takes}
use Rattle.vmx_queue_reference.specs.PlainSupplies.{buffer1, buffer2, run_of, as_delivery, deliveries, AreKept}
use Rattle.vmx_queue_reference.specs.PlainReceive.{rx_core}
use Rattle.vmx_queue_reference.specs.PlainWalk.{EndsAs}
use Rattle.vmx_queue_reference.proofs.SupplyLaws.{run_long, run_take, run_drop, run_join, run_round, round1, round2, used_more, used_next, take_before, kept_more}

-- a way over the supplies is what the core's walk takes
pub record Went (q : PlainRx) (bytes : ℕ) (way : Way) : Type 0 where
  pub end : Stand
  pub is : comes_to (rx_core q) bytes ≡ takes way.passed end
  pub next1 : q.one.left + way.ones ≡ end.next1
  pub next2 : q.two.left + way.twos ≡ end.next2
  pub chain : way.chain ≡ end.chain
  pub within1 : way.ones ≤ length q.one.buffers
  pub within2 : way.twos ≤ length q.two.buffers

pub went : (q : PlainRx) (bytes : ℕ) (way : Way) → EndsAs q (comes_to (rx_core q) bytes) (Takes way) → Went q bytes way
went q bytes way = by_outcome (comes_to (rx_core q) bytes) refl
  where
    by_outcome : (o : Outcome) → comes_to (rx_core q) bytes ≡ o → EndsAs q o (Takes way) → Went q bytes way
    by_outcome (takes passed end) is e = record {
      end = end;
      is = is ∙ ap (λ (z : ℕ). takes z end) (sym e.passed_is);
      next1 = e.next1;
      next2 = e.next2;
      chain = e.chain;
      within1 = e.within1;
      within2 = e.within2;
    }
    by_outcome (misses ring position looks) is e = absurd e

in_ring_most : (r : ℕ) (chain : List (ℕ × ℕ)) → in_ring r chain ≤ length chain
in_ring_most r [] = omega arith
in_ring_most r (x ∷ xs) = by_case (x.0 == r) (in_ring_most r xs)
  where
    by_case : (b : Bool) → in_ring r xs ≤ length xs → cond b (suc (in_ring r xs)) (in_ring r xs) ≤ suc (length xs)
    by_case true le = omega arith
    by_case false le = omega arith

-- how many buffers a way takes
pub record Numbers (way : Way) : Type 0 where
  pub ones : way.ones ≡ way.passed + in_ring 1 way.chain
  pub twos : way.twos ≡ in_ring 2 way.chain
  pub few : way.passed + length way.chain ≤ MAX_DESCRIPTORS
  pub few1 : way.ones ≤ MAX_DESCRIPTORS
  pub few2 : way.twos ≤ MAX_DESCRIPTORS

pub numbers : (q : PlainRx) (bytes : ℕ) (way : Way) → Went q bytes way → bytes ≤ MAX_FRAME → Numbers way
numbers q bytes way w low =
    let m : RxMade = made_of q.shape in let c1 : ℕ = used took1 (deliveries q.delivered) in let z = q.sizes in let pos : 0 < m.size1 = z.0 in let most : q.shape.bodies ≤ 2 = z.4 in
    let t = through m q.shape.bodies c1 (used took2 (deliveries q.delivered)) _ _ (further_pieces bytes) refl pos way.passed w.end w.is in
    let near = head_soon m q.shape.bodies c1 refl pos in let same = one_head m c1 (head_from m m.size1 c1) (c1 + way.passed) (head_is m q.shape.bodies c1 refl pos) t.head in
    let l1 = q.left1 in let l2 = q.left2 in let n1 = w.next1 in let n2 = w.next2 in let s1 = t.sum1 in let s2 = t.sum2 in let p = t.pieces in
    let r1 = ap (in_ring 1) w.chain in let r2 = ap (in_ring 2) w.chain in let long = ap length w.chain in let i1 = in_ring_most 1 way.chain in let i2 = in_ring_most 2 way.chain in
    record { ones = omega arith; twos = omega arith; few = omega arith; few1 = omega arith; few2 = omega arith }

-- what a plain receive queue keeps, of its parts
pub record Fine (shape : RxShape) (one : List Buffer) (left1 : ℕ) (two : List Buffer) (left2 : ℕ) (ds : List RxFrame) (received : ℕ) : Type 0 where
  pub order : received ≤ length ds
  pub supply1 : one ≡ run_of (buffer1 (made_of shape)) left1 (length one)
  pub supply2 : two ≡ run_of (buffer2 (made_of shape)) left2 (length two)
  pub left1_is : left1 ≡ used took1 (deliveries ds)
  pub left2_is : left2 ≡ used took2 (deliveries ds)
  pub ends1 : left1 + length one ≡ posted1 (made_of shape) (take received (deliveries ds))
  pub ends2 : left2 + length two ≡ posted2 (made_of shape) (take received (deliveries ds))
  pub kept : AreKept (made_of shape) ds

-- so many buffers leave the front of a supply
pub record Leaves (f : ℕ → Buffer) (left : ℕ) (all : List Buffer) (k : ℕ) (gone rest : List Buffer) : Type 0 where
  pub gone_is : gone ≡ run_of f left k
  pub rest_is : rest ≡ run_of f (left + k) (length rest)
  pub long : k + length rest ≡ length all

leaves : (f : ℕ → Buffer) (left : ℕ) (all : List Buffer) (k : ℕ) (gone rest : List Buffer) → all ≡ run_of f left (length all) → k ≤ length all → gone ≡ take k all → rest ≡ drop k all → Leaves f left all k gone rest
leaves f left all k gone rest is le first last =
    let r : rest ≡ run_of f (left + k) (length all - k) = last ∙ ap (drop k) is ∙ run_drop f left (length all) k le in let n = ap length r ∙ run_long f (left + k) (length all - k) in
    record { gone_is = first ∙ ap (take k) is ∙ run_take f left (length all) k le; rest_is = r ∙ ap (λ (z : ℕ). run_of f (left + k) z) (sym n); long = omega arith }

pub lays : (q : PlainRx) (bytes : ℕ) (way : Way) (last : RxFrame) (ds : List RxFrame) (one two : List Buffer) → Went q bytes way → bytes ≤ MAX_FRAME → ds ≡ q.delivered ++ last ∷ []
    → last.one ≡ take way.ones q.one.buffers → last.two ≡ take way.twos q.two.buffers → one ≡ drop way.ones q.one.buffers → two ≡ drop way.twos q.two.buffers
    → last.passed ≡ way.passed → last.chain ≡ way.chain → IsFrame last.frame → Fine q.shape one (q.one.left + way.ones) two (q.two.left + way.twos) ds q.received
lays q bytes way last ds one two w low is first1 first2 rest1 rest2 passed chain frame =
    let m : RxMade = made_of q.shape in let n = numbers q bytes way w low in let old : List RxFrame = q.delivered in
    let a = leaves (buffer1 m) q.one.left q.one.buffers way.ones last.one one q.supply1 w.within1 first1 rest1 in let b = leaves (buffer2 m) q.two.left q.two.buffers way.twos last.two two q.supply2 w.within2 first2 rest2 in
    let t1 : way.ones ≡ took1 (as_delivery last) = (let o = n.ones in let r = ap (in_ring 1) chain in omega arith) in let t2 : way.twos ≡ took2 (as_delivery last) = (let o = n.twos in let r = ap (in_ring 2) chain in omega arith) in
    let l1 = q.left1 in let l2 = q.left2 in let u1 = ap (λ (l : List RxFrame). used took1 (deliveries l)) is ∙ used_more took1 old last in let u2 = ap (λ (l : List RxFrame). used took2 (deliveries l)) is ∙ used_more took2 old last in
    let o = q.order in let long = ap length is ∙ length_push old last in let same = ap (λ (l : List RxFrame). take q.received (deliveries l)) is ∙ take_before old last q.received o in
    let e1 = q.ends1 in let e2 = q.ends2 in let p1 = ap (λ (l : List Delivery). posted1 m l) same in let p2 = ap (λ (l : List Delivery). posted2 m l) same in let al = a.long in let bl = b.long in let few = n.few in let pieces = ap length chain in record {
      order = omega arith;
      supply1 = a.rest_is;
      supply2 = b.rest_is;
      left1_is = omega arith;
      left2_is = omega arith;
      ends1 = omega arith;
      ends2 = omega arith;
      kept = subst (AreKept m) (sym is) (kept_more m old last q.kept (a.gone_is ∙ ap₂ (λ (x y : ℕ). run_of (buffer1 m) x y) l1 t1, b.gone_is ∙ ap₂ (λ (x y : ℕ). run_of (buffer2 m) x y) l2 t2, omega arith, frame));
    }

-- buffers go to the end of a supply in the order in which they left it
pub record Returns (f : ℕ → Buffer) (left : ℕ) (all : List Buffer) (k : ℕ) (now : List Buffer) : Type 0 where
  pub now_is : now ≡ run_of f left (length now)
  pub long : length now ≡ length all + k

returns_ : (f : ℕ → Buffer) (s left : ℕ) (all : List Buffer) (from k : ℕ) (back now : List Buffer) → ((p : ℕ) → f (p + s) ≡ f p) → all ≡ run_of f left (length all) → back ≡ run_of f from k → left + length all ≡ s + from → now ≡ all ++ back → Returns f left all k now
returns_ f s left all from k back now round is back_is ends now_is =
    let here : from + s ≡ left + length all = omega arith in
    let behind : back ≡ run_of f (left + length all) k = back_is ∙ sym (run_round f s round from k) ∙ ap (λ (z : ℕ). run_of f z k) here in
    let r : now ≡ run_of f left (length all + k) = now_is ∙ ap₂ (λ (x y : List Buffer). x ++ y) is behind ∙ run_join f left (length all) k in let n = ap length r ∙ run_long f left (length all + k) in
    record { now_is = r ∙ ap (λ (z : ℕ). run_of f left z) (sym n); long = n }

pub receives_ : (q : PlainRx) (x d : RxFrame) (one two : List Buffer) → q.received < length q.delivered → x ≡ get_or q.delivered q.received d → one ≡ q.one.buffers ++ x.one → two ≡ q.two.buffers ++ x.two
    → Fine q.shape one q.one.left two q.two.left q.delivered (q.received + 1)
receives_ q x d one two less there one_is two_is =
    let m : RxMade = made_of q.shape in let ds : List RxFrame = q.delivered in let k = q.kept q.received d less in
    let a = returns_ (buffer1 m) m.size1 q.one.left q.one.buffers _ _ x.one one (round1 m) q.supply1 (ap (λ (z : RxFrame). z.one) there ∙ k.0) q.ends1 one_is in
    let b = returns_ (buffer2 m) m.size2 q.two.left q.two.buffers _ _ x.two two (round2 m) q.supply2 (ap (λ (z : RxFrame). z.two) there ∙ k.1) q.ends2 two_is in
    let u1 = used_next took1 ds q.received d less in let u2 = used_next took2 ds q.received d less in let e1 = q.ends1 in let e2 = q.ends2 in let al = a.long in let bl = b.long in record {
      order = omega arith;
      supply1 = a.now_is;
      supply2 = b.now_is;
      left1_is = q.left1;
      left2_is = q.left2;
      ends1 = omega arith;
      ends2 = omega arith;
      kept = q.kept;
    }
