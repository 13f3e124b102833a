-- The contract of a delivery, from what its steps told.
use Rattle.std.proofs.Common.{◌≡◌, ℕ, suc, ◌+◌, ◌%◌, ◌<◌, ◌≤◌, inl, inr, List, [], ◌∷◌, ◌++◌, length, take, set, get_or, false, true≢false, sym, refl, ap, ◌∙◌, subst, ⊎_elim, arith, All, length-append, mod-lt, get_or-set_same, get_or-set_other, le_refl}
use Rattle.std.proofs.lemmas.List.{take-append-le}
use Rattle.std.proofs.Math.Seq.{take-length}
use mathlib.Core.Logic.{dite}
use native.Mathlib.Decide.{ℕ_discrete}
use Rattle.vmx_ends.specs.declared.made.RxMade.{RxMade}
use Rattle.vmx_ends.specs.declared.frames.Delivery.{Delivery}
use Rattle.vmx_layout.specs.declared.TheConstants.{RX_DESC_GENERATION_BIT}
use Rattle.vmx_ends.specs.Words.{missed_word}
use Rattle.vmx_ends.specs.Receive.{RxDeviceView, used, took1, took2, posted1, posted2}
use Rattle.vmx_ends.specs.Walk.{further_pieces, Stand, AreBodies, IsHead}
use Rattle.vmx_ends.specs.Core.{takes, misses, head_from}
use Rattle.vmx_ends.specs.ReceiveClauses.{DeliversFrame, Refuses, MissesHead, MissesBody, IsLook1, GrowsDelivered, ring_size}
use Rattle.vmx_lists.specs.declared.rx.log.RxLog.{RxLog}
use Rattle.vmx_lists.specs.declared.rx.log.RxParcel.{RxParcel}
use Rattle.vmx_lists.specs.RxPlays.{Seated, sight, going, refusing, LooksAround, added, walk_looks, filled}
use Rattle.vmx_lists.specs.RxEnds.{device_seen}
use Rattle.vmx_lists.specs.RxSums.{AreSums}
use Rattle.vmx_ends.specs.WalkCounts.{used-append, used_take_more}
use Rattle.vmx_ring_laws.specs.Moves.{elsewhere}
use Rattle.vmx_ends.specs.declared.made.Bodies.TheVariants.{Every}
use Rattle.vmx_ends.specs.declared.meta.RxMeta.{RxMeta}
use Rattle.vmx_ends.specs.WalkFollows.{in_ring_few}
use Rattle.vmx_ends.specs.WalkLaws.{through, Short, short, IsLookAt, head_is}
use Rattle.vmx_ends.specs.HeadNear.{head_soon}
use Rattle.vmx_ends.specs.ExactWalk.{one_head}
use Rattle.vmx_ends.specs.LookWords.{missed_is}

-- the head is at most `bodies` on
pub soon : (m : RxMade) (bodies c p : ℕ) → m.bodies ≡ Every bodies → 0 < m.size1 → IsHead m c (c + p) → p ≤ bodies
soon m bodies c p every pos head = let same = one_head m c (c + p) (head_from m m.size1 c) head (head_is m bodies c every pos) in let near = head_soon m bodies c every pos in omega arith

-- what the view is after a frame went out
abbrev pub sent_view : RxLog → ℕ → List ℕ → RxMeta → ℕ → Stand → RxLog
sent_view v r frame meta passed end = record v {
  busy = false;
  seen = r;
  delivered = v.delivered ++ record { frame = frame; meta = meta; passed = passed; chain = end.chain } ∷ [];
  looks = v.looks ++ end.looks;
}

pub filled_is : (v w : RxLog) (r len p : ℕ) (end : Stand) (x : RxParcel) (frame : List ℕ) (meta : RxMeta) → w ≡ going v r → x.len ≡ len → sight (further_pieces len) v r ≡ takes p end → take x.len x.bytes.items ≡ frame → x.meta ≡ meta → filled w x ≡ sent_view v r frame meta p end
filled_is v w r len p end x frame meta e len_is is a b = ap (λ z. filled z x) e ∙ ap (λ o. record (going v r) { busy = false; delivered = v.delivered ++ added o x; looks = v.looks ++ walk_looks o }) (ap (λ (l : ℕ). sight (further_pieces l) v r) len_is ∙ is)
    ∙ (λ i. sent_view v r (a i) (b i) p end)

module _ (key : List ℕ) (v : RxLog) (r n bodies : ℕ) (pos : 0 < v.made.size1) (every : v.made.bodies ≡ Every bodies) (cycle : bodies ≤ 2) (short_frame : n ≤ 2) (around : LooksAround (v, []) r) where
  abbrev p1 : ℕ
  p1 = posted1 v.made (take r v.delivered)

  abbrev p2 : ℕ
  p2 = posted2 v.made (take r v.delivered)

  far1 : posted1 v.made v.heard_received ≤ p1
  far1 = let a = around.heard1 in omega arith

  far2 : posted2 v.made v.heard_received ≤ p2
  far2 = let a = around.heard2 in omega arith

  looks_are : (looks : List (ℕ × ℕ)) → All (IsLookAt v.made p1) looks → All (IsLook1 (device_seen key v)) looks
  looks_are looks all k d less = let a = all k d less in let b = a.1 in let f = far1 in (a.0, omega arith)

  was : (posted1 v.made (take v.seen v.delivered) ≤ p1) × (posted2 v.made (take v.seen v.delivered) ≤ p2)
  was = let a = used_take_more took1 v.delivered v.seen r around.seen in let b = used_take_more took2 v.delivered v.seen r around.seen in ((omega arith), (omega arith))

  pub delivers : (p : ℕ) (end : Stand) (frame : List ℕ) (meta : RxMeta) (w : RxLog) → sight n v r ≡ takes p end → n ≡ further_pieces (length frame) → w ≡ sent_view v r frame meta p end → DeliversFrame (device_seen key v) frame meta (device_seen key w)
  delivers p end frame meta w is n_is w_is =
      let t = through v.made bodies (used took1 v.delivered) (used took2 v.delivered) p1 p2 n every pos p end is in let many = t.as_many in let long = t.pieces in let low = soon v.made bodies (used took1 v.delivered) p every pos t.head in
      let d : Delivery = record { frame = frame; meta = meta; passed = p; chain = end.chain } in
      let same : take r (v.delivered ++ d ∷ []) ≡ take r v.delivered = take-append-le r v.delivered (d ∷ []) around.behind in
      let s1 = ap (used took1) same in let s2 = ap (used took2) same in let w1 = was.0 in let w2 = was.1 in let t1 = t.next1 in let t2 = t.next2 in
      subst (λ z. DeliversFrame (device_seen key v) frame meta (device_seen key z)) (sym w_is) record {
        fine = refl;
        passed = p;
        found = t.found;
        as_many = omega arith;
        head = t.head;
        end = end;
        walked = t.walked;
        few = λ _. omega arith;
        looked = looks_are end.looks t.looked;
        was = ((omega arith), (omega arith));
        seen = ((omega arith), (omega arith));
        is = refl;
      }

  pub refuses : (bytes ring p : ℕ) (looks : List (ℕ × ℕ)) (w : RxLog) → sight n v r ≡ misses ring p looks → n ≡ further_pieces bytes → w ≡ refusing v r ring p looks → Refuses (device_seen key v) bytes ring p (missed_word RX_DESC_GENERATION_BIT (ring_size v.made ring) p) (length v.refused) (device_seen key w)
  refuses bytes ring p looks w is n_is w_is = subst (λ z. Refuses (device_seen key v) bytes ring p (missed_word RX_DESC_GENERATION_BIT (ring_size v.made ring) p) (length v.refused) (device_seen key z)) (sym w_is) record {
    fine = refl;
    looks = looks;
    where_ = ⊎_elim
        (λ (c : (1 ≡ ring) × (p1 ≡ p) × ([] ≡ looks) × _). inl (sym c.0, sym c.2, by_head ring p c.0 c.1 c.3))
        (λ (c : (2 ≡ ring) × (p2 ≡ p) × Short v.made (used took1 v.delivered) (used took2 v.delivered) p1 p2 n looks). inr (sym c.0, by_body ring p looks c.0 c.1 c.2))
        (short v.made bodies (used took1 v.delivered) (used took2 v.delivered) p1 p2 n every pos ring p looks around.within1 around.within2 is);
    number = refl;
    was = was;
    is = refl;
  }
    where
      by_head : (ring p : ℕ) → 1 ≡ ring → p1 ≡ p → AreBodies v.made (used took1 v.delivered) p1 → MissesHead (device_seen key v) p (missed_word RX_DESC_GENERATION_BIT (ring_size v.made ring) p) (device_seen key (refusing v r ring p looks))
      by_head ring p a b bodies = subst (λ (z : ℕ × ℕ). MissesHead (device_seen key v) z.1 (missed_word RX_DESC_GENERATION_BIT (ring_size v.made z.0) z.1) (device_seen key (refusing v r z.0 z.1 looks))) (λ i. (a i, b i))
          record { bodies = bodies; missed = (missed_is _ _, far1); seen = le_refl p1 }

      by_body : (ring p : ℕ) (looks : List (ℕ × ℕ)) → 2 ≡ ring → p2 ≡ p → Short v.made (used took1 v.delivered) (used took2 v.delivered) p1 p2 n looks → MissesBody (device_seen key v) bytes p (missed_word RX_DESC_GENERATION_BIT (ring_size v.made ring) p) looks (device_seen key (refusing v r ring p looks))
      by_body ring p looks a b s = subst (λ (z : ℕ × ℕ). MissesBody (device_seen key v) bytes z.1 (missed_word RX_DESC_GENERATION_BIT (ring_size v.made z.0) z.1) looks (device_seen key (refusing v r z.0 z.1 looks))) (λ i. (a i, b i))
          (let few = s.not_all in record {
            passed = s.passed;
            found = s.found;
            not_all = omega arith;
            head = s.head;
            end = s.end;
            walked = s.walked;
            needed = s.needed;
            looks_are = s.looks_are;
            looked = looks_are looks s.looked;
            missed = (missed_is _ _, far2);
            seen = (s.next1, le_refl p2);
          })

pub sums_more : (n : ℕ) (ds : List Delivery) (d : Delivery) (ones twos : List ℕ) (a b : ℕ) → AreSums n ds ones twos → length ones ≡ n + 1 → length twos ≡ n + 1 → a ≡ used took1 (ds ++ d ∷ []) → b ≡ used took2 (ds ++ d ∷ [])
    → AreSums n (ds ++ d ∷ []) (set ones (length ds % (n + 1)) a) (set twos (length ds % (n + 1)) b)
sums_more n ds d ones twos a b sums l1 l2 a_is b_is p less near = let long : length (ds ++ d ∷ []) ≡ length ds + 1 = length-append ds (d ∷ []) in let h : ℕ = length ds in let k : ℕ = n + 1 in let some : 0 < k = omega arith in let low = mod-lt h some in dite (ℕ_discrete p h)
    (λ here. let whole : take (suc p) (ds ++ d ∷ []) ≡ ds ++ d ∷ [] = ap (λ (z : ℕ). take z (ds ++ d ∷ [])) (let q : suc p ≡ length (ds ++ d ∷ []) = omega arith in q) ∙ take-length (ds ++ d ∷ []) in (
      ap (λ (z : ℕ). get_or (set ones (h % k) a) (z % k) 0) here ∙ get_or-set_same ones (h % k) a 0 (omega arith) ∙ a_is ∙ sym (ap (used took1) whole),
      ap (λ (z : ℕ). get_or (set twos (h % k) b) (z % k) 0) here ∙ get_or-set_same twos (h % k) b 0 (omega arith) ∙ b_is ∙ sym (ap (used took2) whole),
    ))
    (λ other. let under : p < h = omega arith in let close : h < p + k = omega arith in let apart = elsewhere k p h under close in let part : take (suc p) (ds ++ d ∷ []) ≡ take (suc p) ds = take-append-le (suc p) ds (d ∷ []) (omega arith) in let old = sums p under (omega arith) in
    (get_or-set_other ones (h % k) (p % k) a 0 (λ e. apart (sym e)) ∙ old.0 ∙ sym (ap (used took1) part), get_or-set_other twos (h % k) (p % k) b 0 (λ e. apart (sym e)) ∙ old.1 ∙ sym (ap (used took2) part)))

pub around_of : (m : Seated) (r : ℕ) → LooksAround m r → LooksAround (m.0, []) r
around_of m r a = record { seen = a.seen; heard = a.heard; behind = a.behind; within = a.within; heard1 = a.heard1; heard2 = a.heard2; within1 = a.within1; within2 = a.within2 }

-- how much a delivery and a refusal add
pub grows_delivered : (old : RxDeviceView) (frame : List ℕ) (meta : RxMeta) (new : RxDeviceView) → old.given ≡ false → DeliversFrame old frame meta new → GrowsDelivered old new
grows_delivered old frame meta new fine d = let x : Delivery = record { frame = frame; meta = meta; passed = d.passed; chain = d.end.chain } in
    let a = ap (λ (v : RxDeviceView). length v.delivered) d.is ∙ length-append old.delivered (x ∷ []) in let b = ap (λ (v : RxDeviceView). length v.refused) d.is in
    let u1 = ap (λ (v : RxDeviceView). used took1 v.delivered) d.is ∙ used-append took1 old.delivered (x ∷ []) in let u2 = ap (λ (v : RxDeviceView). used took2 v.delivered) d.is ∙ used-append took2 old.delivered (x ∷ []) in
    let few = d.few fine in let i1 = in_ring_few 1 d.end.chain in let i2 = in_ring_few 2 d.end.chain in
    record { delivered = omega arith; refused = omega arith; positions = λ _. (omega arith, omega arith); within = λ e. absurd (true≢false (sym e ∙ fine)) }

pub grows_refused : (old : RxDeviceView) (bytes ring position word look : ℕ) (new : RxDeviceView) → old.given ≡ false → Refuses old bytes ring position word look new → GrowsDelivered old new
grows_refused old bytes ring position word look new fine r =
    let a = ap (λ (v : RxDeviceView). length v.delivered) r.is in let b = ap (λ (v : RxDeviceView). length v.refused) r.is ∙ length-append old.refused ((ring, position, word) ∷ []) in
    let u1 = ap (λ (v : RxDeviceView). used took1 v.delivered) r.is in let u2 = ap (λ (v : RxDeviceView). used took2 v.delivered) r.is in
    record { delivered = omega arith; refused = omega arith; positions = λ _. (omega arith, omega arith); within = λ e. absurd (true≢false (sym e ∙ fine)) }
