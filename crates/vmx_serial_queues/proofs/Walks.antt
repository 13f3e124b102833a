-- The steps of a walk, one at a time.
use Rattle.std.proofs.Common.{◌≡◌, ℕ, zero, suc, ◌+◌, ◌-◌, ◌<◌, ◌≤◌, Bool, true, false, cond, sym, refl, ap, ◌∙◌, subst, arith, nat_lt, List, [], ◌∷◌, length, length-append, if◌then◌else◌, Some, None, map, take, ◌/◌}
use Rattle.std.proofs.lemmas.Bool.{lt-ltb, le-ltb}
use Rattle.vmx_ends.specs.declared.made.RxMade.{RxMade}
use Rattle.vmx_ends.specs.Walk.{Stand, at_head, from_one, from_two, by_load, further}
use Rattle.vmx_ends.specs.Core.{takes, misses, ended, outcome, head_from, finding, goes}
use Rattle.vmx_ends.specs.WalkByNumbers.{head_most}
use Rattle.std.proofs.lemmas.List.{take-map}
use Rattle.vmx_ends.specs.Words.{missed_word}
use Rattle.vmx_ends.specs.declared.frames.Delivery.{Delivery}
use Rattle.vmx_ends.specs.Receive.{is_body, used, took1, took2, posted1, posted2}
use Rattle.vmx_ends.specs.ReceiveClauses.{made_of}
use Rattle.vmx_ends.specs.ReceiveCore.{comes_to}
use Rattle.vmx_serial_queues.specs.declared.rx.RxQueue.{RxQueue}
use Rattle.vmx_serial_queues.specs.Queues.{rx_core, delivery_of}

module _ (m : RxMade) (posted1 posted2 : ℕ) where
  goes_last : (n : ℕ) (a : Stand) → 0 < n → goes m posted1 posted2 n a ≡ (let b = further m a (finding m posted1 a) in if nat_lt posted2 b.next2 then b else goes m posted1 posted2 (n - 1) b)
  goes_last zero a some = absurd (omega arith)
  goes_last (suc n) a some = let e : n ≡ suc n - 1 = omega arith in let b : Stand = further m a (finding m posted1 a) in ap (λ (k : ℕ). cond (nat_lt posted2 b.next2) b (goes m posted1 posted2 k b)) e

  -- no further piece
  pub goes_none : (n : ℕ) (a : Stand) → n ≡ 0 → a ≡ goes m posted1 posted2 n a
  goes_none zero a none = refl
  goes_none (suc n) a none = absurd (omega arith)

  -- a further piece that is not posted in ring 2 ends the walk
  pub goes_stop : (n : ℕ) (a b : Stand) → 0 < n → b ≡ further m a (finding m posted1 a) → posted2 < b.next2 → b ≡ goes m posted1 posted2 n a
  goes_stop n a b some is far = let c : Stand = further m a (finding m posted1 a) in let e : nat_lt posted2 c.next2 ≡ true = subst (λ (z : Stand). nat_lt posted2 z.next2 ≡ true) is (lt-ltb posted2 b.next2 far) in
      is ∙ sym (goes_last n a some ∙ ap (λ (t : Bool). cond t c (goes m posted1 posted2 (n - 1) c)) e)

  -- any other goes on
  pub goes_on : (n : ℕ) (a b : Stand) → 0 < n → b ≡ further m a (finding m posted1 a) → b.next2 ≤ posted2 → goes m posted1 posted2 (n - 1) b ≡ goes m posted1 posted2 n a
  goes_on n a b some is near = let c : Stand = further m a (finding m posted1 a) in let e : nat_lt posted2 c.next2 ≡ false = subst (λ (z : Stand). nat_lt posted2 z.next2 ≡ false) is (le-ltb posted2 b.next2 near) in
      ap (goes m posted1 posted2 (n - 1)) is ∙ sym (goes_last n a some ∙ ap (λ (t : Bool). cond t c (goes m posted1 posted2 (n - 1) c)) e)

  longer_once : (a : Stand) → length (further m a (finding m posted1 a)).chain ≡ suc (length a.chain)
  longer_once a = by_body (missed_word 31 m.size1 a.next1) (is_body m a.next1) (nat_lt a.next1 posted1)
    where
      one : length (from_one a).chain ≡ suc (length a.chain)
      one = omega (arith, length-append a.chain ((1, a.next1) ∷ []))

      two : length (from_two a).chain ≡ suc (length a.chain)
      two = omega (arith, length-append a.chain ((2, a.next2) ∷ []))

      by_body : (w : ℕ) (b c : Bool) → length (cond b (by_load a (cond c None (Some w))) (from_two a)).chain ≡ suc (length a.chain)
      by_body w true true = one
      by_body w true false = two
      by_body w false c = two

  long : (n : ℕ) (a : Stand) → length (goes m posted1 posted2 n a).chain ≤ length a.chain + n
  long zero a = omega arith
  long (suc n) a = let b : Stand = further m a (finding m posted1 a) in by_case b (nat_lt posted2 b.next2) (longer_once a) (long n b)
    where
      by_case : (b : Stand) (c : Bool) → length b.chain ≡ suc (length a.chain) → length (goes m posted1 posted2 n b).chain ≤ length b.chain + n → length (cond c b (goes m posted1 posted2 n b)).chain ≤ length a.chain + suc n
      by_case b true e le = omega arith
      by_case b false e le = omega arith

  -- a delivery takes few buffers
  pub few : (c1 c2 n passed : ℕ) (end : Stand) → takes passed end ≡ outcome m c1 c2 posted1 posted2 n → (passed ≤ m.size1) × (length end.chain ≤ n + 1)
  few c1 c2 n passed end e = by_head (nat_lt h posted1) e
    where
      h : ℕ
      h = head_from m m.size1 c1

      g : Stand
      g = goes m posted1 posted2 n (at_head h c2)

      by_end : (b : Bool) → takes passed end ≡ cond b (misses 2 posted2 g.looks) (takes (h - c1) g) → (passed ≤ m.size1) × (length end.chain ≤ n + 1)
      by_end true e = absurd (cc e)
      by_end false e = let p : passed ≡ h - c1 = cc e in let q : end ≡ g = cc e in let most = head_most m m.size1 c1 in let l = long n (at_head h c2) in (omega arith, omega (arith, ap (λ (s : Stand). length s.chain) q))

      by_head : (b : Bool) → takes passed end ≡ cond b (ended (h - c1) posted2 g) (misses 1 posted1 []) → (passed ≤ m.size1) × (length end.chain ≤ n + 1)
      by_head true e = by_end (nat_lt posted2 g.next2) e
      by_head false e = absurd (cc e)

-- the outcome by the numbers of a queue's frames
pub same_outcome : (q : RxQueue) (used1 used2 all1 all2 n bytes : ℕ) → used1 ≡ used took1 (map delivery_of q.delivered) → used2 ≡ used took2 (map delivery_of q.delivered)
    → all1 ≡ q.shape.size1 + used took1 (map delivery_of (take q.received q.delivered)) → all2 ≡ q.shape.size2 + used took2 (map delivery_of (take q.received q.delivered)) → n ≡ (bytes + 2047) / 4096
    → outcome (made_of q.shape) used1 used2 all1 all2 n ≡ comes_to (rx_core q) bytes
same_outcome q used1 used2 all1 all2 n bytes e1 e2 p1 p2 en =
    let back = take-map delivery_of q.received q.delivered in
    let b1 : all1 ≡ posted1 (made_of q.shape) (take q.received (map delivery_of q.delivered)) = p1 ∙ ap (λ (ds : List Delivery). q.shape.size1 + used took1 ds) (sym back) in
    let b2 : all2 ≡ posted2 (made_of q.shape) (take q.received (map delivery_of q.delivered)) = p2 ∙ ap (λ (ds : List Delivery). q.shape.size2 + used took2 ds) (sym back) in
    λ i. outcome (made_of q.shape) (e1 i) (e2 i) (b1 i) (b2 i) (en i)

-- what a queue takes of a frame
pub takes_few : (q : RxQueue) (bytes passed : ℕ) (end : Stand) → bytes ≤ 9022 → takes passed end ≡ comes_to (rx_core q) bytes → (passed ≤ 4096) × (length end.chain ≤ 3)
takes_few q bytes passed end short e =
    let back = take q.received (map delivery_of q.delivered) in
    let f = few (made_of q.shape) (posted1 (made_of q.shape) back) (posted2 (made_of q.shape) back) (used took1 (map delivery_of q.delivered)) (used took2 (map delivery_of q.delivered)) ((bytes + 2047) / 4096) passed end e in
    let a = f.0 in let b = f.1 in let s = q.shaped.1 in
    (omega arith, omega arith)
