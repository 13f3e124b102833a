-- A frame is read piece by piece.
use Rattle.std.proofs.Common.{◌≡◌, ℕ, suc, ◌+◌, ◌-◌, ◌*◌, ◌/◌, ◌%◌, ◌^◌, ◌<◌, ◌≤◌, ◌⊎◌, ◌==◌, inl, inr, List, [], ◌∷◌, ◌++◌, length, take, drop, Bool, true, false, cond, Option, Some, None, sym, refl, ap, ◌∙◌, subst, ⊎_elim, arith, append_assoc, length-append, take-append-drop, mod-lt}
use mathlib.Core.Option.{some}
use lib.ListN.{get_elem?}
use Rattle.atomic_table.proofs.Lists.{drop_at}
use Rattle.vmx_ends.specs.ReceiveClauses.{made_of}
use Rattle.vmx_ends.specs.declared.made.RxMade.{RxMade}
use Rattle.vmx_ends.specs.declared.made.RxShape.{RxShape}
use Rattle.vmx_ends.specs.declared.meta.RxMeta.{RxMeta}
use Rattle.vmx_rx_ring.specs.declared.known.Entry.{Entry}
use Rattle.vmx_rx_ring.specs.declared.known.DriverKnows.{DriverKnows}
use Rattle.vmx_rx_ring.specs.Words.{with_bit, in_data, index_in, ring_id, first_word, tag_in, TagFits, told_tag, body_word, body_of, entry, room_of, entries_from, flat}
use Rattle.vmx_rx_ring.specs.Tells.{Seated, with_driver, IsNext, Tells}
use Rattle.vmx_rx_ring.specs.Shapes.{IsShape}
use Rattle.vmx_rx_walk.specs.Reading.{IsNamed, IsTagged, has_read, CanRead, ReadsNext, Follows, Reads, FrameRead, TagRead}
use Rattle.vmx_layout.specs.Bits.{field}
use Rattle.vmx_rx_ring.proofs.Layouts.{one_if, first_is, tag_sum, body_is}
use Rattle.vmx_rx_ring.proofs.Risings.{at_drop}

bit_small : (b : Bool) → one_if b ≤ 1
bit_small true = omega arith
bit_small false = omega arith

-- the first word of a completion, taken apart
pub word_apart : (i e b r k h : ℕ) → i < 4096 → e ≤ 1 → b ≤ 1 → r < 24 → k ≤ 4 → (w : ℕ) → w ≡ i + 16384 * e + 32768 * b + 65536 * r + (67108864 * k + 4294967296 * h)
    → (w % 4096 ≡ i) × (w / 16384 % 2 ≡ e) × (w / 65536 % 1024 ≡ r) × (w / 67108864 % 16 ≡ k) × (w / 4294967296 ≡ h) × (w / 4096 % 4 ≡ 0) × (w / 2147483648 % 2 ≡ 0)
word_apart i e b r k h li le lb lr lk w is = (omega arith, omega arith, omega arith, omega arith, omega arith, omega arith, omega arith)

index_small : (s : RxShape) → IsShape s → (spot : ℕ × ℕ) → index_in (made_of s) spot < 4096
index_small s t spot = by_ring (spot.0 == 1)
  where
    by_ring : (b : Bool) → cond b (spot.1 % s.size1) (spot.1 % s.size2) < 4096
    by_ring true = let a = t.0 in let b = t.1 in let l : spot.1 % s.size1 < s.size1 = mod-lt spot.1 (omega arith) in omega arith
    by_ring false = let a = t.2 in let b = t.3 in let l : spot.1 % s.size2 < s.size2 = mod-lt spot.1 (omega arith) in omega arith

id_small : (s : RxShape) → IsShape s → (in_entry : Bool) (ring : ℕ) → ring_id (made_of s) in_entry ring < 24
id_small s t true ring = let a = t.6 in let b = t.7 in omega arith
id_small s t false ring = by_ring (ring == 1)
  where
    by_ring : (b : Bool) → cond b s.name.queue (s.queues + s.name.queue) < 24
    by_ring true = let a = t.6 in let b = t.7 in omega arith
    by_ring false = let a = t.6 in let b = t.7 in omega arith

pub record Apart (s : RxShape) (sop eop : Bool) (meta : RxMeta) (spot : ℕ × ℕ) (len w : ℕ) : Type 0 where
  pub index : w % 4096 ≡ index_in (made_of s) spot
  pub eop_is : w / 16384 % 2 ≡ one_if eop
  pub id : w / 65536 % 1024 ≡ ring_id (made_of s) (in_data (made_of s) sop eop len) spot.0
  pub named : IsNamed w
  pub kind : sop ≡ true → w / 67108864 % 16 ≡ meta.kind
  pub hash : sop ≡ true → w / 4294967296 ≡ meta.hash

pub apart : (s : RxShape) → IsShape s → (sop eop : Bool) (meta : RxMeta) (spot : ℕ × ℕ) (len w : ℕ) → w ≡ first_word (made_of s) sop eop meta spot len → Apart s sop eop meta spot len w
apart s t true eop meta spot len w is = let a = word_apart (index_in (made_of s) spot) (one_if eop) 1 (ring_id (made_of s) (in_data (made_of s) true eop len) spot.0) meta.kind meta.hash (index_small s t spot) (bit_small eop) (omega arith) (id_small s t (in_data (made_of s) true eop len) spot.0) meta.kinds w (is ∙ first_is (made_of s) true eop meta spot len) in
    record { index = a.0; eop_is = a.1; id = a.2; named = (a.5, a.6); kind = λ _. a.3; hash = λ _. a.4 }
apart s t false eop meta spot len w is = let a = word_apart (index_in (made_of s) spot) (one_if eop) 0 (ring_id (made_of s) (in_data (made_of s) false eop len) spot.0) 0 0 (index_small s t spot) (bit_small eop) (omega arith) (id_small s t (in_data (made_of s) false eop len) spot.0) (omega arith) w (is ∙ first_is (made_of s) false eop meta spot len) in
    record { index = a.0; eop_is = a.1; id = a.2; named = (a.5, a.6); kind = λ e. absurd (cc e); hash = λ e. absurd (cc e) }

-- a piece in the data ring is a frame's first
in_data_first : (m : RxMade) (sop eop : Bool) (len : ℕ) → in_data m sop eop len ≡ true → sop ≡ true
in_data_first m true eop len e = refl
in_data_first m false eop len e = absurd (cc e)

-- the tag and the type in a second word
tag_stands : (len : ℕ) (t : Option ℕ) (b : Bool) → len < 2 ^ 14 → TagFits t → IsTagged (with_bit 63 (body_word t len) b) t
tag_stands len t b short fits = subst (λ (w : ℕ). IsTagged (with_bit 63 w b) t) (sym (body_is t len)) (by_tag t fits b)
  where
    no_tag : (w : ℕ) → w / 2 ^ 15 % 2 ≡ 0 → told_tag w ≡ None
    no_tag w zero_ = ap (λ (k : ℕ). cond (k == 1) (Some (w / 2 ^ 16 % 2 ^ 16)) None) zero_

    a_tag : (w tci : ℕ) → w / 2 ^ 15 % 2 ≡ 1 → w / 2 ^ 16 % 2 ^ 16 ≡ tci → told_tag w ≡ Some tci
    a_tag w tci one is = ap (λ (k : ℕ). cond (k == 1) (Some (w / 2 ^ 16 % 2 ^ 16)) None) one ∙ ap Some is

    by_tag : (t : Option ℕ) → TagFits t → (b : Bool) → IsTagged (with_bit 63 (len + tag_sum t + 3 * 2 ^ 56) b) t
    by_tag None fits true = (no_tag (len + 0 + 3 * 2 ^ 56 + 2 ^ 63) (omega arith), omega arith)
    by_tag None fits false = (no_tag (len + 0 + 3 * 2 ^ 56 + 0) (omega arith), omega arith)
    by_tag (Some tci) fits true = let low : tci < 65536 = fits in (a_tag (len + (2 ^ 15 + 2 ^ 16 * tci) + 3 * 2 ^ 56 + 2 ^ 63) tci (omega arith) (omega arith), omega arith)
    by_tag (Some tci) fits false = let low : tci < 65536 = fits in (a_tag (len + (2 ^ 15 + 2 ^ 16 * tci) + 3 * 2 ^ 56 + 0) tci (omega arith) (omega arith), omega arith)

-- the tag that a completion has fits
tag_in_fits : (eop : Bool) (meta : RxMeta) → TagFits meta.tci → TagFits (tag_in eop meta)
tag_in_fits true meta fits = fits
tag_in_fits false meta fits = tt

-- so the second word of any piece is that of a receive completion
pub kind_stands : (s : RxShape) (m : Seated) (second len : ℕ) (c : CanRead s m second len) → field second 56 7 ≡ 3
kind_stands s m second len c = let f = c.fits in subst (λ (w : ℕ). field w 56 7 ≡ 3) (sym (c.word.1 ∙ ap (λ (w : ℕ). with_bit 63 w c.word.0) c.body)) (tag_stands (length c.piece.bytes) (tag_in c.eop c.meta) c.word.0 (omega arith) (tag_in_fits c.eop c.meta c.tag)).1

abbrev pub ends : List (ℕ × ℕ) → Bool
ends [] = true
ends (t ∷ more) = false

abbrev pub piece_bytes : Bool → List (ℕ × ℕ) → List ℕ → List ℕ
piece_bytes sop [] bytes = bytes
piece_bytes sop (t ∷ more) bytes = take (room_of sop) bytes

abbrev pub later : RxMade → Bool → RxMeta → List (ℕ × ℕ) → List ℕ → List Entry
later m sop meta [] bytes = []
later m sop meta (t ∷ more) bytes = entries_from m false meta (t ∷ more) (drop (room_of sop) bytes)

pub head_is : (m : RxMade) (sop : Bool) (meta : RxMeta) (spot : ℕ × ℕ) (chain : List (ℕ × ℕ)) (bytes : List ℕ) → entries_from m sop meta (spot ∷ chain) bytes ≡ entry m sop (ends chain) meta spot (piece_bytes sop chain bytes) ∷ later m sop meta chain bytes
head_is m sop meta spot [] bytes = refl
head_is m sop meta spot (t ∷ more) bytes = refl

pieces_join : (m : RxMade) (sop : Bool) (chain : List (ℕ × ℕ)) (bytes : List ℕ) → length (piece_bytes sop chain bytes) ≤ length bytes
pieces_join m sop [] bytes = omega arith
pieces_join m sop (t ∷ more) bytes = let e = ap length (take-append-drop (room_of sop) bytes) in let l = length-append (take (room_of sop) bytes) (drop (room_of sop) bytes) in omega arith

module _ (s : RxShape) (m : Seated) (fuel second room : ℕ) (r : Reads s m fuel second room) (shape : IsShape s) (made : m.0.made ≡ made_of s) where
  abbrev g : DriverKnows
  g = m.0.driver

  abbrev pub the_piece : Entry
  the_piece = entry m.0.made r.sop (ends r.chain) r.meta r.spot (piece_bytes r.sop r.chain r.bytes)

  left : drop g.read (flat m.0.made g.received) ≡ the_piece ∷ later m.0.made r.sop r.meta r.chain r.bytes
  left = r.left_is ∙ head_is m.0.made r.sop r.meta r.spot r.chain r.bytes

  pub next : IsNext m.0 the_piece
  next = sym (at_drop (flat m.0.made g.received) g.read g.read (omega arith)) ∙ ap (λ l. get_elem? l (g.read - g.read)) left ∙ ap (λ (k : ℕ). get_elem? (the_piece ∷ later m.0.made r.sop r.meta r.chain r.bytes) k) (let z : g.read - g.read ≡ 0 = omega arith in z)

  pub apart_now : (w : ℕ) → w ≡ the_piece.first → Apart s r.sop (ends r.chain) r.meta r.spot (length the_piece.bytes) w
  apart_now w is = apart s shape r.sop (ends r.chain) r.meta r.spot (length the_piece.bytes) w (is ∙ ap (λ (z : RxMade). first_word z r.sop (ends r.chain) r.meta r.spot (length the_piece.bytes)) made)

  pub can_read : CanRead s m second room
  can_read = let a = apart_now the_piece.first refl in let q = shape.7 in record {
    piece = the_piece;
    next = next;
    points = (a.index, a.named, by_data (in_data (made_of s) r.sop (ends r.chain) (length the_piece.bytes)) refl a.id);
    due = ⊎_elim
        (λ (z : (r.spot.0 ≡ 1) × (g.back1 ≤ r.spot.1) × (r.spot.1 < g.back1 + s.size1) × Follows (suc r.spot.1) g.back2 r.chain r.q1 r.q2). inl (z.0, z.1, z.2))
        (λ (z : (r.spot.0 ≡ 2) × (r.spot.1 ≡ g.back2) × Follows g.back1 (suc r.spot.1) r.chain r.q1 r.q2). inr (z.0, z.1))
        r.lies;
    eop = ends r.chain;
    meta = r.meta;
    body = refl;
    tag = r.tag;
    word = r.word the_piece next;
    fits = let p = pieces_join m.0.made r.sop r.chain r.bytes in let f = r.fits in omega arith;
  }
    where
      lies_so : (d : Bool) → in_data (made_of s) r.sop (ends r.chain) (length the_piece.bytes) ≡ d → the_piece.in_data ≡ d
      lies_so d e = ap (λ (z : RxMade). in_data z r.sop (ends r.chain) (length the_piece.bytes)) made ∙ e

      by_data : (d : Bool) → in_data (made_of s) r.sop (ends r.chain) (length the_piece.bytes) ≡ d → the_piece.first / 65536 % 1024 ≡ ring_id (made_of s) (in_data (made_of s) r.sop (ends r.chain) (length the_piece.bytes)) r.spot.0
          → ((r.spot.0 ≡ 1) × (the_piece.in_data ≡ false) × (the_piece.first / 65536 % 1024 < s.queues)) ⊎ ((r.spot.0 ≡ 2) × (the_piece.in_data ≡ false) × (s.queues ≤ the_piece.first / 65536 % 1024) × (the_piece.first / 65536 % 1024 < s.queues + s.queues)) ⊎ ((r.spot.0 ≡ 1) × (the_piece.in_data ≡ true) × (s.queues + s.queues ≤ the_piece.first / 65536 % 1024))
      by_data true e id = let at : the_piece.first / 65536 % 1024 ≡ s.queues + s.queues + s.name.queue = id ∙ ap (λ (d : Bool). ring_id (made_of s) d r.spot.0) e in inr (inr (r.head (in_data_first (made_of s) r.sop (ends r.chain) (length the_piece.bytes) e), lies_so true e, omega arith))
      by_data false e id = let q = shape.7 in let at : the_piece.first / 65536 % 1024 ≡ cond (r.spot.0 == 1) s.name.queue (s.queues + s.name.queue) = id ∙ ap (λ (d : Bool). ring_id (made_of s) d r.spot.0) e in ⊎_elim
          (λ (z : (r.spot.0 ≡ 1) × (g.back1 ≤ r.spot.1) × (r.spot.1 < g.back1 + s.size1) × Follows (suc r.spot.1) g.back2 r.chain r.q1 r.q2). let one = ap (λ (x : ℕ). cond (x == 1) s.name.queue (s.queues + s.name.queue)) z.0 in inl (z.0, lies_so false e, omega arith))
          (λ (z : (r.spot.0 ≡ 2) × (r.spot.1 ≡ g.back2) × Follows g.back1 (suc r.spot.1) r.chain r.q1 r.q2). let two = ap (λ (x : ℕ). cond (x == 1) s.name.queue (s.queues + s.name.queue)) z.0 in inr (inl (z.0, lies_so false e, omega arith, omega arith)))
          r.lies

  -- the numbers that are posted back rise up to those of the whole
  follows_up : (p q : ℕ) (ss : List (ℕ × ℕ)) (p' q' : ℕ) → Follows p q ss p' q' → (p ≤ p') × (q ≤ q')
  follows_up p q [] p' q' f = let a = f.0 in let b = f.1 in (omega arith, omega arith)
  follows_up p q (x ∷ ss) p' q' f = ⊎_elim
      (λ (z : (x.0 ≡ 1) × (x.1 ≡ p) × Follows (suc p) q ss p' q'). let u = follows_up (suc p) q ss p' q' z.2 in (let a = u.0 in omega arith, u.1))
      (λ (z : (x.0 ≡ 2) × (x.1 ≡ q) × Follows p (suc q) ss p' q'). let u = follows_up p (suc q) ss p' q' z.2 in (u.0, let a = u.1 in omega arith))
      f

  pub smalls : (g.back1 ≤ 3 * 2 ^ 62 + 32) × (g.back2 ≤ 3 * 2 ^ 62 + 32) × (g.read < 2 ^ 62 + 32)
  smalls = let b = r.bounds in let b0 = b.0 in let b1 = b.1 in let b2 = b.2 in ⊎_elim
      (λ (z : (r.spot.0 ≡ 1) × (g.back1 ≤ r.spot.1) × (r.spot.1 < g.back1 + s.size1) × Follows (suc r.spot.1) g.back2 r.chain r.q1 r.q2). let u = follows_up _ _ r.chain r.q1 r.q2 z.3 in let u0 = u.0 in let u1 = u.1 in let l = z.1 in (omega arith, omega arith, omega arith))
      (λ (z : (r.spot.0 ≡ 2) × (r.spot.1 ≡ g.back2) × Follows g.back1 (suc r.spot.1) r.chain r.q1 r.q2). let u = follows_up _ _ r.chain r.q1 r.q2 z.2 in let u0 = u.0 in let u1 = u.1 in let l = z.1 in (omega arith, omega arith, omega arith))
      r.lies

  -- the numbers after the piece
  abbrev after : DriverKnows
  after = record (has_read g the_piece) { reading = false }

  lies_after : Follows after.back1 after.back2 r.chain r.q1 r.q2
  lies_after = ⊎_elim
      (λ (z : (r.spot.0 ≡ 1) × (g.back1 ≤ r.spot.1) × (r.spot.1 < g.back1 + s.size1) × Follows (suc r.spot.1) g.back2 r.chain r.q1 r.q2). subst (λ (y : ℕ × ℕ). Follows y.0 y.1 r.chain r.q1 r.q2) (λ i. (sym (ap (λ (x : ℕ). cond (x == 1) (suc r.spot.1) g.back1) z.0) i, sym (ap (λ (x : ℕ). cond (x == 1) g.back2 (suc r.spot.1)) z.0) i)) z.3)
      (λ (z : (r.spot.0 ≡ 2) × (r.spot.1 ≡ g.back2) × Follows g.back1 (suc r.spot.1) r.chain r.q1 r.q2). subst (λ (y : ℕ × ℕ). Follows y.0 y.1 r.chain r.q1 r.q2) (λ i. (sym (ap (λ (x : ℕ). cond (x == 1) (suc r.spot.1) g.back1) z.0) i, sym (ap (λ (x : ℕ). cond (x == 1) g.back2 (suc r.spot.1)) z.0) i)) z.2)
      r.lies

  tail : List Entry → List Entry
  tail [] = []
  tail (x ∷ xs) = xs

  left_after : drop (suc g.read) (flat m.0.made g.received) ≡ later m.0.made r.sop r.meta r.chain r.bytes
  left_after = ap rest (sym (drop_at (flat m.0.made g.received) g.read the_piece next) ∙ left)
    where
      rest : List Entry → List Entry
      rest [] = []
      rest (x ∷ xs) = xs

  -- the last piece is read
  pub ends_now : (m1 : Seated) (into into1 : List ℕ) → ReadsNext m into m1 into1 → ends r.chain ≡ true
      → (m1 ≡ (with_driver m.0 (record g { read = suc (length r.chain) + g.read; back1 = r.q1; back2 = r.q2; reading = false }), [])) × (into1 ≡ into ++ r.bytes)
  ends_now m1 into into1 f last = by_chain r.chain last lies_after (f the_piece next)
    where
      by_chain : (chain : List (ℕ × ℕ)) → ends chain ≡ true → Follows after.back1 after.back2 chain r.q1 r.q2 → (m1 ≡ (with_driver m.0 after, [])) × (into1 ≡ into ++ piece_bytes r.sop chain r.bytes)
          → (m1 ≡ (with_driver m.0 (record g { read = suc (length chain) + g.read; back1 = r.q1; back2 = r.q2; reading = false }), [])) × (into1 ≡ into ++ r.bytes)
      by_chain [] last l now = (now.0 ∙ (λ i. (with_driver m.0 (record g { read = one i; back1 = l.0 i; back2 = l.1 i; reading = false }), [])), now.1)
        where
          one : suc g.read ≡ suc 0 + g.read
          one = omega arith
      by_chain (t ∷ more) last l now = absurd (cc last)

  -- the rest of the frame can be read
  record Rest (m1 : Seated) (second' room' : ℕ) : Type 0 where
    t : ℕ × ℕ
    more : List (ℕ × ℕ)
    chain_is : r.chain ≡ t ∷ more
    reads : Reads s m1 (fuel - 1) second' room'
    chain_same : reads.chain ≡ more
    bytes_same : reads.bytes ≡ drop (room_of r.sop) r.bytes
    meta_same : reads.meta ≡ r.meta
    ends_same : (reads.q1 ≡ r.q1) × (reads.q2 ≡ r.q2)

  rest : (m1 : Seated) (second' : ℕ) (into into1 : List ℕ) → room ≡ length into → ReadsNext m into m1 into1 → ends r.chain ≡ false → ((x : Entry) → IsNext m1.0 x → Tells x second') → Rest m1 second' (length into1)
  rest m1 second' into into1 sized f not_last word = by_chain r.chain refl not_last lies_after left_after r.few (f the_piece next)
    where
      by_chain : (chain : List (ℕ × ℕ)) → r.chain ≡ chain → ends chain ≡ false → Follows after.back1 after.back2 chain r.q1 r.q2 → drop (suc g.read) (flat m.0.made g.received) ≡ later m.0.made r.sop r.meta chain r.bytes → length chain < fuel
          → (m1 ≡ (with_driver m.0 after, [])) × (into1 ≡ into ++ piece_bytes r.sop chain r.bytes) → Rest m1 second' (length into1)
      by_chain [] is last l le few now = absurd (cc last)
      by_chain (t ∷ more) is last l le few now = let b = r.bounds in let b2 = b.2 in let cut = ap length (take-append-drop (room_of r.sop) r.bytes) in let sum = length-append (take (room_of r.sop) r.bytes) (drop (room_of r.sop) r.bytes) in let put = ap length now.1 in let add = length-append into (take (room_of r.sop) r.bytes) in let f = r.fits in let z = shape.0 in record {
        t = t;
        more = more;
        chain_is = is;
        reads = record {
          sop = false;
          meta = r.meta;
          spot = t;
          chain = more;
          head = λ e. absurd (cc e);
          bytes = drop (room_of r.sop) r.bytes;
          tag = r.tag;
          q1 = r.q1;
          q2 = r.q2;
          left_is = subst (λ (y : Seated). drop y.0.driver.read (flat y.0.made y.0.driver.received) ≡ entries_from y.0.made false r.meta (t ∷ more) (drop (room_of r.sop) r.bytes)) (sym now.0) le;
          lies = subst (λ (y : Seated). ((t.0 ≡ 1) × (y.0.driver.back1 ≤ t.1) × (t.1 < y.0.driver.back1 + s.size1) × Follows (suc t.1) y.0.driver.back2 more r.q1 r.q2) ⊎ ((t.0 ≡ 2) × (t.1 ≡ y.0.driver.back2) × Follows y.0.driver.back1 (suc t.1) more r.q1 r.q2)) (sym now.0) (⊎_elim
              (λ (x : (t.0 ≡ 1) × (t.1 ≡ after.back1) × Follows (suc after.back1) after.back2 more r.q1 r.q2). let at = x.1 in inl (x.0, omega arith, omega arith, subst (λ (p : ℕ). Follows (suc p) after.back2 more r.q1 r.q2) (sym at) x.2))
              (λ (x : (t.0 ≡ 2) × (t.1 ≡ after.back2) × Follows after.back1 (suc after.back2) more r.q1 r.q2). let at = x.1 in inr (x.0, at, subst (λ (p : ℕ). Follows after.back1 (suc p) more r.q1 r.q2) (sym at) x.2))
              l);
          word = word;
          fits = omega arith;
          few = omega arith;
          bounds = (b.0, b.1, subst (λ (y : Seated). y.0.driver.read + (fuel - 1) < 2 ^ 62 + 32) (sym now.0) (omega arith));
        };
        chain_same = refl;
        bytes_same = refl;
        meta_same = refl;
        ends_same = (refl, refl);
      }

  pub goes_on : (m1 : Seated) (second' : ℕ) (into into1 : List ℕ) → room ≡ length into → ReadsNext m into m1 into1 → ends r.chain ≡ false → ((x : Entry) → IsNext m1.0 x → Tells x second') → Reads s m1 (fuel - 1) second' (length into1)
  goes_on m1 second' into into1 sized f not_last word = (rest m1 second' into into1 sized f not_last word).reads

  pub frame_on : (m1 m2 : Seated) (second' : ℕ) (into into1 into2 : List ℕ) → room ≡ length into → ReadsNext m into m1 into1 → ends r.chain ≡ false → ((x : Entry) → IsNext m1.0 x → Tells x second')
      → FrameRead s m1 (fuel - 1) second' into1 m2 into2 → (m2 ≡ (with_driver m.0 (record g { read = suc (length r.chain) + g.read; back1 = r.q1; back2 = r.q2; reading = false }), [])) × (into2 ≡ into ++ r.bytes)
  frame_on m1 m2 second' into into1 into2 sized f not_last word later_ = let q = rest m1 second' into into1 sized f not_last word in let h = later_ q.reads in let now = f the_piece next in
      let sum : suc (length q.reads.chain) + suc g.read ≡ suc (length r.chain) + g.read = (let a = ap length q.chain_same in let b = ap length q.chain_is in omega arith) in
      let joins : piece_bytes r.sop r.chain r.bytes ++ q.reads.bytes ≡ r.bytes = ap (λ l. piece_bytes r.sop l r.bytes ++ q.reads.bytes) q.chain_is ∙ ap (λ l. take (room_of r.sop) r.bytes ++ l) q.bytes_same ∙ take-append-drop (room_of r.sop) r.bytes in (
        h.0 ∙ (λ i. (with_driver (now.0 i).0 (record (now.0 i).0.driver { read = suc (length q.reads.chain) + (now.0 i).0.driver.read; back1 = q.reads.q1; back2 = q.reads.q2; reading = false }), [])) ∙ (λ i. (with_driver m.0 (record g { read = sum i; back1 = q.ends_same.0 i; back2 = q.ends_same.1 i; reading = false }), [])),
        h.1 ∙ ap (λ l. l ++ q.reads.bytes) now.1 ∙ append_assoc into (piece_bytes r.sop r.chain r.bytes) q.reads.bytes ∙ ap (λ l. into ++ l) joins,
      )

  -- the tag of the frame: in the second word of the last piece
  pub tag_now : ends r.chain ≡ true → IsTagged second r.meta.tci
  tag_now last = by_chain r.chain last refl
    where
      by_chain : (chain : List (ℕ × ℕ)) → ends chain ≡ true → r.chain ≡ chain → IsTagged second r.meta.tci
      by_chain [] e is = subst (λ (w : ℕ). IsTagged w r.meta.tci) (sym ((r.word the_piece next).1 ∙ ap (λ (c : List (ℕ × ℕ)). with_bit 63 (body_of (ends c) r.meta (piece_bytes r.sop c r.bytes)) (r.word the_piece next).0) is)) (tag_stands (length r.bytes) r.meta.tci (r.word the_piece next).0 (let f = r.fits in omega arith) r.tag)
      by_chain (t ∷ more) e is = absurd (cc e)

  pub tag_on : (m1 : Seated) (second' last : ℕ) (into into1 : List ℕ) → room ≡ length into → ReadsNext m into m1 into1 → ends r.chain ≡ false → ((x : Entry) → IsNext m1.0 x → Tells x second')
      → TagRead s m1 (fuel - 1) second' into1 last → IsTagged last r.meta.tci
  tag_on m1 second' last into into1 sized f not_last word later_ = let q = rest m1 second' into into1 sized f not_last word in subst (λ (t : RxMeta). IsTagged last t.tci) q.meta_same (later_ q.reads)

  -- a further piece comes next
  pub next_later : (m1 : Seated) (into into1 : List ℕ) → ReadsNext m into m1 into1 → ends r.chain ≡ false → (x : Entry) × IsNext m1.0 x
  next_later m1 into into1 f not_last = by_chain r.chain not_last left_after
    where
      by_chain : (chain : List (ℕ × ℕ)) → ends chain ≡ false → drop (suc g.read) (flat m.0.made g.received) ≡ later m.0.made r.sop r.meta chain r.bytes → (x : Entry) × IsNext m1.0 x
      by_chain [] last le = absurd (cc last)
      by_chain (t ∷ more) last le = let x : Entry = entry m.0.made false (ends more) r.meta t (piece_bytes false more (drop (room_of r.sop) r.bytes)) in (
        x,
        subst (λ (y : Seated). get_elem? (flat y.0.made y.0.driver.received) y.0.driver.read ≡ some x) (sym (f the_piece next).0)
            (sym (at_drop (flat m.0.made g.received) (suc g.read) (suc g.read) (omega arith)) ∙ ap (λ l. get_elem? l (suc g.read - suc g.read)) (le ∙ head_is m.0.made false r.meta t more (drop (room_of r.sop) r.bytes))
            ∙ ap (λ (k : ℕ). get_elem? (x ∷ later m.0.made false r.meta more (drop (room_of r.sop) r.bytes)) k) (let z : suc g.read - suc g.read ≡ 0 = omega arith in z)),
      )

-- whether a piece is the last, by its first word
pub is_last : (b : Bool) (w : ℕ) → w / 16384 % 2 ≡ one_if b → w / 16384 % 2 ≡ 1 → b ≡ true
is_last true w e one = refl
is_last false w e one = absurd (omega arith)

pub is_not_last : (b : Bool) (w : ℕ) → w / 16384 % 2 ≡ one_if b → w / 16384 % 2 ≡ 0 → b ≡ false
is_not_last true w e none = absurd (omega arith)
is_not_last false w e none = refl
