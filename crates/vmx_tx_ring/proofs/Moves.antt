-- Each step of an end over the descriptors keeps the rule, and what it tells.
use Rattle.std.proofs.Common.{◌≡◌, ◌≢◌, ℕ, suc, ◌+◌, ◌-◌, ◌%◌, ◌<◌, ◌≤◌, List, [], ◌∷◌, ◌++◌, length, get_or, take, drop, set, inl, inr, true, false, true≢false, sym, refl, ap, ◌∙◌, subst, ⊎_elim, arith, le_refl, mod-lt, append-nil}
use Rattle.std.proofs.lemmas.List.{set-get_or}
use Rattle.std.proofs.Math.Seq.{take-length}
use mathlib.Core.Logic.{dite}
use mathlib.Core.List.{IsPrefix}
use mathlib.Core.Option.{none, some}
use native.Mathlib.Decide.{dec_lt}
use Rattle.std.specs.Int.{bit_at}
use Rattle.atomic_table.specs.Table.{Me, step, keeps, takes as takes_slot, gives, Allows}
use Rattle.vmx_ring_laws.specs.Lists.{prefix_length, there_below, prefix_beside_take, take_one_more}
use Rattle.vmx_genring.specs.Rings.{generation_bit, flipped}
use Rattle.vmx_ends.specs.declared.made.TxMade.{TxMade}
use Rattle.vmx_ends.specs.declared.frames.Sent.{Sent}
use Rattle.vmx_ends.specs.Frames.{IsFrame, IsMarked, IsComparable, sent_of}
use Rattle.vmx_ends.specs.Transmit.{descriptors}
use Rattle.vmx_ends.specs.TransmitCounts.{IsLong, sent_of-append, all_at}
use Rattle.vmx_tx_ring.specs.declared.known.TxKnown.{TxKnown}
use Rattle.vmx_tx_ring.specs.declared.known.TxPiece.{TxPiece}
use Rattle.vmx_tx_ring.specs.declared.known.TxBuffer.{TxBuffer}
use Rattle.vmx_tx_ring.specs.Pieces.{pieces, chain, cut, first_size, first_piece, address, descriptor, next_in_data, piece_in, Shows, NumbersFit}
use Rattle.vmx_tx_ring.specs.Rule.{Telling, IsStable, HasLawfulMark, Ring, Queue, returned_of, one_if}
use Rattle.vmx_tx_ring.specs.Tells.{next_at, to_fill, opened, with_piece, staged, with_sent, published, with_taken, not_taken, device_looked, with_next, device_went_on, emptied, device_returned}
use Rattle.vmx_tx_ring.proofs.Rings.{bounds, apart, opens, stages, publishes, takes_frame, goes_on, returns}
use Rattle.vmx_tx_ring.proofs.Shown.{descriptor_shows, descriptor_hides, address_shows}
use Rattle.vmx_tx_ring.proofs.PieceLaws.{generation_small, piece-tells, piece-flipped, piece-told, shown_short, pieces-numbers, chained, at_first}
use Rattle.vmx_tx_ring.proofs.Views.{driver_sees, device_sees, driver_keeps, device_keeps}

abbrev M : Type 0
M = Me TxBuffer TxKnown

abbrev holding : TxKnown → ℕ → TxBuffer → M
holding v i x = (v, (i, x) ∷ [])

same_prefix : {A : Type 0} (xs : List A) → IsPrefix xs xs
same_prefix xs = ([], append-nil xs)

-- the driver's store of the first word of the next descriptor
pub driver_opens : (Told : Telling) (n id : ℕ) (me : M) (k new : ℕ) → me.0.drives ≡ true → me.0.serves ≡ false → me.0.driver.at.opened ≡ false → me.1 ≡ [] → next_at me.0 < returned_of me.0.made me.0.driver.at + me.0.made.size
    → k ≡ me.0.made.size + next_at me.0 % me.0.made.size → new ≡ address me.0.made.name.queue (next_in_data me.0.made me.0.driver.at.staged) (next_at me.0 % me.0.made.size) → Allows (Queue Told) n id me k (λ _. new) (λ _. opened (step n k new 0 none) me new)
driver_opens Told n id me k new may not idle bare near where_ what s l wide at _ =
    let v : TxKnown = me.0 in let e = l.story.e.at in let r = (driver_sees Told s l id v at may).ring in let h : ℕ = next_at v in let sz : ℕ = v.made.size in let i : ℕ = h % sz in
    let bd = bounds Told v.made v.driver.at e s.words s.homes r in let b1 = bd.low in let b3 = bd.read_in in let b4 = bd.posted_in in
    let slot = r.slots.at_home i (mod-lt h r.core.some_slot) (λ o. absurd (true≢false (sym o ∙ idle))) (λ o. let e1 = ap one_if o in apart sz (returned_of v.made v.driver.at) h e.read (omega arith) (omega arith) b1 near (omega arith)) in (
      to_fill v,
      takes_slot i slot.0,
      slot.1,
      driver_keeps Told s l id v (to_fill v).driver (set s.words k new) (set s.homes i none) at may not
          (subst (λ (q : ℕ × ℕ). Ring Told v.made (to_fill v).driver.at e (set s.words q.0 q.1) (set s.homes i none)) (λ j. (sym where_ j, sym what j)) (opens Told v.made v.driver.at e s.words s.homes r idle near))
          (same_prefix v.driver.at.sent) refl refl refl,
      (slot.0, ap (λ (c : List (ℕ × TxBuffer)). (to_fill v, (i, slot.0) ∷ c)) bare),
    )

-- the word that is stored where a piece is staged: the first one of its frame with the generation inverted
pub record StoredAs (v : TxKnown) (x : TxPiece) (new : ℕ) : Type 0 where
  pub first : length v.driver.at.staged ≡ 0 → new ≡ flipped 14 (descriptor v.made (next_at v) x).second
  pub later : 0 < length v.driver.at.staged → new ≡ (descriptor v.made (next_at v) x).second

-- the stored word tells the piece
pub stored_piece : (v : TxKnown) (b : TxBuffer) (x : TxPiece) (new : ℕ) → x.in_data ≡ next_in_data v.made v.driver.at.staged → Shows x b → length x.bytes ≤ 4096 → NumbersFit x.numbers → StoredAs v x new → piece_in (next_in_data v.made v.driver.at.staged) new b ≡ x
stored_piece v b x new lies_so shown short fit as_ = let g : ℕ = generation_bit v.made.size (next_at v) in let small = generation_small v.made.size (next_at v) in
    ap (λ z. piece_in z new b) (sym lies_so) ∙ dite (dec_lt 0 (length v.driver.at.staged))
    (λ more. piece-told new g x b short small fit shown (as_.later more))
    (λ none_. piece-told new (1 - g) x b short (omega arith) fit shown (as_.first (omega arith) ∙ piece-flipped g x short small fit))

stages_driver : (Told : Telling) (n id : ℕ) (v : TxKnown) (b : TxBuffer) (x : TxPiece) (new : ℕ) → v.drives ≡ true → v.serves ≡ false → v.driver.at.opened ≡ true → x.in_data ≡ next_in_data v.made v.driver.at.staged → Shows x b → length x.bytes ≤ 4096 → NumbersFit x.numbers → StoredAs v x new
    → Allows (Queue Told) n id (holding v (next_at v % v.made.size) b) (next_at v % v.made.size) (λ _. new) (λ _. staged (step n (next_at v % v.made.size) new 0 none) (holding v (next_at v % v.made.size) b) new)
stages_driver Told n id v b x new may not state lies_so shown short fit as_ s l wide at _ =
    let e = l.story.e.at in let r = (driver_sees Told s l id v at may).ring in let i : ℕ = next_at v % v.made.size in (
      with_piece v x,
      gives,
      tt,
      driver_keeps Told s l id v (with_piece v x).driver (set s.words i new) (set s.homes i (some b)) at may not (stages Told v.made v.driver.at e s.words s.homes x b new r state lies_so shown short fit as_.first as_.later) (same_prefix v.driver.at.sent) refl refl refl,
      ap (λ (q : TxPiece). (with_piece v q, [])) (sym (stored_piece v b x new lies_so shown short fit as_)),
    )

-- its store of the second word
pub driver_stages : (Told : Telling) (n id : ℕ) (me : M) (v : TxKnown) (b : TxBuffer) (x : TxPiece) (k new : ℕ) → me ≡ holding v (next_at v % v.made.size) b → v.drives ≡ true → v.serves ≡ false → v.driver.at.opened ≡ true
    → x.in_data ≡ next_in_data v.made v.driver.at.staged → Shows x b → length x.bytes ≤ 4096 → NumbersFit x.numbers → StoredAs v x new → k ≡ next_at v % v.made.size
    → Allows (Queue Told) n id me k (λ _. new) (λ _. staged (step n k new 0 none) me new)
driver_stages Told n id me v b x k new is may not state lies_so shown short fit as_ where_ =
    subst (λ (z : M × ℕ). Allows (Queue Told) n id z.0 z.1 (λ _. new) (λ _. staged (step n z.1 new 0 none) z.0 new)) (λ i. (sym is i, sym where_ i)) (stages_driver Told n id v b x new may not state lies_so shown short fit as_)

-- its store that publishes
pub driver_publishes : (Told : Telling) (stable : IsStable Told) (n id : ℕ) (me : M) (x : TxPiece) (more : List TxPiece) (d : Sent) (k new : ℕ) → me.0.drives ≡ true → me.0.serves ≡ false → me.0.driver.at.opened ≡ false → me.0.driver.at.staged ≡ x ∷ more → me.0.driver.at.staged ≡ chain me.0.made d
    → IsMarked d.frame d.mark → HasLawfulMark d → k ≡ descriptors me.0.made me.0.driver.at.sent % me.0.made.size → new ≡ (descriptor me.0.made (descriptors me.0.made me.0.driver.at.sent) x).second → Allows (Queue Told) n id me k (λ _. new) (λ _. published (step n k new 0 none) me new)
driver_publishes Told stable n id me x more d k new may not idle begins_so is marked lawful where_ what s l wide at _ =
    let v : TxKnown = me.0 in let e = l.story.e.at in let r = (driver_sees Told s l id v at may).ring in (
      with_sent v d,
      keeps,
      tt,
      driver_keeps Told s l id v (with_sent v d).driver (set s.words k new) s.homes at may not
          (subst (λ (q : ℕ × ℕ). Ring Told v.made (with_sent v d).driver.at e (set s.words q.0 q.1) s.homes) (λ j. (sym where_ j, sym what j)) (publishes Told v.made v.driver.at e s.words s.homes stable x more d r idle begins_so is marked.0 lawful))
          (d ∷ [], refl) refl refl refl,
      (d, refl, is, marked),
    )

-- the device's load of the second word behind the frames that it has taken
pub device_looks : (Told : Telling) (n id : ℕ) (me : M) (k : ℕ) → me.0.serves ≡ true → me.0.drives ≡ false → me.0.device.at.emptying ≡ false → me.0.device.at.ahead ≡ [] → me.0.device.at.completed ≡ length me.0.device.at.taken → me.1 ≡ [] → k ≡ me.0.device.at.read % me.0.made.size
    → Allows (Queue Told) n id me k (λ x. x) (device_looked (step n k 0 0 none) me)
device_looks Told n id me k may not idle none_ahead whole bare where_ s l wide at _ =
    let v : TxKnown = me.0 in let m : TxMade = v.made in let d = l.story.d.at in let e = v.device.at in let z = device_sees Told s l id v at may in let r = z.ring in let c = r.core in let t : ℕ = length e.taken in let sz : ℕ = m.size in let i : ℕ = e.read % sz in
    let word : ℕ = get_or s.words k 0 in let unmoved : set s.words k word ≡ s.words = set-get_or s.words k 0 in let here : word ≡ get_or s.words i 0 = ap (λ (q : ℕ). get_or s.words q 0) where_ in
    let e1 = c.read_is in let e2 = ap length none_ahead in let e3 = ap one_if idle in let e4 = c.exact in let e5 = ap (descriptors m) c.taken_is in let heard = z.device_heard in
    dite (dec_lt t (length d.sent))
    (λ some_in. let item = there_below d.sent t some_in in let f : Sent = item.0 in let long : IsFrame f.frame = all_at IsLong d.sent t f c.frames item.1 in let lawful : HasLawfulMark f = all_at HasLawfulMark d.sent t f c.marks item.1 in
    let at_least = long.0 in let first = chained m f c.piece (omega arith) in
    let moved = takes_frame Told m d e s.words s.homes f _ _ r idle none_ahead whole item.1 first.chain_is in let there = moved.1 in let bd = bounds Told m d e s.words s.homes r in
    let x : TxPiece = first_piece m first.more f in let more : List TxPiece = cut m.piece first.more (drop (first_size m) f.frame) in
    let slot = r.slots.shows e.read x bd.low (at_first (pieces m d.sent) d.staged e.read x there) (λ _. idle) in
    let is : word ≡ (descriptor m e.read x).second = here ∙ descriptor_shows Told m d e s.words s.homes r e.read x bd.low there in
    let fit : NumbersFit x.numbers = pieces-numbers m d.sent e.read x c.marks there in
    let bit_is : bit_at word 14 ≡ generation_bit sz e.read = ap (λ (q : ℕ). bit_at q 14) is ∙ (piece-tells (generation_bit sz e.read) x (shown_short x slot.0 slot.2) (generation_small sz e.read) fit).generation_is in
    let w : TxKnown = with_taken v f x more in
    let on : sent_of w.device.at.taken ≡ take (suc t) d.sent = sent_of-append e.taken _ ∙ ap (λ l. l ++ f ∷ []) c.taken_is ∙ sym (take_one_more d.sent t f item.1) in
    let comparable : IsComparable (sent_of w.device.at.taken) v.device.heard = subst (λ l. IsComparable l v.device.heard) (sym on) (⊎_elim inr inl (prefix_beside_take v.device.heard d.sent (suc t) heard)) in (
      w,
      takes_slot i slot.0,
      slot.1,
      device_keeps Told s l id v w.device (set s.words k word) (set s.homes i none) at may not (subst (λ ws. Ring Told m d w.device.at ws (set s.homes i none)) (sym unmoved) moved.0) (le_refl e.completed) refl refl refl,
      ((λ _. (f, x, more, slot.0, record { is = ap (λ (q : List (ℕ × TxBuffer)). (w, (i, slot.0) ∷ q)) bare; chain_is = first.chain_is; found = record { word = is; bytes = slot.2; numbers = fit }; frame = (long, lawful.0); comparable = comparable })), (λ miss. absurd (miss bit_is))),
    ))
    (λ none_in. let all : t ≡ length d.sent = let a = c.taken_first in omega arith in let u : e.read ≡ descriptors m d.sent = let e6 = ap (descriptors m) (ap (λ (q : ℕ). take q d.sent) all ∙ take-length d.sent) in omega arith in
    let w : TxKnown = not_taken v word in let few = prefix_length v.device.heard d.sent heard in
    let hides : bit_at word 14 ≢ generation_bit sz e.read = λ same. descriptor_hides Told m d e s.words s.homes r (ap (λ (q : ℕ). bit_at (get_or s.words (q % sz) 0) 14) (sym u) ∙ ap (λ (q : ℕ). bit_at q 14) (sym here) ∙ same ∙ ap (generation_bit sz) u) in (
      w,
      keeps,
      tt,
      device_keeps Told s l id v w.device (set s.words k word) s.homes at may not (subst (λ ws. Ring Told m d e ws s.homes) (sym unmoved) r) (le_refl e.completed) refl refl refl,
      ((λ hit. absurd (hides hit)), (λ _. (ap (λ (q : List (ℕ × TxBuffer)). (w, q)) bare, omega arith))),
    ))

-- its load of a further second word of the frame
pub device_goes_on : (Told : Telling) (n id : ℕ) (me : M) (x : TxPiece) (more : List TxPiece) (k : ℕ) → me.0.serves ≡ true → me.0.drives ≡ false → me.0.device.at.emptying ≡ false → me.0.device.at.ahead ≡ x ∷ more → me.1 ≡ [] → k ≡ me.0.device.at.read % me.0.made.size
    → Allows (Queue Told) n id me k (λ x. x) (device_went_on (step n k 0 0 none) me)
device_goes_on Told n id me x more k may not idle is_ahead bare where_ s l wide at _ =
    let v : TxKnown = me.0 in let m : TxMade = v.made in let d = l.story.d.at in let e = v.device.at in let r = (device_sees Told s l id v at may).ring in let sz : ℕ = m.size in let i : ℕ = e.read % sz in
    let word : ℕ = get_or s.words k 0 in let unmoved : set s.words k word ≡ s.words = set-get_or s.words k 0 in let here : word ≡ get_or s.words i 0 = ap (λ (q : ℕ). get_or s.words q 0) where_ in
    let moved = goes_on Told m d e s.words s.homes x more r idle is_ahead in let there = moved.1 in let bd = bounds Told m d e s.words s.homes r in
    let slot = r.slots.shows e.read x bd.low (at_first (pieces m d.sent) d.staged e.read x there) (λ _. idle) in
    let is : word ≡ (descriptor m e.read x).second = here ∙ descriptor_shows Told m d e s.words s.homes r e.read x bd.low there in
    let w : TxKnown = with_next v x more in (
      w,
      takes_slot i slot.0,
      slot.1,
      device_keeps Told s l id v w.device (set s.words k word) (set s.homes i none) at may not (subst (λ ws. Ring Told m d w.device.at ws (set s.homes i none)) (sym unmoved) moved.0) (le_refl e.completed) refl refl refl,
      (x, more, slot.0, ap (λ (q : List (ℕ × TxBuffer)). (w, (i, slot.0) ∷ q)) bare, is_ahead, record { word = is; bytes = slot.2; numbers = pieces-numbers m d.sent e.read x r.core.marks there }),
    )

returns_device : (Told : Telling) (n id : ℕ) (v : TxKnown) (b : TxBuffer) → v.serves ≡ true → v.drives ≡ false → v.device.at.emptying ≡ true → Shows v.device.at.at_hand b
    → Allows (Queue Told) n id (holding v (v.device.at.read % v.made.size) b) (v.made.size + v.device.at.read % v.made.size) (λ x. x) (device_returned (step n (v.made.size + v.device.at.read % v.made.size) 0 0 none) (holding v (v.device.at.read % v.made.size) b))
returns_device Told n id v b may not state shown s l wide at _ =
    let e = v.device.at in let d = l.story.d.at in let r = (device_sees Told s l id v at may).ring in let i : ℕ = e.read % v.made.size in let k : ℕ = v.made.size + i in let bd = bounds Told v.made d e s.words s.homes r in
    let word : ℕ = get_or s.words k 0 in let unmoved : set s.words k word ≡ s.words = set-get_or s.words k 0 in (
      emptied v,
      gives,
      tt,
      device_keeps Told s l id v (emptied v).device (set s.words k word) (set s.homes i (some b)) at may not
          (subst (λ ws. Ring Told v.made d (emptied v).device.at ws (set s.homes i (some b))) (sym unmoved) (returns Told v.made d e s.words s.homes b r state shown)) (le_refl e.completed) refl refl refl,
      (refl, address_shows Told v.made d e s.words s.homes r e.read e.at_hand bd.low (r.core.hand_is state)),
    )

-- its load of the first word puts the buffer home
pub device_returns : (Told : Telling) (n id : ℕ) (me : M) (v : TxKnown) (b : TxBuffer) (k : ℕ) → me ≡ holding v (v.device.at.read % v.made.size) b → v.serves ≡ true → v.drives ≡ false → v.device.at.emptying ≡ true → Shows v.device.at.at_hand b
    → k ≡ v.made.size + v.device.at.read % v.made.size → Allows (Queue Told) n id me k (λ x. x) (device_returned (step n k 0 0 none) me)
device_returns Told n id me v b k is may not state shown where_ = subst (λ (z : M × ℕ). Allows (Queue Told) n id z.0 z.1 (λ x. x) (device_returned (step n z.1 0 0 none) z.0)) (λ i. (sym is i, sym where_ i)) (returns_device Told n id v b may not state shown)
