-- Each step of an end over the counting word keeps the rule, and what it tells.
use Rattle.std.proofs.Common.{◌≡◌, ℕ, suc, ◌+◌, ◌-◌, ◌%◌, ◌<◌, ◌≤◌, List, [], length, get_or, set, Bool, true, false, sym, refl, ap, ◌∙◌, subst, arith, append-nil}
use Rattle.std.proofs.lemmas.List.{set-get_or}
use mathlib.Core.Logic.{dite}
use mathlib.Core.List.{IsPrefix}
use mathlib.Core.Option.{none, some, some-injective}
use native.Mathlib.Decide.{dec_lt}
use lib.ListN.{get_elem?}
use Rattle.atomic_table.specs.Table.{Me, step, keeps, Allows}
use Rattle.vmx_layout.specs.Bits.{bit, field}
use Rattle.vmx_layout.specs.BitsLaws.{bit_same}
use Rattle.vmx_ring_laws.specs.Lists.{at_below, there_below}
use Rattle.vmx_ring_laws.specs.Steps.{stays}
use Rattle.vmx_genring.specs.Rings.{generation_bit}
use Rattle.vmx_ends.specs.declared.made.TxMade.{TxMade}
use Rattle.vmx_ends.specs.declared.frames.Sent.{Sent}
use Rattle.vmx_ends.specs.Queues.{least_piece}
use Rattle.vmx_ends.specs.Frames.{IsFrame}
use Rattle.vmx_ends.specs.Transmit.{need}
use Rattle.vmx_ends.specs.TransmitCounts.{IsLong, need_some, need_few, take_one, all_at}
use Rattle.vmx_tx_ring.specs.declared.known.TxKnown.{TxKnown}
use Rattle.vmx_tx_ring.specs.declared.known.TxPiece.{TxPiece}
use Rattle.vmx_tx_ring.specs.declared.known.TxBuffer.{TxBuffer}
use Rattle.vmx_tx_ring.specs.Pieces.{is_zero, chain, pieces}
use Rattle.vmx_tx_ring.specs.Rule.{Ring, Queue, one_if, returned_of}
use Rattle.vmx_tx_ring.specs.Walks.{returned_to}
use Rattle.vmx_tx_ring.proofs.PieceLaws.{take-grows, generation_small, piece-tells, shown_short, pieces-numbers, chain-length, at_first}
use Rattle.vmx_tx_ring.proofs.Driving.{some_piece}
use Rattle.vmx_tx_ring.proofs.Rings.{reaps}
use Rattle.vmx_tx_ring.proofs.Shown.{descriptor_shows}
use Rattle.vmx_tx_ring.proofs.Views.{driver_sees, device_sees, driver_keeps, device_keeps}
use Rattle.vmx_tx_counted.specs.Counting.{Counted}
use Rattle.vmx_tx_counted.specs.Tells.{ComesNext, to_check, not_reaped, driver_looked, driver_walked, one_reaped, driver_reaped, one_completed, device_counted}
use Rattle.vmx_tx_counted.proofs.Chains.{chain_at, pieces_at}
use Rattle.vmx_tx_counted.proofs.Counts.{counts, checks, count_shows}

abbrev M : Type 0
M = Me TxBuffer TxKnown

same_prefix : {A : Type 0} (xs : List A) → IsPrefix xs xs
same_prefix xs = ([], append-nil xs)

-- the device's store of the next number
pub device_counts : (n id : ℕ) (me : M) (k new : ℕ) → me.0.serves ≡ true → me.0.drives ≡ false → me.0.device.at.completed < length me.0.device.at.taken → me.0.device.at.ahead ≡ [] → me.0.device.at.emptying ≡ false
    → k ≡ me.0.made.size + (me.0.made.size + 0) → new ≡ suc me.0.device.at.completed → Allows (Queue Counted) n id me k (λ _. new) (λ _. device_counted (step n k new 0 none) me new)
device_counts n id me k new may not less none_ahead idle where_ what s l wide at _ =
    let v : TxKnown = me.0 in let e = v.device.at in let d = l.story.d.at in let r = (device_sees Counted s l id v at may).ring in (
      one_completed v,
      keeps,
      tt,
      device_keeps Counted s l id v (one_completed v).device (set s.words k new) s.homes at may not
          (subst (λ (q : ℕ × ℕ). Ring Counted v.made d (one_completed v).device.at (set s.words q.0 q.1) s.homes) (λ j. (sym where_ j, sym what j)) (counts v.made d e s.words s.homes r less none_ahead idle)) (omega arith) refl refl refl,
      refl,
    )

-- the driver's load of it
pub driver_looks : (n id : ℕ) (me : M) (k : ℕ) → me.0.drives ≡ true → me.0.serves ≡ false → me.0.driver.at.checking ≡ false → k ≡ me.0.made.size + (me.0.made.size + 0) → Allows (Queue Counted) n id me k (λ x. x) (driver_looked (step n k 0 0 none) me)
driver_looks n id me k may not idle where_ s l wide at _ =
    let v : TxKnown = me.0 in let d = v.driver.at in let e = l.story.e.at in let z = driver_sees Counted s l id v at may in let r = z.ring in let c = r.core in
    let word : ℕ = get_or s.words k 0 in let unmoved : set s.words k word ≡ s.words = set-get_or s.words k 0 in let is : word ≡ e.completed = ap (λ (q : ℕ). get_or s.words q 0) where_ ∙ count_shows v.made d e s.words s.homes r in
    let heard = z.driver_heard in let a = c.completed_first in let b = c.taken_first in let f = c.reaped_first in
    dite (dec_lt d.reaped e.completed)
    (λ less. let item = there_below d.sent d.reaped (omega arith) in let long : IsFrame item.0.frame = all_at IsLong d.sent d.reaped item.0 c.frames item.1 in (
      to_check v,
      keeps,
      tt,
      driver_keeps Counted s l id v (to_check v).driver (set s.words k word) s.homes at may not (subst (λ ws. Ring Counted v.made (to_check v).driver.at e ws s.homes) (sym unmoved) (checks v.made d e s.words s.homes r less)) (same_prefix d.sent) refl refl refl,
      ((λ _. (item.0, refl, item.1, long)), (λ few. absurd (omega arith))),
    ))
    (λ none_in. (
      not_reaped v,
      keeps,
      tt,
      driver_keeps Counted s l id v (not_reaped v).driver (set s.words k word) s.homes at may not (subst (λ ws. Ring Counted v.made d e ws s.homes) (sym unmoved) r) (same_prefix d.sent) refl refl refl,
      ((λ more. absurd (omega arith)), (λ _. (refl, omega arith))),
    ))

-- its load of the second word of a descriptor that comes back next
pub driver_walks : (n id : ℕ) (me : M) (k : ℕ) → me.0.drives ≡ true → me.0.driver.at.checking ≡ true → Allows (Queue Counted) n id me k (λ x. x) (driver_walked (step n k 0 0 none) me)
driver_walks n id me k may state = stays (Queue Counted) n id me k (driver_walked (step n k 0 0 none) me) (λ s l wide at.
    let v : TxKnown = me.0 in let m = v.made in let d = v.driver.at in let e = l.story.e.at in let r = (driver_sees Counted s l id v at may).ring in let c = r.core in (
      refl,
      (λ f j x next there here.
          let p : ℕ = returned_of m d + j in let is_at : get_elem? (pieces m d.sent) p ≡ some x = pieces_at m d.sent d.reaped f j x next there in
          let in_ = at_below (chain m f) j x there in let many = chain-length m f in let more = take_one m d.sent d.reaped f next in let g = c.reaped_first in let one = ap one_if state in
          let grows = take-grows m d.sent (suc d.reaped) e.completed (omega arith) in let b = c.begun in
          let behind : p < e.read = omega arith in
          let slot = r.slots.shows p x (omega arith) (at_first (pieces m d.sent) d.staged p x is_at) (λ same. absurd (omega arith)) in
          let fit = pieces-numbers m d.sent p x c.marks is_at in
          ap (λ (w : ℕ). field w 44 1) (ap (λ (q : ℕ). get_or s.words q 0) here ∙ descriptor_shows Counted m d e s.words s.homes r p x (omega arith) is_at)
          ∙ (piece-tells (generation_bit m.size p) x (shown_short x slot.0 slot.2) (generation_small m.size p) fit).last_is),
    ))

-- and its second load of the counting word
pub driver_reaps : (n id : ℕ) (me : M) (k : ℕ) → me.0.drives ≡ true → me.0.serves ≡ false → me.0.driver.at.checking ≡ true → Allows (Queue Counted) n id me k (λ x. x) (driver_reaped (step n k 0 0 none) me)
driver_reaps n id me k may not state s l wide at _ =
    let v : TxKnown = me.0 in let d = v.driver.at in let e = l.story.e.at in let r = (driver_sees Counted s l id v at may).ring in let c = r.core in
    let word : ℕ = get_or s.words k 0 in let unmoved : set s.words k word ≡ s.words = set-get_or s.words k 0 in let a = c.completed_first in let b = c.taken_first in let f = c.reaped_first in let g = ap one_if state in
    let item = there_below d.sent d.reaped (omega arith) in let less : d.reaped < e.completed = omega arith in (
      one_reaped v,
      keeps,
      tt,
      driver_keeps Counted s l id v (one_reaped v).driver (set s.words k word) s.homes at may not
          (subst (λ ws. Ring Counted v.made (one_reaped v).driver.at e ws s.homes) (sym unmoved) (reaps Counted v.made d e s.words s.homes item.0 r less item.1 (λ others o. record { is = o.is; at_once = o.at_once }))) (same_prefix d.sent) refl refl refl,
      refl,
    )

-- what a walked word tells of the frame that comes back next
pub walked_last : (m m0 : M) (k r before : ℕ) (s : Sent) → m ≡ m0 → ((f : Sent) (j : ℕ) (x : TxPiece) → ComesNext m.0 f → get_elem? (chain m.0.made f) j ≡ some x → k ≡ (returned_to m.0 + j) % m.0.made.size → field r 44 1 ≡ bit x.last)
    → ComesNext m0.0 s → before < need m0.0.made (length s.frame) → k ≡ (returned_to m0.0 + before) % m0.0.made.size → (b : Bool) → bit b ≡ field r 44 1 → b ≡ is_zero (need m0.0.made (length s.frame) - suc before)
walked_last m m0 k r before s is told next less here b e =
    let t : (f : Sent) (j : ℕ) (x : TxPiece) → ComesNext m0.0 f → get_elem? (chain m0.0.made f) j ≡ some x → k ≡ (returned_to m0.0 + j) % m0.0.made.size → field r 44 1 ≡ bit x.last
    = subst (λ (z : M). (f : Sent) (j : ℕ) (x : TxPiece) → ComesNext z.0 f → get_elem? (chain z.0.made f) j ≡ some x → k ≡ (returned_to z.0 + j) % z.0.made.size → field r 44 1 ≡ bit x.last) is told in
    let p = chain_at m0.0.made s before less in bit_same b p.piece.last (e ∙ t s before p.piece next p.at here) ∙ p.last

-- how many descriptors that frame has
pub needs : (v w : TxKnown) (m : TxMade) (s f : Sent) → w ≡ to_check v → v.made ≡ m → least_piece m.with_data ≤ m.piece → ComesNext v s → IsFrame s.frame → ComesNext w f → (1 ≤ need w.made (length f.frame)) × (need w.made (length f.frame) ≤ 16)
needs v w m s f is made low next long at = let same : s ≡ f = some-injective s f (sym next ∙ ap (λ (z : TxKnown). get_elem? z.driver.at.sent z.driver.at.reaped) (sym is) ∙ at) in let as_made : m ≡ w.made = sym made ∙ ap (λ (z : TxKnown). z.made) (sym is) in let least = long.0 in
    subst (λ (z : TxMade × Sent). (1 ≤ need z.0 (length z.1.frame)) × (need z.0 (length z.1.frame) ≤ 16)) (λ i. (as_made i, same i)) (need_some m (length s.frame) (some_piece m low) (omega arith), need_few m (length s.frame) long.1 low)
