-- Each step of an end over the ring of completions keeps the rule, and what it tells.
use Rattle.std.proofs.Common.{◌≡◌, ◌≢◌, ℕ, suc, ◌+◌, ◌-◌, ◌%◌, ◌<◌, List, [], length, get_or, take, set, true, false, sym, refl, ap, ◌∙◌, subst, arith, le_refl, append-nil}
use Rattle.std.proofs.lemmas.List.{set-get_or}
use mathlib.Core.Logic.{dite}
use mathlib.Core.List.{IsPrefix}
use mathlib.Core.Option.{none}
use native.Mathlib.Decide.{dec_lt}
use Rattle.std.specs.Int.{bit_at}
use Rattle.atomic_table.specs.Table.{Me, step, keeps, Allows}
use Rattle.vmx_ring_laws.specs.Lists.{there_below}
use Rattle.vmx_layout.specs.TxComp.{first_word}
use Rattle.vmx_genring.specs.Rings.{generation_bit}
use Rattle.vmx_ends.specs.Frames.{IsFrame}
use Rattle.vmx_ends.specs.Transmit.{descriptors, found_in}
use Rattle.vmx_ends.specs.TransmitCounts.{IsLong, need_some, take_one, all_at}
use Rattle.vmx_tx_ring.specs.declared.known.TxKnown.{TxKnown}
use Rattle.vmx_tx_ring.specs.declared.known.TxBuffer.{TxBuffer}
use Rattle.vmx_tx_ring.specs.Rule.{Ring, Queue, one_if}
use Rattle.vmx_tx_ring.proofs.PieceLaws.{take-all}
use Rattle.vmx_tx_ring.proofs.Rings.{bounds, reaps}
use Rattle.vmx_tx_ring.proofs.Views.{driver_sees, device_sees, driver_keeps, device_keeps}
use Rattle.vmx_txq.specs.Completions.{completed_word, completion, Rows}
use Rattle.vmx_txq.specs.Tells.{to_check, not_reaped, driver_looked, one_reaped, driver_reaped, to_close, device_closed, one_completed, device_completed}
use Rattle.vmx_txq.proofs.CompletionMoves.{closes, completes, checks, consumes_one, completion_shows, completion_hides, completion_first}

abbrev M : Type 0
M = Me TxBuffer TxKnown

same_prefix : {A : Type 0} (xs : List A) → IsPrefix xs xs
same_prefix xs = ([], append-nil xs)

-- the device's store of the first word of the next completion
pub device_closes : (n id : ℕ) (me : M) (k new : ℕ) → me.0.serves ≡ true → me.0.drives ≡ false → me.0.device.at.closing ≡ false → me.0.device.at.completed < length me.0.device.at.taken
    → k ≡ me.0.made.size + (me.0.made.size + (me.0.made.size + me.0.device.at.completed % me.0.made.size)) → new ≡ first_word ((found_in me.0.device.at.taken - 1) % me.0.made.size) → Allows (Queue Rows) n id me k (λ _. new) (λ _. device_closed (step n k new 0 none) me new)
device_closes n id me k new may not idle less where_ what s l wide at _ =
    let v : TxKnown = me.0 in let e = v.device.at in let d = l.story.d.at in let r = (device_sees Rows s l id v at may).ring in let c = r.core in let ahead = c.one_ahead in let one : suc e.completed ≡ length e.taken = omega arith in
    let same : found_in e.taken ≡ descriptors v.made (take (suc e.completed) d.sent) = c.exact ∙ ap (descriptors v.made) (c.taken_is ∙ ap (λ (q : ℕ). take q d.sent) (sym one)) in
    let is : new ≡ (completion v.made d.sent e.completed).first = what ∙ ap (λ (q : ℕ). first_word ((q - 1) % v.made.size)) same in (
      to_close v,
      keeps,
      tt,
      device_keeps Rows s l id v (to_close v).device (set s.words k new) s.homes at may not
          (subst (λ (q : ℕ × ℕ). Ring Rows v.made d (to_close v).device.at (set s.words q.0 q.1) s.homes) (λ j. (sym where_ j, sym is j)) (closes v.made d e s.words s.homes r idle less)) (le_refl e.completed) refl refl refl,
      refl,
    )

-- and of its second word
pub device_completes : (n id : ℕ) (me : M) (k new : ℕ) → me.0.serves ≡ true → me.0.drives ≡ false → me.0.device.at.closing ≡ true → me.0.device.at.ahead ≡ [] → me.0.device.at.emptying ≡ false
    → k ≡ me.0.made.size + (me.0.made.size + me.0.device.at.completed % me.0.made.size) → new ≡ completed_word (generation_bit me.0.made.size me.0.device.at.completed) → Allows (Queue Rows) n id me k (λ _. new) (λ _. device_completed (step n k new 0 none) me new)
device_completes n id me k new may not state none_ahead idle where_ what s l wide at _ =
    let v : TxKnown = me.0 in let e = v.device.at in let d = l.story.d.at in let r = (device_sees Rows s l id v at may).ring in (
      one_completed v,
      keeps,
      tt,
      device_keeps Rows s l id v (one_completed v).device (set s.words k new) s.homes at may not
          (subst (λ (q : ℕ × ℕ). Ring Rows v.made d (one_completed v).device.at (set s.words q.0 q.1) s.homes) (λ j. (sym where_ j, sym what j)) (completes v.made d e s.words s.homes r state none_ahead idle)) (omega arith) refl refl refl,
      refl,
    )

-- the driver's load of the second word of the next completion
pub driver_looks : (n id : ℕ) (me : M) (k : ℕ) → me.0.drives ≡ true → me.0.serves ≡ false → me.0.driver.at.checking ≡ false → k ≡ me.0.made.size + (me.0.made.size + me.0.driver.at.reaped % me.0.made.size)
    → Allows (Queue Rows) n id me k (λ x. x) (driver_looked (step n k 0 0 none) me)
driver_looks n id me k may not idle where_ s l wide at _ =
    let v : TxKnown = me.0 in let d = v.driver.at in let e = l.story.e.at in let z = driver_sees Rows s l id v at may in let r = z.ring in let c = r.core in let sz : ℕ = v.made.size in
    let word : ℕ = get_or s.words k 0 in let unmoved : set s.words k word ≡ s.words = set-get_or s.words k 0 in let here : word ≡ get_or s.words (sz + (sz + d.reaped % sz)) 0 = ap (λ (q : ℕ). get_or s.words q 0) where_ in
    let heard = z.driver_heard in let a = c.completed_first in let b = c.taken_first in let f = c.reaped_first in
    dite (dec_lt d.reaped e.completed)
    (λ less. let bit_is : bit_at word 63 ≡ generation_bit sz d.reaped = ap (λ (q : ℕ). bit_at q 63) here ∙ completion_shows v.made d e s.words s.homes r less in (
      to_check v,
      keeps,
      tt,
      driver_keeps Rows s l id v (to_check v).driver (set s.words k word) s.homes at may not (subst (λ ws. Ring Rows v.made (to_check v).driver.at e ws s.homes) (sym unmoved) (checks v.made d e s.words s.homes r less)) (same_prefix d.sent) refl refl refl,
      ((λ _. (refl, omega arith)), (λ miss. absurd (miss bit_is))),
    ))
    (λ none_in. let all : d.reaped ≡ e.completed = omega arith in let hides : bit_at word 63 ≢ generation_bit sz d.reaped = λ same. completion_hides v.made d e s.words s.homes r all (ap (λ (q : ℕ). bit_at q 63) (sym here) ∙ same) in (
      not_reaped v word,
      keeps,
      tt,
      driver_keeps Rows s l id v (not_reaped v word).driver (set s.words k word) s.homes at may not (subst (λ ws. Ring Rows v.made d e ws s.homes) (sym unmoved) r) (same_prefix d.sent) refl refl refl,
      ((λ hit. absurd (hides hit)), (λ _. (refl, omega arith))),
    ))

-- and of its first word
pub driver_reaps : (n id : ℕ) (me : M) (k : ℕ) → me.0.drives ≡ true → me.0.serves ≡ false → me.0.driver.at.checking ≡ true → k ≡ me.0.made.size + (me.0.made.size + (me.0.made.size + me.0.driver.at.reaped % me.0.made.size))
    → Allows (Queue Rows) n id me k (λ x. x) (driver_reaped (step n k 0 0 none) me)
driver_reaps n id me k may not state where_ s l wide at _ =
    let v : TxKnown = me.0 in let d = v.driver.at in let e = l.story.e.at in let r = (driver_sees Rows s l id v at may).ring in let c = r.core in let sz : ℕ = v.made.size in
    let word : ℕ = get_or s.words k 0 in let unmoved : set s.words k word ≡ s.words = set-get_or s.words k 0 in let a = c.completed_first in let b = c.taken_first in let f = c.reaped_first in let g = ap one_if state in
    let item = there_below d.sent d.reaped (omega arith) in let long : IsFrame item.0.frame = all_at IsLong d.sent d.reaped item.0 c.frames item.1 in let bd = bounds Rows v.made d e s.words s.homes r in let b2 = bd.room in let b4 = bd.posted_in in let least = long.0 in
    let more = take_one v.made d.sent d.reaped item.0 item.1 in let all = take-all v.made d.sent (suc d.reaped) in let less : d.reaped < e.completed = omega arith in (
      one_reaped v,
      keeps,
      tt,
      driver_keeps Rows s l id v (one_reaped v).driver (set s.words k word) s.homes at may not
          (subst (λ ws. Ring Rows v.made (one_reaped v).driver.at e ws s.homes) (sym unmoved) (reaps Rows v.made d e s.words s.homes item.0 r less item.1 (λ others o. consumes_one v.made d.sent e.completed e.closing d.reaped others less o))) (same_prefix d.sent) refl refl refl,
      (item.0, refl, ap (λ (q : ℕ). get_or s.words q 0) where_ ∙ completion_first v.made d e s.words s.homes r d.reaped (omega arith) less, item.1, need_some v.made (length item.0.frame) c.piece (omega arith), omega arith),
    )
