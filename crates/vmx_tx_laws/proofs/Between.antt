-- The laws of what holds between any two steps.
use Rattle.std.proofs.Common.{◌≡◌, ◌≢◌, ℕ, zero, suc, ◌%◌, ◌<◌, ◌⊎◌, inl, inr, List, [], ◌∷◌, ◌++◌, length, take, drop, All, Bool, true, false, true≢false, sym, refl, ap, ◌∙◌, subst, arith, take-append-drop}
use Rattle.std.proofs.lemmas.List.Elements.{All-head, All-tail}
use mathlib.Core.Logic.{dite}
use mathlib.Core.List.{IsPrefix}
use mathlib.Core.Option.{none, some, some-ne-none, some-injective}
use native.Mathlib.Decide.{ℕ_discrete}
use Rattle.atomic_table.specs.Table.{State}
use Rattle.vmx_ends.specs.declared.made.TxMade.{TxMade}
use Rattle.vmx_ends.specs.declared.frames.Sent.{Sent}
use Rattle.vmx_ends.specs.Frames.{IsFrame}
use Rattle.vmx_ends.specs.Transmit.{descriptors}
use Rattle.vmx_ends.specs.TransmitCounts.{need_some}
use Rattle.vmx_tx_ring.specs.declared.known.TxKnown.{TxKnown}
use Rattle.vmx_tx_ring.specs.declared.known.TxBuffer.{TxBuffer}
use Rattle.vmx_tx_ring.specs.Pieces.{pieces, address, next_in_data, word_if}
use Rattle.vmx_tx_ring.specs.Rule.{Telling, Story, Queue, next_of, returned_of, one_if}
use Rattle.vmx_tx_ring.proofs.PieceLaws.{entries-length, take-grows, take-all}
use Rattle.vmx_tx_ring.proofs.Rings.{bounds, apart, few_sent}
use Rattle.vmx_tx_laws.specs.Laws.{Fills, Empties, OneOwner, TakenBegins, AtMostOnce, CompletedOnce, NeverOverrun, NeverOverwritten}

pub never_overwritten : (Told : Telling) → NeverOverwritten Told
never_overwritten Told s q = let y : Story = q.story in (bounds Told y.made y.d.at y.e.at s.words s.homes q.kept.ring).room

pub never_overrun : (Told : Telling) → NeverOverrun Told
never_overrun Told s q = let y : Story = q.story in let few = few_sent Told y.made y.d.at y.e.at s.words s.homes q.kept.ring in let c = q.kept.ring.core in let a = c.completed_first in let b = c.taken_first in omega arith

pub taken_begins : (Told : Telling) → TakenBegins Told
taken_begins Told s q = let c = q.kept.ring.core in let y : Story = q.story in
    subst (λ l. IsPrefix l y.d.at.sent) (sym c.taken_is) (drop (length y.e.at.taken) y.d.at.sent, take-append-drop (length y.e.at.taken) y.d.at.sent)

pub at_most_once : (Told : Telling) → AtMostOnce Told
at_most_once Told s q = let c = q.kept.ring.core in let f = c.reaped_first in (c.completed_first, omega arith)

-- a frame has a descriptor of its own
one_more : (m : TxMade) (sent : List Sent) (i : ℕ) → 0 < m.piece → All (λ s. IsFrame s.frame) sent → i < length sent → descriptors m (take i sent) < descriptors m (take (suc i) sent)
one_more m [] i pos all less = absurd (omega arith)
one_more m (x ∷ xs) zero pos all less = let long = (All-head (λ s. IsFrame s.frame) x xs all).0 in let n = need_some m (length x.frame) pos (omega arith) in omega arith
one_more m (x ∷ xs) (suc i) pos all less = let r = one_more m xs i pos (All-tail (λ s. IsFrame s.frame) x xs all) (omega arith) in omega arith

pub completed_once : (Told : Telling) → CompletedOnce Told
completed_once Told s q i j less in_ = let y : Story = q.story in let c = q.kept.ring.core in let a = c.completed_first in let b = c.taken_first in
    (one_more y.made y.d.at.sent i c.piece c.frames (omega arith), take-grows y.made y.d.at.sent (suc i) j (omega arith), take-all y.made y.d.at.sent (suc j))

-- the buffer that the driver fills is not the one that the device empties
not_both : (Told : Telling) (s : State TxBuffer TxKnown) (q : Queue Told s) (i : ℕ) → Fills q.story i → ¬ (Empties q.story i)
not_both Told s q i f e = let y : Story = q.story in let m = y.made in let d = y.d.at in let r = q.kept.ring in let bd = bounds Told m d y.e.at s.words s.homes r in let b1 = bd.low in let b3 = bd.read_in in let b4 = bd.posted_in in let one = ap one_if e.0 in
    let long = entries-length m 0 (pieces m d.sent ++ d.staged) in
    let room = r.words_are.stand.next_room (address m.name.queue (next_in_data m d.staged) (next_of m d % m.size)) (ap (λ o. word_if o (address m.name.queue (next_in_data m d.staged) (next_of m d % m.size))) f.0) in
    apart m.size (returned_of m d) (next_of m d) y.e.at.read (omega arith) (omega arith) b1 (omega arith) (omega arith) (sym f.1 ∙ e.1)

pub one_owner : (Told : Telling) → OneOwner Told
one_owner Told s q i less out = by_filled q.story.d.at.opened refl
  where
    here : (b : Bool) → q.story.e.at.emptying ≡ b → (q.story.d.at.opened ≡ true → i ≢ next_of q.story.made q.story.d.at % q.story.made.size) → Empties q.story i
    here true e not_filled = (e, dite (ℕ_discrete i (q.story.e.at.read % q.story.made.size)) (λ is. is) (λ other. let h = q.kept.ring.slots.at_home i less not_filled (λ _. other) in absurd (some-ne-none h.0 (sym (some-injective none (some h.0) (sym out ∙ h.1))))))
    here false e not_filled = let h = q.kept.ring.slots.at_home i less not_filled (λ o. absurd (true≢false (sym o ∙ e))) in absurd (some-ne-none h.0 (sym (some-injective none (some h.0) (sym out ∙ h.1))))

    by_filled : (b : Bool) → q.story.d.at.opened ≡ b → (Fills q.story i × (¬ (Empties q.story i))) ⊎ (Empties q.story i × (¬ (Fills q.story i)))
    by_filled true e = dite (ℕ_discrete i (next_of q.story.made q.story.d.at % q.story.made.size)) (λ is. inl ((e, is), not_both Told s q i (e, is))) (λ other. inr (here q.story.e.at.emptying refl (λ _. other), (λ f. other f.1)))
    by_filled false e = inr (here q.story.e.at.emptying refl (λ o. absurd (true≢false (sym o ∙ e))), (λ f. true≢false (sym f.0 ∙ e)))
