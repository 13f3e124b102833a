-- The changes of the ring of completions, one for each kind of step, and what a load of its words finds.
use Rattle.std.proofs.Common.{◌≡◌, ◌≢◌, ℕ, zero, suc, ◌+◌, ◌%◌, ◌<◌, ◌≤◌, List, [], ◌∷◌, ◌++◌, length, get_or, set, Bool, true, false, Some, None, sym, refl, ap, ◌∙◌, subst, arith, mod-lt, length-append}
use Rattle.std.proofs.lemmas.List.{get_or_append_left, get_or_push}
use mathlib.Core.Logic.{dite}
use mathlib.Core.Option as maybe
use native.Mathlib.Decide.{ℕ_discrete}
use Rattle.std.specs.Int.{bit_at}
use Rattle.vmx_ring_laws.specs.Rows.{read_left, read_right, set_left, set_right}
use Rattle.vmx_layout.specs.TxCompLaws.{second-tells}
use Rattle.vmx_genring.specs.Rings.{StandFor, generation_bit, Entry, entry_at}
use Rattle.vmx_genring.specs.RingLaws.{stores_first, publishes_one, consumes, hides_next, first_shows}
use Rattle.vmx_ends.specs.declared.made.TxMade.{TxMade}
use Rattle.vmx_ends.specs.declared.frames.Sent.{Sent}
use Rattle.vmx_tx_ring.specs.declared.known.TxBuffer.{TxBuffer}
use Rattle.vmx_tx_ring.specs.declared.known.TxDriverAt.{TxDriverAt}
use Rattle.vmx_tx_ring.specs.declared.known.TxDeviceAt.{TxDeviceAt}
use Rattle.vmx_tx_ring.specs.Pieces.{word_if}
use Rattle.vmx_tx_ring.specs.Rule.{Ring}
use Rattle.vmx_tx_ring.proofs.ThreeRows.{set_rest, get_rest}
use Rattle.vmx_tx_ring.proofs.PieceLaws.{generation_small}
use Rattle.vmx_tx_ring.proofs.Rings.{core_done, few_sent, tells_done, completed_core}
use Rattle.vmx_txq.specs.Completions.{completion, completions, completion_ring, Rows}

pub completions-length : (m : TxMade) (sent : List Sent) (c : ℕ) → length (completions m sent c) ≡ c
completions-length m sent zero = refl
completions-length m sent (suc c) = let a = length-append (completions m sent c) (completion m sent c ∷ []) in let b = completions-length m sent c in omega arith

pub completion_generation : (m : TxMade) (sent : List Sent) (c : ℕ) → bit_at (completion m sent c).second 63 ≡ generation_bit m.size c
completion_generation m sent c = let g : ℕ = generation_bit m.size c in let small = generation_small m.size c in sym (second-tells (record { kind = 0; generation = g }) (record { kind = omega arith; generation = omega arith })).generation

pub completion-at : (m : TxMade) (sent : List Sent) (k c : ℕ) → c < k → entry_at (completions m sent k) c ≡ completion m sent c
completion-at m sent zero c less = absurd (omega arith)
completion-at m sent (suc k) c less = let long = completions-length m sent k in dite (ℕ_discrete c k)
    (λ here. ap (λ (i : ℕ). entry_at (completions m sent (suc k)) i) (here ∙ sym long) ∙ get_or_push (completions m sent k) (completion m sent k) (record { first = 0; second = 0 }) (length (completions m sent k)) refl ∙ ap (completion m sent) (sym here))
    (λ other. get_or_append_left (completions m sent k) (completion m sent k ∷ []) (record { first = 0; second = 0 }) c (omega arith) ∙ completion-at m sent k c (omega arith))

-- a completion that is read is consumed
pub consumes_one : (m : TxMade) (sent : List Sent) (completed : ℕ) (closing : Bool) (reaped : ℕ) (words : List ℕ) → reaped < completed → Rows m sent completed closing reaped words → Rows m sent completed closing (suc reaped) words
consumes_one m sent completed closing reaped words less o = let one : reaped + 1 ≡ suc reaped = omega arith in record {
  firsts = o.firsts;
  seconds = o.seconds;
  are = o.are;
  stand = subst (λ (q : ℕ). StandFor m.size 63 o.firsts o.seconds (completion_ring m sent completed closing q)) one (consumes m.size 63 1 o.firsts o.seconds (completion_ring m sent completed closing reaped) o.stand (omega arith));
}

module _ (m : TxMade) (d : TxDriverAt) (e : TxDeviceAt) (ws : List ℕ) (hs : List (maybe.Option TxBuffer)) (r : Ring Rows m d e ws hs) where
  abbrev n : ℕ
  n = m.size

  -- the device stores the first word of the next completion
  pub closes : e.closing ≡ false → e.completed < length e.taken → Ring Rows m d (record e { closing = true }) (set ws (n + (n + (n + e.completed % n))) (completion m d.sent e.completed).first) hs
  closes idle less = let c = r.core in let w = r.words_are in let k : ℕ = e.completed in let i : ℕ = k % n in let low : i < n = mod-lt k c.some_slot in let st = w.stand in let o = w.told in let a : ℕ = (completion m d.sent k).first in
      let long = completions-length m d.sent k in let few = few_sent Rows m d e ws hs r in let t = c.taken_first in
      tells_done Rows m d e ws hs k d.checking true (o.seconds ++ set o.firsts i a) (set ws (n + (n + (n + i))) a) r
      (ap (λ l. set l (n + (n + (n + i))) a) w.are ∙ set_rest n w.seconds w.firsts w.others st.as_many_seconds st.as_many_firsts (n + i) a ∙ ap (λ l. w.seconds ++ (w.firsts ++ l)) (ap (λ l. set l (n + i) a) o.are ∙ set_right n o.seconds o.firsts o.stand.as_many_seconds i a))
      (record { firsts = set o.firsts i a; seconds = o.seconds; are = refl; stand = subst (λ (q : ℕ). StandFor n 63 (set o.firsts (q % n) a) o.seconds (completion_ring m d.sent k true d.reaped)) long (stores_first n 63 a o.firsts o.seconds (completion_ring m d.sent k e.closing d.reaped) c.some_slot o.stand (omega arith)) })
      (core_done Rows m d e ws hs d.reaped k d.checking true c c.reaped_first c.completed_first c.one_ahead c.begun (λ _. less))

  -- and its second word: the frame is completed
  pub completes : e.closing ≡ true → e.ahead ≡ [] → e.emptying ≡ false → Ring Rows m d (record e { completed = suc e.completed; closing = false }) (set ws (n + (n + e.completed % n)) (completion m d.sent e.completed).second) hs
  completes state none_ahead idle = let c = r.core in let w = r.words_are in let k : ℕ = e.completed in let i : ℕ = k % n in let low : i < n = mod-lt k c.some_slot in let st = w.stand in let o = w.told in let z : Entry = completion m d.sent k in let a : ℕ = z.second in
      let long = completions-length m d.sent k in let longer = completions-length m d.sent (suc k) in let less = c.closing_taken state in
      let is : word_if e.closing z.first ≡ Some z.first = ap (λ b. word_if b z.first) state in
      let gen : bit_at a 63 ≡ generation_bit n (length (completions m d.sent k)) = completion_generation m d.sent k ∙ ap (generation_bit n) (sym long) in
      tells_done Rows m d e ws hs (suc k) d.checking false (set o.seconds i a ++ o.firsts) (set ws (n + (n + i)) a) r
      (ap (λ l. set l (n + (n + i)) a) w.are ∙ set_rest n w.seconds w.firsts w.others st.as_many_seconds st.as_many_firsts i a ∙ ap (λ l. w.seconds ++ (w.firsts ++ l)) (ap (λ l. set l i a) o.are ∙ set_left n o.seconds o.firsts o.stand.as_many_seconds i a low))
      (record {
        firsts = o.firsts;
        seconds = set o.seconds i a;
        are = refl;
        stand = subst (λ (q : ℕ × ℕ). StandFor n 63 o.firsts (set o.seconds (q.0 % n) a) (record { entries = completions m d.sent (suc k); next = None; published = q.1; consumed = d.reaped })) (λ j. (long j, longer j))
            (publishes_one n 63 o.firsts o.seconds (completion_ring m d.sent k e.closing d.reaped) z c.some_slot o.stand is gen (sym long));
      })
      (completed_core Rows m d e ws hs c less none_ahead idle)

  -- the driver's load finds the second word of the next completion
  pub checks : d.reaped < e.completed → Ring Rows m (record d { checking = true }) e ws hs
  checks less = let c = r.core in tells_done Rows m d e ws hs e.completed true e.closing r.words_are.others ws r r.words_are.are r.words_are.told (core_done Rows m d e ws hs d.reaped e.completed true e.closing c (omega arith) c.completed_first c.one_ahead c.begun c.closing_taken)

  -- the second word of a completion, and its first
  second_read : (p : ℕ) → get_or ws (n + (n + p % n)) 0 ≡ get_or r.words_are.told.seconds (p % n) 0
  second_read p = let w = r.words_are in let st = w.stand in let o = w.told in
      ap (λ l. get_or l (n + (n + p % n)) 0) w.are ∙ get_rest n w.seconds w.firsts w.others st.as_many_seconds st.as_many_firsts (p % n) ∙ ap (λ l. get_or l (p % n) 0) o.are ∙ read_left n o.seconds o.firsts o.stand.as_many_seconds (p % n) 0 (mod-lt p r.core.some_slot)

  first_read : (p : ℕ) → get_or ws (n + (n + (n + p % n))) 0 ≡ get_or r.words_are.told.firsts (p % n) 0
  first_read p = let w = r.words_are in let st = w.stand in let o = w.told in
      ap (λ l. get_or l (n + (n + (n + p % n))) 0) w.are ∙ get_rest n w.seconds w.firsts w.others st.as_many_seconds st.as_many_firsts (n + p % n) ∙ ap (λ l. get_or l (n + p % n) 0) o.are ∙ read_right n o.seconds o.firsts o.stand.as_many_seconds (p % n) 0

  -- a completion that is visible and not read shows
  pub completion_second : (p : ℕ) → d.reaped ≤ p → p < e.completed → get_or ws (n + (n + p % n)) 0 ≡ (completion m d.sent p).second
  completion_second p low less = let o = r.words_are.told in let long = completions-length m d.sent e.completed in let room = o.stand.room in
      second_read p ∙ o.stand.second p (omega arith) (omega arith) (λ q. omega arith) ∙ ap (λ z. z.second) (completion-at m d.sent e.completed p less)

  pub completion_first : (p : ℕ) → d.reaped ≤ p → p < e.completed → get_or ws (n + (n + (n + p % n))) 0 ≡ (completion m d.sent p).first
  completion_first p low less = let o = r.words_are.told in let long = completions-length m d.sent e.completed in
      first_read p ∙ first_shows n 63 o.firsts o.seconds (completion_ring m d.sent e.completed e.closing d.reaped) p o.stand low (omega arith) ∙ ap (λ z. z.first) (completion-at m d.sent e.completed p less)

  pub completion_shows : d.reaped < e.completed → bit_at (get_or ws (n + (n + d.reaped % n)) 0) 63 ≡ generation_bit n d.reaped
  completion_shows less = ap (λ (z : ℕ). bit_at z 63) (completion_second d.reaped (omega arith) less) ∙ completion_generation m d.sent d.reaped

  -- and the one behind all these does not
  pub completion_hides : d.reaped ≡ e.completed → bit_at (get_or ws (n + (n + d.reaped % n)) 0) 63 ≢ generation_bit n d.reaped
  completion_hides is same = let o = r.words_are.told in
      hides_next n 63 o.firsts o.seconds (completion_ring m d.sent e.completed e.closing d.reaped) r.core.some_slot o.stand
      (ap (λ (z : ℕ). bit_at z 63) (sym (ap (λ (q : ℕ). get_or ws (n + (n + q % n)) 0) is ∙ second_read e.completed)) ∙ same ∙ ap (generation_bit n) is)
