-- Completions of frames that were sent stay as they are when a further one is sent, and zeros tell of none.
use Rattle.std.proofs.Common.{◌≡◌, ℕ, zero, suc, ◌+◌, ◌-◌, ◌*◌, ◌%◌, ◌<◌, ◌≤◌, List, [], ◌∷◌, ◌++◌, length, Bool, true, false, Option, sym, refl, ap, ap₂, ◌∙◌, subst, arith}
use Rattle.std.proofs.lemmas.List.{take-append-le, replicate-append-replicate}
use lib.ListN.{replicate}
use Rattle.vmx_layout.specs.TxComp.{first_word}
use Rattle.vmx_layout.specs.declared.TheConstants.{COMPLETION_GENERATION_BIT}
use Rattle.vmx_genring.specs.Rings.{StandFor, Entry, generation_bit}
use Rattle.vmx_genring.specs.RingLaws.{begins as ring_begins}
use Rattle.vmx_ends.specs.declared.made.TxMade.{TxMade}
use Rattle.vmx_ends.specs.declared.frames.Sent.{Sent}
use Rattle.vmx_ends.specs.Transmit.{descriptors}
use Rattle.vmx_tx_ring.specs.Pieces.{word_if}
use Rattle.vmx_tx_ring.specs.Rule.{IsStable, Begins}
use Rattle.vmx_txq.specs.Completions.{completed_word, completion, completions, Rows, row_words}

pub completion-stays : (m : TxMade) (sent ys : List Sent) (c : ℕ) → c < length sent → completion m (sent ++ ys) c ≡ completion m sent c
completion-stays m sent ys c less = ap (λ (l : List Sent). record { first = first_word ((descriptors m l - 1) % m.size); second = completed_word (generation_bit m.size c) }) (take-append-le (suc c) sent ys (omega arith))

pub completions-stay : (m : TxMade) (sent ys : List Sent) (c : ℕ) → c ≤ length sent → completions m (sent ++ ys) c ≡ completions m sent c
completions-stay m sent ys zero le = refl
completions-stay m sent ys (suc c) le = ap₂ (λ (l : List Entry) (e : Entry). l ++ e ∷ []) (completions-stay m sent ys c (omega arith)) (completion-stays m sent ys c (omega arith))

pub rows_stable : IsStable Rows
rows_stable m sent s completed closing reaped words le wait r = record {
  firsts = r.firsts;
  seconds = r.seconds;
  are = r.are;
  stand = subst (λ (z : List Entry × Option ℕ). StandFor m.size COMPLETION_GENERATION_BIT r.firsts r.seconds (record { entries = z.0; next = z.1; published = completed; consumed = reaped }))
      (λ k. (sym (completions-stay m sent (s ∷ []) completed le) k, waiting closing refl k)) r.stand;
}
  where
    waiting : (b : Bool) → closing ≡ b → word_if closing (completion m sent completed).first ≡ word_if closing (completion m (sent ++ s ∷ []) completed).first
    waiting true e = ap (λ z. word_if closing z.first) (sym (completion-stays m sent (s ∷ []) completed (wait e)))
    waiting false e = ap (λ b. word_if b (completion m sent completed).first) e ∙ ap (λ b. word_if b (completion m (sent ++ s ∷ []) completed).first) (sym e)

pub rows_begin : Begins Rows row_words
rows_begin m some = record {
  firsts = replicate m.size 0;
  seconds = replicate m.size 0;
  are = let twice : m.size * 2 ≡ m.size + m.size = omega arith in let z : ℕ = 0 in ap (λ (k : ℕ). replicate k z) twice ∙ sym (replicate-append-replicate m.size m.size z);
  stand = ring_begins m.size COMPLETION_GENERATION_BIT;
}
