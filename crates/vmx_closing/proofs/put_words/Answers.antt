use Rattle.std.proofs.Common.{◌≡◌, ℕ, suc, ◌+◌, ◌∷◌, ◌++◌, take, [], sym, ap, ◌∙◌, arith}
use Rattle.std.specs.Mem.Slots.{slots_items}
use Rattle.vmx_closing.proofs.Rows.{take_next}
use Rattle.vmx_closing.proofs.put_words.Goals as goal

pub loop-index-preserved : goal.loop-index-preserved
loop-index-preserved g c = let xs = slots_items c.args.closed.now.words in let i : ℕ = c.loop-index.index in let more : suc i ≡ i + 1 = omega arith in let room = c.push_word.ensures.room in let before = c.loop-index.invariant.1 in
    (c.push_word.ensures.words ∙ ap (λ z. z ++ c.word.result ∷ []) c.loop-index.invariant.0 ∙ sym (take_next xs i c.word.result c.word.ensures) ∙ ap (λ (k : ℕ). take k xs) more, omega arith)
