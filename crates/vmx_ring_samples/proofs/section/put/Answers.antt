use Rattle.std.proofs.Common.{rules, ◌≡◌, ◌<◌, ◌≤◌, ◌∷◌, ◌++◌, List, ℕ, length, take, get_or, sym, ap, ◌∙◌, arith}
use Rattle.std.proofs.lemmas.List.{take_all}
use Rattle.std.specs.Result.{is_ok}
use Rattle.std.specs.Int.{w32, w64, to_le_bytes}
use Rattle.vmx_ring_samples.specs.Sections.{numbers, long_numbers}
use Rattle.vmx_ring_samples.proofs.Printing.{numbers_none, numbers_more, long_two, long_more, kept}
use Rattle.vmx_ring_samples.proofs.section.put.Goals as goal

pub loop-number-init : goal.loop-number-init
loop-number-init c = record { is = numbers_none c.args.into.now.items; long = omega arith }

pub loop-number-preserved : goal.loop-number-preserved
loop-number-preserved c = let l = c.loop-number in let xs = c.args.head.now in let at = c.to_le_bytes.ensures in let less : l.number-index < length xs = omega arith in record {
  is = c.in_ok-extend_from_slice.ensures.items ∙ ap (λ z. l.into.items ++ z) at ∙ ap (λ z. z ++ to_le_bytes w32 (get_or xs l.number-index 0)) l.invariant.is ∙ numbers_more c.args.into.now.items xs l.number-index less;
  long = search rules;
}

pub loop-word-init : goal.loop-word-init
loop-word-init c = let l = c.loop-number in let old = c.args.into.now.items in let xs = c.args.head.now in let n : ℕ = length c.args.words.now in let m : ℕ = length c.args.buffers.now in let all : length xs ≤ l.number-index = omega arith in
    let head = l.invariant.is ∙ ap (λ z. old ++ numbers z) (take_all l.number-index xs all) in record {
      is = c.in_ok-extend_from_slice-3.ensures.items ∙ ap (λ z. c.extend_from_slice-2.new.self.items ++ z) c.to_le_bytes-3.ensures
          ∙ ap (λ z. z ++ to_le_bytes w64 m) (c.in_ok-extend_from_slice-2.ensures.items ∙ ap (λ z. l.into.items ++ z) c.to_le_bytes-2.ensures ∙ ap (λ z. z ++ to_le_bytes w64 n) head)
          ∙ long_two (old ++ numbers xs) n m;
      long = search rules;
    }

pub loop-word-preserved : goal.loop-word-preserved
loop-word-preserved c = let l = c.loop-word in let xs = c.args.words.now in let at = c.to_le_bytes-in-loop-word.ensures in let less : l.word-index < length xs = omega arith in record {
  is = c.in_ok-extend_from_slice-4.ensures.items ∙ ap (λ z. l.into.items ++ z) at ∙ ap (λ z. z ++ to_le_bytes w64 (get_or xs l.word-index 0)) l.invariant.is
      ∙ long_more (c.args.into.now.items ++ numbers c.args.head.now) (length xs) (length c.args.buffers.now) xs l.word-index less;
  long = search rules;
}

pub returns-clause-behind : goal.returns-clause-behind
returns-clause-behind c = let l = c.loop-word in kept c.args.into.now.items (numbers c.args.head.now) _ _ _ _ (is_ok c.extend_from_slice-4.result) l.invariant.is c.extend_from_slice-4.ensures.items
