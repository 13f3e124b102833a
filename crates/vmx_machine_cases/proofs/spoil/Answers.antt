use Rattle.std.proofs.Common.{◌≡◌, ℕ, List, ◌++◌, length, take, drop, set, ap, ◌∙◌, subst}
use Rattle.std.proofs.Math.Seq.{take-append_seam}
use Rattle.std.proofs.lemmas.List.{length-set}
use Rattle.vmx_machine_cases.proofs.spoil.Goals as goal

pub returns-then-at-bytes-clause-spoilt : goal.returns-then-at-bytes-clause-spoilt
returns-then-at-bytes-clause-spoilt c less =
    let r = c.bytes_mut-bytes.result.now in let s = set r c.args.at c.args.byte in let size = length-set r c.args.at c.args.byte ∙ c.bytes_mut-bytes.ensures.len in
    subst (λ (n : ℕ). take n (s ++ drop (length s) c.args.image.now) ≡ s) size (take-append_seam s (drop (length s) c.args.image.now))
    ∙ ap (λ (l : List ℕ). set l c.args.at c.args.byte) c.bytes_mut-bytes.ensures.value

pub returns-else-at-bytes-clause-beyond : goal.returns-else-at-bytes-clause-beyond
returns-else-at-bytes-clause-beyond c past =
    let r = c.bytes_mut-bytes.result.now in
    subst (λ (n : ℕ). take n (r ++ drop (length r) c.args.image.now) ≡ r) c.bytes_mut-bytes.ensures.len (take-append_seam r (drop (length r) c.args.image.now))
    ∙ c.bytes_mut-bytes.ensures.value
