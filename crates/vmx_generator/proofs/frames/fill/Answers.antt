use Rattle.std.proofs.Common.{◌≡◌, ℕ, ◌+◌, ◌%◌, List, ◌∷◌, ◌++◌, [], ap, sym, ◌∙◌, append_assoc, append-nil}
use Rattle.vmx_generator.specs.Frames.{body}
use Rattle.vmx_generator.proofs.Making.{body_none, body_more}
use Rattle.vmx_generator.proofs.frames.fill.Goals as goal

pub loop-place-init : goal.loop-place-init
loop-place-init c = rw (body_none c.args.number) (sym (append-nil c.args.frame.now.items))

pub loop-place-preserved : goal.loop-place-preserved
loop-place-preserved c =
    let old = c.args.frame.now.items in
    let n = c.args.number in
    let j = c.loop-place.place in
    let byte : (c.from.result + c.from-in-loop-place.result) % 256 ≡ (n + j) % 256 = λ i. (c.from.ensures i + c.from-in-loop-place.ensures i) % 256 in
    c.in_ok-push.ensures.items ∙ (λ i. c.loop-place.invariant i ++ byte i ∷ []) ∙ append_assoc old (body n j) (((n + j) % 256) ∷ []) ∙ sym (ap (λ (xs : List ℕ). old ++ xs) (body_more n j))
