use Rattle.std.proofs.Common.{◌≡◌, ◌∙◌, ◌+◌, ℕ, sym, ap, ◌++◌, ◌∷◌, [], List, true, arith}
use Rattle.vmx_ends.specs.ReceiveClauses.{made_of}
use Rattle.vmx_queue_reference.specs.declared.rx.Buffer.{Buffer}
use Rattle.vmx_queue_reference.specs.PlainSupplies.{buffer2, run_of}
use Rattle.vmx_queue_reference.proofs.SupplyLaws.{run_more, low2}
use Rattle.vmx_queue_reference.proofs.rx.bodies.Goals as goal

pub loop-number-preserved : goal.loop-number-preserved
loop-number-preserved c = let m = made_of c.args.shape.now in let n : ℕ = c.loop-number.number in let e : n ≡ 0 + n = omega arith in
    c.in_ok-push.ensures.ok ∙ ap (λ (l : List Buffer). l ++ record { number = n; body = true } ∷ []) c.loop-number.invariant
    ∙ ap (λ (b : Buffer). run_of (buffer2 m) 0 n ++ b ∷ []) (low2 m n c.loop-number-test.true ∙ ap (buffer2 m) e) ∙ sym (run_more (buffer2 m) 0 n)
