use Rattle.std.proofs.Common.{◌≡◌, ◌∙◌, ◌+◌, ℕ, sym, ap, ◌++◌, ◌∷◌, [], List, arith}
use Rattle.vmx_ends.specs.Receive.{is_body_index}
use Rattle.vmx_ends.specs.ReceiveClauses.{made_of}
use Rattle.vmx_queue_reference.specs.declared.rx.Buffer.{Buffer}
use Rattle.vmx_queue_reference.specs.PlainSupplies.{buffer1, run_of}
use Rattle.vmx_queue_reference.proofs.SupplyLaws.{run_more, low1}
use Rattle.vmx_queue_reference.proofs.rx.heads_and_bodies.Goals as goal

pub loop-number-preserved : goal.loop-number-preserved
loop-number-preserved c = let m = made_of c.args.shape.now in let n : ℕ = c.loop-number.number in let e : n ≡ 0 + n = omega arith in
    c.in_ok-push.ensures.ok ∙ ap (λ (l : List Buffer). l ++ record { number = n; body = is_body_index m.bodies n } ∷ []) c.loop-number.invariant
    ∙ ap (λ (b : Buffer). run_of (buffer1 m) 0 n ++ b ∷ []) (low1 m n c.loop-number-test.true ∙ ap (buffer1 m) e) ∙ sym (run_more (buffer1 m) 0 n)
