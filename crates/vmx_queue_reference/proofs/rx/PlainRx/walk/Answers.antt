use Rattle.std.proofs.Common.{◌≡◌, ◌∙◌, ◌+◌, ◌<◌, ◌∷◌, ◌++◌, [], List, ℕ, true, false, refl, ap, subst, length, get_or, arith}
use Rattle.vmx_ends.specs.Walk.{further_pieces}
use Rattle.vmx_ends.specs.ReceiveCore.{comes_to}
use Rattle.vmx_queue_reference.specs.declared.rx.Buffer.{Buffer}
use Rattle.vmx_queue_reference.specs.declared.rx.Way.{Way}
use Rattle.vmx_queue_reference.specs.PlainReceive.{rx_core}
use Rattle.vmx_queue_reference.specs.PlainWalk.{EndsAs}
use Rattle.vmx_queue_reference.proofs.RxWays.{GoesTo, misses_one, begins, if_ok}
use Rattle.vmx_queue_reference.proofs.rx.PlainRx.walk.Goals as goal

pub returns-then-passed-len : goal.returns-then-passed-len
returns-then-passed-len c = let me = c.args.self.now in let r : ℕ = c.bodies_first-passed.result in let items = c.as_slice.ensures.items in let long = ap length items in let b = c.bodies_first-passed.ensures.within in let l = c.len.ensures.len in let t = c.if-passed-len.true in
    record { walk = misses_one me c.args.bytes r (λ k d less. subst (λ (z : List Buffer). (get_or z k d).body ≡ true) items (c.bodies_first-passed.ensures.bodies k d less)) (omega arith) (omega arith) }

pub returns : goal.returns
returns c = let me = c.args.self.now in let r : ℕ = c.bodies_first-passed.result in let items = c.as_slice.ensures.items in let long = ap length items in let b = c.bodies_first-passed.ensures.within in let l = c.len.ensures.len in let f = c.if-passed-len.false in
    let way : Way = record { passed = r; ones = r + 1; twos = 0; chain = c.push.new.self } in let less : r < length me.one.buffers = omega arith in let less_still : r < length c.as_slice.result.now = omega arith in
    record {
      walk = if_ok (GoesTo me way (further_pieces c.args.bytes)) (EndsAs me (comes_to (rx_core me) c.args.bytes)) c.goes_on.result c.goes_on.ensures.walk
          (λ e p. begins me c.args.bytes r (λ k d low. subst (λ (z : List Buffer). (get_or z k d).body ≡ true) items (c.bodies_first-passed.ensures.bodies k d low)) (omega arith) way e less
          (λ d. subst (λ (z : List Buffer). (get_or z r d).body ≡ false) items (c.bodies_first-passed.ensures.head d less_still)) refl refl refl
          (c.in_ok-push.ensures.ok ∙ ap (λ (z : List (ℕ × ℕ)). z ++ (1, me.one.left + r) ∷ []) c.new-chain.ensures.empty) p);
    }
