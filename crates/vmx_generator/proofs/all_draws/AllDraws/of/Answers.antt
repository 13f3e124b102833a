use Rattle.std.proofs.Common.{◌≡◌, ℕ, ◌+◌, ◌*◌, ◌/◌, ◌^◌, ◌∷◌, ◌++◌, [], ap, sym, ◌∙◌, arith}
use Rattle.vmx_generator.specs.declared.draws.Draws.{Draws}
use Rattle.vmx_generator.specs.Draws.{draws_after, first_draws}
use Rattle.vmx_generator.proofs.Drawing.{state_first, draws_none, three, draws_more}
use Rattle.vmx_generator.proofs.all_draws.AllDraws.of.Goals as goal

pub loop-init : goal.loop-init
loop-init c = record { state = sym (state_first c.args.number); drawn = c.in_ok-draws.ensures.items ∙ sym (draws_none c.args.number) }

pub loop-preserved : goal.loop-preserved
loop-preserved c =
    let number = c.args.number in
    let i = c.loop.counter in
    let all = three number i c.loop.state c.draw-destination.new.state c.draw-size.new.state c.draw-flow.new.state c.loop.invariant.state c.draw-destination.ensures.next c.draw-size.ensures.next c.draw-flow.ensures.next in
    let upper = λ (s : ℕ). s / 2 ^ 33 in
    let one : ◌≡◌ {A = Draws} (record { destination = c.draw-destination.result; size = c.draw-size.result; flow = c.draw-flow.result }) (draws_after number i) = λ j. record {
      destination = (c.draw-destination.ensures.upper ∙ ap upper all.first) j;
      size = (c.draw-size.ensures.upper ∙ ap upper all.second) j;
      flow = (c.draw-flow.ensures.upper ∙ ap upper all.third) j;
    } in
    record { state = all.after; drawn = c.in_ok-push.ensures.items ∙ (λ j. c.loop.invariant.drawn j ++ one j ∷ []) ∙ sym (draws_more number i) }

pub invariant_of-result : goal.invariant_of-result
invariant_of-result c =
    let end = c.loop.auto.counter-end in
    let past = c.loop-test.false in
    let at : c.loop.counter ≡ 16000 = omega (arith, end, past) in
    record { drawn = c.of.ensures.items ∙ c.loop.invariant.drawn ∙ ap (first_draws c.args.number) at }
