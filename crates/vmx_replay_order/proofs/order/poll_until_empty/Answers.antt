use Rattle.std.proofs.Common.{◌∙◌, ◌<◌, ap, sym, arith, length, subst}
use Rattle.vmx_model.specs.declared.plan.Plan.{Plan}
use Rattle.vmx_replay_runs.specs.Runs.{RunView}
use Rattle.vmx_replay_order.proofs.Polls.{polled_on, polled_off, polled_less}
use Rattle.vmx_replay_order.proofs.order.poll_until_empty.Goals as goal

pub poll-requires-clause-port : goal.poll-requires-clause-port
poll-requires-clause-port g c κs within =
    subst (λ (plan : Plan). c.args.port < length plan.guests) (sym c.loop-count.invariant.plan) c.requires.port

pub returns-then-count-eq0 : goal.returns-then-count-eq0
returns-then-count-eq0 g c = let e = c.in_ok-count.ensures in
    record { drained = polled_off c.args.port _ _ e.polls (sym e.count ∙ c.if-count-eq0.true) ∙ c.loop-count.invariant.drains }

pub loop-count-smaller : goal.loop-count-smaller
loop-count-smaller g c = let e = c.in_ok-count.ensures in let l = polled_less c.args.port _ _ e.polls in let n = e.count in omega arith

pub loop-count-preserved : goal.loop-count-preserved
loop-count-preserved g c = let e = c.in_ok-count.ensures in record {
  drains = polled_on c.args.port _ _ e.polls ∙ c.loop-count.invariant.drains;
  plan = ap (λ (r : RunView). r.plan) e.polls ∙ c.loop-count.invariant.plan;
}
