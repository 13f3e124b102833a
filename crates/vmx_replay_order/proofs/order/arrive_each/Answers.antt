use Rattle.std.proofs.Common.{◌∙◌, ◌+◌, ◌<◌, ◌≢◌, ℕ, ap, sym, arith, get_or, length, subst}
use Rattle.std.proofs.lemmas.List.Sums.{fold_more}
use Rattle.vmx_model.specs.declared.plan.Plan.{Plan}
use Rattle.vmx_replay_runs.specs.Runs.{RunView, ComesFrom}
use Rattle.vmx_replay_runs.specs.Short.{AreShort, ENTRIES_AT_ARRIVALS, MOST_ENTRIES}
use Rattle.vmx_replay_order.specs.Orders.{arrives}
use Rattle.vmx_replay_order.proofs.Short.{short_more, short_arrives}
use Rattle.vmx_replay_order.proofs.Arrivals.{comes_on}
use Rattle.vmx_replay_actors.specs.Runs.{run_view}
use Rattle.vmx_replay_order.proofs.order.arrive_each.Goals as goal

pub arrive-requires-clause-ports : goal.arrive-requires-clause-ports
arrive-requires-clause-ports g c κs within = let a = c.args in let l = c.loop-to in let to = c.requires.targets l.to-index 0 c.loop-to-test.true in
    subst (λ (p : Plan). (a.from < length p.guests) × (get_or a.targets.now l.to-index 0 < length p.guests) × (get_or a.targets.now l.to-index 0 ≢ a.from)) (sym l.invariant.plan) (c.requires.from, to.0, to.1)

pub arrive-requires-clause-short : goal.arrive-requires-clause-short
arrive-requires-clause-short g c κs within = let l = c.loop-to in short_more (ENTRIES_AT_ARRIVALS + l.to-index) MOST_ENTRIES (run_view l.run).world (let few = c.requires.few in omega arith) l.invariant.short

pub loop-to-preserved : goal.loop-to-preserved
loop-to-preserved g c = let a = c.args in let l = c.loop-to in let e = c.in_ok-run.ensures.arrives in let to : ℕ = get_or a.targets.now l.to-index 0 in let s : RunView = run_view l.run in record {
  arrive = e ∙ ap (λ (r : RunView). arrives a.from r to) l.invariant.arrive ∙ sym (fold_more (arrives a.from) (run_view a.run) a.targets.now l.to-index 0 c.loop-to-test.true);
  plan = ap (λ (r : RunView). r.plan) e ∙ l.invariant.plan;
  alone = subst (λ (r : RunView). ComesFrom a.from r.world) (sym e) (comes_on a.from to s l.invariant.alone);
  short = subst (λ (r : RunView). AreShort (ENTRIES_AT_ARRIVALS + (l.to-index + 1)) r.world) (sym e) (short_more (ENTRIES_AT_ARRIVALS + l.to-index + 1) (ENTRIES_AT_ARRIVALS + (l.to-index + 1)) (arrives a.from s to).world (omega arith) (short_arrives (ENTRIES_AT_ARRIVALS + l.to-index) a.from to s l.invariant.short));
}
