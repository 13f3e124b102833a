use Rattle.std.proofs.Common.{◌≡◌, ◌∙◌, ◌<◌, ap, sym, length, subst}
use Rattle.vmx_model.specs.declared.plan.Plan.{Plan}
use Rattle.vmx_replay_runs.specs.Runs.{RunView}
use Rattle.vmx_replay_order.specs.Orders.{arrives}
use Rattle.vmx_replay_order.proofs.Arrivals.{arrived_one, arrived_none}
use Rattle.vmx_replay_order.proofs.Returned.{returned}
use Rattle.vmx_replay_actors.specs.Runs.{run_view}
use Rattle.vmx_replay_order.proofs.order.arrive.Goals as goal

pub poll_where_due-requires-clause-port : goal.poll_where_due-requires-clause-port
poll_where_due-requires-clause-port g c κs within =
    subst (λ (plan : Plan). c.args.to < length plan.guests) (sym (ap (λ (r : RunView). r.plan) c.in_ok-found.ensures.looks)) c.requires.ports.1

pub returns-then-found : goal.returns-then-found
returns-then-found g c = let a = c.args in let r : RunView = run_view a.run in let l = c.in_ok-found.ensures in record {
  arrives = returned c.poll_where_due.result run_view (λ t. t ≡ arrives a.from r a.to) (λ t e. e ∙ arrived_one a.from a.to r (run_view c.in_ok-found.run') l.looks (sym c.if-found.true ∙ l.found)) c.poll_where_due.ensures.polled;
}

pub returns : goal.returns
returns g c = let l = c.in_ok-found.ensures in
    record { arrives = arrived_none c.args.from c.args.to _ _ l.looks (sym c.if-found.false ∙ l.found) }
