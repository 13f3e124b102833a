use Rattle.std.proofs.Common.{◌≡◌, ◌∙◌, sym}
use Rattle.vmx_replay_runs.specs.Runs.{RunView, changes}
use Rattle.vmx_replay_order.specs.Orders.{polled_due}
use Rattle.vmx_replay_order.proofs.Polls.{due_true, due_false}
use Rattle.vmx_replay_order.proofs.Returned.{returned}
use Rattle.vmx_replay_actors.specs.Runs.{run_view}
use Rattle.vmx_replay_order.proofs.order.poll_where_due.Goals as goal

pub returns-then-is_polled : goal.returns-then-is_polled
returns-then-is_polled g c = let a = c.args in let r : RunView = run_view a.run in record {
  polled = returned c.poll_until_empty.result run_view (λ t. t ≡ changes a.port (polled_due r.plan.poll_every) r) (λ t e. e ∙ due_true r.plan.poll_every a.port r (sym c.if-is_polled.true ∙ c.is_polled.ensures.polled)) c.poll_until_empty.ensures.drained;
}

pub returns : goal.returns
returns g c = record { polled = due_false (run_view c.args.run).plan.poll_every c.args.port _ (sym c.if-is_polled.false ∙ c.is_polled.ensures.polled) }
