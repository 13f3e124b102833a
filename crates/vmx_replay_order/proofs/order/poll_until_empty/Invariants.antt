use Rattle.std.proofs.Common.{◌≡◌}
use Rattle.vmx_model.specs.Serial.{drained}
use Rattle.vmx_replay_runs.specs.Runs.{changes}
use Rattle.vmx_replay_order.proofs.Polls.{left_at}
use Rattle.vmx_replay_actors.specs.Runs.{run_view}
use Rattle.vmx_replay_order.proofs.order.poll_until_empty.Given as goal

abbrev pub invariant-loop-count : goal.invariant-loop-count
invariant-loop-count g l = record {
  drains : changes l.port drained (run_view l.run) ≡ changes l.port drained (run_view l.fn.run);
  plan : (run_view l.run).plan ≡ (run_view l.fn.run).plan;
}

abbrev pub decreases-loop-count : goal.decreases-loop-count
decreases-loop-count g l = left_at l.port (run_view l.run)
