use Rattle.std.proofs.Common.{◌≡◌, ◌+◌, take}
use Rattle.std.specs.List.{fold}
use Rattle.vmx_replay_runs.specs.Runs.{ComesFrom}
use Rattle.vmx_replay_runs.specs.Short.{AreShort, ENTRIES_AT_ARRIVALS}
use Rattle.vmx_replay_order.specs.Orders.{arrives}
use Rattle.vmx_replay_actors.specs.Runs.{run_view}
use Rattle.vmx_replay_order.proofs.order.arrive_each.Given as goal

abbrev pub invariant-loop-to : goal.invariant-loop-to
invariant-loop-to g l = record {
  arrive : run_view l.run ≡ fold (arrives l.from) (run_view l.fn.run) (take l.to-index l.targets);
  plan : (run_view l.run).plan ≡ (run_view l.fn.run).plan;
  alone : ComesFrom l.from (run_view l.run).world;
  short : AreShort (ENTRIES_AT_ARRIVALS + l.to-index) (run_view l.run).world;
}
