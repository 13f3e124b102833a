use Rattle.std.proofs.Common.{◌≡◌, ◌+◌, ◌*◌}
use Rattle.std.specs.List.{slice_get}
use Rattle.vmx_model.specs.Turns.{IsReady}
use Rattle.vmx_replay_runs.specs.Short.{AreShort, ENTRIES_AT_TURN}
use Rattle.vmx_replay_order.specs.Orders.{acted_by}
use Rattle.vmx_replay_runs.specs.Standing.{OthersBegun}
use Rattle.vmx_replay_order.proofs.Actions.{rest_of, many_left, Within}
use Rattle.vmx_replay_actors.specs.Runs.{run_view}
use Rattle.vmx_replay_order.proofs.order.act_all.Given as goal

abbrev pub invariant-loop-run : goal.invariant-loop-run
invariant-loop-run g l = record {
  left : rest_of l.port l.number (slice_get (run_view l.fn.run).plan.guests l.port) ((run_view l.run).reached l.port) (run_view l.run).world ≡ acted_by l.port l.number (slice_get (run_view l.fn.run).plan.guests l.port) (run_view l.fn.run).world;
  within : Within l.number (slice_get (run_view l.fn.run).plan.guests l.port) ((run_view l.run).reached l.port);
  others : OthersBegun l.port (run_view l.fn.run) (run_view l.run);
  short : AreShort (ENTRIES_AT_TURN + 2 * (run_view l.run).reached l.port) (run_view l.run).world;
  ready : IsReady (run_view l.fn.run).plan (run_view l.run).world;
}

abbrev pub decreases-loop-run : goal.decreases-loop-run
decreases-loop-run g l = many_left (slice_get (run_view l.fn.run).plan.guests l.port) ((run_view l.run).reached l.port)
