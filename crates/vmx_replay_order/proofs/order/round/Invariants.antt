use Rattle.std.proofs.Common.{◌≡◌, ◌+◌}
use Rattle.vmx_model.specs.Serial.{turns}
use Rattle.vmx_replay_runs.specs.Standing.{StandFrom, StandBelow}
use Rattle.vmx_replay_actors.specs.Runs.{run_view}
use Rattle.vmx_replay_order.proofs.order.round.Given as goal

abbrev pub invariant-loop-port : goal.invariant-loop-port
invariant-loop-port g l = record {
  world : (run_view l.run).world ≡ turns (run_view l.fn.run).plan l.number l.port (run_view l.fn.run).world;
  plan : (run_view l.run).plan ≡ (run_view l.fn.run).plan;
  closings : (run_view l.run).closings ≡ (run_view l.fn.run).closings;
  ahead : StandFrom l.number l.port (run_view l.run);
  behind : StandBelow (l.number + 1) l.port (run_view l.run);
}
