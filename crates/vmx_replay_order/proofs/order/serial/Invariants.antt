use Rattle.std.proofs.Common.{◌≡◌}
use Rattle.vmx_model.specs.Serial.{rounds, start}
use Rattle.vmx_replay_runs.specs.Standing.{StandAll}
use Rattle.vmx_replay_actors.specs.Runs.{run_view}
use Rattle.vmx_replay_order.proofs.order.serial.Given as goal

abbrev pub invariant-loop-number : goal.invariant-loop-number
invariant-loop-number g l = record {
  world : (run_view l.run).world ≡ rounds l.plan l.number (start l.plan);
  plan : (run_view l.run).plan ≡ l.plan;
  unclosed : (run_view l.run).closings ≡ 0;
  stand : StandAll l.number (run_view l.run);
}
