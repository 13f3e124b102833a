use Rattle.std.proofs.Common.{◌≡◌}
use Rattle.vmx_replay_order.proofs.Closing.{first_closed}
use Rattle.vmx_replay_actors.specs.Runs.{run_view}
use Rattle.vmx_replay_order.proofs.order.close_all.Given as goal

abbrev pub invariant-loop-port : goal.invariant-loop-port
invariant-loop-port g l = run_view l.run ≡ first_closed l.port (run_view l.fn.run)
